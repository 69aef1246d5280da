-- The index of the entries, which an open finds or makes.
use Rattle.std.proofs.Common.{◌≡◌, ◌<◌, arith, inl, inr, ℕ, Bool, true, false, length, codes, is_some, Ok, Err, Result, sym, ap, subst, ◌∙◌}
use Rattle.sqlite.specs.Schema.{Schema}
use Rattle.sqlite_schema.specs.Names.{index_named}
use Rattle.sqlite.specs.Effect.{Database}
use Rattle.sqlite.specs.State.{State}
use Rattle.sqlite_tied.specs.Compute.{everything}
use Rattle.fuse_store_tables.specs.Content.{Content, Holds, value_at}
use Rattle.fuse_store_tables.specs.Moves.{InsideAs, Takes}
use Rattle.fuse_store_tables.specs.Opening.{IsStored, IsSecond, IsUnindexed}
use Rattle.fuse_store_tables.specs.Layout.{with_kept, store_schema, third_schema, schema_for}
use Rattle.fuse_store_tables.specs.declared.version.Layout.{Layout}
use Rattle.fuse_store_tables.specs.declared.version.Layout.TheVariants.{Second, Third}
use Rattle.fuse_store_tables.specs.inner.Performing.{OnlyReads}
use Rattle.fuse_store_tables.proofs.MigrationLemmas.{not_both}

-- ---- a store has it or lacks it

abbrev has_index : Schema → Bool
has_index schema = is_some (index_named schema (codes "entries_in_order"))

kept_apart : store_schema ≡ with_kept → ⊥
unfolding everything
kept_apart same = absurd (let clash : true ≡ false = ap has_index same in cc)

third_apart : third_schema ≡ with_kept → ⊥
unfolding everything
third_apart same = absurd (let clash : 9 ≡ 8 = ap (λ s. length s.tables) same in cc)

-- a schema with the index is none without it
indexed_apart : (l : Layout) → schema_for l ≡ with_kept → ⊥
indexed_apart Second same = kept_apart same
indexed_apart Third same = third_apart same

-- one of the later versions, whose tables are there with the index
second_in : (c : Content) (d : Database) → (value_at 1 c ≡ 1 → ⊥) → (d.schema ≡ with_kept → ⊥) → IsStored c d → IsSecond c d
second_in c d later indexed at = elim at [
  | inl whole ↦ elim whole [
    | inl h ↦ absurd (later h.old.version)
    | inr h ↦ h
  ]
  | inr h ↦ absurd (indexed h.holds.0.schema)
]

unindexed_in : (c : Content) (d : Database) → value_at 1 c ≡ 2 → d.schema ≡ with_kept → IsStored c d → IsUnindexed c d
unindexed_in c d two is at = elim at [
  | inl whole ↦ elim whole [
    | inl h ↦ not_both (value_at 1 c) h.old.version two
    | inr h ↦ absurd (indexed_apart c.layout (sym h.holds.schema ∙ is))
  ]
  | inr h ↦ h
]

later_than : (v n : ℕ) → n ≡ v → 1 < n → v ≡ 1 → ⊥
later_than v n is low one = omega (arith, is, low, one)

-- where the version is known, and the schema
module _ (a b : State) (s : Schema) (same : s ≡ a.now.schema) (v : ℕ) where
  pub found_second : 1 < v → (l : Layout) → s ≡ schema_for l → ((c : Content) → InsideAs (IsStored c) a → v ≡ value_at 1 c) → b.now ≡ a.now → (c : Content)
      → InsideAs (IsStored c) a
      → InsideAs (IsStored c) b → InsideAs (IsSecond c) b
  found_second low l is value still c at on = record {
    is_open = on.is_open;
    in_transaction = on.in_transaction;
    holds = subst (IsSecond c) (sym still) (second_in c a.now (later_than (value_at 1 c) v (value c at) low)
        (λ kept. indexed_apart l (sym is ∙ same ∙ kept)) at.holds);
  }

  pub found_unindexed : v ≡ 2 → s ≡ with_kept → ((c : Content) → InsideAs (IsStored c) a → v ≡ value_at 1 c) → b.now ≡ a.now → (c : Content)
      → InsideAs (IsStored c) a → InsideAs (IsStored c) b → InsideAs (IsUnindexed c) b
  found_unindexed two is value still c at on = record {
    is_open = on.is_open;
    in_transaction = on.in_transaction;
    holds = subst (IsUnindexed c) (sym still) (unindexed_in c a.now (sym (value c at) ∙ two) (sym same ∙ is) at.holds);
  }

-- ---- a read, and then the index

-- a read keeps whatever is known of the database
pub stays_as : {C X E : Type 0} (P Q : C → Database → Type 0) → ((c : C) (d : Database) → P c d → Q c d) → (a b : State) (r : Result X E) → Takes Q Q a b r
    → OnlyReads a b r → Takes P P a b r
stays_as P Q to a b (Ok x) p reads = record {
  stays = p.stays;
  within = p.within;
  turns = λ clean c at.
      let on = p.turns clean c (record { is_open = at.is_open; in_transaction = at.in_transaction; holds = to c a.now at.holds }) in
      record { is_open = on.is_open; in_transaction = on.in_transaction; holds = subst (P c) (sym (reads.same clean)) at.holds };
}
stays_as P Q to a b (Err e) p reads = record { stays = p.stays; within = tt; turns = tt }
