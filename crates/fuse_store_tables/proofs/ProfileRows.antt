-- The entry of the profile in version 2, asked outside a transaction.
use Rattle.std.proofs.Common.{◌≡◌, inl, inr, ℕ, pos, List, [], ◌∷◌, map, codes, Bool, true, false, not, ◌&&◌, None, Some, Option, Ok, Err, Result, IfOk, IsTrue}
use Rattle.std.proofs.Common.{refl, sym, ap, subst, ◌∙◌}
use Rattle.std.specs.List.{list_all}
use Rattle.std.specs.List.Sorted.{IsPermutation}
use Rattle.std.specs.Option.{is_some, option_to_list}
use Rattle.std.specs.Ordering.{is_eq}
use Rattle.sqlite.specs.declared.types.Value.TheVariants.{Null, Int}
use Rattle.sqlite.specs.Order.{Row}
use Rattle.sqlite.specs.Schema.{Schema}
use Rattle.sqlite.specs.Tree.{Trees}
use Rattle.sqlite.specs.Effect.{Database, Answers}
use Rattle.sqlite_trees.specs.Tree.{IsTable}
use Rattle.sqlite_value.specs.declared.keys.Collation.TheVariants.{Binary}
use Rattle.sqlite_sql.specs.declared.ops.BinaryOp.TheVariants.{Compare}
use Rattle.sqlite_sql.specs.declared.ops.CompareOp.TheVariants.{Eq}
use Rattle.sqlite_sql.specs.Ops.{binary, is_true, from_truth}
use Rattle.sqlite.specs.Term.{Term, lit, col, op2, holds}
use Rattle.sqlite.specs.Program.{overlay}
use Rattle.sqlite_schema.specs.declared.program.Program.{Program}
use Rattle.sqlite_schema.specs.Names.{table_named}
use Rattle.sqlite.specs.Command.TheVariants.{Select}
use Rattle.sqlite_tied.specs.Compute.{everything}
use Rattle.sqlite.specs.declared.error.Error.{Error}
use Rattle.sqlite.specs.Listing.{understood, reads_listing}
use Rattle.sqlite.specs.State.{State, HasCleanDisk, Shown}
use Rattle.sqlite.proofs.Callers.{IsPlain, command_of}
use Rattle.sqlite_resolve.specs.Compile.{first as first_of}
use Rattle.fuse_store_tables.specs.declared.version.Layout.TheVariants.{Second}
use Rattle.fuse_store_tables.specs.Layout.{with_kept, store_schema}
use Rattle.fuse_store_tables.specs.Content.{Content, Counter, HoldsIn, stored, counter_row, counter_key, has_by, at_by, shown_counter}
use Rattle.fuse_store_tables.specs.Moves.{OnlyReads, StaysOpen}
use Rattle.fuse_store_tables.specs.Opening.{HoldsUnindexed}
use Rattle.fuse_store_tables.specs.ToCount.{HoldsOfSecond, IsOfSecond, BlocksAreApart, SeesTheSame}
use Rattle.fuse_store_tables.proofs.Apart.{blocks_apart, unindexed_apart}
use Rattle.fuse_store_tables.proofs.Keyed.{row_cmp_nat, found_rows}
use Rattle.fuse_store_tables.proofs.Laid.{held_in, schema_known}
use Rattle.fuse_store_tables.proofs.Nothing.{no_step, still}
use Rattle.fuse_store_tables.proofs.OpenLemmas.{IsReadIn}
use Rattle.fuse_store_tables.proofs.Queries.{IsSelectText}
use Rattle.fuse_store_tables.proofs.Reading.{answered, only, plain_query, read_held, truth_of}
use Rattle.fuse_store_tables.proofs.Resting.{shown_open}

-- ---- what the text finds

abbrev pub profile_text : List ℕ
profile_text = codes "SELECT v FROM meta WHERE k = 12"

abbrev profile_terms : List Term
profile_terms = op2 (Compare Eq Binary) (col 1 0) (lit (Int (pos 12))) ∷ []

abbrev profile_query : Program
profile_query = record { lets = []; body = plain_query 0 profile_terms (col 1 2 ∷ []) }

pub profile_select : IsSelectText (first_of profile_text)
unfolding first_of everything
profile_select = (_, refl)

read_indexed : IsReadIn store_schema profile_text profile_query (codes "v" ∷ [])
unfolding understood everything
read_indexed = record { is = refl; plain = (refl, refl); unlisted = refl }

read_kept : IsReadIn with_kept profile_text profile_query (codes "v" ∷ [])
unfolding understood everything
read_kept = record { is = refl; plain = (refl, refl); unlisted = refl }

tests_profile : (c : Counter) → list_all (holds ([] ∷ counter_row c ∷ [])) profile_terms ≡ has_by counter_key 12 c
unfolding binary
tests_profile c = ap (λ o. is_true (from_truth (Some (is_eq o))) && true) (row_cmp_nat c.key 12) ∙ truth_of (has_by counter_key 12 c)

abbrev Found : Content → List Row → Type 0
Found c rows = rows ≡ map shown_counter (option_to_list (at_by counter_key 12 c.counters))

finds : (c : Content) (d : Database) (rows : List Row) → (d.trees 0 ≡ stored c 0) × IsTable (d.trees 0) → Answers d profile_query [] rows → Found c rows
finds c d rows was h =
    let same = answered counter_row (has_by counter_key 12) Null (overlay d.trees []) profile_terms [] tests_profile 0 (col 1 2 ∷ []) c.counters rows was.0
    (h.answer Null) in
    only (at_by counter_key 12 c.counters) shown_counter rows (subst (λ xs. IsPermutation (map shown_counter xs) rows) (found_rows counter_key counter_row
    (λ _. refl) 12 c.counters (subst IsTable was.0 was.1)) same)

module _ (sql : List ℕ) (layout : Schema) (P : Content → Database → Type 0) (known : (c : Content) (d : Database) → P c d → d.schema ≡ layout) where
  read_by : (q : Program) (names : List (List ℕ)) → IsReadIn layout sql q names → (c : Content) (old new : State) (rows : List Row) → P c old.now
      → Shown sql [] old new rows → Answers old.now q [] rows
  read_by q names is c old new rows at h = read_held P layout known sql [] (Select q names) is.is is.plain is.unlisted c old new rows at h

pub profile_found : {X : Type 0} (items : X → List Row) (old new : State) (r : Result X Error)
    → (HasCleanDisk new → IfOk r (λ x. Shown profile_text [] old new (items x)))
    → HasCleanDisk new → IfOk r (λ x. (c : Content) → HoldsOfSecond c old.now → items x ≡ map shown_counter (option_to_list (at_by counter_key 12 c.counters)))
profile_found items old new (Err e) ok clean = tt
profile_found items old new (Ok x) ok clean = λ c at. elim at [
  | inl h ↦
      finds c old.now (items x) (held_in Second c old.now h).rows.0
      (read_by profile_text store_schema (HoldsIn Second) (schema_known Second) profile_query (codes "v" ∷ []) read_indexed c old new (items x) h (ok clean))
  | inr h ↦
      finds c old.now (items x) h.0.rows.0
      (read_by profile_text with_kept HoldsUnindexed (λ k d g. g.0.schema) profile_query (codes "v" ∷ []) read_kept c old new (items x) h (ok clean))
]

pub profile_was : {X : Type 0} (items : X → List Row) (old new : State) (r : Result X Error)
    → (HasCleanDisk new → IfOk r (λ x. Shown profile_text [] old new (items x))) → HasCleanDisk new → IfOk r (λ x. IsTrue old.is_open)
profile_was items old new (Err e) ok clean = tt
profile_was items old new (Ok x) ok clean = (shown_open old new profile_text [] (items x) (ok clean)).0

-- whether there is a row
pub any_of : (o : Option Counter) (rows : List Row) (empty : Bool) → (empty ≡ true → rows ≡ []) → (rows ≡ [] → empty ≡ true)
    → rows ≡ map shown_counter (option_to_list o) → not empty ≡ is_some o
any_of None rows empty to from is = ap not (from is)
any_of (Some x) rows true to from is = absurd (let e = sym (to refl) ∙ is in cc)
any_of (Some x) rows false to from is = refl

-- ---- the schema

pub schema_of : (c : Content) (d : Database) → HoldsOfSecond c d → IsOfSecond d.schema
schema_of c d (inl h) = inl (schema_known Second c d h)
schema_of c d (inr h) = inr h.0.schema

pub has_meta : (s : Schema) → IsOfSecond s → table_named s (codes "meta") ≡ Some 0
unfolding everything
has_meta s (inl is) = subst (λ (t : Schema). table_named t (codes "meta") ≡ Some 0) (sym is) refl
has_meta s (inr is) = subst (λ (t : Schema). table_named t (codes "meta") ≡ Some 0) (sym is) refl

-- ---- nothing is asked

pub reads_nothing : {X E : Type 0} (a : State) (x : X) → OnlyReads {E = E} a a (Ok x)
reads_nothing a x = record {
  commits = record { survives = no_step a _; kept = λ clean. still a };
  same = λ clean. refl;
  outside = λ clean outside. outside;
  seen = λ clean is_open. inl refl;
}

pub open_still : {X E : Type 0} (a : State) (x : X) → StaysOpen {E = E} a a (Ok x)
open_still a x = record { was = λ clean is_open. is_open; still = λ clean is_open. is_open }

pub same_still : (a : State) → SeesTheSame a a
same_still a = record { now = λ clean. refl; committed = λ clean. refl; mode = λ clean. refl; leaves = λ clean db may. may }

-- a read that succeeded outside a transaction
pub same_read : {X E : Type 0} (a b : State) (x : X) → ((db : Trees) → IsTrue a.is_open → a.may_leave db → db ≡ a.committed.trees)
    → (IsTrue b.is_open → b.may_leave b.committed.trees) → OnlyReads {E = E} a b (Ok x) → StaysOpen {E = E} a b (Ok x) → (HasCleanDisk b → IsTrue a.is_open)
    → a.in_transaction ≡ false → SeesTheSame a b
same_read a b x settled stays reads connection was outside = record {
  now = reads.same;
  committed = committed;
  mode = λ clean. reads.outside clean outside ∙ sym outside;
  leaves = λ clean db may.
      subst b.may_leave (ap (λ (d : Database). d.trees) (committed clean) ∙ sym (settled db (was clean) may)) (stays (connection.still clean (was clean)));
}
  where
    committed : HasCleanDisk b → b.committed ≡ a.committed
    committed clean = (reads.commits.kept clean).committed (connection.still clean (was clean))

-- a store has the table `meta`
pub no_store : {X : Type 0} (s : Schema) → IsOfSecond s → table_named s (codes "meta") ≡ None → X
no_store s is none = absurd (let e = sym none ∙ has_meta s is in cc)

-- the test of its mode
pub outside_by : (m b : Bool) → b ≡ not m → b ≡ true → m ≡ false
outside_by false b is on = refl
outside_by true b is on = absurd (let e = sym on ∙ is in cc)

-- ---- the rows of blocks

pub apart_of : BlocksAreApart
apart_of c d (inl h) = blocks_apart c d h.0
apart_of c d (inr h) = unindexed_apart c d h
