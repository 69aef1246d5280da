-- What an open reads, of a store of either version, with its index or without.
use Rattle.std.proofs.Common.{◌≡◌, inl, inr, ℕ, pos, negsuc, List, [], ◌∷◌, map, codes, true, false, ◌&&◌, Some, Ok, Err, Result, IfOk, IfErr, refl, ap, subst}
use Rattle.std.proofs.Common.{sym, ◌∙◌}
use Rattle.std.specs.List.{list_all, AllByRecursion}
use Rattle.std.specs.Option.{option_to_list}
use Rattle.std.specs.Ordering.{is_eq}
use Rattle.sqlite.specs.declared.types.Value.TheVariants.{Null, Int}
use Rattle.sqlite.specs.Order.{Row}
use Rattle.sqlite.specs.Schema.{Schema}
use Rattle.sqlite.specs.Effect.{Database, Answers}
use Rattle.sqlite.specs.Tree.{Trees}
use Rattle.sqlite_trees.specs.Tree.{IsTable}
use Rattle.fuse_keeper.specs.declared.fault.StoreFault.{StoreFault}
use Rattle.fuse_store_tables.specs.inner.Following.{earlier}
use Rattle.sqlite_value.specs.declared.keys.Collation.TheVariants.{Binary}
use Rattle.sqlite_sql.specs.declared.ops.BinaryOp.TheVariants.{Compare}
use Rattle.sqlite_sql.specs.declared.ops.CompareOp.TheVariants.{Eq}
use Rattle.sqlite_sql.specs.Ops.{binary, is_true, from_truth}
use Rattle.sqlite.specs.Term.{Term, lit, col, op2, holds}
use Rattle.sqlite.specs.Program.{overlay}
use Rattle.sqlite_schema.specs.declared.program.Program.{Program}
use Rattle.sqlite.specs.Command.TheVariants.{Select}
use Rattle.std.specs.List.Sorted.{IsPermutation}
use Rattle.sqlite_tied.specs.Compute.{everything}
use Rattle.sqlite.specs.declared.error.Error.{Error}
use Rattle.sqlite.specs.Listing.{understood, reads_listing}
use Rattle.sqlite.specs.State.{State, HasCleanDisk, Survives, Shown, FailsToQuery, CommitsShowing}
use Rattle.sqlite.proofs.Callers.{IsPlain, command_of}
use Rattle.fuse_store_tables.specs.Layout.{with_answers, with_kept, schema_for, version_of}
use Rattle.fuse_store_tables.specs.declared.version.Layout.{Layout}
use Rattle.fuse_store_tables.specs.declared.version.Layout.TheVariants.{Second, Third}
use Rattle.fuse_store_tables.proofs.Laid.{looks_over, read_held_laid}
use Rattle.fuse_store_tables.proofs.Tables.{laid}
use Rattle.fuse_store_tables.specs.Content.{Content, Counter, Holds, stored, counter_row, counter_key, has_by, at_by, value_at, shown_counter}
use Rattle.fuse_store_tables.specs.Opening.{IsFirst, IsSecond, IsUnindexed, HoldsFirst, HoldsUnindexed, IsLaid, HasMeta, HasSecondMeta}
use Rattle.fuse_store_tables.specs.inner.Steps.{Tests}
use Rattle.fuse_store_tables.specs.inner.Columns.{shown_meta}
use Rattle.fuse_store_tables.specs.Moves.{InsideAs, Takes}
use Rattle.fuse_store_tables.proofs.Keyed.{row_cmp_nat, found_rows}
use Rattle.fuse_store_tables.proofs.Reading.{looks, read, plain_query, answered, only, truth_of}
use Rattle.fuse_store_tables.proofs.Ordered.{ordered_query, answered_in_order, rises_from}
use Rattle.fuse_store_tables.proofs.CounterRows.{all_of}
use Rattle.fuse_store_tables.proofs.Either.{Both, both_looks}
use Rattle.sqlite_resolve.specs.Compile.{first as first_of}
use Rattle.fuse_store_tables.proofs.Queries.{IsSelectText}

-- families of databases of version 1, of the later ones, and of version 2 without the index
pub record Versions (First Second Unindexed : Content → Database → Type 0) : Type 0 where
  pub first : (c : Content) (d : Database) → First c d → HoldsFirst c d
  pub second : (c : Content) (d : Database) → Second c d → Holds c d
  pub unindexed : (c : Content) (d : Database) → Unindexed c d → HoldsUnindexed c d

pub in_order : Versions IsFirst IsSecond IsUnindexed
in_order = record { first = λ c d h. h.holds; second = λ c d h. h.holds; unindexed = λ c d h. h.holds }

pub any_rows : Versions HoldsFirst Holds HoldsUnindexed
any_rows = record { first = λ c d h. h; second = λ c d h. h; unindexed = λ c d h. h }

abbrev no_limit : Term
no_limit = lit (Int (negsuc 0))

-- ---- the tables that all of them have

abbrev HasIn : Content → Database → ℕ → Type 0
HasIn c d tree = (d.trees tree ≡ stored c tree) × IsTable (d.trees tree)

pub record HasFirstRows (c : Content) (d : Database) : Type 0 where
  pub counters : HasIn c d 0
  pub nodes : HasIn c d 1
  pub entries : HasIn c d 2
  pub handles : HasIn c d 7

rows_of_first : (c : Content) (d : Database) → HoldsFirst c d → HasFirstRows c d
rows_of_first c d h =
    let r = h.0.rows in
    record { counters = r.0; nodes = r.1.0; entries = r.1.1.0; handles = r.1.1.1.1.0 }

rows_of_second : (c : Content) (d : Database) → Holds c d → HasFirstRows c d
rows_of_second c d h =
    let r = laid c d h in
    record { counters = r.counters; nodes = r.nodes; entries = r.entries; handles = r.handles }

rows_of_unindexed : (c : Content) (d : Database) → HoldsUnindexed c d → HasFirstRows c d
rows_of_unindexed c d h =
    let r = h.0.rows in
    record { counters = r.0; nodes = r.1.0; entries = r.1.1.0; handles = r.1.1.1.1.0 }

-- ---- a text that all of them read in the same way

pub record IsReadIn (layout : Schema) (sql : List ℕ) (q : Program) (names : List (List ℕ)) : Type 0 where
  pub is : command_of (understood layout sql) ≡ Select q names
  pub plain : IsPlain (understood layout sql)
  pub unlisted : reads_listing layout sql ≡ false

pub record IsRead (sql : List ℕ) (q : Program) (names : List (List ℕ)) : Type 0 where
  pub first : IsReadIn with_answers sql q names
  pub second : (l : Layout) → IsReadIn (schema_for l) sql q names
  pub unindexed : IsReadIn with_kept sql q names
  pub selects : IsSelectText (first_of sql)

module _ (sql : List ℕ) (params : Row) (q : Program) (names : List (List ℕ)) (reads : IsRead sql q names)
    (First Second Unindexed : Content → Database → Type 0) (are : Versions First Second Unindexed) where
  -- in one family
  module _ (P : Content → Database → Type 0) (layout : Schema) (known : (c : Content) (d : Database) → P c d → d.schema ≡ layout)
      (is : IsReadIn layout sql q names) where
    looks_by : {X : Type 0} (items : X → List Row) (old new : State) (r : Result X Error)
        → (HasCleanDisk new → IfOk r (λ x. Shown sql params old new (items x)))
        → (HasCleanDisk new → IfErr r (FailsToQuery sql params old new)) → Survives old new (CommitsShowing sql params old) → Takes P P old new r
    looks_by items old new r ok err survives = looks P layout known sql params _ is.is is.plain reads.selects items old new r ok err survives

    read_by : (c : Content) (old new : State) (rows : List Row) → InsideAs (P c) old → Shown sql params old new rows → Answers old.now q params rows
    read_by c old new rows at h = read P layout known sql params _ is.is is.plain is.unlisted c old new rows at h

  pub looks_in : {X : Type 0} (items : X → List Row) (old new : State) (r : Result X Error)
      → (HasCleanDisk new → IfOk r (λ x. Shown sql params old new (items x)))
      → (HasCleanDisk new → IfErr r (FailsToQuery sql params old new)) → Survives old new (CommitsShowing sql params old)
      → Takes (Both (Both First Second) Unindexed) (Both (Both First Second) Unindexed) old new r
  looks_in items old new r ok err survives =
      both_looks (Both First Second) Unindexed old new r
      (both_looks First Second old new r
      (looks_by First with_answers (λ c d h. (are.first c d h).0.schema) reads.first items old new r ok err survives)
      (looks_over sql params (λ _. Select q names) (λ l. (reads.second l).is) (λ l. (reads.second l).plain) Second are.second reads.selects items old new r ok err survives))
      (looks_by Unindexed with_kept (λ c d h. (are.unindexed c d h).0.schema) reads.unindexed items old new r ok err survives)

  -- what it finds follows from the rows of the tables of version 1, if it does for any schema
  pub finds_in : {X : Type 0} (items : X → List Row) (Found : Content → List Row → Type 0)
      → ((c : Content) (d : Database) (rows : List Row) → HasFirstRows c d → Answers d q params rows → Found c rows)
      → (old new : State) (r : Result X Error) → (HasCleanDisk new → IfOk r (λ x. Shown sql params old new (items x))) → HasCleanDisk new
      → IfOk r (λ x. (c : Content) → InsideAs (Both (Both First Second) Unindexed c) old → Found c (items x))
  finds_in items Found does old new (Err e) ok clean = tt
  finds_in items Found does old new (Ok x) ok clean = λ c at. elim at.holds [
    | inl whole ↦ elim whole [
      | inl h ↦
          let inside : InsideAs (First c) old = record { is_open = at.is_open; in_transaction = at.in_transaction; holds = h } in
          does c old.now (items x) (rows_of_first c old.now (are.first c old.now h))
          (read_by First with_answers (λ k d g. (are.first k d g).0.schema) reads.first c old new (items x) inside (ok clean))
      | inr h ↦
          let held = are.second c old.now h in
          does c old.now (items x) (rows_of_second c old.now held)
          (read_held_laid sql params (λ _. Select q names) (λ l. (reads.second l).is) (λ l. (reads.second l).plain) (λ l. (reads.second l).unlisted) c old new (items x)
          held (ok clean))
    ]
    | inr h ↦
        let inside : InsideAs (Unindexed c) old = record { is_open = at.is_open; in_transaction = at.in_transaction; holds = h } in
        does c old.now (items x) (rows_of_unindexed c old.now (are.unindexed c old.now h))
        (read_by Unindexed with_kept (λ k d g. (are.unindexed k d g).0.schema) reads.unindexed c old new (items x) inside (ok clean))
  ]

-- ---- the version

abbrev pub version_text : List ℕ
version_text = codes "SELECT v FROM meta WHERE k = 1"

abbrev version_terms : List Term
version_terms = op2 (Compare Eq Binary) (col 1 0) (lit (Int (pos 1))) ∷ []

abbrev version_query : Program
version_query = record { lets = []; body = plain_query 0 version_terms (col 1 2 ∷ []) }

pub version_select : IsSelectText (first_of version_text)
unfolding first_of everything
version_select = (_, refl)

version_in : (l : Layout) → IsReadIn (schema_for l) version_text version_query (codes "v" ∷ [])
unfolding understood everything
version_in Second = record { is = refl; plain = (refl, refl); unlisted = refl }
version_in Third = record { is = refl; plain = (refl, refl); unlisted = refl }

pub version_read : IsRead version_text version_query (codes "v" ∷ [])
unfolding understood everything
version_read = record {
  first = record { is = refl; plain = (refl, refl); unlisted = refl };
  second = version_in;
  unindexed = record { is = refl; plain = (refl, refl); unlisted = refl };
  selects = version_select;
}

tests_version : (c : Counter) → list_all (holds ([] ∷ counter_row c ∷ [])) version_terms ≡ has_by counter_key 1 c
unfolding binary
tests_version c = ap (λ o. is_true (from_truth (Some (is_eq o))) && true) (row_cmp_nat c.key 1) ∙ truth_of (has_by counter_key 1 c)

abbrev pub FoundVersion : Content → List Row → Type 0
FoundVersion c rows = rows ≡ map shown_counter (option_to_list (at_by counter_key 1 c.counters))

finds_version : (c : Content) (d : Database) (rows : List Row) → HasFirstRows c d → Answers d version_query [] rows → FoundVersion c rows
finds_version c d rows has h =
    let was = has.counters in
    let same = answered counter_row (has_by counter_key 1) Null (overlay d.trees []) version_terms [] tests_version 0 (col 1 2 ∷ []) c.counters rows was.0
    (h.answer Null) in
    only (at_by counter_key 1 c.counters) shown_counter rows (subst (λ xs. IsPermutation (map shown_counter xs) rows) (found_rows counter_key counter_row
    (λ _. refl) 1 c.counters (subst IsTable was.0 was.1)) same)

module _ (First Second Unindexed : Content → Database → Type 0) (are : Versions First Second Unindexed) where
  pub version_looks : {X : Type 0} (items : X → List Row) (old new : State) (r : Result X Error)
      → (HasCleanDisk new → IfOk r (λ x. Shown version_text [] old new (items x)))
      → (HasCleanDisk new → IfErr r (FailsToQuery version_text [] old new)) → Survives old new (CommitsShowing version_text [] old)
      → Takes (Both (Both First Second) Unindexed) (Both (Both First Second) Unindexed) old new r
  version_looks items = looks_in version_text [] version_query (codes "v" ∷ []) version_read First Second Unindexed are items

  pub version_found : {X : Type 0} (items : X → List Row) (old new : State) (r : Result X Error)
      → (HasCleanDisk new → IfOk r (λ x. Shown version_text [] old new (items x)))
      → HasCleanDisk new → IfOk r (λ x. (c : Content) → InsideAs (Both (Both First Second) Unindexed c) old → FoundVersion c (items x))
  version_found items =
      finds_in version_text [] version_query (codes "v" ∷ []) version_read First Second Unindexed are items FoundVersion finds_version

-- ---- all of `meta`

abbrev pub meta_text : List ℕ
meta_text = codes "SELECT k, v FROM meta ORDER BY k"

abbrev meta_query : Program
meta_query = record { lets = []; body = ordered_query 0 [] (col 1 0 ∷ col 1 2 ∷ []) no_limit }

pub meta_select : IsSelectText (first_of meta_text)
unfolding first_of everything
meta_select = (_, refl)

meta_in : (l : Layout) → IsReadIn (schema_for l) meta_text meta_query (codes "k" ∷ codes "v" ∷ [])
unfolding understood everything
meta_in Second = record { is = refl; plain = (refl, refl); unlisted = refl }
meta_in Third = record { is = refl; plain = (refl, refl); unlisted = refl }

pub meta_read : IsRead meta_text meta_query (codes "k" ∷ codes "v" ∷ [])
unfolding understood everything
meta_read = record {
  first = record { is = refl; plain = (refl, refl); unlisted = refl };
  second = meta_in;
  unindexed = record { is = refl; plain = (refl, refl); unlisted = refl };
  selects = meta_select;
}

abbrev pub FoundMeta : Content → List Row → Type 0
FoundMeta c rows = rows ≡ map shown_meta c.counters

finds_meta : (c : Content) (d : Database) (rows : List Row) → HasFirstRows c d → Answers d meta_query [] rows → FoundMeta c rows
finds_meta c d rows has h =
    let was = has.counters in
    answered_in_order (λ (x : Counter). x.key) (λ x. Null ∷ Int (pos x.value) ∷ []) (λ _. true) Null (overlay d.trees []) [] [] (λ _. refl) (col 1 0 ∷ col 1 2
    ∷ []) no_limit 0 c.counters rows was.0
    (rises_from (λ (x : Counter). x.key) counter_row (λ _. refl) c.counters (subst IsTable was.0 was.1)) (h.answer Null)
    ∙ ap (map shown_meta) (all_of c.counters)

module _ (First Second Unindexed : Content → Database → Type 0) (are : Versions First Second Unindexed) where
  pub meta_looks : {X : Type 0} (items : X → List Row) (old new : State) (r : Result X Error)
      → (HasCleanDisk new → IfOk r (λ x. Shown meta_text [] old new (items x)))
      → (HasCleanDisk new → IfErr r (FailsToQuery meta_text [] old new)) → Survives old new (CommitsShowing meta_text [] old)
      → Takes (Both (Both First Second) Unindexed) (Both (Both First Second) Unindexed) old new r
  meta_looks items = looks_in meta_text [] meta_query (codes "k" ∷ codes "v" ∷ []) meta_read First Second Unindexed are items

  pub meta_found : {X : Type 0} (items : X → List Row) (old new : State) (r : Result X Error)
      → (HasCleanDisk new → IfOk r (λ x. Shown meta_text [] old new (items x)))
      → HasCleanDisk new → IfOk r (λ x. (c : Content) → InsideAs (Both (Both First Second) Unindexed c) old → FoundMeta c (items x))
  meta_found items =
      finds_in meta_text [] meta_query (codes "k" ∷ codes "v" ∷ []) meta_read First Second Unindexed are items FoundMeta finds_meta

-- ---- what went well tested it

-- the version was found, and then the rows of that version
pub tested_second : {X E : Type 0} (a b d : State) (n : ℕ) (r : Result X E) {K : Trees → Type 0} → Takes {E = StoreFault} IsLaid IsLaid a b (Ok n)
    → (HasCleanDisk b → (c : Content) → InsideAs (IsLaid c) a → n ≡ value_at 1 c) → ((c : Content) → IsLaid c a.now → n ≡ version_of c.layout)
    → Survives b d K → Tests HasSecondMeta b d r → Tests HasMeta a d r
tested_second a b d n (Err e) laid value is survives tests clean = tt
tested_second a b d n (Ok x) laid value is survives tests clean = λ c at.
    let mid = earlier b d _ survives clean in
    inr (sym (value mid c at) ∙ is c at.holds, tests clean c (laid.turns mid c at))
