-- The statements that look for a number at or above the next one.
use Rattle.std.proofs.Common.{◌≡◌, ◌≢◌, ◌<◌, ◌≤◌, ◌+◌, ◌-◌, inl, inr, ℕ, pos, List, [], ◌∷◌, map, filter, take, length, slice_index_or, codes, Bool, true, false}
use Rattle.std.proofs.Common.{◌&&◌, cond, Some, Ok, Err, Result, IfOk, IfErr, IsErrAnd, OnOk, is_ok, refl, sym, ap, subst, arith, ◌∙◌, unwrap_or, option_map}
use Rattle.std.specs.List.{list_all}
use Rattle.std.specs.Ordering.{is_ge, nat_cmp}
use Rattle.std.proofs.lemmas.Bool.Decides.{nat_tests}
use Rattle.std.proofs.lemmas.List.{length-map}
use Rattle.sqlite.specs.declared.types.Value.TheVariants.{Null, Int, Blob}
use Rattle.sqlite.specs.Order.{Row, column}
use Rattle.sqlite.specs.Schema.{Schema}
use Rattle.sqlite_trees.specs.Tree.{IsTable}
use Rattle.sqlite.specs.Effect.{Database, Answers}
use Rattle.sqlite.specs.Term.{Term, lit, col, op2, holds}
use Rattle.sqlite.specs.Program.{overlay}
use Rattle.sqlite_schema.specs.declared.program.Program.{Program}
use Rattle.sqlite_value.specs.declared.keys.Collation.TheVariants.{Binary}
use Rattle.sqlite_sql.specs.declared.ops.BinaryOp.TheVariants.{Compare}
use Rattle.sqlite_sql.specs.declared.ops.CompareOp.TheVariants.{Ge}
use Rattle.sqlite_sql.specs.Ops.{binary, is_true, from_truth}
use Rattle.sqlite_resolve.specs.Compile.{first}
use Rattle.sqlite_tied.specs.Compute.{everything}
use Rattle.sqlite.specs.declared.error.Error.{Error}
use Rattle.sqlite.specs.Listing.{understood, listing_schema}
use Rattle.sqlite.specs.State.{State, HasCleanDisk, Survives, Shown, FailsToQuery, CommitsShowing}
use Rattle.fuse_keeper.specs.declared.fault.StoreFault.{StoreFault}
use Rattle.fuse_keeper.specs.Faults.{fault_of}
use Rattle.fuse_store_tables.specs.Faults.{IsPlain as IsPlainFault, IsOutside}
use Rattle.fuse_store_tables.specs.Layout.{with_answers, with_kept, schema_for}
use Rattle.fuse_store_tables.specs.declared.version.Layout.{Layout}
use Rattle.fuse_store_tables.specs.declared.version.Layout.TheVariants.{Second, Third}
use Rattle.fuse_store_tables.proofs.Laid.{looks_laid, read_held_laid}
use Rattle.fuse_store_tables.proofs.Tables.{laid}
use Rattle.fuse_store_tables.specs.Content.{Content, Counter, Holds, node_columns, lot_row, access_code}
use Rattle.fuse_store_tables.specs.Content.{node_key, cookie_of, fh_of, value_at}
use Rattle.fuse_store_tables.specs.Opening.{IsLaid, HoldsFirst, HoldsUnindexed, AllBelow}
use Rattle.fuse_store_tables.specs.inner.Columns.{shown_number, shown_meta}
use Rattle.fuse_store_tables.specs.inner.Checking.{ChecksIf, IsMetaIn}
use Rattle.fuse_store_tables.specs.inner.Performing.{StaysWithin}
use Rattle.fuse_store_tables.specs.Moves.{InsideAs, Takes}
use Rattle.fuse_store_tables.proofs.Either.{Both, both_looks}
use Rattle.fuse_store_tables.proofs.Keyed.{row_cmp_nat}
use Rattle.fuse_store_tables.proofs.Reading.{looks, read, truth_of}
use Rattle.fuse_store_tables.proofs.Ordered.{ordered_query, answered_in_order, rises_from}
use Rattle.fuse_store_tables.proofs.OpenLemmas.{IsReadIn, IsRead, HasFirstRows, looks_in, finds_in, any_rows}
use Rattle.fuse_store_tables.proofs.Selects.{IsSelectText, only_reads, reads_within}
use Rattle.fuse_store_tables.proofs.Checks.{query_failed, query_told}
use Rattle.fuse_store_tables.proofs.MetaLemmas.{meta_length, shown_at, no_counter}
use Rattle.fuse_store_tables.proofs.CounterValues.{found_at}

-- ---- the value of a counter in the rows of `meta`

place : (key : ℕ) → 1 ≤ key → 1 + (key - 1) ≡ key
place key low = omega (arith, low)

shown_value : (x : Counter) (n : ℕ) → column (shown_meta x) 1 ≡ Int (pos n) → n ≡ x.value
shown_value x n is = cc

module _ (rows : List Row) (key : ℕ) (c : Content) (low : 1 ≤ key) (is : IsMetaIn rows key c) where
  long : length rows ≡ is.count
  long = ap length is.are ∙ length-map c.counters shown_meta ∙ meta_length is.profile 1 is.count c.counters is.meta

  counted : key - 1 < is.count
  counted = let enough = is.enough in omega (arith, low, enough)

  pub is_there : key - 1 < length rows
  is_there = subst (λ n. key - 1 < n) (sym long) counted

  abbrev counter_there : Counter
  counter_there = slice_index_or c.counters (key - 1) no_counter

  row_there : (d : Row) → slice_index_or rows (key - 1) d ≡ shown_meta counter_there
  row_there d = ap (λ rs. slice_index_or rs (key - 1) d) is.are ∙ shown_at c.counters (key - 1) d (subst (λ rs. key - 1 < length rs) is.are is_there)

  value_is : value_at key c ≡ counter_there.value
  value_is =
      ap (λ k. value_at k c) (sym (place key low))
      ∙ ap (λ o. unwrap_or (option_map (λ (x : Counter). x.value) o) 0) (found_at is.profile 1 is.count (key - 1) c.counters is.meta counted)

  pub value_there : (row d : Row) (n : ℕ) → row ≡ slice_index_or rows (key - 1) d → column row 1 ≡ Int (pos n) → n ≡ value_at key c
  value_there row d n same shows =
      shown_value counter_there n (ap (λ r. column r 1) (sym (same ∙ row_there d)) ∙ shows) ∙ sym value_is

  pub is_number : (row d : Row) → row ≡ slice_index_or rows (key - 1) d → (1 < length row) × (column row 1 ≡ Int (pos counter_there.value))
  is_number row d same = (
    subst (λ r. 1 < length r) (sym (same ∙ row_there d)) (omega arith),
    ap (λ r. column r 1) (same ∙ row_there d),
  )

-- ---- what such a statement shows

abbrev from_terms : List Term
from_terms = op2 (Compare Ge Binary) (col 1 0) (col 0 0) ∷ []

abbrev one : Term
one = lit (Int (pos 1))

abbrev from_query : ℕ → Program
from_query tree = record { lets = []; body = ordered_query tree from_terms (col 1 0 ∷ []) one }

low_is : (a b : ℕ) → is_ge (nat_cmp a b) ≡ false → a < b
low_is a b is = grind (arith, nat_tests)

high_is : (a b : ℕ) → is_ge (nat_cmp a b) ≡ true → ¬ (a < b)
high_is a b is low = let clash : is_ge (nat_cmp a b) ≡ false = grind (arith, nat_tests) in absurd (let e = sym is ∙ clash in cc)

abbrev row_of : {X : Type 0} → (X → ℕ) → (X → Row) → X → Row
row_of key cells x = Int (pos (key x)) ∷ cells x

module _ {X : Type 0} (key : X → ℕ) (next : ℕ) where
  abbrev is_from_next : X → Bool
  is_from_next x = is_ge (nat_cmp (key x) next)

  abbrev pub shown_from : List X → List Row
  shown_from xs = take 1 (map (λ x. shown_number (key x)) (filter is_from_next xs))

  none_shown : (b : Bool) (x : X) (ys : List X) → take 1 (map (λ x. shown_number (key x)) (cond b (x ∷ ys) ys)) ≡ [] → b ≡ false
  none_shown true x ys none = absurd cc
  none_shown false x ys none = refl

  pub all_below : (xs : List X) → shown_from xs ≡ [] → AllBelow key next xs
  all_below [] none = tt
  all_below (x ∷ xs) none =
      let skips = none_shown (is_from_next x) x (filter is_from_next xs) none in (
        low_is (key x) next skips,
        all_below xs (ap (λ b. take 1 (map (λ x. shown_number (key x)) (cond b (x ∷ filter is_from_next xs) (filter is_from_next xs)))) (sym skips) ∙ none),
      )

  below_skips : (b : Bool) (x : X) → is_from_next x ≡ b → key x < next → b ≡ false
  below_skips true x is low = absurd (high_is (key x) next is low)
  below_skips false x is low = refl

  pub none_from : (xs : List X) → AllBelow key next xs → shown_from xs ≡ []
  none_from [] all = refl
  none_from (x ∷ xs) all =
      ap (λ b. take 1 (map (λ x. shown_number (key x)) (cond b (x ∷ filter is_from_next xs) (filter is_from_next xs)))) (below_skips (is_from_next x) x refl all.0)
      ∙ none_from xs all.1

  module _ (cells : X → Row) where
    tests_from : (x : X) → list_all (holds ((Int (pos next) ∷ []) ∷ row_of key cells x ∷ [])) from_terms ≡ is_from_next x
    unfolding binary
    tests_from x = ap (λ o. is_true (from_truth (Some (is_ge o))) && true) (row_cmp_nat (key x) next) ∙ truth_of (is_from_next x)

    pub found_from : (tree : ℕ) (xs : List X) (d : Database) (rows : List Row) → (overlay d.trees [] tree ≡ map (row_of key cells) xs) × IsTable (overlay d.trees [] tree)
        → Answers d (from_query tree) (Int (pos next) ∷ []) rows → rows ≡ shown_from xs
    found_from tree xs d rows was h =
        answered_in_order key cells is_from_next Null (overlay d.trees []) from_terms (Int (pos next) ∷ []) tests_from (col 1 0 ∷ []) one tree xs rows was.0
        (rises_from key (row_of key cells) (λ _. refl) xs (subst IsTable was.0 was.1)) (h.answer Null)

-- ---- the test that is made of it

-- where none is shown, all are below, and the other way round
module _ {X Y : Type 0} (key : X → ℕ) (rows_in : Content → List X) (counter next : ℕ) (meta : List Row)
    (is : (c : Content) → IsMetaIn meta counter c → next ≡ value_at counter c) (a b : State) (rows : List Row)
    (finds : HasCleanDisk b → (c : Content) → InsideAs (IsLaid c) a → rows ≡ shown_from key next (rows_in c)) (r : Result Y StoreFault) where
  abbrev Below : Content → Type 0
  Below c = AllBelow key (value_at counter c) (rows_in c)

  pub whole_from : OnOk r (rows ≡ []) → HasCleanDisk b → OnOk r ((c : Content) → InsideAs (IsLaid c) a → IsMetaIn meta counter c → Below c)
  whole_from none clean = told r none
    where
      told : (r : Result Y StoreFault) → OnOk r (rows ≡ []) → OnOk r ((c : Content) → InsideAs (IsLaid c) a → IsMetaIn meta counter c → Below c)
      told (Err f) none = tt
      told (Ok y) none = λ c at known.
          subst (λ n. AllBelow key n (rows_in c)) (is c known) (all_below key next (rows_in c) (sym (finds clean c at) ∙ none))

  pub fault_from : IfErr r (λ _. rows ≢ []) → HasCleanDisk b
      → IfErr r (λ f. (c : Content) → InsideAs (IsLaid c) a → IsMetaIn meta counter c → Below c → IsOutside f)
  fault_from some clean = told r some
    where
      told : (r : Result Y StoreFault) → IfErr r (λ _. rows ≢ [])
          → IfErr r (λ f. (c : Content) → InsideAs (IsLaid c) a → IsMetaIn meta counter c → Below c → IsOutside f)
      told (Ok y) some = tt
      told (Err f) some = λ c at known all.
          absurd (some (finds clean c at ∙ none_from key next (rows_in c) (subst (λ n. AllBelow key n (rows_in c)) (sym (is c known)) all)))

-- the statement shows a number at or above the next one, where there is one
pub record Asks {X Z : Type 0} (key : X → ℕ) (rows_in : Content → List X) (text : List ℕ) (next : ℕ) (items : Z → List Row) : Type 1 where
  pub selects : IsSelectText (first text)
  pub looks : (a b : State) (r : Result Z Error) → (HasCleanDisk b → IfOk r (λ x. Shown text (Int (pos next) ∷ []) a b (items x)))
      → (HasCleanDisk b → IfErr r (FailsToQuery text (Int (pos next) ∷ []) a b)) → Survives a b (CommitsShowing text (Int (pos next) ∷ []) a)
      → Takes IsLaid IsLaid a b r
  pub finds : (a b : State) (r : Result Z Error) → (HasCleanDisk b → IfOk r (λ x. Shown text (Int (pos next) ∷ []) a b (items x))) → HasCleanDisk b
      → IfOk r (λ x. (c : Content) → InsideAs (IsLaid c) a → items x ≡ shown_from key next (rows_in c))

-- the statement and the test
module _ {X Z : Type 0} (key : X → ℕ) (rows_in : Content → List X) (counter : ℕ) (meta : List Row) (text : List ℕ) (next : ℕ) (items : Z → List Row)
    (asks : Asks key rows_in text next items) (is : (c : Content) → IsMetaIn meta counter c → next ≡ value_at counter c) where
  abbrev Known : Content → Type 0
  Known = IsMetaIn meta counter

  abbrev Are : Content → Type 0
  Are c = AllBelow key (value_at counter c) (rows_in c)

  abbrev params : Row
  params = Int (pos next) ∷ []

  pub checks_from : {Y : Type 0} (a b : State) (x : Z) (r : Result Y StoreFault) → (HasCleanDisk b → Shown text params a b (items x))
      → Survives a b (CommitsShowing text params a) → OnOk r (items x ≡ []) → IfErr r (λ _. items x ≢ []) → IfErr r IsPlainFault → ChecksIf Known Are a b r
  checks_from a b x r shown survives none some plain =
      let fails : HasCleanDisk b → IfErr {T = Z} {E = Error} (Ok x) (FailsToQuery text params a b) = λ clean. tt in
      query_told Known Are a b x r (asks.looks a b (Ok x) shown fails survives) (only_reads text params asks.selects items a b (Ok x) shown fails survives)
      (reads_within text params asks.selects items a b (Ok x) shown fails survives)
      (whole_from key rows_in counter next meta is a b (items x) (asks.finds a b (Ok x) shown) r none)
      (fault_from key rows_in counter next meta is a b (items x) (asks.finds a b (Ok x) shown) r some) plain

  pub fails_from : {Y : Type 0} (a b : State) (e : Error) (r : Result Y StoreFault) → (HasCleanDisk b → FailsToQuery text params a b e)
      → Survives a b (CommitsShowing text params a) → IsErrAnd r (λ f. f ≡ fault_of e) → ChecksIf Known Are a b r
  fails_from a b e r fails survives same =
      let shown : HasCleanDisk b → IfOk {T = Z} {E = Error} (Err e) (λ x. Shown text params a b (items x)) = λ clean. tt in
      query_failed {X = Z} Known Are a b e r same (asks.looks a b (Err e) shown fails survives) (only_reads text params asks.selects items a b (Err e) shown fails survives)
      (reads_within text params asks.selects items a b (Err e) shown fails survives)

-- ---- a table that all versions have

module _ {X Z : Type 0} (key : X → ℕ) (cells : Content → X → Row) (rows_in : Content → List X) (tree : ℕ) (text : List ℕ) (names : List (List ℕ))
    (reads : IsRead text (from_query tree) names)
    (has : (c : Content) (d : Database) → HasFirstRows c d → (overlay d.trees [] tree ≡ map (row_of key (cells c)) (rows_in c)) × IsTable (overlay d.trees [] tree)) (next : ℕ)
    (items : Z → List Row) where
  asks_table : Asks key rows_in text next items
  asks_table = record {
    selects = reads.selects;
    looks = looks_in text (Int (pos next) ∷ []) (from_query tree) names reads HoldsFirst Holds HoldsUnindexed any_rows items;
    finds =
        finds_in text (Int (pos next) ∷ []) (from_query tree) names reads HoldsFirst Holds HoldsUnindexed any_rows items
        (λ c rows. rows ≡ shown_from key next (rows_in c))
        (λ c d rows h answers. found_from key next (cells c) tree (rows_in c) d rows (has c d h) answers);
  }

-- ---- nodes

abbrev pub nodes_text : List ℕ
nodes_text = codes "SELECT node FROM nodes WHERE node >= ?1 ORDER BY node LIMIT 1"

nodes_select : IsSelectText (first nodes_text)
unfolding first everything
nodes_select = (_, refl)

nodes_in : (l : Layout) → IsReadIn (schema_for l) nodes_text (from_query 1) (codes "node" ∷ [])
unfolding understood everything
nodes_in Second = record { is = refl; plain = (refl, refl); unlisted = refl }
nodes_in Third = record { is = refl; plain = (refl, refl); unlisted = refl }

nodes_read : IsRead nodes_text (from_query 1) (codes "node" ∷ [])
unfolding understood everything
nodes_read = record {
  first = record { is = refl; plain = (refl, refl); unlisted = refl };
  second = nodes_in;
  unindexed = record { is = refl; plain = (refl, refl); unlisted = refl };
  selects = nodes_select;
}

pub asks_nodes : {Z : Type 0} (next : ℕ) (items : Z → List Row) → Asks node_key (λ c. c.nodes) nodes_text next items
asks_nodes next items = asks_table node_key (λ c n. Null ∷ node_columns c.layout n) (λ c. c.nodes) 1 nodes_text (codes "node" ∷ []) nodes_read (λ c d h. h.nodes) next items

-- ---- handles

abbrev pub handles_text : List ℕ
handles_text = codes "SELECT fh FROM handles WHERE fh >= ?1 ORDER BY fh LIMIT 1"

handles_select : IsSelectText (first handles_text)
unfolding first everything
handles_select = (_, refl)

handles_in : (l : Layout) → IsReadIn (schema_for l) handles_text (from_query 7) (codes "fh" ∷ [])
unfolding understood everything
handles_in Second = record { is = refl; plain = (refl, refl); unlisted = refl }
handles_in Third = record { is = refl; plain = (refl, refl); unlisted = refl }

handles_read : IsRead handles_text (from_query 7) (codes "fh" ∷ [])
unfolding understood everything
handles_read = record {
  first = record { is = refl; plain = (refl, refl); unlisted = refl };
  second = handles_in;
  unindexed = record { is = refl; plain = (refl, refl); unlisted = refl };
  selects = handles_select;
}

pub asks_handles : {Z : Type 0} (next : ℕ) (items : Z → List Row) → Asks fh_of (λ c. c.handles) handles_text next items
asks_handles next items = asks_table fh_of (λ _ h. Null ∷ Int (pos h.node) ∷ Int (pos (access_code h.access)) ∷ []) (λ c. c.handles) 7 handles_text (codes "fh" ∷ []) handles_read (λ c d h. h.handles) next items

-- ---- entries

abbrev pub entries_text : List ℕ
entries_text = codes "SELECT cookie FROM entries WHERE cookie >= ?1 ORDER BY cookie LIMIT 1"

entries_select : IsSelectText (first entries_text)
unfolding first everything
entries_select = (_, refl)

entries_in : (l : Layout) → IsReadIn (schema_for l) entries_text (from_query 2) (codes "cookie" ∷ [])
unfolding understood everything
entries_in Second = record { is = refl; plain = (refl, refl); unlisted = refl }
entries_in Third = record { is = refl; plain = (refl, refl); unlisted = refl }

entries_read : IsRead entries_text (from_query 2) (codes "cookie" ∷ [])
unfolding understood everything
entries_read = record {
  first = record { is = refl; plain = (refl, refl); unlisted = refl };
  second = entries_in;
  unindexed = record { is = refl; plain = (refl, refl); unlisted = refl };
  selects = entries_select;
}

pub asks_entries : {Z : Type 0} (next : ℕ) (items : Z → List Row) → Asks cookie_of (λ c. c.entries) entries_text next items
asks_entries next items = asks_table cookie_of (λ _ e. Null ∷ Int (pos e.dir) ∷ Blob e.name ∷ Int (pos e.child) ∷ []) (λ c. c.entries) 2 entries_text (codes "cookie" ∷ []) entries_read (λ c d h. h.entries) next items

-- ---- lots, of which version 1 has none

abbrev pub lots_text : List ℕ
lots_text = codes "SELECT lot FROM lots WHERE lot >= ?1 ORDER BY lot LIMIT 1"

lots_select : IsSelectText (first lots_text)
unfolding first everything
lots_select = (_, refl)

lots_second : (l : Layout) → IsReadIn (schema_for l) lots_text (from_query 9) (codes "lot" ∷ [])
unfolding understood everything
lots_second Second = record { is = refl; plain = (refl, refl); unlisted = refl }
lots_second Third = record { is = refl; plain = (refl, refl); unlisted = refl }

lots_unindexed : IsReadIn with_kept lots_text (from_query 9) (codes "lot" ∷ [])
unfolding understood everything
lots_unindexed = record { is = refl; plain = (refl, refl); unlisted = refl }

lots_first : is_ok (understood with_answers lots_text) ≡ false
unfolding understood listing_schema everything
lots_first = refl

abbrev First : Content → Database → Type 0
First = HoldsFirst

module _ (next : ℕ) where
  never_first : {X : Type 0} (c : Content) (a b : State) (rows : List Row) → First c a.now → Shown lots_text (Int (pos next) ∷ []) a b rows → X
  unfolding Shown
  never_first c a b rows at h =
      absurd (let clash = sym (ap is_ok h.1.is) ∙ ap (λ (s : Schema). is_ok (understood s lots_text)) at.0.schema ∙ lots_first in cc)

  first_looks : {Z : Type 0} (items : Z → List Row) (a b : State) (r : Result Z Error)
      → (HasCleanDisk b → IfOk r (λ x. Shown lots_text (Int (pos next) ∷ []) a b (items x))) → StaysWithin a b r → Takes First First a b r
  first_looks items a b (Ok x) ok within = record {
    stays = record { survives = within.survives; kept = within.kept };
    within = within.within;
    turns = λ clean c at. never_first c a b (items x) at.holds (ok clean);
  }
  first_looks items a b (Err e) ok within = record {
    stays = record { survives = within.survives; kept = within.kept };
    within = tt;
    turns = tt;
  }

  module _ {Z : Type 0} (items : Z → List Row) where
    lots_looks : (a b : State) (r : Result Z Error) → (HasCleanDisk b → IfOk r (λ x. Shown lots_text (Int (pos next) ∷ []) a b (items x)))
        → (HasCleanDisk b → IfErr r (FailsToQuery lots_text (Int (pos next) ∷ []) a b)) → Survives a b (CommitsShowing lots_text (Int (pos next) ∷ []) a)
        → Takes IsLaid IsLaid a b r
    lots_looks a b r ok err survives =
        both_looks (Both First Holds) HoldsUnindexed a b r
        (both_looks First Holds a b r (first_looks items a b r ok (reads_within lots_text (Int (pos next) ∷ []) lots_select items a b r ok err survives))
        (looks_laid lots_text (Int (pos next) ∷ []) _ (λ l. (lots_second l).is) (λ l. (lots_second l).plain) lots_select items a b r ok err survives))
        (looks HoldsUnindexed with_kept (λ c d h. h.0.schema) lots_text (Int (pos next) ∷ []) _ lots_unindexed.is lots_unindexed.plain lots_select items a b r ok err survives)

    found_lots : (c : Content) (d : Database) (rows : List Row) → (d.trees 9 ≡ map lot_row c.lots) × IsTable (d.trees 9)
        → Answers d (from_query 9) (Int (pos next) ∷ []) rows → rows ≡ shown_from (λ lot. lot) next c.lots
    found_lots c d rows was answers = found_from (λ lot. lot) next (λ _. Null ∷ []) 9 c.lots d rows was answers

    lots_find : (a b : State) (r : Result Z Error) → (HasCleanDisk b → IfOk r (λ x. Shown lots_text (Int (pos next) ∷ []) a b (items x))) → HasCleanDisk b
        → IfOk r (λ x. (c : Content) → InsideAs (IsLaid c) a → items x ≡ shown_from (λ lot. lot) next c.lots)
    lots_find a b (Err e) ok clean = tt
    lots_find a b (Ok x) ok clean = λ c at. elim at.holds [
      | inl whole ↦ elim whole [
        | inl h ↦ never_first c a b (items x) h (ok clean)
        | inr h ↦
            found_lots c a.now (items x) (laid c a.now h).lots
            (read_held_laid lots_text (Int (pos next) ∷ []) _ (λ l. (lots_second l).is) (λ l. (lots_second l).plain) (λ l. (lots_second l).unlisted) c a b (items x)
            h (ok clean))
      ]
      | inr h ↦
          found_lots c a.now (items x) h.0.rows.1.1.1.1.1.1.0
          (read HoldsUnindexed with_kept (λ k d g. g.0.schema) lots_text (Int (pos next) ∷ []) _ lots_unindexed.is lots_unindexed.plain lots_unindexed.unlisted c a b
          (items x) (record { is_open = at.is_open; in_transaction = at.in_transaction; holds = h }) (ok clean))
    ]

pub asks_lots : {Z : Type 0} (next : ℕ) (items : Z → List Row) → Asks (λ lot. lot) (λ c. c.lots) lots_text next items
asks_lots next items = record { selects = lots_select; looks = lots_looks next items; finds = lots_find next items }
