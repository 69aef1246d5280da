-- The entries after a cookie, each with the node that it leads to.
use Rattle.std.proofs.Common.{take, ◌≡◌, ℕ, pos, List, [], ◌∷◌, ◌++◌, map, filter, codes, Bool, true, false, cond, ◌&&◌, Some, None, Option, Ok, Err}
use Rattle.std.proofs.Common.{Result, IfOk, IfErr, refl, sym, ap, ap₂, subst, ◌∙◌, ◌<◌, length}
use Rattle.std.specs.Prelude.{MatchOption, ◌≢◌}
use Rattle.std.specs.List.{flat_map, list_all}
use Rattle.std.specs.Option.{option_to_list}
use Rattle.std.specs.Ordering.{is_eq, is_gt, nat_cmp}
use Rattle.sqlite.specs.declared.types.Value.TheVariants.{Null, Int, Blob}
use Rattle.sqlite.specs.Order.{Row, column}
use Rattle.sqlite.specs.Tree.{Trees}
use Rattle.sqlite_trees.specs.Tree.{IsTable}
use Rattle.sqlite_trees.proofs.ListLemmas.{ascending-filter}
use Rattle.sqlite_value.specs.declared.keys.Collation.TheVariants.{Binary}
use Rattle.sqlite_value.specs.Order.{value_cmp}
use Rattle.sqlite_sql.specs.declared.ops.BinaryOp.TheVariants.{Compare}
use Rattle.sqlite_sql.specs.declared.ops.CompareOp.TheVariants.{Eq, Gt}
use Rattle.sqlite_sql.specs.Ops.{binary, is_true, from_truth}
use Rattle.sqlite.specs.Term.{Term, Env, col, op2, eval_all, holds}
use Rattle.sqlite.specs.Query.{Join, inner, left, end, or_nulls, matches_as}
use Rattle.sqlite.specs.Program.{overlay}
use Rattle.sqlite.specs.Command.TheVariants.{Select}
use Rattle.sqlite_tied.specs.Compute.{everything}
use Rattle.sqlite.specs.declared.error.Error.{Error}
use Rattle.sqlite.specs.Listing.{understood, reads_listing}
use Rattle.sqlite.specs.State.{State, HasCleanDisk, Survives, Shown, FailsToQuery, CommitsShowing}
use Rattle.sqlite.proofs.Callers.{IsPlain, command_of}
use Rattle.fuse_rows.specs.declared.rows.EntryRow.{EntryRow}
use Rattle.fuse_rows.specs.declared.rows.NodeRow.{NodeRow}
use Rattle.fuse_store_tables.specs.Layout.{schema_for}
use Rattle.fuse_store_tables.specs.Content.{Content, Holds, has_by, at_by, node_key, node_row, cookie_of, entry_row, stands_after, columns_of, shown_entry}
use Rattle.fuse_store_tables.specs.Content.{shown_child, node_columns}
use Rattle.fuse_store_tables.specs.Moves.{InsideAs, Takes}
use Rattle.fuse_store_tables.proofs.Keyed.{found_rows, row_cmp_nat}
use Rattle.fuse_store_tables.proofs.Reading.{looks, read, truth_of, both_true}
use Rattle.fuse_store_tables.proofs.Ordered.{ordered_from, ways_in_order, rises_from}
use Rattle.sqlite_resolve.specs.Compile.{first}
use Rattle.fuse_store_tables.proofs.Queries.{IsSelectText}
use Rattle.fuse_store_tables.specs.declared.version.Layout.{Layout}
use Rattle.fuse_store_tables.specs.declared.version.Layout.TheVariants.{Second, Third}
use Rattle.fuse_store_tables.proofs.Laid.{schema_known}
use Rattle.fuse_store_tables.specs.inner.Steps.{HoldsIn}
use Rattle.sqlite_schema.specs.declared.command.Command.{Command}
use Rattle.sqlite.specs.Query.{IsAnswerAs}
use Rattle.fuse_store_tables.proofs.Tables.{laid}

abbrev pub second_text : List ℕ
second_text =
    codes "SELECT n.mode, n.uid, n.gid, n.rdev, n.size, n.atime, n.atimensec, "
    ++ codes "n.mtime, n.mtimensec, n.ctime, n.ctimensec, n.up, n.subdirs, e.cookie, e.name, e.child "
    ++ codes "FROM entries AS e LEFT JOIN nodes AS n ON n.node = e.child "
    ++ codes "WHERE e.dir = ?1 AND e.cookie > ?2 ORDER BY e.cookie LIMIT ?3"

abbrev pub third_text : List ℕ
third_text =
    codes "SELECT n.mode, n.uid, n.gid, n.rdev, n.size, n.atime, n.atimensec, "
    ++ codes "n.mtime, n.mtimensec, n.ctime, n.ctimensec, n.up, n.subdirs, n.links, n.written, n.attributes, e.cookie, e.name, e.child "
    ++ codes "FROM entries AS e LEFT JOIN nodes AS n ON n.node = e.child "
    ++ codes "WHERE e.dir = ?1 AND e.cookie > ?2 ORDER BY e.cookie LIMIT ?3"

abbrev pub text : Layout → List ℕ
text Second = second_text
text Third = third_text

abbrev on_terms : List Term
on_terms = op2 (Compare Eq Binary) (col 2 0) (col 1 4) ∷ []

abbrev terms : List Term
terms = op2 (Compare Eq Binary) (col 1 2) (col 0 0) ∷ op2 (Compare Gt Binary) (col 1 0) (col 0 1) ∷ []

abbrev entry_terms : List Term
entry_terms = col 1 0 ∷ col 1 3 ∷ col 1 4 ∷ []

abbrev later_shown : Layout → List Term
later_shown Second = entry_terms
later_shown Third = col 2 15 ∷ col 2 16 ∷ col 2 17 ∷ entry_terms

abbrev shown : Layout → List Term
shown l = col 2 2 ∷ col 2 3 ∷ col 2 4 ∷ col 2 5 ∷ col 2 6 ∷ col 2 7 ∷ col 2 8 ∷ col 2 9 ∷ col 2 10 ∷ col 2 11 ∷ col 2 12 ∷ col 2 13 ∷ col 2 14 ∷ later_shown l

abbrev join : Join
join = inner 2 (left 1 on_terms end)

abbrev entry_names : List (List ℕ)
entry_names = codes "cookie" ∷ codes "name" ∷ codes "child" ∷ []

abbrev later_names : Layout → List (List ℕ)
later_names Second = entry_names
later_names Third = codes "links" ∷ codes "written" ∷ codes "attributes" ∷ entry_names

abbrev command : Layout → Command
command l = Select (record { lets = []; body = ordered_from join terms (shown l) (col 0 2) }) (codes "mode"
    ∷ codes "uid" ∷ codes "gid" ∷ codes "rdev" ∷ codes "size" ∷ codes "atime" ∷ codes "atimensec" ∷ codes "mtime" ∷ codes "mtimensec" ∷ codes "ctime"
    ∷ codes "ctimensec" ∷ codes "up" ∷ codes "subdirs" ∷ later_names l)

is : (l : Layout) → command_of (understood (schema_for l) (text l)) ≡ command l
unfolding understood everything
is Second = refl
is Third = refl

plain : (l : Layout) → IsPlain (understood (schema_for l) (text l))
unfolding understood everything
plain Second = (refl, refl)
plain Third = (refl, refl)

pub selects : (l : Layout) → IsSelectText (first (text l))
unfolding first everything
selects Second = (_, refl)
selects Third = (_, refl)

unlisted : (l : Layout) → reads_listing (schema_for l) (text l) ≡ false
unfolding understood everything
unlisted Second = refl
unlisted Third = refl

-- ---- the ways to fill the slots

-- the row beside an entry, without columns where there is no such node
abbrev beside : Layout → Option NodeRow → Row
beside l None = []
beside l (Some n) = node_row l n

abbrev child_in : Content → EntryRow → Option NodeRow
child_in c e = at_by node_key e.child c.nodes

abbrev env : Row → Content → EntryRow → Env
env given c e = given ∷ entry_row e ∷ beside c.layout (child_in c e) ∷ []

on_tests : (l : Layout) (given : Row) (e : EntryRow) (n : NodeRow) → list_all (holds (given ∷ entry_row e ∷ node_row l n ∷ [])) on_terms ≡ has_by node_key e.child n
unfolding binary
on_tests l given e n = ap (λ o. is_true (from_truth (Some (is_eq o))) && true) (row_cmp_nat (node_key n) e.child) ∙ truth_of (has_by node_key e.child n)

filter_rows : {X : Type 0} (row : X → Row) (p : Row → Bool) (q : X → Bool) → ((x : X) → p (row x) ≡ q x) → (xs : List X)
    → filter p (map row xs) ≡ map row (filter q xs)
filter_rows row p q same [] = refl
filter_rows row p q same (x ∷ xs) = ap (λ b. cond b (row x ∷ filter p (map row xs)) (filter p (map row xs))) (same x) ∙ kept_or_not (q x) (filter_rows row p q same xs)
  where
    kept_or_not : (b : Bool) → filter p (map row xs) ≡ map row (filter q xs)
        → cond b (row x ∷ filter p (map row xs)) (filter p (map row xs)) ≡ map row (cond b (x ∷ filter q xs) (filter q xs))
    kept_or_not true e = ap (λ more. row x ∷ more) e
    kept_or_not false e = e

one_beside : (l : Layout) (o : Option NodeRow) → or_nulls (map (node_row l) (option_to_list o)) ≡ beside l o ∷ []
one_beside l None = refl
one_beside l (Some n) = refl

found_beside : (given : Row) (c : Content) (e : EntryRow) → IsTable (map (node_row c.layout) c.nodes)
    → or_nulls (filter (λ r. list_all (holds (given ∷ entry_row e ∷ r ∷ [])) on_terms) (map (node_row c.layout) c.nodes)) ≡ beside c.layout (child_in c e) ∷ []
found_beside given c e rise =
    ap or_nulls (filter_rows (node_row c.layout) _ (has_by node_key e.child) (on_tests c.layout given e) c.nodes
    ∙ ap (map (node_row c.layout)) (found_rows node_key (node_row c.layout) (λ _. refl) e.child c.nodes rise))
    ∙ one_beside c.layout (child_in c e)

tests : (dir cookie limit : ℕ) (r : Row) (e : EntryRow) → list_all (holds ((Int (pos dir) ∷ Int (pos cookie) ∷ Int (pos limit) ∷ []) ∷ entry_row e ∷ r ∷ []))
    terms ≡ stands_after dir cookie e
unfolding binary
tests dir cookie limit r e =
    ap (λ o. is_true (from_truth (Some (is_eq o))) && (is_true (from_truth (Some (is_gt (value_cmp (Int (pos e.cookie)) (Int (pos cookie)))))) && true))
    (row_cmp_nat e.dir dir)
    ∙ ap (λ o. is_true (from_truth (Some (is_eq (nat_cmp e.dir dir)))) && (is_true (from_truth (Some (is_gt o))) && true)) (row_cmp_nat e.cookie cookie)
    ∙ both_true (is_eq (nat_cmp e.dir dir)) (is_gt (nat_cmp e.cookie cookie))

abbrev params : ℕ → ℕ → ℕ → Row
params dir cookie limit = Int (pos dir) ∷ Int (pos cookie) ∷ Int (pos limit) ∷ []

module _ (dir cookie limit : ℕ) (c : Content) (db : Trees) (has : db 1 ≡ map (node_row c.layout) c.nodes) (rise : IsTable (map (node_row c.layout) c.nodes)) where
  abbrev given : Row
  given = params dir cookie limit

  abbrev p : EntryRow → Bool
  p = stands_after dir cookie

  abbrev way : Row → List Env
  way r = matches_as Null db terms (left 1 on_terms end) (given ∷ r ∷ [])

  one_way : (e : EntryRow) → way (entry_row e) ≡ cond (p e) (env given c e ∷ []) []
  one_way e =
      ap (λ t. flat_map (λ r. matches_as Null db terms end (given ∷ entry_row e ∷ r ∷ [])) (or_nulls (filter (λ r. list_all (holds (given ∷ entry_row e ∷ r
      ∷ [])) on_terms) t))) has
      ∙ ap (flat_map (λ r. matches_as Null db terms end (given ∷ entry_row e ∷ r ∷ []))) (found_beside given c e rise)
      ∙ ap (λ b. cond b (env given c e ∷ []) [] ++ []) (tests dir cookie limit (beside c.layout (child_in c e)) e)
      ∙ alone (p e)
    where
      alone : (b : Bool) → cond b (env given c e ∷ []) [] ++ [] ≡ cond b (env given c e ∷ []) []
      alone true = refl
      alone false = refl

  ways : (es : List EntryRow) → flat_map way (map entry_row es) ≡ map (env given c) (filter p es)
  ways [] = refl
  ways (e ∷ es) = ap₂ ◌++◌ (one_way e) (ways es) ∙ kept_or_not (p e)
    where
      kept_or_not : (b : Bool) → cond b (env given c e ∷ []) [] ++ map (env given c) (filter p es) ≡ map (env given c) (cond b (e ∷ filter p es) (filter p es))
      kept_or_not true = refl
      kept_or_not false = refl

-- ---- what is shown

shown_beside : (l : Layout) (values : Row) (e : EntryRow) (o : Option NodeRow)
    → eval_all (shown l) (values ∷ entry_row e ∷ beside l o ∷ []) ≡ columns_of l o ++ shown_entry e
shown_beside Second values e None = refl
shown_beside Second values e (Some n) = refl
shown_beside Third values e None = refl
shown_beside Third values e (Some n) = refl

all_shown : (values : Row) (c : Content) (es : List EntryRow) → map (λ e. eval_all (shown c.layout) (env values c e)) es ≡ map (shown_child c) es
all_shown values c [] = refl
all_shown values c (e ∷ es) = ap₂ ◌∷◌ (shown_beside c.layout values e (child_in c e)) (all_shown values c es)

module _ (l : Layout) where
  finds : (dir cookie limit : ℕ) (c : Content) (old new : State) (rows : List Row) → InsideAs (HoldsIn l c) old → Shown (text l) (params dir cookie limit) old new rows
      → rows ≡ take limit (map (shown_child c) (filter (stands_after dir cookie) c.entries))
  finds dir cookie limit c old new rows at h =
      let nodes = (laid c old.now at.holds.0).nodes in
      let entries = (laid c old.now at.holds.0).entries in
      let es = filter (stands_after dir cookie) c.entries in
      let db = overlay old.now.trees [] in
      let given = params dir cookie limit in
      let answer = (read (HoldsIn l) (schema_for l) (schema_known l) (text l) given (command l) (is l) (plain l) (unlisted l) c old new rows at h).answer Null in
      let asked = subst (λ k. IsAnswerAs Null (ordered_from join terms (shown k) (col 0 2)) db given rows) (sym at.holds.1) answer in
      ways_in_order cookie_of (λ e. Null ∷ Int (pos e.dir) ∷ Blob e.name ∷ Int (pos e.child) ∷ []) (λ e. beside c.layout (child_in c e) ∷ []) Null db terms given
      (shown c.layout) (col 0 2) join es rows
      (ap (flat_map (λ r. matches_as Null db terms (left 1 on_terms end) (given ∷ r ∷ []))) entries.0
      ∙ ways dir cookie limit c db nodes.0 (subst IsTable nodes.0 nodes.1) c.entries)
      (ascending-filter _ (stands_after dir cookie) c.entries (rises_from cookie_of entry_row (λ _. refl) c.entries (subst IsTable entries.0 entries.1))) asked
      ∙ ap (take limit) (all_shown given c es)

  pub makes : {X : Type 0} (items : X → List Row) (dir cookie limit : ℕ) (old new : State) (r : Result X Error)
      → (HasCleanDisk new → IfOk r (λ x. Shown (text l) (params dir cookie limit) old new (items x)))
      → (HasCleanDisk new → IfErr r (FailsToQuery (text l) (params dir cookie limit) old new))
      → Survives old new (CommitsShowing (text l) (params dir cookie limit) old) → Takes (HoldsIn l) (HoldsIn l) old new r
  makes items dir cookie limit =
      looks (HoldsIn l) (schema_for l) (schema_known l) (text l) (params dir cookie limit) (command l) (is l) (plain l) (selects l) items

  pub shows : {X : Type 0} (items : X → List Row) (dir cookie limit : ℕ) (old new : State) (r : Result X Error)
      → (HasCleanDisk new → IfOk r (λ x. Shown (text l) (params dir cookie limit) old new (items x)))
      → HasCleanDisk new
      → IfOk r (λ x. (c : Content) → InsideAs (HoldsIn l c) old → items x ≡ take limit (map (shown_child c) (filter (stands_after dir cookie) c.entries)))
  shows items dir cookie limit old new (Ok x) ok clean = λ c at. finds dir cookie limit c old new (items x) at (ok clean)
  shows items dir cookie limit old new (Err e) ok clean = tt

-- ---- the node of a row that is read

-- where its first column is a number, it has a node
module _ (row more : Row) (mode : Option ℕ) (x : ℕ) (reads : (0 < length row) × MatchOption mode (column row 0 ≡ Null) (λ n. (column row 0 ≢ Null) × (column row 0
    ≡ Int (pos n))))
    (some : mode ≡ Some x) where
  not_null : column row 0 ≡ Null → ⊥
  not_null null = let has = rw some at reads in has.1.0 null

  pub at_node : (l : Layout) (o : Option NodeRow) → row ≡ columns_of l o ++ more → (Q : Option NodeRow → Type 0)
      → ((n : NodeRow) → row ≡ node_columns l n ++ more → Q (Some n)) → Q o
  at_node l None is Q f = absurd (not_null (ap (λ r. column r 0) is))
  at_node l (Some n) is Q f = f n is
