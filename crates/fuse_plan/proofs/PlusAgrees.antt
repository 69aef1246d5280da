-- The plan of READDIRPLUS agrees with what is done.
use Rattle.std.proofs.Common.{◌≡◌, ◌<◌, ◌≤◌, ◌+◌, ◌*◌, ◌++◌, ℕ, suc, Bool, true, false, cond, not, nat_lt, List, [], ◌∷◌, map, take, length, Option, Some, None, refl, sym, ap, ◌∙◌, arith}
use Rattle.std.specs.Prelude.{codes}
use Rattle.std.specs.List.{AllByRecursion, take-map}
use Rattle.std.specs.Option.{option_map}
use Rattle.std.proofs.lemmas.Bool.{lt-leb}
use Rattle.std.proofs.lemmas.List.{map-append}
use Rattle.fuse_wire.specs.Errnos.{einval}
use Rattle.fuse_request.specs.declared.request.ReadIn.{ReadIn}
use Rattle.fuse_answer.specs.declared.records.EntryOut.{EntryOut}
use Rattle.fuse_answer.specs.Entries.{DirectoryEntry, IsNamed}
use Rattle.fuse_answer.specs.PlusEntries.{PlusEntry, plus_len, plus_bytes}
use Rattle.fuse_tree.specs.Modes.{s_ifdir}
use Rattle.fuse_rows.specs.declared.rows.EntryRow.{EntryRow}
use Rattle.fuse_rows.specs.declared.rows.NodeRow.{NodeRow}
use Rattle.fuse_tree.specs.State.{State, Node, Shape, IsEntry, node_at, type_of}
use Rattle.fuse_rows.specs.Rows.{is_after, entries_after}
use Rattle.fuse_tree.specs.Rowed.{row_of, rows_of_state}
use Rattle.fuse_tree.specs.Keeping.{agreement_of, valid_of}
use Rattle.fuse_tree.specs.Done.{entry_out_of}
use Rattle.fuse_tree.specs.Listing.{entries_following, longest_by, first_fits_by, list_checks}
use Rattle.fuse_tree.specs.PlusListing.{looked_up, plus_entry, plus_following, list_plus, read_dir_plus}
use Rattle.fuse_plan.specs.inner.Reading.{row_attr}
use Rattle.fuse_plan.specs.inner.PlanListing.{row_above, row_entry, dots_after}
use Rattle.fuse_plan.specs.inner.PlanPlus.{plus_dot, row_plus, enough_plus, plus_after, plan_list_plus, plan_read_dir_plus}
use Rattle.fuse_plan.proofs.Agrees.{Agrees, refused_agrees, both, checked}
use Rattle.fuse_plan.proofs.Lists.{all_more, all_kept}
use Rattle.fuse_plan.proofs.Puts.{row_found}
use Rattle.fuse_plan.proofs.Shown.{all_taken}
use Rattle.fuse_plan.proofs.Prefixes.{HasName, plus_cut, first_cut}
use Rattle.fuse_plan.proofs.ListingAgrees.{rows_cut}
use Rattle.fuse_plan.proofs.Listing.{all_named}

-- ---- one entry

abbrev dot : ℕ → ℕ → List ℕ → DirectoryEntry
dot ino off name = record { ino = ino; off = off; kind = type_of s_ifdir; name = name }

same_dots : (s : State) (offset : ℕ) (row : NodeRow) → map (plus_entry s) (dots_after offset row) ≡ map plus_dot (dots_after offset row)
same_dots s offset row = step (nat_lt offset 1) (nat_lt offset 2)
  where
    all : Bool → Bool → List DirectoryEntry
    all a b = cond a (dot row.node 1 (codes ".") ∷ cond b (dot (row_above row) 2 (codes "..") ∷ []) []) (cond b (dot (row_above row) 2 (codes "..") ∷ []) [])

    step : (a b : Bool) → map (plus_entry s) (all a b) ≡ map plus_dot (all a b)
    step true true = refl
    step true false = refl
    step false true = refl
    step false false = refl

-- what is answered of a row is what LOOKUP answers of its node
same_out : (s : State) (o : Option Node)
    → looked_up s o ≡ option_map (λ (row : NodeRow). entry_out_of (valid_of (agreement_of s)) (row_attr row)) (option_map (row_of s) o)
same_out s None = refl
same_out s (Some n) = refl

same_row : (s : State) (e : EntryRow) → 3 ≤ e.cookie
    → plus_entry s (row_entry (rows_of_state s) e) ≡ row_plus (valid_of (agreement_of s)) (rows_of_state s) e
same_row s e from =
    let late : nat_lt e.cookie 3 ≡ false = lt-leb (suc e.cookie) 3 (omega (arith, from)) in
    let entry : DirectoryEntry = row_entry (rows_of_state s) e in
    ap (λ (b : Bool). record { out = cond b None (looked_up s (node_at s e.child)); entry = entry }) late
    ∙ ap (λ (out : Option EntryOut). record { out = out; entry = entry })
    (same_out s (node_at s e.child)
    ∙ ap (option_map (λ (row : NodeRow). entry_out_of (valid_of (agreement_of s)) (row_attr row))) (sym (row_found s e.child)))

same_rows : (s : State) (es : List EntryRow) → AllByRecursion (λ e. 3 ≤ e.cookie) es
    → map (plus_entry s) (map (row_entry (rows_of_state s)) es) ≡ map (row_plus (valid_of (agreement_of s)) (rows_of_state s)) es
same_rows s [] all = refl
same_rows s (e ∷ es) all = rw (same_row s e all.0, same_rows s es all.1) refl

-- ---- all of them

-- the rows have a prefix of the entries after the offset
plus_rows : (s : State) (d : Node) (offset size : ℕ) → Shape s
    → plus_after (valid_of (agreement_of s)) offset size (row_of s d) (rows_of_state s) ≡ take
    (length (dots_after offset (row_of s d)) + enough_plus size) (plus_following s d.number offset)
plus_rows s d offset size tree =
    let first : List DirectoryEntry = dots_after offset (row_of s d) in
    let es : List EntryRow = entries_after (rows_of_state s) d.number offset (enough_plus size) in
    let late : AllByRecursion (λ e. 3 ≤ e.cookie) es =
    all_taken (λ (e : EntryRow). 3 ≤ e.cookie) (enough_plus size) _
    (all_kept (λ (e : EntryRow). 3 ≤ e.cookie) (is_after d.number offset) s.entries
    (all_more (IsEntry s.nodes s.entries s.next_cookie) (λ e. 3 ≤ e.cookie) s.entries (λ e p. p.from_three) tree.entries)) in
    sym (take-map (plus_entry s) (length first + enough_plus size) (entries_following s d.number offset)
    ∙ ap (map (plus_entry s)) (sym (rows_cut s d offset (enough_plus size)))
    ∙ map-append (plus_entry s) first (map (row_entry (rows_of_state s)) es)
    ∙ ap (λ (ps : List PlusEntry). ps ++ map (plus_entry s) (map (row_entry (rows_of_state s)) es)) (same_dots s offset (row_of s d))
    ∙ ap (λ (ps : List PlusEntry). map plus_dot first ++ ps) (same_rows s es late))

named_plus : (s : State) (es : List DirectoryEntry) → AllByRecursion IsNamed es → AllByRecursion HasName (map (plus_entry s) es)
named_plus s [] all = tt
named_plus s (e ∷ es) all = (all.0, named_plus s es all.1)

past : (size n : ℕ) → size < 160 * (n + enough_plus size)
past size n = omega arith

list_plus_agrees : (s : State) (offset size : ℕ) (d : Node) → Shape s
    → Agrees s (plan_list_plus (valid_of (agreement_of s)) offset size (row_of s d) (rows_of_state s)) (list_plus s (plus_following s d.number offset) size)
list_plus_agrees s offset size d tree =
    let all : List PlusEntry = plus_following s d.number offset in
    let k : ℕ = length (dots_after offset (row_of s d)) + enough_plus size in
    let named = named_plus s (entries_following s d.number offset) (all_named s d.number offset tree) in
    let cut : longest_by plus_len (take k all) size ≡ longest_by plus_len all size =
    plus_cut all size k named (past size (length (dots_after offset (row_of s d)))) in
    rw (plus_rows s d offset size tree, first_cut plus_len all size k (omega arith))
    (both s (not (first_fits_by plus_len all size)) _ _ _ _ (λ _. refused_agrees s tree einval) (λ _. record {
      answer = ap (λ (es : List PlusEntry). record { errno = 0; body = plus_bytes es }) cut;
      rows = refl;
      tree = tree;
      same = refl;
      kept = λ all. all;
    }))

pub read_dir_plus_agrees : (s : State) (asked : ReadIn) (d : Node) → Shape s
    → Agrees s (plan_read_dir_plus (valid_of (agreement_of s)) asked (row_of s d) (rows_of_state s)) (read_dir_plus s asked d)
read_dir_plus_agrees s asked d tree =
    checked s (list_checks s asked d) _ _ tree (λ _ _ _ _. list_plus_agrees s asked.offset asked.size d tree)
