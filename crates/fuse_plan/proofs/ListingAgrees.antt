-- The plan of READDIR agrees with what is done.
use Rattle.std.proofs.Common.{◌≡◌, ◌<◌, ◌+◌, ◌*◌, ℕ, List, [], ◌∷◌, ◌++◌, length, map, take, Option, Some, None, refl, sym, ap, ◌∙◌, arith, not}
use Rattle.std.specs.Prelude.{filter}
use Rattle.std.specs.Option.{option_map}
use Rattle.std.proofs.Math.Seq.{take-append-add}
use Rattle.std.proofs.lemmas.List.{take-map}
use Rattle.fuse_answer.specs.Entries.{DirectoryEntry, packed_len, entries_bytes}
use Rattle.fuse_rows.specs.declared.rows.EntryRow.{EntryRow}
use Rattle.fuse_tree.specs.State.{State, Node, Shape, node_at}
use Rattle.fuse_rows.specs.Rows.{is_after, entries_after}
use Rattle.fuse_tree.specs.Rowed.{rows_of_state, row_of}
use Rattle.fuse_tree.specs.Listing.{type_of_node, told_entry, entries_following, longest_prefix, first_fits, list_checks, list_prefix, read_dir}
use Rattle.fuse_plan.specs.inner.PlanListing.{row_kind, row_entry, enough, dots_after, rows_after, plan_list, plan_read_dir}
use Rattle.fuse_plan.proofs.Puts.{row_found}
use Rattle.fuse_plan.proofs.Prefixes.{prefix_cut, first_cut}
use Rattle.fuse_plan.proofs.Listing.{all_after, all_named}
use Rattle.fuse_wire.specs.Errnos.{einval}
use Rattle.fuse_request.specs.declared.request.ReadIn.{ReadIn}
use Rattle.fuse_plan.proofs.Agrees.{Agrees, refused_agrees, both, checked}

same_kind : (s : State) (o : Option Node) → row_kind (option_map (row_of s) o) ≡ type_of_node o
same_kind s None = refl
same_kind s (Some n) = refl

same_entry : (s : State) (e : EntryRow) → row_entry (rows_of_state s) e ≡ told_entry s e
same_entry s e =
    ap (λ (kind : ℕ). record { ino = e.child; off = e.cookie; kind = kind; name = e.name })
    (ap row_kind (row_found s e.child) ∙ same_kind s (node_at s e.child))

same_entries : (s : State) (es : List EntryRow) → map (row_entry (rows_of_state s)) es ≡ map (told_entry s) es
same_entries s [] = refl
same_entries s (e ∷ es) = rw (same_entry s e, same_entries s es) refl

-- the rows have a prefix of the entries after the offset
pub rows_cut : (s : State) (d : Node) (offset limit : ℕ)
    → dots_after offset (row_of s d) ++ map (row_entry (rows_of_state s)) (entries_after (rows_of_state s) d.number offset limit) ≡ take
    (length (dots_after offset (row_of s d)) + limit) (entries_following s d.number offset)
rows_cut s d offset limit =
    let first : List DirectoryEntry = dots_after offset (row_of s d) in
    let after : List EntryRow = filter (is_after d.number offset) s.entries in
    ap (λ (xs : List DirectoryEntry). first ++ xs) (same_entries s (take limit after) ∙ sym (take-map (told_entry s) limit after))
    ∙ sym (take-append-add first (map (told_entry s) after) limit)
    ∙ ap (take (length first + limit)) (sym (all_after s d.number offset))

past : (size n : ℕ) → size < 32 * (n + enough size)
past size n = omega arith

pub same_prefix : (s : State) (d : Node) (offset size : ℕ) → Shape s
    → longest_prefix (rows_after offset size (row_of s d) (rows_of_state s)) size ≡ longest_prefix (entries_following s d.number offset) size
same_prefix s d offset size tree =
    ap (λ (es : List DirectoryEntry). longest_prefix es size) (rows_cut s d offset (enough size))
    ∙ prefix_cut (entries_following s d.number offset) size _ (all_named s d.number offset tree) (past size (length (dots_after offset (row_of s d))))

pub same_first : (s : State) (d : Node) (offset size : ℕ)
    → first_fits (rows_after offset size (row_of s d) (rows_of_state s)) size ≡ first_fits (entries_following s d.number offset) size
same_first s d offset size =
    ap (λ (es : List DirectoryEntry). first_fits es size) (rows_cut s d offset (enough size))
    ∙ first_cut packed_len (entries_following s d.number offset) size _ (omega arith)

list_agrees : (s : State) (offset size : ℕ) (d : Node) → Shape s
    → Agrees s (plan_list offset size (row_of s d) (rows_of_state s)) (list_prefix s (entries_following s d.number offset) size)
list_agrees s offset size d tree =
    rw (same_first s d offset size)
    (both s (not (first_fits (entries_following s d.number offset) size)) _ _ _ _ (λ _. refused_agrees s tree einval) (λ _. record {
      answer = ap (λ (es : List DirectoryEntry). record { errno = 0; body = entries_bytes es }) (same_prefix s d offset size tree);
      rows = refl;
      tree = tree;
      same = refl;
      kept = λ all. all;
    }))

pub read_dir_agrees : (s : State) (asked : ReadIn) (d : Node) → Shape s → Agrees s (plan_read_dir asked (row_of s d) (rows_of_state s)) (read_dir s asked d)
read_dir_agrees s asked d tree =
    checked s (list_checks s asked d) _ _ tree (λ _ _ _ _. list_agrees s asked.offset asked.size d tree)
