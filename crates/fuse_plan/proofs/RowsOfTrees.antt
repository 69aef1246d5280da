-- What the rows of a tree have.
use Rattle.std.proofs.Common.{◌≡◌, ◌==◌, ◌&&◌, ◌||◌, ◌<◌, ◌≤◌, ℕ, Bool, true, false, List, [], ◌∷◌, length, map, Option, Some, None, refl, sym, ap, subst, ◌∙◌}
use Rattle.std.specs.Option.{option_map}
use Rattle.std.specs.List.{AllByRecursion, list_any}
use Rattle.fuse_init.specs.declared.profile.Profile.{Profile}
use Rattle.fuse_init.specs.Profile.{terms}
use Rattle.fuse_rows.specs.Bounds.{fuse_root_id}
use Rattle.fuse_rows.specs.declared.rows.NodeRow.{NodeRow}
use Rattle.fuse_tree.specs.State.{State, Node, Shape, terms_of, used_of, IsNode, IsEntry, AreApart, Apart, is_dir, is_dir_of, has_number, node_at}
use Rattle.fuse_rows.specs.Rows.{row_at, full_at, content_of, terms_at}
use Rattle.fuse_tree.specs.Rowed.{IsRowed, row_of, full_of, rows_of_state}
use Rattle.fuse_tree.specs.RowsOfTrees.{OfTree, CountsWritten, IsSized, LeadsToRow, RowsOfTrees}
use Rattle.fuse_plan.proofs.Bounds.{rowed_is, child_there}
use Rattle.fuse_plan.proofs.Lists.{all_more, found}
use Rattle.fuse_plan.proofs.Blocks.{room_with}
use Rattle.fuse_plan.proofs.Most.{profile_mapped}
use Rattle.fuse_plan.proofs.Puts.{row_found, find_full}

any_more : {A : Type 0} (p q : A → Bool) (xs : List A) → ((x : A) → p x ≡ true → q x ≡ true) → list_any p xs ≡ true → list_any q xs ≡ true
any_more p q [] more is = is
any_more p q (x ∷ xs) more is =
    let step : (b : Bool) → p x ≡ b → (b || list_any p xs) ≡ true → (q x || list_any q xs) ≡ true =
    elim [
      | true ↦ λ here _. ap (λ (b : Bool). b || list_any q xs) (more x here)
      | false ↦ λ here rest. or_true (q x) (list_any q xs) (any_more p q xs more rest)
    ] in
    step (p x) refl is
  where
    or_true : (b c : Bool) → c ≡ true → (b || c) ≡ true
    or_true true c is = refl
    or_true false c is = is

dir_is : (n : Node) → is_dir_of fuse_root_id n ≡ true → has_number fuse_root_id n ≡ true
dir_is n is = elim (n.number == fuse_root_id) as (λ b. (b && is_dir n.mode) ≡ true → b ≡ true) [
  | true ↦ λ _. refl
  | false ↦ λ no. no
] is

apart_more : {A : Type 0} (P Q : A → A → Type 0) (xs : List A) → ((x y : A) → P x y → Q x y) → Apart P xs → Apart Q xs
apart_more P Q [] more apart = tt
apart_more P Q (x ∷ xs) more apart = (all_more (P x) (Q x) xs (more x) apart.0, apart_more P Q xs more apart.1)

size_of : (s : State) (number : ℕ) (row : NodeRow) (o : Option Node) → node_at s number ≡ o → option_map (row_of s) o ≡ Some row
    → row.size ≡ length (content_of (option_map (full_of s) o))
size_of s number row None e is = absurd cc
size_of s number row (Some n) e is =
    let same : row_of s n ≡ row = cc in
    ap (λ (r : NodeRow). r.size) (sym same)

within : (s : State) (number : ℕ) (row : NodeRow) (o : Option Node) → Shape s → node_at s number ≡ o → option_map (row_of s) o ≡ Some row
    → row.size ≤ (terms_at (rows_of_state s)).file_limit
within s number row None tree e is = absurd cc
within s number row (Some n) tree e is =
    let size = (found (IsNode (terms_of s) s.next_node) (λ m. m.number == number) s.nodes n tree.nodes e).0.size in
    let same : row_of s n ≡ row = cc in
    subst (λ (p : Profile). row.size ≤ (terms p).file_limit) (sym (profile_mapped (room_with (used_of s)) s.capacity))
    (subst (λ (r : NodeRow). r.size ≤ (terms_of s).file_limit) same size)

sized : (s : State) (number : ℕ) (row : NodeRow) → Shape s → row_at (rows_of_state s) number ≡ Some row → IsSized (rows_of_state s) number row
sized s number row tree e =
    let here : content_of (full_at (rows_of_state s) number) ≡ content_of (option_map (full_of s) (node_at s number)) =
    ap content_of (find_full s number s.nodes) in
    record {
      told = size_of s number row (node_at s number) refl (sym (row_found s number) ∙ e) ∙ ap (length {A = ℕ}) (sym here);
      within = within s number row (node_at s number) tree refl (sym (row_found s number) ∙ e);
    }

counted : (s : State) (ns : List Node) → AllByRecursion (IsNode (terms_of s) s.next_node) ns → AllByRecursion CountsWritten (map (full_of s) ns)
counted s [] all = tt
counted s (n ∷ ns) all = (record { told = refl; written = all.0.blocks.written }, counted s ns all.1)

of_state : (s : State) → Shape s → OfTree (rows_of_state s)
of_state s tree = record {
  root = child_there s fuse_root_id (any_more (is_dir_of fuse_root_id) (has_number fuse_root_id) s.nodes dir_is tree.root);
  children = all_more (IsEntry s.nodes s.entries s.next_cookie) (LeadsToRow (rows_of_state s)) s.entries (λ e p. child_there s e.child p.child) tree.entries;
  cookies = all_more (IsEntry s.nodes s.entries s.next_cookie) (λ e. 3 ≤ e.cookie) s.entries (λ e p. p.from_three) tree.entries;
  rise = apart_more AreApart (λ e later. e.cookie < later.cookie) s.entries (λ e later p. p.cookie) tree.entries_apart;
  counts = counted s s.nodes tree.nodes;
  sizes = λ number row e. sized s number row tree e;
}

pub rows_of_trees : RowsOfTrees
unfolding IsRowed
rows_of_trees rows is =
    let s = is.0 in
    subst OfTree (sym (is.2 ∙ rowed_is s)) (of_state s is.1.shape)
