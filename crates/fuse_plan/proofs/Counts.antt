-- What a node and its entry more do to what is counted.
use Rattle.std.proofs.Common.{◌≡◌, ◌≢◌, ◌<◌, ◌+◌, ◌&&◌, ℕ, Bool, false, cond, eqb, List, [], ◌∷◌, ◌++◌, length, map, refl, ap, ◌∙◌, arith}
use Rattle.std.specs.Prelude.{filter}
use Rattle.std.specs.List.{AllByRecursion}
use Rattle.std.proofs.lemmas.Bool.{ne_eqb}
use Rattle.std.proofs.lemmas.List.{length-append}
use Rattle.std.proofs.lemmas.List.Elements.{filter-append}
use Rattle.fuse_rows.specs.declared.rows.EntryRow.{EntryRow}
use Rattle.fuse_tree.specs.State.{State, Node, Shape, is_dir, up_of, is_below, subdirs_of}
use Rattle.fuse_tree.specs.Making.{grow}
use Rattle.fuse_plan.proofs.Lists.{all_more, count_mapped, count_none, count_one, and_false}
use Rattle.fuse_plan.proofs.Ups.{up_more, up_new, up_in}
use Rattle.fuse_plan.proofs.Trees.{SamePlace, nodes_below, children_below, dirs_below, root_below}

-- nodes that keep their places are counted as before
pub subdirs_mapped : (s : State) (f : Node → Node) → ((n : Node) → SamePlace n (f n)) → (k : ℕ)
    → subdirs_of (record s { nodes = map f s.nodes }) k ≡ subdirs_of s k
subdirs_mapped s f same k = count_mapped (is_below s.entries k) (is_below s.entries k) f s.nodes (always s.nodes)
  where
    always : (ns : List Node) → AllByRecursion (λ n. is_below s.entries k (f n) ≡ is_below s.entries k n) ns
    always [] = tt
    always (n ∷ ns) = (rw ((same n).kind, (same n).number) refl, always ns)

-- a directory more under its own, and the others have as many as before
pub subdirs_grown : (s : State) (f : Node → Node) (n : Node) (e : EntryRow) (k : ℕ) → Shape s → ((m : Node) → SamePlace m (f m)) → n.number ≡ s.next_node
    → e.child ≡ s.next_node
    → subdirs_of (grow n e (record s { nodes = map f s.nodes })) k ≡ subdirs_of s k + cond (is_dir n.mode && eqb e.dir k) 1 0
subdirs_grown s f n e k tree same number child =
    let es : List EntryRow = s.entries ++ e ∷ [] in
    let old : AllByRecursion (λ m. is_below es k (f m) ≡ is_below s.entries k m) s.nodes =
    all_more (λ m. m.number < s.next_node) (λ m. is_below es k (f m) ≡ is_below s.entries k m) s.nodes
    (λ m lt. let ne : e.child ≢ m.number = omega arith in rw ((same m).kind, (same m).number, up_more s.entries e m.number ne) refl) (nodes_below s tree) in
    let here : is_below es k n ≡ (is_dir n.mode && eqb e.dir k) = rw (number, up_new s.entries e s.next_node (children_below s tree) child) refl in
    ap length (filter-append (is_below es k) (map f s.nodes) (n ∷ []))
    ∙ length-append (filter (is_below es k) (map f s.nodes)) (filter (is_below es k) (n ∷ []))
    ∙ ap (λ (m : ℕ). m + length (filter (is_below es k) (n ∷ []))) (count_mapped (is_below es k) (is_below s.entries k) f s.nodes old)
    ∙ ap (λ (m : ℕ). subdirs_of s k + m) (count_one (is_below es k) n ∙ ap (λ (b : Bool). cond b 1 0) here)

-- nothing lies under a number that isn't given out
pub no_subdirs : (s : State) → Shape s → subdirs_of s s.next_node ≡ 0
no_subdirs s tree =
    let root = root_below s tree in
    count_none (is_below s.entries s.next_node) s.nodes
    (none s.nodes (λ k. let lt : up_of s.entries k < s.next_node = up_in (λ i. i < s.next_node) s.entries k (dirs_below s tree) (omega arith) in omega arith))
  where
    none : (ns : List Node) → ((k : ℕ) → up_of s.entries k ≢ s.next_node) → AllByRecursion (λ n. is_below s.entries s.next_node n ≡ false) ns
    none [] apart = tt
    none (n ∷ ns) apart = (rw (ne_eqb (up_of s.entries n.number) s.next_node (apart n.number)) (and_false (is_dir n.mode)), none ns apart)
