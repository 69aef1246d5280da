-- The changes by which a node goes make the rows of the state without it.
use Rattle.std.proofs.Common.{◌≡◌, ◌≢◌, ◌<◌, ◌+◌, ◌-◌, ◌||◌, ◌&&◌, ◌==◌, ℕ, Bool, true, false, not, cond, eqb, List, [], ◌∷◌, ◌++◌, length, map, Option, Some, None, refl, sym, ap, subst, ◌∙◌, inl, inr, arith}
use Rattle.std.specs.Prelude.{find, filter, take}
use Rattle.std.specs.Option.{option_map}
use Rattle.std.specs.List.{AllByRecursion, list_any}
use Rattle.std.proofs.lemmas.Bool.{eqb-true, ne_eqb}
use Rattle.fuse_rows.specs.declared.rows.Change.{Change}
use Rattle.fuse_rows.specs.declared.rows.Full.{Full}
use Rattle.fuse_rows.specs.declared.rows.HandleRow.{HandleRow}
use Rattle.fuse_rows.specs.declared.rows.Counters.{Counters as CountersRow}
use Rattle.fuse_rows.specs.declared.rows.NodeRow.{NodeRow}
use Rattle.fuse_rows.specs.declared.rows.Room.{Room}
use Rattle.fuse_tree.specs.State.{State, Node, Shape, Apart, used_of, terms_of, node_at, up_of, is_used, is_kept, NodesAreKept}
use Rattle.fuse_rows.specs.Blocks.{how_many}
use Rattle.fuse_rows.specs.Rows.{Rows, apply, handles_of}
use Rattle.fuse_tree.specs.Rowed.{rows_of_state, full_of, counters_of}
use Rattle.fuse_tree.specs.Removal.{swept, tidied}
use Rattle.fuse_plan.specs.inner.PlanRemoval.{room_without, counters_less, removal, with_removal, is_used_beside}
use Rattle.fuse_plan.proofs.Lists.{all_more, all_filtered, apart_filtered, cond_found}
use Rattle.fuse_plan.proofs.Blocks.{blocks_of, room_with, counted_of}
use Rattle.fuse_plan.proofs.KeptNodes.{KeptBut}
use Rattle.fuse_plan.proofs.Sweeping.{LessOne, less_one, tests_but, nodes_swept, tree_swept, one_stays, all_stay}

-- ---- rows

pub apply_more : (rows : Rows) (first later : List Change) → apply rows (first ++ later) ≡ apply (apply rows first) later
apply_more rows [] later = refl
apply_more rows (c ∷ first) later = apply_more (apply rows (c ∷ [])) first later

room_gone : (row : NodeRow) (o : Option ℕ) (one two : ℕ) → two + how_many row.written ≡ one
    → option_map (room_without row) (option_map (room_with one) o) ≡ option_map (room_with two) o
room_gone row None one two is = refl
room_gone row (Some c) one two is = let less : one - how_many row.written ≡ two = omega arith in ap (λ (u : ℕ). Some (room_with u c)) less

-- ---- a node that isn't kept

module _ (t : State) (k : ℕ) (c : Node) (row : NodeRow) (tree : Shape t) (at : node_at t k ≡ Some c) (number : row.node ≡ k)
    (count : row.written ≡ option_map length c.blocks) (others : KeptBut (λ j. j == k) t) where
  sums : is_kept t k ≡ false → LessOne blocks_of c (swept t).nodes t.nodes
  sums loose = less_one blocks_of (λ n. is_kept t n.number) k c t.nodes tree.nodes_rise at (tests_but t k loose others)

  pub gone_alone : is_kept t k ≡ false → apply (rows_of_state t) (removal row (counters_of t)) ≡ rows_of_state (swept t)
  gone_alone loose =
      let less = sums loose in
      let nodes : filter (λ f. not (f.row.node == row.node)) (map (full_of t) t.nodes) ≡ map (full_of (swept t)) (swept t).nodes =
      ap (λ (i : ℕ). filter (λ f. not (f.row.node == i)) (map (full_of t) t.nodes)) number ∙ sym (nodes_swept t k tree loose others) in
      let number_left : length t.nodes - 1 ≡ length (swept t).nodes = omega (arith, less.count) in
      let used : used_of (swept t) + how_many row.written ≡ used_of t =
      ap (λ (o : Option ℕ). used_of (swept t) + how_many o) count ∙ ap (λ (n : ℕ). used_of (swept t) + n) (counted_of c.blocks) ∙ less.sum in
      let room = room_gone row t.capacity (used_of t) (used_of (swept t)) used in
      ap (λ (fs : List Full). record (rows_of_state (swept t)) { nodes = fs; counters = counters_less row (counters_of t) }) nodes
      ∙ ap (λ (n : ℕ). record (rows_of_state (swept t)) {
        counters = record (counters_of (swept t)) { nodes = n; room = option_map (room_without row) (option_map (room_with (used_of t)) t.capacity) };
      }) number_left
      ∙ ap (λ (r : Option Room). record (rows_of_state (swept t)) { counters = record (counters_of (swept t)) { room = r } }) room

-- ---- the node that a request takes a name or an fh from

-- the changes make the rows of a state, and with those by which the node goes, where it does, those of the tidied state
pub tidied_rows : (s t : State) (k : ℕ) (c : Node) (row : NodeRow) (goes : Bool) (counters : CountersRow) (before : List Change) → Shape t
    → apply (rows_of_state s) before ≡ rows_of_state t → counters ≡ counters_of t → node_at t k ≡ Some c → row.node ≡ k → row.written ≡ option_map length c.blocks
    → ((terms_of t).removes ≡ true → KeptBut (λ j. j == k) t) → goes ≡ ((terms_of t).removes && not (is_kept t k))
    → apply (rows_of_state s) (with_removal goes row counters before) ≡ rows_of_state (tidied t)
tidied_rows s t k c row goes counters before tree rows counts at number count others goes_is =
    subst (λ (q : CountersRow). apply (rows_of_state s) (with_removal goes row q before) ≡ rows_of_state (tidied t)) (sym counts)
    (subst (λ (g : Bool). apply (rows_of_state s) (with_removal g row (counters_of t) before) ≡ rows_of_state (tidied t)) (sym goes_is)
    (by_profile (terms_of t).removes refl))
  where
    by_node : KeptBut (λ j. j == k) t → (b : Bool) → is_kept t k ≡ b
        → apply (rows_of_state s) (with_removal (not b) row (counters_of t) before) ≡ rows_of_state (swept t)
    by_node all true kept = rows ∙ ap rows_of_state (sym (one_stays t k kept all))
    by_node all false loose =
        apply_more (rows_of_state s) before (removal row (counters_of t))
        ∙ ap (λ (r : Rows). apply r (removal row (counters_of t))) rows
        ∙ gone_alone t k c row tree at number count all loose

    by_profile : (b : Bool) → (terms_of t).removes ≡ b
        → apply (rows_of_state s) (with_removal (b && not (is_kept t k)) row (counters_of t) before) ≡ rows_of_state (cond b (swept t) t)
    by_profile true is = by_node (others is) (is_kept t k) refl
    by_profile false is = rows

-- where all nodes are kept, nothing goes
pub tidied_whole : (t : State) → ((terms_of t).removes ≡ true → KeptBut (λ j. false) t) → tidied t ≡ t
tidied_whole t all = step (terms_of t).removes refl
  where
    step : (b : Bool) → (terms_of t).removes ≡ b → cond b (swept t) t ≡ t
    step true is = all_stay t (all is)
    step false is = refl

-- a node is found by its number where the nodes are changed in place
pub found_mapped : (g : Node → Node) (k : ℕ) (c : Node) (ns : List Node) → ((n : Node) → (g n).number ≡ n.number) → find (λ n. n.number == k) ns ≡ Some c
    → find (λ n. n.number == k) (map g ns) ≡ Some (g c)
found_mapped g k c [] numbers at = absurd cc
found_mapped g k c (n ∷ ns) numbers at =
    elim (cond_found (eqb n.number k) n c (find (λ m. m.number == k) ns) at) [
      | inl h ↦ ap (λ (b : Bool). cond b (Some (g n)) (find (λ m. m.number == k) (map g ns))) (ap (λ (i : ℕ). eqb i k) (numbers n) ∙ h.0)
          ∙ ap (λ (m : Node). Some (g m)) h.1
      | inr h ↦ ap (λ (b : Bool). cond b (Some (g n)) (find (λ m. m.number == k) (map g ns))) (ap (λ (i : ℕ). eqb i k) (numbers n) ∙ h.0)
          ∙ found_mapped g k c ns numbers h.1
    ]

pub tree_tidied : (t : State) → Shape t → Shape (tidied t)
tree_tidied t tree = step (terms_of t).removes
  where
    step : (b : Bool) → Shape (cond b (swept t) t)
    step true = tree_swept t tree
    step false = tree

pub same_tidied : (t : State) → (tidied t).capacity ≡ t.capacity
same_tidied t = step (terms_of t).removes
  where
    step : (b : Bool) → (cond b (swept t) t).capacity ≡ t.capacity
    step true = refl
    step false = refl

-- nothing but kept nodes is left
pub kept_tidied : (t : State) → NodesAreKept (tidied t)
kept_tidied t = step (terms_of t).removes refl
  where
    step : (b : Bool) → (terms_of t).removes ≡ b → NodesAreKept (cond b (swept t) t)
    step true is = λ _. all_more (λ n. n.number ≡ n.number × (is_kept t n.number ≡ true)) (λ n. is_kept t n.number ≡ true) (swept t).nodes (λ n p. p.1)
        (all_filtered (λ n. n.number ≡ n.number) (λ n. is_kept t n.number) t.nodes (each t.nodes))
      where
        each : (ns : List Node) → AllByRecursion (λ n. n.number ≡ n.number) ns
        each [] = tt
        each (n ∷ ns) = (refl, each ns)
    step false is = λ removes. absurd cc

-- ---- when the node goes

-- where the node has lost its name
pub unnamed_goes : (t : State) (k : ℕ) → k ≢ 1 → up_of t.entries k ≡ 0 → is_kept t k ≡ is_used t.handles k
unnamed_goes t k other up = rw (ne_eqb k 1 other, up) refl

any_both : (p q : HandleRow → Bool) (hs : List HandleRow) → list_any p (filter q hs) ≡ list_any q (filter p hs)
any_both p q [] = refl
any_both p q (h ∷ hs) = step (p h) (q h) refl refl (any_both p q hs)
  where
    step : (b c : Bool) → p h ≡ b → q h ≡ c → list_any p (filter q hs) ≡ list_any q (filter p hs)
        → list_any p (cond c (h ∷ filter q hs) (filter q hs)) ≡ list_any q (cond b (h ∷ filter p hs) (filter p hs))
    step true true one two rest = rw (one, two) refl
    step true false one two rest = rw (two) rest
    step false true one two rest = rw (one) rest
    step false false one two rest = rest

-- of two fhs one is another
two_tell : (fh : ℕ) (hs : List HandleRow) → Apart (λ h later. h.fh < later.fh) hs
    → list_any (λ h. not (h.fh == fh)) hs ≡ list_any (λ h. not (h.fh == fh)) (take 2 hs)
two_tell fh [] rise = refl
two_tell fh (h ∷ []) rise = refl
two_tell fh (h ∷ i ∷ hs) rise = step (h.fh == fh) (i.fh == fh) refl refl
  where
    step : (b c : Bool) → eqb h.fh fh ≡ b → eqb i.fh fh ≡ c → (not b || (not c || list_any (λ x. not (x.fh == fh)) hs)) ≡ (not b || (not c || false))
    step true true one two = absurd (let lt : h.fh < i.fh = rise.0.0 in let a = eqb-true h.fh fh one in let b = eqb-true i.fh fh two in omega arith)
    step true false one two = refl
    step false c one two = refl

pub beside_tells : (fh k : ℕ) (hs : List HandleRow) → Apart (λ h later. h.fh < later.fh) hs
    → is_used (filter (λ h. not (h.fh == fh)) hs) k ≡ is_used_beside hs fh k
beside_tells fh k hs rise =
    any_both (λ h. h.node == k) (λ h. not (h.fh == fh)) hs
    ∙ two_tell fh (filter (λ h. h.node == k) hs) (apart_filtered (λ h later. h.fh < later.fh) (λ h. h.node == k) hs rise)

-- ---- what the looks show

-- where one fh of the node is found, one is open
pub used_told : (hs : List HandleRow) (k : ℕ) → not (eqb (length (handles_of hs k 1)) 0) ≡ is_used hs k
used_told [] k = refl
used_told (h ∷ hs) k = step (h.node == k) (used_told hs k)
  where
    step : (b : Bool) → not (eqb (length (handles_of hs k 1)) 0) ≡ is_used hs k
        → not (eqb (length (take 1 (cond b (h ∷ filter (λ x. x.node == k) hs) (filter (λ x. x.node == k) hs)))) 0) ≡ (b || is_used hs k)
    step true rest = refl
    step false rest = rest
