-- The blocks in use, and the room that is left.
use Rattle.std.proofs.Common.{◌≡◌, ◌<◌, ◌≤◌, ◌+◌, ◌-◌, ◌==◌, ℕ, Bool, true, false, not, cond, eqb, List, [], ◌∷◌, ◌++◌, length, map, Option, Some, None, refl, ap, ◌∙◌, subst, inl, inr, arith}
use Rattle.std.specs.Prelude.{find, filter, IfSome}
use Rattle.std.specs.Option.{option_map}
use Rattle.std.specs.List.{AllByRecursion, sum_by}
use Rattle.std.proofs.lemmas.Bool.{ne_eqb, eqb-true, leb-true}
use Rattle.std.proofs.lemmas.List.Sums.{sum_by-append, sum_by-cons}
use Rattle.fuse_rows.specs.declared.rows.Room.{Room}
use Rattle.fuse_rows.specs.Blocks.{listed_blocks, how_many}
use Rattle.fuse_tree.specs.State.{State, Node, Apart, FitsCapacity, block_count_of, used_of}
use Rattle.fuse_tree.specs.Rowed.{rows_of_state, counters_of}
use Rattle.fuse_tree.specs.Space.{room_of, has_room}
use Rattle.fuse_tree.specs.Changing.{changed_at}
use Rattle.fuse_plan.proofs.Lists.{cond_found}

abbrev pub blocks_of : Node → ℕ
blocks_of = block_count_of

-- a row counts as many
pub counted_of : (blocks : Option (List ℕ)) → how_many (option_map length blocks) ≡ length (listed_blocks blocks)
counted_of None = refl
counted_of (Some blocks) = refl

-- ---- what is in use

-- a node keeps as many
abbrev pub Lasts : (Node → Node) → Type 0
Lasts f = (n : Node) → blocks_of (f n) ≡ blocks_of n

pub used_mapped : (f : Node → Node) (ns : List Node) → Lasts f → sum_by blocks_of (map f ns) ≡ sum_by blocks_of ns
used_mapped f [] lasts = refl
used_mapped f (n ∷ ns) lasts =
    omega (arith, lasts n, used_mapped f ns lasts, sum_by-cons blocks_of (f n) (map f ns), sum_by-cons blocks_of n ns)

-- a node more
pub used_appended : (ns : List Node) (n : Node) → sum_by blocks_of (ns ++ n ∷ []) ≡ sum_by blocks_of ns + blocks_of n
used_appended ns n = omega (arith, sum_by-append blocks_of ns (n ∷ []), sum_by-cons blocks_of n [])

-- of the nodes that pass a test, and of the others
pub used_without : (test : Node → Bool) (ns : List Node)
    → sum_by blocks_of (filter test ns) + sum_by blocks_of (filter (λ n. not (test n)) ns) ≡ sum_by blocks_of ns
used_without test [] = refl
used_without test (n ∷ ns) = step (test n) (used_without test ns)
  where
    step : (b : Bool) → sum_by blocks_of (filter test ns) + sum_by blocks_of (filter (λ m. not (test m)) ns) ≡ sum_by blocks_of ns
        → sum_by blocks_of (cond b (n ∷ filter test ns) (filter test ns)) + sum_by blocks_of
        (cond (not b) (n ∷ filter (λ m. not (test m)) ns) (filter (λ m. not (test m)) ns)) ≡ sum_by blocks_of (n ∷ ns)
    step true rest = omega (arith, rest, sum_by-cons blocks_of n ns, sum_by-cons blocks_of n (filter test ns))
    step false rest = omega (arith, rest, sum_by-cons blocks_of n ns, sum_by-cons blocks_of n (filter (λ m. not (test m)) ns))

unchanged : (k : ℕ) (change : Node → Node) (ns : List Node) → AllByRecursion (λ m. k < m.number) ns → map (changed_at k change) ns ≡ ns
unchanged k change [] later = refl
unchanged k change (m ∷ ns) later =
    let lt : k < m.number = later.0 in
    rw (ne_eqb m.number k (λ same. omega (arith, lt, same)), unchanged k change ns later.1) refl

-- one node changes
pub used_changed : (change : Node → Node) (k : ℕ) (d : Node) (ns : List Node) → Apart (λ n later. n.number < later.number) ns
    → find (λ n. n.number == k) ns ≡ Some d → sum_by blocks_of (map (changed_at k change) ns) + blocks_of d ≡ sum_by blocks_of ns + blocks_of (change d)
used_changed change k d [] rise at = absurd cc
used_changed change k d (n ∷ ns) rise at =
    let cut = sum_by-cons blocks_of n ns in
    let cut_after = sum_by-cons blocks_of (changed_at k change n) (map (changed_at k change) ns) in
    elim (cond_found (eqb n.number k) n d (find (λ m. m.number == k) ns) at) [
      | inl h ↦ (
          let later : AllByRecursion (λ m. k < m.number) ns = subst (λ i. AllByRecursion (λ (m : Node). i < m.number) ns) (eqb-true n.number k h.0) rise.0 in
          let rest : sum_by blocks_of (map (changed_at k change) ns) ≡ sum_by blocks_of ns = ap (sum_by blocks_of) (unchanged k change ns later) in
          let was : blocks_of n ≡ blocks_of d = ap blocks_of h.1 in
          let is : blocks_of (changed_at k change n) ≡ blocks_of (change d) =
          ap (λ (b : Bool). blocks_of (cond b (change n) n)) h.0 ∙ ap (λ (m : Node). blocks_of (change m)) h.1 in
          omega (arith, cut, cut_after, rest, was, is))
      | inr h ↦ (
          let stays : blocks_of (changed_at k change n) ≡ blocks_of n = ap (λ (b : Bool). blocks_of (cond b (change n) n)) h.0 in
          omega (arith, cut, cut_after, stays, used_changed change k d ns rise.1 h.1))
    ]

-- the node's blocks are among them
pub used_holds : (k : ℕ) (d : Node) (ns : List Node) → find (λ n. n.number == k) ns ≡ Some d → blocks_of d ≤ sum_by blocks_of ns
used_holds k d [] at = absurd cc
used_holds k d (n ∷ ns) at =
    elim (cond_found (eqb n.number k) n d (find (λ m. m.number == k) ns) at) [
      | inl h ↦ (let same : blocks_of n ≡ blocks_of d = ap blocks_of h.1 in omega (arith, sum_by-cons blocks_of n ns, same))
      | inr h ↦ omega (arith, sum_by-cons blocks_of n ns, used_holds k d ns h.1)
    ]

-- it has so many more, or so many less
pub used_more : (s : State) (change : Node → Node) (d : Node) (more : ℕ) → Apart (λ n later. n.number < later.number) s.nodes
    → find (λ n. n.number == d.number) s.nodes ≡ Some d → blocks_of (change d) ≡ blocks_of d + more
    → sum_by blocks_of (map (changed_at d.number change) s.nodes) ≡ used_of s + more
used_more s change d more rise at count =
    sums _ _ _ _ _ (used_changed change d.number d s.nodes rise at) (used_holds d.number d s.nodes at) count
  where
    sums : (u v b c m : ℕ) → u + b ≡ v + c → b ≤ v → c ≡ b + m → u ≡ v + m
    sums u v b c m whole holds count = omega (arith, whole, holds, count)

pub used_less : (s : State) (change : Node → Node) (d : Node) (gone : ℕ) → Apart (λ n later. n.number < later.number) s.nodes
    → find (λ n. n.number == d.number) s.nodes ≡ Some d → blocks_of (change d) + gone ≡ blocks_of d
    → sum_by blocks_of (map (changed_at d.number change) s.nodes) ≡ used_of s - gone
used_less s change d gone rise at count =
    sums _ _ _ _ _ (used_changed change d.number d s.nodes rise at) (used_holds d.number d s.nodes at) count
  where
    sums : (u v b c m : ℕ) → u + b ≡ v + c → b ≤ v → c + m ≡ b → u ≡ v - m
    sums u v b c m whole holds count = omega (arith, whole, holds, count)

-- ---- the room

abbrev pub room_with : ℕ → ℕ → Room
room_with used capacity = record { capacity = capacity; used = used }

pub room_told : (o : Option ℕ) (one two : ℕ) → one ≡ two → option_map (room_with one) o ≡ option_map (room_with two) o
room_told o one two same = ap (λ (u : ℕ). option_map (room_with u) o) same

pub space_less : (s t : State) (o : Option ℕ) → used_of t ≤ used_of s → IfSome o (FitsCapacity s) → IfSome o (FitsCapacity t)
space_less s t None less is = tt
space_less s t (Some c) less is = record { used = omega (arith, less, is.used); bounded = is.bounded }

pub space_same : (s t : State) (o : Option ℕ) → used_of t ≡ used_of s → IfSome o (FitsCapacity s) → IfSome o (FitsCapacity t)
space_same s t o same = space_less s t o (omega (arith, same))

pub space_after : (s t : State) (o : Option ℕ) (more : ℕ) → used_of t ≡ used_of s + more → has_room (option_map (room_with (used_of s)) o) more ≡ true
    → IfSome o (FitsCapacity s) → IfSome o (FitsCapacity t)
space_after s t None more after room is = tt
space_after s t (Some c) more after room is = record { used = omega (arith, after, leb-true (used_of s + more) c room); bounded = is.bounded }

-- ---- the counters

-- where as many nodes and blocks are counted as there are
pub recounted : (t : State) (n : ℕ) (r : Option Room) → n ≡ length t.nodes → r ≡ room_of t
    → record (rows_of_state t) { counters = record (counters_of t) { nodes = n; room = r } } ≡ rows_of_state t
recounted t n r count room =
    ap (λ (k : ℕ). record (rows_of_state t) { counters = record (counters_of t) { nodes = k; room = r } }) count
    ∙ ap (λ (q : Option Room). record (rows_of_state t) { counters = record (counters_of t) { room = q } }) room
