-- Rows of blocks that are read at once, and the bytes of one of their blocks.
use Rattle.std.proofs.Common.{◌≡◌, ◌≤◌, ◌<◌, ◌+◌, ◌-◌, ◌*◌, ◌/◌, ◌%◌, ◌==◌, ◌&&◌, inl, inr, ℕ, suc, List, [], ◌∷◌, ◌++◌, map, filter, find, take, drop, length, replicate}
use Rattle.std.proofs.Common.{Bool, true, false, cond, Option, Some, None, IfSome, option_map, refl, sym, ap, subst, arith, ◌∙◌}
use Rattle.std.specs.Prelude.{IsTrue, unwrap_or}
use Rattle.std.specs.Ordering.{is_eq, is_ge, is_lt, nat_cmp}
use Rattle.std.specs.List.{All, AllByRecursion, Contains}
use Rattle.std.specs.List.Sorted.{IsPermutation}
use Rattle.std.proofs.lemmas.Bool.{cases_Bool, cases_lt}
use Rattle.std.proofs.lemmas.Bool.Decides.{nat_tests}
use Rattle.std.proofs.lemmas.List.Sorted.{Contains-permutation, IsPermutation-sym}
use Rattle.sqlite.specs.Order.{Row}
use Rattle.sqlite_trees.specs.Tree.{IsAscending}
use Rattle.fuse_rows.specs.Bounds.{block_bytes}
use Rattle.fuse_store_tables.specs.Blocks.{Block, block_at, is_at}
use Rattle.fuse_store_tables.specs.Ranges.{is_between, numbered_block, ShowsBlocks}
use Rattle.fuse_store_tree.specs.declared.range_reads.BlockRow.{BlockRow}
use Rattle.fuse_store_tree.specs.inner.Showing.{row_bytes}
use Rattle.fuse_store_tree.proofs.ListingLemmas.{shown_length}
use Rattle.fuse_store_tree.proofs.Members.{all_in, each_in, into_kept, out_of_kept, none_found_of, none_is_in, found_of, whole_taken, or_else, found_end, first_in, later_in, none_in, first_or_later}

-- ---- as they were read

-- the bytes of the block of this number
abbrev pub bytes_at : ℕ → List Block → Option (List ℕ)
bytes_at block bs = option_map (λ (b : Block). b.bytes) (find (λ (b : Block). b.block == block) bs)

pub row_added : (block : ℕ) (rows : List BlockRow) (r : BlockRow) (bs : List Block) (b : Block) → row_bytes block rows ≡ bytes_at block bs
    → r.block ≡ b.block → r.bytes.items ≡ b.bytes → row_bytes block (rows ++ r ∷ []) ≡ bytes_at block (bs ++ b ∷ [])
row_added block rows r bs b same number bytes =
    found_end (λ (x : BlockRow). x.block == block) (λ x. x.bytes.items) rows r
    ∙ ap (λ o. or_else o (cond (r.block == block) (Some r.bytes.items) None)) same
    ∙ ap (λ n. or_else (bytes_at block bs) (cond (n == block) (Some r.bytes.items) None)) number
    ∙ ap (λ l. or_else (bytes_at block bs) (cond (b.block == block) (Some l) None)) bytes
    ∙ sym (found_end (λ (x : Block). x.block == block) (λ x. x.bytes) bs b)

-- ---- as the tables show them

between_tells : (node from to : ℕ) (b : Block) → is_between node from to b ≡ true → (b.node ≡ node) × (from ≤ b.block) × (b.block < to)
between_tells node from to b is = (
  number b.node node (is_ge (nat_cmp b.block from) && is_lt (nat_cmp b.block to)) is,
  low (is_eq (nat_cmp b.node node)) b.block from (is_lt (nat_cmp b.block to)) is,
  high (is_eq (nat_cmp b.node node)) (is_ge (nat_cmp b.block from)) b.block to is,
)
  where
    number : (a b : ℕ) (t : Bool) → (is_eq (nat_cmp a b) && t) ≡ true → a ≡ b
    number a b t is = grind (arith, nat_tests)

    low : (t : Bool) (a b : ℕ) (u : Bool) → (t && (is_ge (nat_cmp a b) && u)) ≡ true → b ≤ a
    low t a b u is = grind (arith, nat_tests)

    high : (t u : Bool) (a b : ℕ) → (t && (u && is_lt (nat_cmp a b))) ≡ true → a < b
    high t u a b is = grind (arith, nat_tests)

between_told : (node from to : ℕ) (b : Block) → b.node ≡ node → from ≤ b.block → b.block < to → is_between node from to b ≡ true
between_told node from to b of low high = tests b.node node b.block from to of low high
  where
    tests : (n m a f t : ℕ) → n ≡ m → f ≤ a → a < t → (is_eq (nat_cmp n m) && (is_ge (nat_cmp a f) && is_lt (nat_cmp a t))) ≡ true
    tests n m a f t same low high = grind (arith, nat_tests)

at_tells : (node block : ℕ) (b : Block) → is_at node block b ≡ true → (b.node ≡ node) × (b.block ≡ block)
at_tells node block b is = (number b.node node (is_eq (nat_cmp b.block block)) is, other (is_eq (nat_cmp b.node node)) b.block block is)
  where
    number : (a b : ℕ) (t : Bool) → (is_eq (nat_cmp a b) && t) ≡ true → a ≡ b
    number a b t is = grind (arith, nat_tests)

    other : (t : Bool) (a b : ℕ) → (t && is_eq (nat_cmp a b)) ≡ true → a ≡ b
    other t a b is = grind (arith, nat_tests)

at_told : (node block : ℕ) (b : Block) → b.node ≡ node → b.block ≡ block → is_at node block b ≡ true
at_told node block b of is = tests b.node node b.block block of is
  where
    tests : (n m a k : ℕ) → n ≡ m → a ≡ k → (is_eq (nat_cmp n m) && is_eq (nat_cmp a k)) ≡ true
    tests n m a k one two = grind (arith, nat_tests)

number_is : (a b : ℕ) → (a == b) ≡ true → a ≡ b
number_is a b is = grind (arith, nat_tests)

is_number : (a b : ℕ) → a ≡ b → (a == b) ≡ true
is_number a b is = grind (arith, nat_tests)

abbrev Rise : List Block → Type 0
Rise = IsAscending (λ (a b : Block). a.block < b.block)

-- numbers that rise between two are no more than lie between them
rising_few : (low end : ℕ) (bs : List Block) → low ≤ end → AllByRecursion (λ b. low ≤ b.block) bs → AllByRecursion (λ b. b.block < end) bs → Rise bs
    → length bs + low ≤ end
rising_few low end [] order from below rise = omega (arith, order)
rising_few low end (b ∷ bs) order from below rise =
    let first = from.0 in
    let last = below.0 in
    let more : length bs + (b.block + 1) ≤ end = rising_few (b.block + 1) end bs (omega (arith, last)) (stand b bs rise.0) below.1 rise.1 in
    omega (arith, first, more)
  where
    stand : (x : Block) (xs : List Block) → AllByRecursion (λ later. x.block < later.block) xs → AllByRecursion (λ later. x.block + 1 ≤ later.block) xs
    stand x [] all = tt
    stand x (y ∷ ys) all = (omega (arith, all.0), stand x ys all.1)

-- the one of a number is found
only_found : (block : ℕ) (bs : List Block) (b : Block) → Rise bs → Contains bs b → b.block ≡ block → find (λ (x : Block). x.block == block) bs ≡ Some b
only_found block [] b rise there is = absurd (none_in b there)
only_found block (x ∷ bs) b rise there is = elim (first_or_later x b bs there) [
  | inl same ↦ rw (is_number x.block block (ap (λ z. z.block) same ∙ is)) (ap Some same)
  | inr more ↦
      let less = all_in (λ later. x.block < later.block) bs b rise.0 more in
      rw (off x.block block (omega (arith, less, is))) (only_found block bs b rise.1 more is)
]
  where
    off : (a b : ℕ) → a < b → (a == b) ≡ false
    off a b less = grind (arith, nat_tests)

-- all of them, where the limit is their number at least
pub blocks_shown : (node from to : ℕ) (bs : List Block) (rows : List Row) → from ≤ to → (shows : ShowsBlocks (to - from) (filter (is_between node from to) bs) rows)
    → rows ≡ map numbered_block shows.ordered
blocks_shown node from to bs rows low shows =
    shows.shown ∙ whole_taken (to - from) (map numbered_block shows.ordered) (few (map_length shows.ordered))
  where
    each : (b : Block) → Contains shows.ordered b → (b.node ≡ node) × (from ≤ b.block) × (b.block < to)
    each b there =
        let kept = Contains-permutation shows.ordered (filter (is_between node from to) bs) b (IsPermutation-sym (filter (is_between node from to) bs) shows.ordered shows.same) there in
        between_tells node from to b (out_of_kept (is_between node from to) bs b kept).1

    map_length : (xs : List Block) → length (map numbered_block xs) ≡ length xs
    map_length [] = refl
    map_length (x ∷ xs) = ap suc (map_length xs)

    few : length (map numbered_block shows.ordered) ≡ length shows.ordered → length (map numbered_block shows.ordered) ≤ to - from
    few long =
        let most = rising_few from to shows.ordered low (each_in (λ b. from ≤ b.block) shows.ordered (λ b there. (each b there).1))
        (each_in (λ b. b.block < to) shows.ordered (λ b there. (each b there).2)) shows.rise in
        omega (arith, long, most)

pub block_shown : (node from to block : ℕ) (bs : List Block) (rows : List Row) → from ≤ block → block < to
    → (shows : ShowsBlocks (to - from) (filter (is_between node from to) bs) rows)
    → bytes_at block shows.ordered ≡ option_map (λ (b : Block). b.bytes) (block_at node block bs)
block_shown node from to block bs rows low high shows = ap (option_map (λ (b : Block). b.bytes)) (by (block_at node block bs) refl)
  where
    by : (o : Option Block) → block_at node block bs ≡ o → find (λ (b : Block). b.block == block) shows.ordered ≡ block_at node block bs
    by (Some b) is =
        let found = subst (λ o. IfSome o (λ y. Contains bs y × (is_at node block y ≡ true))) is (found_of (is_at node block) bs) in
        let tells = at_tells node block b found.1 in
        let number = tells.1 in
        let kept = into_kept (is_between node from to) bs b found.0 (between_told node from to b tells.0 (omega (arith, low, number)) (omega (arith, high, number))) in
        only_found block shows.ordered b shows.rise (Contains-permutation (filter (is_between node from to) bs) shows.ordered b shows.same kept) number ∙ sym is
    by None is = none_found_of (λ (b : Block). b.block == block) shows.ordered (λ b there here.
        let kept = Contains-permutation shows.ordered (filter (is_between node from to) bs) b (IsPermutation-sym (filter (is_between node from to) bs) shows.ordered shows.same) there in
        let tells = out_of_kept (is_between node from to) bs b kept in
        none_is_in (is_at node block) bs b is tells.0 (at_told node block b (between_tells node from to b tells.1).0 (number_is b.block block here))) ∙ sym is

-- in the place of a block that isn't there
abbrev pub block_none : Block
block_none = record { slot = 0; node = 0; block = 0; bytes = [] }

pub all_taken : (rows : List Row) (bs : List Block) (n : ℕ) → rows ≡ map numbered_block bs → length rows ≤ n → take n bs ≡ bs
all_taken rows bs n is few = whole_taken n bs (let long = shown_length numbered_block rows bs is in omega (arith, long, few))
