-- The written blocks of a content that is cut, filled up or written are those of the content after it.
use Rattle.std.proofs.Common.{◌≡◌, ◌<◌, ◌≤◌, ◌+◌, ◌/◌, ◌==◌, ℕ, zero, suc, true, false, List, [], ◌∷◌, length, Option, Some, None, refl, sym, ap, subst, ◌∙◌, inl, inr, arith}
use Rattle.std.specs.Prelude.{IfSome, nat_lt}
use Rattle.std.specs.Option.{option_map}
use Rattle.std.specs.List.{AllByRecursion}
use Rattle.std.proofs.lemmas.Bool.{cases_lt}
use Rattle.fuse_init.specs.Profile.{Terms, terms}
use Rattle.fuse_rows.specs.Bounds.{target_limit}
use Rattle.fuse_rows.specs.Blocks.{blocks_for, first_touched, touched_end, with_touched, below_size, count_between, how_many}
use Rattle.fuse_rows.specs.Rows.{profile_for, sized, written}
use Rattle.fuse_tree.specs.State.{AreWritten, CountsBlocks, no_blocks, is_link, type_of}
use Rattle.fuse_tree.specs.Space.{newly_written}
use Rattle.fuse_plan.proofs.Lists.{all_more, apart_filtered}
use Rattle.fuse_plan.proofs.Lengths.{length_sized, length_written}
use Rattle.fuse_plan.proofs.ContentBytes.{byte_at, beyond, byte_sized, byte_above, byte_outside}
use Rattle.fuse_plan.proofs.Numbers.{is_listed, few_between, with_length, with_rise, with_below, with_unlisted, cut_length, cut_unlisted, cut_below}

-- ---- blocks of places

-- bytes touch no block after the one that their end lies in or begins
pub touched_order : (offset len : ℕ) → first_touched offset ≤ touched_end offset len
touched_order offset zero = omega arith
touched_order offset (suc n) = omega arith

touched_low : (offset len : ℕ) → 1 ≤ len → touched_end offset len ≤ blocks_for (offset + len)
touched_low offset zero some = absurd (omega (arith, some))
touched_low offset (suc n) some = omega arith

-- a place whose block lies outside of those that bytes touch lies outside of the bytes
touched_outside : (offset len at : ℕ) → (first_touched offset ≤ at / 4096 → touched_end offset len ≤ at / 4096) → offset ≤ at → offset + len ≤ at
touched_outside offset zero at outside low = omega arith
touched_outside offset (suc n) at outside low =
    let first : first_touched offset ≤ at / 4096 = omega (arith, low) in
    let past : touched_end offset (suc n) ≤ at / 4096 = outside first in
    omega (arith, past)

-- ---- WRITE

pub blocks_wrote : (offset : ℕ) (payload content blocks : List ℕ) → 1 ≤ length payload → AreWritten content blocks
    → AreWritten (written offset payload content) (with_touched offset (length payload) blocks)
blocks_wrote offset payload content blocks some is =
    let first = first_touched offset in
    let end = touched_end offset (length payload) in
    let order = touched_order offset (length payload) in
    let size = length_written offset payload content in
    let low : end ≤ blocks_for (length (written offset payload content)) = omega (arith, size, touched_low offset (length payload) some) in
    record {
      rise = with_rise first end blocks order is.rise;
      within = with_below first end (blocks_for (length (written offset payload content))) blocks order low
          (all_more (λ b. b < blocks_for (length content)) (λ b. b < blocks_for (length (written offset payload content))) blocks
          (λ b less. let less : b < blocks_for (length content) = less in omega (arith, size)) is.within);
      others = λ at none.
          let u = with_unlisted first end (at / 4096) blocks order none in
          byte_outside offset payload content at (touched_outside offset (length payload) at u.outside) ∙ is.others at u.before;
    }

-- how many there are then
pub count_wrote : (offset len : ℕ) (content blocks : List ℕ) → AreWritten content blocks
    → length (with_touched offset len blocks) ≡ length blocks + newly_written offset len blocks
count_wrote offset len content blocks is = with_length (first_touched offset) (touched_end offset len) blocks (touched_order offset len) is.rise

-- ---- a size

pub blocks_sized : (size : ℕ) (content blocks : List ℕ) → AreWritten content blocks → AreWritten (sized size content) (below_size size blocks)
blocks_sized size content blocks is = record {
  rise = apart_filtered (λ b later. b < later) (λ b. nat_lt b (blocks_for size)) blocks is.rise;
  within = subst (λ (n : ℕ). AllByRecursion (λ b. b < blocks_for n) (below_size size blocks)) (sym (length_sized size content)) (cut_below (blocks_for size) blocks);
  others = λ at none. elim (cases_lt at size) [
    | inl low ↦ byte_sized size content at low
        ∙ is.others at (cut_unlisted (blocks_for size) (at / 4096) blocks (omega (arith, low)) none)
    | inr high ↦ byte_above size content at high
  ];
}

-- how many there are no more
pub count_sized : (size : ℕ) (content blocks : List ℕ) → AreWritten content blocks
    → length (below_size size blocks) + count_between (blocks_for size) (blocks_for (length content)) blocks ≡ length blocks
count_sized size content blocks is = cut_length (blocks_for size) (blocks_for (length content)) blocks is.within

-- ---- how many there may be

zero_up : (end : ℕ) (bs : List ℕ) → AllByRecursion (λ b. b < end) bs → AllByRecursion (λ b. (0 ≤ b) × (b < end)) bs
zero_up end bs all = all_more (λ b. b < end) (λ b. (0 ≤ b) × (b < end)) bs (λ b less. (omega arith, less)) all

pub few_written : (content blocks : List ℕ) → AreWritten content blocks → length blocks ≤ blocks_for (length content)
few_written content blocks is = omega (arith, few_between 0 (blocks_for (length content)) blocks is.rise (zero_up (blocks_for (length content)) blocks is.within))

pub few_counted_of : (content : List ℕ) (blocks : Option (List ℕ)) → IfSome blocks (AreWritten content)
    → how_many (option_map length blocks) ≤ blocks_for (length content)
few_counted_of content None is = omega arith
few_counted_of content (Some blocks) is = few_written content blocks is

-- ---- nodes

-- a new node has none
pub none_counts : (capacity : Option ℕ) (mode : ℕ) → is_link mode ≡ false → CountsBlocks (terms (profile_for capacity)) mode [] (no_blocks capacity)
none_counts None mode isnt = record { counted = refl; written = tt; target = λ is. absurd cc }
none_counts (Some c) mode isnt = record { counted = refl; written = record { rise = tt; within = tt; others = λ at _. refl }; target = λ is. absurd cc }

-- a file may be written
pub wrote_counts : (t : Terms) (mode offset : ℕ) (payload content : List ℕ) (blocks : Option (List ℕ)) → is_link mode ≡ false → 1 ≤ length payload
    → CountsBlocks t mode content blocks → CountsBlocks t mode (written offset payload content) (option_map (with_touched offset (length payload)) blocks)
wrote_counts t mode offset payload content None isnt some is = record { counted = is.counted; written = tt; target = λ link. absurd cc }
wrote_counts t mode offset payload content (Some blocks) isnt some is =
    record { counted = is.counted; written = blocks_wrote offset payload content blocks some is.written; target = λ link. absurd cc }

-- or get a size
pub sized_counts : (t : Terms) (mode size : ℕ) (content : List ℕ) (blocks : Option (List ℕ)) → is_link mode ≡ false
    → CountsBlocks t mode content blocks → CountsBlocks t mode (sized size content) (option_map (below_size size) blocks)
sized_counts t mode size content None isnt is = record { counted = is.counted; written = tt; target = λ link. absurd cc }
sized_counts t mode size content (Some blocks) isnt is =
    record { counted = is.counted; written = blocks_sized size content blocks is.written; target = λ link. absurd cc }

-- by the kind alone
pub counts_by_kind : (t : Terms) (old new : ℕ) (content : List ℕ) (blocks : Option (List ℕ)) → type_of new ≡ type_of old
    → CountsBlocks t old content blocks → CountsBlocks t new content blocks
counts_by_kind t old new content blocks same is =
    let link : is_link new ≡ is_link old = ap (λ (k : ℕ). k == 10) same in
    record { counted = is.counted; written = is.written; target = λ e. is.target (sym link ∙ e) }

-- a target lies in block 0
target_end : (len : ℕ) → 1 ≤ len → len ≤ target_limit → touched_end 0 len ≡ 1
target_end zero some few = absurd (omega (arith, some))
target_end (suc n) some few = omega (arith, few)

pub target_blocks : (len : ℕ) → 1 ≤ len → len ≤ target_limit → with_touched 0 len [] ≡ 0 ∷ []
target_blocks len some few = rw (target_end len some few) refl

pub target_counts : (capacity : Option ℕ) (mode : ℕ) (target : List ℕ) → (terms (profile_for capacity)).links ≡ true → 1 ≤ length target
    → length target ≤ target_limit
    → CountsBlocks (terms (profile_for capacity)) mode target (option_map (with_touched 0 (length target)) (no_blocks capacity))
target_counts None mode target links some few = absurd cc
target_counts (Some c) mode target links some few =
    let end = target_end (length target) some few in
    record {
      counted = refl;
      written = subst (AreWritten target) (sym (target_blocks (length target) some few)) (record {
        rise = (tt, tt);
        within = (omega (arith, some), tt);
        others = λ at none. past at (elsewhere at none);
      });
      target = λ _. ap (λ (bs : List ℕ). Some bs) (target_blocks (length target) some few);
    }
  where
    elsewhere : (at : ℕ) → is_listed (at / 4096) (0 ∷ []) ≡ false → 4096 ≤ at
    elsewhere at none = step (at / 4096) refl none
      where
        step : (k : ℕ) → at / 4096 ≡ k → is_listed k (0 ∷ []) ≡ false → 4096 ≤ at
        step zero is e = absurd cc
        step (suc k) is e = omega (arith, is)

    past : (at : ℕ) → 4096 ≤ at → byte_at target at ≡ 0
    past at high = beyond target at (omega (arith, high, few))
