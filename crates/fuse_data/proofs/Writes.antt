-- An extent is written at the head of a gap.
use Rattle.std.proofs.Common.{◌≡◌, ℕ, ◌*◌, ◌<◌, ◌≤◌, ◌^◌, List, slice_index_or, sym, inl, inr, arith}
use Rattle.sqlite_disk.specs.Disk.{Torn, Follows}
use Rattle.fuse_data.specs.declared.extent.Extent.{Extent}
use Rattle.fuse_data.specs.declared.extent.TheConstants.{BLOCK, MOST, END}
use Rattle.fuse_data.specs.declared.gaps.Gap.{Gap}
use Rattle.fuse_data.specs.Extents.{IsPlaced, AreDisjoint}
use Rattle.fuse_data.specs.Space.{IsFreeExtent, InUse, HasBlocks, HeadsGap, TakesOut, PutsIn}
use Rattle.fuse_data.specs.Leaving.{KeepsInUse}
use Rattle.fuse_data.proofs.Heads.{head_is_free}
use Rattle.fuse_data.proofs.Keepings.{kept, kept_after}

-- what is known where a gap was found for an extent
pub record Found (gaps : List Gap) (i : ℕ) (p : Extent) (len : ℕ) : Type 0 where
  pub blocks : HasBlocks gaps i p.count
  pub begins : (d : Gap) → p.place ≡ (slice_index_or gaps i d).from
  pub low : 1 ≤ p.place
  pub high : (d : Gap) → (slice_index_or gaps i d).to ≤ END
  pub some : 1 ≤ p.count
  pub few : p.count ≤ MOST
  pub size : len ≡ p.count * BLOCK

pub heads : (gaps : List Gap) (i : ℕ) (p : Extent) (len : ℕ) → Found gaps i p len → HeadsGap gaps i p
heads gaps i p len f =
    record {
      within = f.blocks.within;
      begins = λ d. sym (f.begins d);
      ends = λ d. let room = f.blocks.room d in let from = f.begins d in omega arith;
    }

pub placed : (gaps : List Gap) (i : ℕ) (p : Extent) (len : ℕ) → Found gaps i p len → IsPlaced p
placed gaps i p len f =
    let d : Gap = record { from = 0; to = 0 } in
    let room = f.blocks.room d in
    let from = f.begins d in
    let high = f.high d in
    record { place = f.low; some = f.some; few = f.few; low = omega (arith, room, from, high) }

pub found_free : (gaps : List Gap) (i : ℕ) (p : Extent) (len : ℕ) → Found gaps i p len → IsFreeExtent gaps p
found_free gaps i p len f = head_is_free gaps i p (heads gaps i p len f)

pub found_kept : (gaps : List Gap) (i : ℕ) (p : Extent) (len : ℕ) (old new : List ℕ) → Found gaps i p len → Torn (p.place * BLOCK) len old new → KeepsInUse gaps old new
found_kept gaps i p len old new f torn = kept gaps p len old new (placed gaps i p len f) (found_free gaps i p len f) f.size torn

pub found_after : (gaps : List Gap) (i : ℕ) (p : Extent) (len : ℕ) (old new : List ℕ → Type 0) → Found gaps i p len → Follows (Torn (p.place * BLOCK) len) old new → Follows (KeepsInUse gaps) old new
found_after gaps i p len old new f steps = kept_after gaps p len old new (placed gaps i p len f) (found_free gaps i p len f) f.size steps

pub offset_fits : (place : ℕ) → place ≤ END → place * BLOCK < 2 ^ 64
offset_fits place h = omega arith

-- what is taken is in use, and what was in use still is
pub taken_in_use : (p : Extent) (old new : List Gap) → TakesOut p old new → InUse new p
taken_in_use p old new taken b block free = ((taken b).0 free).1 block

pub taken_others : (p q : Extent) (old new : List Gap) → TakesOut p old new → InUse old q → InUse new q
taken_others p q old new taken used b block free = used b block ((taken b).0 free).0

pub given_others : (p q : Extent) (old new : List Gap) → PutsIn p old new → AreDisjoint p q → InUse old q → InUse new q
given_others p q old new given apart used b block free = elim ((given b).0 free) [
  | inl was ↦ used b block was
  | inr mine ↦ elim apart [ inl after ↦ omega (arith, mine.1, block.0) | inr before ↦ omega (arith, mine.0, block.1) ]
]
