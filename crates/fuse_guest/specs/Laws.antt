-- Laws of pairs and of what is shown of them (defined by this project: the guest protocol, 'A life').
use Rattle.std.specs.Prelude.{◌≡◌, ◌≢◌, ◌≤◌, ◌<◌, ◌+◌, ◌⊎◌, ℕ, true, false, if◌then◌else◌, List, [], ◌∷◌, ◌++◌, length, Some, None}
use Rattle.std.specs.List.{AllByRecursion, sum_by}
use Rattle.guest_frames.specs.Limits.{max_reply_len}
use Rattle.guest_frames.specs.Frames.{PairContent, ChangeContent, ScanContent, Frame, IsChange, IsFrame, HasRightParts}
use Rattle.fuse_guest.specs.Pairs.{Pairs, ArePairs, is_in_range, value_for, put_pair, without_key, without_range, pairs_within, changed_pairs}
use Rattle.fuse_guest.specs.Telling.{told_head, pair_size, scanned, limited, pairs_told, told_for}

-- a change changes the values of the keys that it names, and no others; changes leave pairs; and pairs with the same values are the same
pub record PairsAreMap : Type 0 where
  pub put_one : (ps : Pairs) (p : PairContent) → value_for (put_pair p ps) p.key ≡ Some p.value
  pub put_others : (ps : Pairs) (p : PairContent) (key : List ℕ) → p.key ≢ key → value_for (put_pair p ps) key ≡ value_for ps key
  pub delete_one : (ps : Pairs) (key : List ℕ) → value_for (without_key key ps) key ≡ None
  pub delete_others : (ps : Pairs) (gone key : List ℕ) → gone ≢ key → value_for (without_key gone ps) key ≡ value_for ps key
  pub clear_these : (ps : Pairs) (from to key : List ℕ) → is_in_range from to key ≡ true → value_for (without_range from to ps) key ≡ None
  pub clear_others : (ps : Pairs) (from to key : List ℕ) → is_in_range from to key ≡ false
      → value_for (without_range from to ps) key ≡ value_for ps key
  pub stay : (ps : Pairs) (changes : List ChangeContent) → ArePairs ps → AllByRecursion IsChange changes → ArePairs (changed_pairs changes ps)
  pub same : (ps qs : Pairs) → ArePairs ps → ArePairs qs → ((key : List ℕ) → value_for ps key ≡ value_for qs key) → ps ≡ qs

-- of what may be listed, the first items that fit, one at least, and no more of them would fit
pub record IsPageOf (told all : List PairContent) : Type 0 where
  pub rest : List PairContent
  pub first : told ++ rest ≡ all
  pub some : (all ≡ []) ⊎ (1 ≤ length told)
  pub full : (p : PairContent) (later : List PairContent) → rest ≡ p ∷ later → max_reply_len < told_head + (sum_by pair_size told + pair_size p)

-- the pairs of a range are those whose keys are in it, in order; PAIRS lists the first of them
pub record ScansList : Type 0 where
  pub ordered : (ps : Pairs) (from to : List ℕ) → ArePairs ps → ArePairs (pairs_within from to ps)
  pub exact : (ps : Pairs) (from to key : List ℕ)
      → value_for (pairs_within from to ps) key ≡ (if is_in_range from to key then value_for ps key else None)
  pub told : (ps : Pairs) (s : ScanContent) → IsPageOf (pairs_told ps s) (limited s.limit (scanned s ps))

-- what a right GET or SCAN gets over pairs is a right frame, and so no longer than VALUES and PAIRS may be
abbrev pub RepliesFit : Type 0
RepliesFit = (ps : Pairs) (query told : Frame) → ArePairs ps → HasRightParts query → told_for ps query ≡ Some told → IsFrame told
