-- A scan under way, over the pairs (defined by this project).
use Rattle.std.specs.Prelude.{◌≡◌, ℕ, Bool, true, false, List, map, take}
use Rattle.sqlite.specs.Order.{Row}
use Rattle.guest_frames.specs.Frames.{ScanContent}
use Rattle.fuse_guest.specs.Pairs.{Pairs}
use Rattle.fuse_guest.specs.Telling.{scanned}
use Rattle.guest_tables.specs.declared.scans.Walk.{Walk}
use Rattle.guest_tables.specs.Content.{GuestContent}
use Rattle.guest_tables.specs.Holding.{pairs_in}
use Rattle.guest_tables.specs.inner.Slices.{shown_pair, left_at, bare_left, IsUnderWay, HasTaken}

-- the rows of the next page, of at most so many
abbrev pub IsPage : ScanContent → ℕ → GuestContent → Walk → List Row → Type 0
IsPage s len c w rows = rows ≡ map (shown_pair s.keys_alone) (take len (left_at s.downwards w.at (pairs_in c)))

-- of all pairs that are asked for, some were taken, and the cursor shows those that are left
abbrev pub IsAt : ScanContent → Pairs → Walk → Type 0
IsAt s ps w = IsUnderWay s.limit (scanned s ps) (bare_left s.keys_alone s.downwards w.at ps) w.held

abbrev pub IsOver : ScanContent → Pairs → Walk → Type 0
IsOver s ps w = HasTaken s.limit (scanned s ps) w.held

-- under way, or at its end
abbrev pub IsAtOrOver : ScanContent → Pairs → Walk → Bool → Type 0
IsAtOrOver s ps w true = IsAt s ps w
IsAtOrOver s ps w false = IsOver s ps w

-- a page more
abbrev pub GoesOn : ScanContent → Pairs → Walk → Walk → Bool → Type 0
GoesOn s ps old new on = IsAt s ps old → IsAtOrOver s ps new on
