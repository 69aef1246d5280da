use Rattle.std.proofs.Common.{length, List, map, ◌-◌, ◌<◌, ◌≡◌, ◌≤◌}
use Rattle.guest_frames.specs.Frames.{PairContent}
use Rattle.fuse_guest.specs.Telling.{bare_if}
use Rattle.guest_tables.specs.inner.Slices.{shown_pair}
use Rattle.guest_tables.proofs.PairColumns.{TookRows}
use Rattle.guest_tables.proofs.taking.take_rows.Given as goal

abbrev pub invariant-rows : goal.invariant-rows
invariant-rows l = (l.rows ≡ l.fn.rows) × (l.keys_alone ≡ l.fn.keys_alone) × (l.limit ≡ l.fn.limit) × (l.at ≤ length l.rows)
    × ((page : List PairContent) → l.fn.rows ≡ map (shown_pair l.fn.keys_alone) page
    → TookRows l.fn.limit l.at (map (bare_if l.fn.keys_alone) page) l.fn.held l.held)
    × (l.held.room ≤ l.fn.held.room) × (0 < l.at → l.held.room < l.fn.held.room)

abbrev pub decreases-rows : goal.decreases-rows
decreases-rows l = length l.rows - l.at
