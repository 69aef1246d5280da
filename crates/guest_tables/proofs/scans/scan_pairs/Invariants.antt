use Rattle.std.proofs.Common.{cond, suc, ◌≡◌, Ok}
use Rattle.sqlite.specs.Held.{state}
use Rattle.sqlite.specs.State.{HasCleanDisk}
use Rattle.guest_frames.specs.Borrowed.{scan_content}
use Rattle.fuse_keeper.specs.declared.fault.StoreFault.{StoreFault}
use Rattle.guest_tables.specs.Content.{GuestContent}
use Rattle.guest_tables.specs.Holding.{pairs_in}
use Rattle.guest_tables.specs.Moves.{Inside, Makes}
use Rattle.guest_tables.specs.inner.Walks.{IsAtOrOver}
use Rattle.guest_tables.proofs.scans.scan_pairs.Given as goal

abbrev pub invariant-pages : goal.invariant-pages
invariant-pages g l = (l.scan ≡ l.fn.scan)
    × Makes {X = Unit {0}} {E = StoreFault} (λ c. c) (state g.S.Store l.fn.conn) (state g.S.Store l.conn) (Ok tt)
    × (HasCleanDisk (state g.S.Store l.conn) → (c : GuestContent) → Inside c (state g.S.Store l.fn.conn)
    → IsAtOrOver (scan_content l.fn.scan) (pairs_in c) l.walk l.on)

abbrev pub decreases-pages : goal.decreases-pages
decreases-pages g l = cond l.on (suc l.walk.held.room) 0
