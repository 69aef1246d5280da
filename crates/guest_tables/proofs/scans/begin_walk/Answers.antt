use Rattle.std.proofs.Common.{refl, false}
use Rattle.guest_frames.specs.Borrowed.{scan_content}
use Rattle.guest_tables.proofs.PairWalks.{at_first}
use Rattle.guest_tables.proofs.scans.begin_walk.Goals as goal

pub returns : goal.returns
returns c ps =
    at_first (scan_content c.args.scan.now) ps (record { at = c.in_ok-at.at; held = record { pairs = c.new.result; room = 1048560; more = false } })
    c.in_ok-at.ensures.from c.in_ok-at.ensures.to c.in_ok-at.ensures.bounded c.new.ensures.items refl
