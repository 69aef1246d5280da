use Rattle.std.proofs.Common.{◌≡◌, ◌++◌, None}
use Rattle.fuse_show.specs.Looks.{ReadOff}
use Rattle.fuse_show.specs.Listing.{AreLines, listing}
use Rattle.fuse_show.specs.inner.Pages.{lines_left}
use Rattle.fuse_show.proofs.Pages.{cookies_left}
use Rattle.fuse_show.proofs.Sinking.{Took}
use Rattle.fuse_show.proofs.listing.list.Given as goal

abbrev pub decreases-loop-left : goal.decreases-loop-left
decreases-loop-left g l = cookies_left l.left

abbrev pub invariant-loop-left : goal.invariant-loop-left
invariant-loop-left g l = record {
  fault : g.L.Look.fault l.look ≡ None;
  looks : g.L.Look.looks l.fn.look l.look;
  lines : Took g.W.Sink.was_written l.fn.writer l.writer (λ bytes. ReadOff (g.L.Look.is_clean l.look) (g.L.Look.sees l.fn.look) (λ rows.
      listing rows l.dir ≡ bytes ++ lines_left rows l.dir l.left));
  any : Took g.W.Sink.was_written l.fn.writer l.writer AreLines;
}
