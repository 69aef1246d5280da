use Rattle.std.proofs.Common.{◌≡◌, ◌≤◌, ◌-◌, None, Some, take}
use Rattle.fuse_rows.specs.Rows.{row_at}
use Rattle.fuse_show.specs.Looks.{ReadOff}
use Rattle.fuse_show.specs.Content.{content_at}
use Rattle.fuse_show.proofs.Sinking.{Took}
use Rattle.fuse_show.proofs.content.copy.Given as goal

abbrev pub decreases-loop-offset : goal.decreases-loop-offset
decreases-loop-offset g l = l.row.size - l.offset

abbrev pub invariant-loop-offset : goal.invariant-loop-offset
invariant-loop-offset g l = record {
  fault : g.L.Look.fault l.look ≡ None;
  looks : g.L.Look.looks l.fn.look l.look;
  within : l.offset ≤ l.row.size;
  bytes : Took g.W.Sink.was_written l.fn.writer l.writer (λ bytes. ReadOff (g.L.Look.is_clean l.look) (g.L.Look.sees l.fn.look) (λ rows.
      row_at rows l.row.node ≡ Some l.row → bytes ≡ take l.offset (content_at rows l.row.node)));
}
