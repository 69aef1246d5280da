use Rattle.std.proofs.Common.{◌≡◌, None, take}
use Rattle.std.specs.List.{flat_map, AllByRecursion}
use Rattle.fuse_show.specs.Looks.{ReadOff}
use Rattle.fuse_tree.specs.RowsOfTrees.{LeadsToRow}
use Rattle.fuse_show.specs.Listing.{AreLines, line_of_entry}
use Rattle.fuse_show.proofs.Sinking.{Took}
use Rattle.fuse_show.proofs.listing.show_entries.Given as goal

abbrev pub invariant-loop-entry : goal.invariant-loop-entry
invariant-loop-entry g l = record {
  fault : g.L.Look.fault l.look ≡ None;
  looks : g.L.Look.looks l.fn.look l.look;
  lines : Took g.W.Sink.was_written l.fn.writer l.writer (λ bytes. ReadOff (g.L.Look.is_clean l.look) (g.L.Look.sees l.fn.look) (λ rows.
      AllByRecursion (LeadsToRow rows) l.entries → bytes ≡ flat_map (line_of_entry rows) (take l.entry-index l.entries)));
  any : Took g.W.Sink.was_written l.fn.writer l.writer AreLines;
}
