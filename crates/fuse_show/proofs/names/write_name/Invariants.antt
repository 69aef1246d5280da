use Rattle.std.proofs.Common.{take}
use Rattle.std.specs.List.{flat_map}
use Rattle.fuse_show.specs.Names.{byte_text}
use Rattle.fuse_show.specs.Sinks.{TookBytes}
use Rattle.fuse_show.proofs.names.write_name.Given as goal

abbrev pub invariant-loop-byte : goal.invariant-loop-byte
invariant-loop-byte g l = TookBytes g.W.Sink.was_written l.fn.writer l.writer (flat_map byte_text (take l.byte-index l.name))
