use Rattle.std.proofs.Common.{take}
use Rattle.std.specs.List.{flat_map}
use Rattle.fuse_show.specs.Sinks.{TookBytes}
use Rattle.fuse_show.proofs.output.put_texts.Given as goal

abbrev pub invariant-loop-text : goal.invariant-loop-text
invariant-loop-text g l = TookBytes g.W.Sink.was_written l.fn.writer l.writer (flat_map (λ t. t.now) (take l.text-index l.texts))
