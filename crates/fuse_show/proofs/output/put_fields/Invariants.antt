use Rattle.std.proofs.Common.{◌++◌, take, decimal}
use Rattle.std.specs.List.{flat_map}
use Rattle.fuse_show.specs.Sinks.{TookBytes}
use Rattle.fuse_show.proofs.output.put_fields.Given as goal

abbrev pub invariant-loop-field : goal.invariant-loop-field
invariant-loop-field g l = TookBytes g.W.Sink.was_written l.fn.writer l.writer (flat_map (λ f. f.0.now ++ decimal f.1) (take l.field-index l.fields))
