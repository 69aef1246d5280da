use Rattle.std.proofs.Common.{refl, [], append-nil, sym}
use Rattle.fuse_show.proofs.Sinking.{takes_none, puts_taken, part_of, written_stop, outputs_all, outputs_unflushed}
use Rattle.fuse_show.proofs.output.finish.Goals as goal

pub returns-in-Err-clause-ends : goal.returns-in-Err-clause-ends
returns-in-Err-clause-ends g c =
    written_stop g.W.Sink.was_written g.W.Sink.was_flushed _ _ _ c.in-Err.fault c.args.text.now [] c.args.text.now [] (takes_none g.W.Sink.was_written _)
    (sym (append-nil c.args.text.now)) c.in-Err.ensures.put

pub returns-in-Ok-flush_once-clause-ends : goal.returns-in-Ok-flush_once-clause-ends
returns-in-Ok-flush_once-clause-ends g c =
    let put = c.in-Ok.ensures.put in
    outputs_all g.W.Sink.was_written g.W.Sink.was_flushed _ _ _ _ put.bytes (puts_taken g.W.Sink.was_written _ _ _ _ put) c.in-Ok-flush_once.ensures.once put.so

pub returns-in-Err-flush_once-clause-ends : goal.returns-in-Err-flush_once-clause-ends
returns-in-Err-flush_once-clause-ends g c =
    let put = c.in-Ok.ensures.put in
    outputs_unflushed g.W.Sink.was_written g.W.Sink.was_flushed _ _ _ _ _ put.bytes (puts_taken g.W.Sink.was_written _ _ _ _ put)
    c.in-Err-flush_once.ensures.once (part_of put.bytes c.args.text.now put.so)
