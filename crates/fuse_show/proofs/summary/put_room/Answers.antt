use Rattle.std.proofs.Common.{◌++◌, ℕ, List, [], codes, decimal, refl, sym, ap, ◌∙◌, append_assoc}
use Rattle.fuse_show.specs.Summary.{room_text, size_of_blocks}
use Rattle.fuse_show.proofs.Sinking.{takes_none, puts_all, text_stop, text_then, text_ends}
use Rattle.fuse_show.proofs.Texts.{room_parts}
use Rattle.fuse_show.proofs.summary.put_room.Goals as goal

pub returns-in_default-clause-put : goal.returns-in_default-clause-put
returns-in_default-clause-put g c = puts_all g.W.Sink.was_written _ _ _ _ [] (takes_none g.W.Sink.was_written _) (sym (ap room_text c.in_default.is))

pub returns-in-Err-clause-put : goal.returns-in-Err-clause-put
returns-in-Err-clause-put g c =
    text_stop g.W.Sink.was_written _ _ _ c.in-Err.fault _ [] _ _ (takes_none g.W.Sink.was_written _)
    (room_parts c.args.room c.in-Some.room _ (size_of_blocks c.in-Some.room.used) c.in-Some.is c.bytes_in.ensures refl) c.in-Err.ensures.put

pub returns-in-Err-put_field-clause-put : goal.returns-in-Err-put_field-clause-put
returns-in-Err-put_field-clause-put g c =
    text_stop g.W.Sink.was_written _ _ _ c.in-Err-put_field.fault _ _ _ (codes "\n") (text_then g.W.Sink.was_written _ _ _ _ [] _ (takes_none g.W.Sink.was_written _) c.in-Ok.ensures.put)
    (room_parts c.args.room c.in-Some.room _ _ c.in-Some.is c.bytes_in.ensures c.bytes_in-2.ensures) c.in-Err-put_field.ensures.put

pub returns-clause-put : goal.returns-clause-put
returns-clause-put g c =
    let first = text_then g.W.Sink.was_written _ _ _ _ [] _ (takes_none g.W.Sink.was_written _) c.in-Ok.ensures.put in
    let second = text_then g.W.Sink.was_written _ _ _ _ _ _ first c.in-Ok-put_field.ensures.put in
    text_ends g.W.Sink.was_written _ _ _ c.put.result _ _ (codes "\n") second
    (room_parts c.args.room c.in-Some.room _ _ c.in-Some.is c.bytes_in.ensures c.bytes_in-2.ensures ∙ sym (append_assoc (codes "profile=everyday\ncapacity=" ++ decimal c.bytes_in.result) (codes "\nused=" ++ decimal c.bytes_in-2.result) (codes "\n"))) c.put.ensures.put
