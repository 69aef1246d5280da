use Rattle.std.proofs.Common.{◌++◌, [], refl, sym, append_assoc}
use Rattle.fuse_show.specs.Summary.{counts_text, room_text, settings_text, store_text}
use Rattle.fuse_show.proofs.Sinking.{takes_none, text_then, written_stop, written_ends}
use Rattle.fuse_show.proofs.summary.show_summary.Goals as goal

pub returns-in-Err-clause-shown : goal.returns-in-Err-clause-shown
returns-in-Err-clause-shown g c =
    let s = c.args.summary.now in
    written_stop g.W.Sink.was_written g.W.Sink.was_flushed _ _ _ c.in-Err.fault _ [] (counts_text s.version s.counts s.bytes) (room_text s.room ++ settings_text s.agreed) (takes_none g.W.Sink.was_written _) refl
    c.in-Err.ensures.put

pub returns-in-Err-put_room-clause-shown : goal.returns-in-Err-put_room-clause-shown
returns-in-Err-put_room-clause-shown g c =
    let s = c.args.summary.now in
    let counts = counts_text s.version s.counts s.bytes in
    written_stop g.W.Sink.was_written g.W.Sink.was_flushed _ _ _ c.in-Err-put_room.fault _ counts (room_text s.room) (settings_text s.agreed)
    (text_then g.W.Sink.was_written _ _ _ _ [] counts (takes_none g.W.Sink.was_written _) c.in-Ok.ensures.put) refl c.in-Err-put_room.ensures.put

pub returns-clause-shown : goal.returns-clause-shown
returns-clause-shown g c =
    let s = c.args.summary.now in
    let counts = counts_text s.version s.counts s.bytes in
    let first = text_then g.W.Sink.was_written _ _ _ _ [] counts (takes_none g.W.Sink.was_written _) c.in-Ok.ensures.put in
    let second = text_then g.W.Sink.was_written _ _ _ _ counts (room_text s.room) first c.in-Ok-put_room.ensures.put in
    written_ends g.W.Sink.was_written g.W.Sink.was_flushed _ _ _ c.finish_settings.result _ (counts ++ room_text s.room) (settings_text s.agreed) second
    (sym (append_assoc counts (room_text s.room) (settings_text s.agreed))) c.finish_settings.ensures.ends
