use Rattle.std.proofs.Common.{◌++◌, ℕ, List, [], ap, refl}
use Rattle.fuse_show.specs.Listing.{links_of_row}
use Rattle.fuse_show.specs.Modes.{mode_text}
use Rattle.fuse_show.proofs.Sinking.{takes_none, text_stop, text_then, text_ends}
use Rattle.fuse_show.proofs.Texts.{row_fields}
use Rattle.fuse_show.proofs.listing.put_row.Goals as goal

pub returns-in-Err-clause-put : goal.returns-in-Err-clause-put
returns-in-Err-clause-put g c =
    text_stop g.W.Sink.was_written _ _ _ c.in-Err.fault _ [] (mode_text c.args.row.now.mode) _ (takes_none g.W.Sink.was_written _) refl c.in-Err.ensures.put

pub returns-clause-put : goal.returns-clause-put
returns-clause-put g c =
    let row = c.args.row.now in
    text_ends g.W.Sink.was_written _ _ _ c.put_fields.result _ (mode_text row.mode) _ (text_then g.W.Sink.was_written _ _ _ _ [] (mode_text row.mode) (takes_none g.W.Sink.was_written _) c.in-Ok.ensures.put)
    (ap (λ (y : List ℕ). mode_text row.mode ++ y)
    (row_fields (links_of_row row) row.uid row.gid row.size row.node _ _ _ c.links_of.ensures c.from.ensures c.from-2.ensures)) c.put_fields.ensures.put
