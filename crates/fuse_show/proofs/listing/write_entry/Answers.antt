use Rattle.std.proofs.Common.{◌++◌, ℕ, List, [], codes, refl, sym, ◌∙◌, append_assoc}
use Rattle.fuse_show.specs.Listing.{row_text, entry_line}
use Rattle.fuse_show.specs.Names.{name_text}
use Rattle.fuse_show.proofs.Sinking.{takes_none, text_stop, text_then, text_ends}
use Rattle.fuse_show.proofs.listing.write_entry.Goals as goal

pub returns-in-Err-clause-put : goal.returns-in-Err-clause-put
returns-in-Err-clause-put g c =
    let row = row_text c.args.row.now in
    let name = name_text c.args.name.now in
    text_stop g.W.Sink.was_written _ _ _ c.in-Err.fault (entry_line c.args.name.now c.args.row.now) [] row (codes " " ++ (name ++ codes "\n")) (takes_none g.W.Sink.was_written _) refl
    c.in-Err.ensures.put

pub returns-in-Err-put-clause-put : goal.returns-in-Err-put-clause-put
returns-in-Err-put-clause-put g c =
    let row = row_text c.args.row.now in
    let name = name_text c.args.name.now in
    let first = text_then g.W.Sink.was_written _ _ _ _ [] row (takes_none g.W.Sink.was_written _) c.in-Ok.ensures.put in
    text_stop g.W.Sink.was_written _ _ _ c.in-Err-put.fault (entry_line c.args.name.now c.args.row.now) row (codes " ") (name ++ codes "\n") first refl
    c.in-Err-put.ensures.put

pub returns-in-Err-write_name-clause-put : goal.returns-in-Err-write_name-clause-put
returns-in-Err-write_name-clause-put g c =
    let row = row_text c.args.row.now in
    let name = name_text c.args.name.now in
    let first = text_then g.W.Sink.was_written _ _ _ _ [] row (takes_none g.W.Sink.was_written _) c.in-Ok.ensures.put in
    let second = text_then g.W.Sink.was_written _ _ _ _ row (codes " ") first c.in-Ok-put.ensures.put in
    text_stop g.W.Sink.was_written _ _ _ c.in-Err-write_name.fault (entry_line c.args.name.now c.args.row.now) (row ++ codes " ") name (codes "\n") second
    (sym (append_assoc row (codes " ") (name ++ codes "\n"))) c.in-Err-write_name.ensures.put

pub returns-clause-put : goal.returns-clause-put
returns-clause-put g c =
    let row = row_text c.args.row.now in
    let name = name_text c.args.name.now in
    let first = text_then g.W.Sink.was_written _ _ _ _ [] row (takes_none g.W.Sink.was_written _) c.in-Ok.ensures.put in
    let second = text_then g.W.Sink.was_written _ _ _ _ row (codes " ") first c.in-Ok-put.ensures.put in
    let third = text_then g.W.Sink.was_written _ _ _ _ (row ++ codes " ") name second c.in-Ok-write_name.ensures.put in
    text_ends g.W.Sink.was_written _ _ _ c.put-2.result (entry_line c.args.name.now c.args.row.now) ((row ++ codes " ") ++ name) (codes "\n") third
    (sym (append_assoc row (codes " ") (name ++ codes "\n")) ∙ sym (append_assoc (row ++ codes " ") name (codes "\n"))) c.put-2.ensures.put
