use Rattle.std.proofs.Common.{◌++◌, ℕ, List, [], codes, refl, sym, ◌∙◌, append_assoc}
use Rattle.fuse_show.specs.Findings.{line_at}
use Rattle.fuse_show.specs.Names.{name_text}
use Rattle.fuse_show.proofs.Found.{line_parts}
use Rattle.fuse_show.proofs.Sinking.{takes_none, text_then, written_stop, written_ends}
use Rattle.fuse_show.proofs.findings.show_line.Goals as goal

pub returns-in-Err-clause-shown : goal.returns-in-Err-clause-shown
returns-in-Err-clause-shown g c =
    let rest : List ℕ = name_text c.args.path.now ++ (codes ": " ++ (c.args.text.now ++ codes "\n")) in
    written_stop g.W.Sink.was_written g.W.Sink.was_flushed _ _ _ c.in-Err.fault (line_at c.args.path.now c.args.text.now) [] (codes "/") rest
    (takes_none g.W.Sink.was_written _) refl c.in-Err.ensures.put

pub returns-in-Err-write_name-clause-shown : goal.returns-in-Err-write_name-clause-shown
returns-in-Err-write_name-clause-shown g c =
    let rest : List ℕ = codes ": " ++ (c.args.text.now ++ codes "\n") in
    let first = text_then g.W.Sink.was_written _ _ _ _ [] (codes "/") (takes_none g.W.Sink.was_written _) c.in-Ok.ensures.put in
    written_stop g.W.Sink.was_written g.W.Sink.was_flushed _ _ _ c.in-Err-write_name.fault (line_at c.args.path.now c.args.text.now) (codes "/")
    (name_text c.args.path.now) rest first refl c.in-Err-write_name.ensures.put

pub returns-in-Err-put_texts-clause-shown : goal.returns-in-Err-put_texts-clause-shown
returns-in-Err-put_texts-clause-shown g c =
    let name = name_text c.args.path.now in
    let texts : List ℕ = codes ": " ++ (c.args.text.now ++ []) in
    let first = text_then g.W.Sink.was_written _ _ _ _ [] (codes "/") (takes_none g.W.Sink.was_written _) c.in-Ok.ensures.put in
    let second = text_then g.W.Sink.was_written _ _ _ _ (codes "/") name first c.in-Ok-write_name.ensures.put in
    written_stop g.W.Sink.was_written g.W.Sink.was_flushed _ _ _ c.in-Err-put_texts.fault (line_at c.args.path.now c.args.text.now) (codes "/" ++ name)
    texts (codes "\n") second (line_parts c.args.path.now c.args.text.now) c.in-Err-put_texts.ensures.put

pub returns-clause-shown : goal.returns-clause-shown
returns-clause-shown g c =
    let name = name_text c.args.path.now in
    let texts : List ℕ = codes ": " ++ (c.args.text.now ++ []) in
    let first = text_then g.W.Sink.was_written _ _ _ _ [] (codes "/") (takes_none g.W.Sink.was_written _) c.in-Ok.ensures.put in
    let second = text_then g.W.Sink.was_written _ _ _ _ (codes "/") name first c.in-Ok-write_name.ensures.put in
    let third = text_then g.W.Sink.was_written _ _ _ _ (codes "/" ++ name) texts second c.in-Ok-put_texts.ensures.put in
    written_ends g.W.Sink.was_written g.W.Sink.was_flushed _ _ _ c.finish.result (line_at c.args.path.now c.args.text.now) ((codes "/" ++ name) ++ texts)
    (codes "\n") third
    (line_parts c.args.path.now c.args.text.now ∙ sym (append_assoc (codes "/" ++ name) texts (codes "\n")))
    c.finish.ensures.ends
