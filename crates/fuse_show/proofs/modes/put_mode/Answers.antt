use Rattle.std.proofs.Common.{[]}
use Rattle.fuse_show.specs.Modes.{mode_text, kind_text, owner_text, group_text, others_text}
use Rattle.fuse_show.proofs.Sinking.{takes_none, text_ends}
use Rattle.fuse_show.proofs.Texts.{letters}
use Rattle.fuse_show.proofs.modes.put_mode.Goals as goal

pub returns-clause-put : goal.returns-clause-put
returns-clause-put g c =
    let mode = c.args.mode in
    let o = c.owner_class-owner.result in
    let p = c.group_class-group.result in
    let x = c.others_class-others.result in
    text_ends g.W.Sink.was_written _ _ _ c.put_texts.result (mode_text mode) [] _ (takes_none g.W.Sink.was_written _)
    (letters c.kind_of.result.now o.read.now o.write.now o.run.now p.read.now p.write.now p.run.now x.read.now x.write.now x.run.now (kind_text mode) (owner_text mode) (group_text mode) (others_text mode) c.kind_of.ensures c.owner_class-owner.ensures
    c.group_class-group.ensures c.others_class-others.ensures) c.put_texts.ensures.put
