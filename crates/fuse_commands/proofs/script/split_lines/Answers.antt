use Rattle.std.proofs.Common.{◌++◌, ap, ◌∙◌}
use Rattle.std.proofs.lemmas.List.{map-append}
use Rattle.fuse_commands.specs.Scripts.{lines_of}
use Rattle.fuse_commands.specs.inner.Scripts.{parts_in}
use Rattle.fuse_commands.proofs.Scripted.{line_cut, last_line}
use Rattle.fuse_commands.proofs.script.split_lines.Goals as goal

pub loop-line-preserved : goal.loop-line-preserved
loop-line-preserved c =
    let one = c.in-Some.ensures.some in
    let pushed = ap parts_in c.in_ok-push.ensures.items ∙ map-append (λ part. part.now) c.loop-line.lines.items _ in
    ap (λ x. x ++ lines_of c.in-Some.after.now) pushed
    ∙ line_cut (parts_in c.loop-line.lines.items) c.args.script.now c.loop-line.rest.now c.in-Some.line.now c.in-Some.after.now c.loop-line.invariant one.0
    one.1

pub returns : goal.returns
returns c =
    let pushed = ap parts_in c.in_ok-push-2.ensures.items ∙ map-append (λ part. part.now) c.loop-line.lines.items _ in
    pushed ∙ last_line (parts_in c.loop-line.lines.items) c.args.script.now c.loop-line.rest.now c.loop-line.invariant (c.split_at.ensures.none c.in_default.is)
