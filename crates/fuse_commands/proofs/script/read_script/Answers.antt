use Rattle.std.proofs.Common.{◌+◌, inr, refl, ap, subst, ◌∙◌}
use Rattle.fuse_commands.specs.Scripts.{FirstBad}
use Rattle.fuse_commands.specs.inner.Scripts.{parts_in}
use Rattle.fuse_commands.proofs.Scripted.{part_taken, part_bad}
use Rattle.fuse_commands.proofs.script.read_script.Goals as goal

pub returns-in-Err-Form-clause-bad : goal.returns-in-Err-Form-clause-bad
returns-in-Err-Form-clause-bad c =
    let same = ap parts_in c.deref-line-items.ensures.value ∙ c.in_ok-lines.ensures in
    let bad = c.in-Err-Form.ensures.form c.in-Err-Form.field-0-is in
    inr (
      _,
      refl,
      subst (λ x. FirstBad 1 x (c.loop-index.index + 1)) same
          (part_bad c.deref-line-items.result.now c.loop-index.index _ c.loop-index.events.items c.loop-index-test.true c.loop-index.invariant bad),
    )

pub loop-index-preserved : goal.loop-index-preserved
loop-index-preserved c =
    part_taken c.deref-line-items.result.now c.loop-index.index _ c.loop-index.events.items c.take_line.new.events.items c.loop-index-test.true
    c.loop-index.invariant c.in-Ok.ensures.took
