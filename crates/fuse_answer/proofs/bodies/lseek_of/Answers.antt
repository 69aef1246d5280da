use Rattle.std.proofs.Common.{refl, arith}
use Rattle.fuse_answer.specs.FurtherAnswers.{lseek_parts}
use Rattle.fuse_answer.proofs.bodies.lseek_of.Goals as goal

pub returns : goal.returns
returns c =
    let laid = c.layouts_stand.ensures.placed (lseek_parts _) c.args.body.now (λ i. omega (arith, c.type_inv.body i))
    (c.u64_at.ensures, c.if-body-ne-SIZE.false) in
    record { of_kind = refl; laid = laid; proper = tt }
