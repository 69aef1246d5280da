use Rattle.std.proofs.Common.{length, ap, refl, arith}
use Rattle.std.proofs.lemmas.List.{length-take}
use Rattle.fuse_answer.specs.Bodies.{attr_out_parts}
use Rattle.fuse_answer.proofs.Readings.{laid_halves}
use Rattle.fuse_answer.proofs.bodies.attributes_of.Goals as goal

pub returns : goal.returns
returns c =
    let laid = laid_halves (c.numbers_read.ensures, c.layouts_stand.ensures) 16 3 (attr_out_parts _) c.args.body.now c.split_at.result.0.now
    c.split_at.result.1.now (λ i. omega (arith, c.type_inv.body i))
    c.split_at.ensures.front c.split_at.ensures.back (
      c.u64_at.ensures,
      (c.u32_at.ensures, omega (arith, ap length c.split_at.ensures.front, c.if-body-ne-SIZE.false, length-take 16 c.args.body.now)),
    ) c.attr_of.ensures in
    record { of_kind = refl; laid = laid; proper = tt }
