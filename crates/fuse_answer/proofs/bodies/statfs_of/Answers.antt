use Rattle.std.proofs.Common.{refl, arith}
use Rattle.fuse_answer.specs.FurtherAnswers.{statfs_parts}
use Rattle.fuse_answer.proofs.bodies.statfs_of.Goals as goal

pub returns : goal.returns
returns c =
    let laid = c.layouts_stand.ensures.placed (statfs_parts _) c.args.body.now (λ i. omega (arith, c.type_inv.body i)) (
      c.u64_at.ensures,
      (
        c.u64_at-2.ensures,
        (
          c.u64_at-3.ensures,
          (
            c.u64_at-4.ensures,
            (c.u64_at-5.ensures, (c.u32_at.ensures, (c.u32_at-2.ensures, (c.u32_at-3.ensures, c.if-body-ne-SIZE.false)))),
          ),
        ),
      ),
    ) in
    record { of_kind = refl; laid = laid; proper = tt }
