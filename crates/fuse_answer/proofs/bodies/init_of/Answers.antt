use Rattle.std.proofs.Common.{refl, arith}
use Rattle.fuse_answer.specs.Bodies.{init_parts}
use Rattle.fuse_answer.proofs.bodies.init_of.Goals as goal

pub returns : goal.returns
returns c =
    let b = c.args.body.now in
    let laid = c.layouts_stand.ensures.placed (init_parts _) b (λ i. omega (arith, c.type_inv.body i)) (
      c.u32_at.ensures,
      (
        c.u32_at-2.ensures,
        (
          c.u32_at-3.ensures,
          (
            c.u32_at-4.ensures,
            (
              c.u16_at.ensures,
              (
                c.u16_at-2.ensures,
                (
                  c.u32_at-5.ensures,
                  (
                    c.u32_at-6.ensures,
                    (
                      c.u16_at-3.ensures,
                      (c.u16_at-4.ensures, (c.u32_at-7.ensures, (c.u32_at-8.ensures, c.if-body-ne-SIZE.false))),
                    ),
                  ),
                ),
              ),
            ),
          ),
        ),
      ),
    ) in
    record { of_kind = refl; laid = laid; proper = tt }
