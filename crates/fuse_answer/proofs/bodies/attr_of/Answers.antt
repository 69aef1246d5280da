use Rattle.std.proofs.Common.{arith}
use Rattle.fuse_answer.specs.Bodies.{attr_parts}
use Rattle.fuse_answer.proofs.bodies.attr_of.Goals as goal

pub returns : goal.returns
returns c =
    c.layouts_stand.ensures.placed (attr_parts _) c.args.bytes.now (λ i. omega (arith, c.type_inv.bytes i)) (
      c.u64_at.ensures,
      (
        c.u64_at-2.ensures,
        (
          c.u64_at-3.ensures,
          (
            c.u64_at-4.ensures,
            (
              c.u64_at-5.ensures,
              (
                c.u64_at-6.ensures,
                (
                  c.u32_at.ensures,
                  (
                    c.u32_at-2.ensures,
                    (
                      c.u32_at-3.ensures,
                      (
                        c.u32_at-4.ensures,
                        (
                          c.u32_at-5.ensures,
                          (
                            c.u32_at-6.ensures,
                            (c.u32_at-7.ensures, (c.u32_at-8.ensures, (c.u32_at-9.ensures, (c.u32_at-10.ensures, c.requires)))),
                          ),
                        ),
                      ),
                    ),
                  ),
                ),
              ),
            ),
          ),
        ),
      ),
    )
