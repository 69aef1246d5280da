use Rattle.std.proofs.Common.{length, ap, arith}
use Rattle.std.proofs.lemmas.List.{length-take}
use Rattle.fuse_answer.specs.Bodies.{entry_parts}
use Rattle.fuse_answer.proofs.Readings.{laid_halves}
use Rattle.fuse_answer.proofs.bodies.entry_in.Goals as goal

pub returns : goal.returns
returns c =
    laid_halves (c.numbers_read.ensures, c.layouts_stand.ensures) 40 6 (entry_parts _) c.args.bytes.now c.split_at.result.0.now
    c.split_at.result.1.now (λ i. omega (arith, c.type_inv.bytes i))
    c.split_at.ensures.front c.split_at.ensures.back (
      c.u64_at.ensures,
      (
        c.u64_at-2.ensures,
        (
          c.u64_at-3.ensures,
          (
            c.u64_at-4.ensures,
            (
              c.u32_at.ensures,
              (
                c.u32_at-2.ensures,
                omega
                    (arith, ap length c.split_at.ensures.front, c.requires, length-take 40 c.args.bytes.now),
              ),
            ),
          ),
        ),
      ),
    ) c.attr_of.ensures
