use Rattle.std.proofs.Common.{◌≡◌, ℤ, ap, ◌∙◌, arith, w32, to_z, of_z}
use Rattle.std.proofs.lemmas.Int.{of_z-to_z}
use Rattle.fuse_answer.specs.Bodies.{open_parts}
use Rattle.fuse_answer.proofs.bodies.open_in.Goals as goal

pub returns-clause-laid : goal.returns-clause-laid
returns-clause-laid c =
    let z : ℤ = c.cast_signed.result in
    let bits : of_z w32 z ≡ c.u32_at-2.result = ap (of_z w32) c.cast_signed.ensures ∙ of_z-to_z w32 c.u32_at-2.result (omega arith) in
    let twice = of_z-to_z w32 (of_z w32 z) (omega (arith, bits)) in
    c.layouts_stand.ensures.placed (open_parts (record {
      fh = c.u64_at.result;
      open_flags = c.u32_at.result;
      backing_id = to_z w32 (of_z w32 c.cast_signed.result);
    })) c.args.bytes.now (λ i. omega (arith, c.type_inv.bytes i))
    (c.u64_at.ensures, (c.u32_at.ensures, (twice ∙ bits ∙ c.u32_at-2.ensures, c.requires)))
