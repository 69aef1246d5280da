use Rattle.std.proofs.Common.{◌≡◌, ℤ, ap, ◌∙◌, arith, w32, of_z}
use Rattle.std.proofs.lemmas.Int.{of_z-to_z}
use Rattle.fuse_answer.specs.Wire.{negated}
use Rattle.fuse_answer.proofs.wire.negation.Goals as goal

pub returns : goal.returns
returns c =
    let z : ℤ = c.cast_signed.result in
    let low : c.wrapping_neg.result ≡ negated c.args.errno = omega arith in
    let bits : of_z w32 z ≡ negated c.args.errno = ap (of_z w32) c.cast_signed.ensures ∙ of_z-to_z w32 c.wrapping_neg.result (omega arith) ∙ low in
    of_z-to_z w32 (of_z w32 z) (omega arith) ∙ bits
