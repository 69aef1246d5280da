use Rattle.std.proofs.Common.{ℤ, ap, ◌∙◌, arith, w32, of_z}
use Rattle.std.proofs.lemmas.Int.{of_z-to_z}
use Rattle.fuse_answer.specs.Said.{Said}
use Rattle.fuse_answer.specs.Wire.{negated, wire_head}
use Rattle.fuse_answer.specs.Bodies.{header_bytes}
use Rattle.fuse_answer.proofs.Forms.{same-head}
use Rattle.fuse_answer.proofs.wire.head_of.Goals as goal

pub returns : goal.returns
unfolding wire_head header_bytes
returns c =
    let error : ℤ = c.negation.result in
    let bits = of_z-to_z w32 (of_z w32 error) (omega (arith, c.negation.ensures)) in
    let errno = ap (λ (x : Said). negated x.errno) c.answer.view_is in
    let body = ap (λ (x : Said). x.body) c.answer.view_is in
    c.bytes.ensures.bytes ∙ same-head _ _ _ _ c.args.unique (c.as_slice.ensures ∙ body) (bits ∙ c.negation.ensures ∙ errno)
