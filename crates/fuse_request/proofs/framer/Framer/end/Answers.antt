use Rattle.std.proofs.Common.{ℕ, List, ap, ◌∙◌, arith}
use Rattle.fuse_request.specs.Stream.{cut}
use Rattle.fuse_request.proofs.Framing.{pass, ended_at}
use Rattle.fuse_request.proofs.framer.Framer.end.Goals as goal

pub loop-len-preserved : goal.loop-len-preserved
loop-len-preserved c =
    let p = pass c.numbers_read.ensures c.in-Some.len c.loop-len.rest.now c.in-Some.ensures in
    let there = p.there in
    let back = c.split_at.ensures.back in
    record {
      follows = omega (arith, c.loop-len.invariant.follows);
      place = omega (arith, c.loop-len.invariant.place, c.split_at.ensures.back_len);
      rest = ap (λ (w : List ℕ). (cut w).1) back ∙ p.rest ∙ c.loop-len.invariant.rest;
    }

pub returns : goal.returns
returns c =
    let i = c.loop-len.invariant in
    c.end_of.ensures ∙ ended_at c.numbers_read.ensures c.args.self.now c.loop-len.at c.loop-len.rest.now i.follows i.place i.rest c.in_default.ensures
