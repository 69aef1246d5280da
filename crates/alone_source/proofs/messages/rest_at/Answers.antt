use Rattle.std.proofs.Common.{◌≡◌, ◌≤◌, ℕ, List, length, drop, sym, ap, ◌∙◌, arith}
use Rattle.std.proofs.lemmas.List.{length-drop, drop-drop}
use Rattle.fuse_request.specs.Stream.{cut}
use Rattle.alone_source.proofs.Befores.{leads, none_leads, seconds}
use Rattle.alone_source.proofs.messages.rest_at.Goals as goal

pub loop-len-preserved : goal.loop-len-preserved
loop-len-preserved c =
    let w : List ℕ = c.args.bytes.now in
    let at : ℕ = c.loop-len.at in
    let n : ℕ = c.in-Some.len in
    let rest : List ℕ = c.loop-len.rest.now in
    let f = leads c.cut_steps.ensures n rest c.in-Some.ensures in
    let there : n ≤ length rest = f.there in
    let within : at ≤ length w = c.loop-len.invariant.within in
    let here : rest ≡ drop at w = c.loop-len.invariant.here in
    let len : length rest ≡ length (drop at w) = ap length here in
    let back = c.split_at.ensures.back in
    record {
      within = omega (arith, length-drop at w);
      here = back ∙ ap (drop n) here ∙ drop-drop n at w;
      rest = ap (λ (x : List ℕ). (cut x).1) back ∙ sym (seconds _ _ f.cuts) ∙ c.loop-len.invariant.rest;
    }

pub returns-clause-rest : goal.returns-clause-rest
returns-clause-rest c =
    sym c.loop-len.invariant.here ∙ sym (seconds _ _ (none_leads c.cut_steps.ensures c.loop-len.rest.now c.in_default.ensures))
    ∙ c.loop-len.invariant.rest
