use Rattle.std.proofs.Common.{◌≡◌, ◌≤◌, ◌+◌, ℕ, true, false, List, length, take, drop, sym, ap, ◌∙◌, arith}
use Rattle.fuse_request.specs.Stream.{cut}
use Rattle.alone_source.specs.Turns.{is_alone}
use Rattle.alone_source.proofs.Befores.{place, place_is, place_found, place_passed, place_none, leads, none_leads, firsts}
use Rattle.alone_source.proofs.messages.len_before.Goals as goal

pub loop-len-init : goal.loop-len-init
loop-len-init c = record { here = omega arith; same = place_is c.args.id c.args.bytes.now }

pub returns-then-is_alone : goal.returns-then-is_alone
returns-then-is_alone c =
    let rest : List ℕ = c.loop-len.rest.now in
    let at : ℕ = c.loop-len.at in
    let n : ℕ = c.in-Some.len in
    let f = leads c.cut_steps.ensures n rest c.in-Some.ensures in
    let is : is_alone c.args.id (take n rest) ≡ true =
    ap (is_alone c.args.id) (sym c.split_at.ensures.front) ∙ sym c.is_alone.ensures ∙ c.if-is_alone.true in
    sym (place_found at (length c.args.bytes.now) c.args.id (cut rest).0 (cut (drop n rest)).0 (take n rest) (firsts _ _ f.cuts) is)
    ∙ c.loop-len.invariant.same

pub loop-len-preserved : goal.loop-len-preserved
loop-len-preserved c =
    let all : ℕ = length c.args.bytes.now in
    let rest : List ℕ = c.loop-len.rest.now in
    let at : ℕ = c.loop-len.at in
    let n : ℕ = c.in-Some.len in
    let f = leads c.cut_steps.ensures n rest c.in-Some.ensures in
    let there : n ≤ length rest = f.there in
    let here : at + length rest ≡ all = c.loop-len.invariant.here in
    let other : is_alone c.args.id (take n rest) ≡ false =
    ap (is_alone c.args.id) (sym c.split_at.ensures.front) ∙ sym c.is_alone.ensures ∙ c.if-is_alone.false in
    let passed = place_passed at all c.args.id (cut rest).0 (cut (drop n rest)).0 (take n rest) (firsts _ _ f.cuts) other in
    let back_len = c.split_at.ensures.back_len in
    record {
      here = omega arith;
      same = ap (λ (x : List ℕ). place (at + n) all c.args.id (cut x).0) c.split_at.ensures.back
          ∙ sym (ap (λ (k : ℕ). place (at + k) all c.args.id (cut (drop n rest)).0) f.len) ∙ sym passed ∙ c.loop-len.invariant.same;
    }

pub returns : goal.returns
returns c =
    let rest : List ℕ = c.loop-len.rest.now in
    sym (place_none c.loop-len.at (length c.args.bytes.now) c.args.id (cut rest).0
    (firsts _ _ (none_leads c.cut_steps.ensures rest c.in_default.ensures))) ∙ c.loop-len.invariant.same
