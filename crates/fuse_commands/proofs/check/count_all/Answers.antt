use Rattle.std.proofs.Common.{◌≡◌, arith}
use Rattle.std.proofs.lemmas.Result.{err_from_is_err_and}
use Rattle.fuse_commands.specs.inner.Messages.{left_in, place_in}
use Rattle.fuse_commands.specs.Checking.{checked}
use Rattle.fuse_commands.proofs.Tallies.{none_yet, some_counted, are_few, went_err, went_whole}
use Rattle.fuse_commands.proofs.check.count_all.Goals as goal

pub loop-placed-init : goal.loop-placed-init
loop-placed-init g c = none_yet _ _ (λ ms. c.args.counts.now ≡ checked ms) c.requires.place c.requires.none

pub count-requires-clause-messages : goal.count-requires-clause-messages
count-requires-clause-messages g c =
    let few = are_few _ _ _ _ c.loop-placed.invariant in
    let gives = rw c.in-Some.is at c.in_ok-placed.ensures.next in
    omega (arith, few.messages, c.in_ok-placed.ensures.few, gives.place)

pub count-requires-clause-malformed : goal.count-requires-clause-malformed
count-requires-clause-malformed g c =
    let few = are_few _ _ _ _ c.loop-placed.invariant in
    let gives = rw c.in-Some.is at c.in_ok-placed.ensures.next in
    omega (arith, few.malformed, c.in_ok-placed.ensures.few, gives.place)

pub count-requires-clause-unsupported : goal.count-requires-clause-unsupported
count-requires-clause-unsupported g c =
    let few = are_few _ _ _ _ c.loop-placed.invariant in
    let gives = rw c.in-Some.is at c.in_ok-placed.ensures.next in
    omega (arith, few.unsupported, c.in_ok-placed.ensures.few, gives.place)

pub loop-placed-preserved : goal.loop-placed-preserved
loop-placed-preserved g c =
    some_counted _ _ _ _ _ c.loop-placed.counts c.count.new.self c.in-Some.placed c.loop-placed.invariant (rw c.in-Some.is at c.in_ok-placed.ensures.next)
    (rw c.deref.ensures at c.count.ensures)

pub loop-placed-preserved-in-Some : goal.loop-placed-preserved-in-Some
loop-placed-preserved-in-Some g c =
    some_counted _ _ _ _ _ c.loop-placed.counts c.count.new.self c.in-Some.placed c.loop-placed.invariant (rw c.in-Some.is at c.in_ok-placed.ensures.next)
    (rw c.deref.ensures at c.count.ensures)

pub returns-in_err-placed : goal.returns-in_err-placed
returns-in_err-placed g c =
    let p = err_from_is_err_and c.from_residual.result c.from_residual.ensures.1 in
    rw (p.1, p.2)
    (went_err (left_in g.R.Read.remaining c.args.messages.now) _ (left_in g.R.Read.remaining c.next.new.self) _ (place_in c.next.new.self)
    (λ ms. c.loop-placed.counts ≡ checked ms) _ c.one_cut.ensures c.cut_steps.ensures c.loop-placed.invariant c.in_err-placed.ensures.next)

pub returns : goal.returns
returns g c = went_whole _ _ _ _ c.one_cut.ensures c.cut_steps.ensures c.loop-placed.invariant (rw c.in_default.is at c.in_ok-placed.ensures.next)
