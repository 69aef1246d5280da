use Rattle.std.proofs.Common.{rules, ◌≡◌, [], length, refl}
use Rattle.std.specs.Prelude.{Ok, Err}
use Rattle.fuse_show.proofs.Sinking.{takes_none, takes_one, puts_all, puts_refused, part_more, part_whole}
use Rattle.fuse_show.proofs.output.put.Goals as goal

pub loop-rest-init : goal.loop-rest-init
loop-rest-init g c = record { bytes = []; takes = takes_none g.W.Sink.was_written _; so = refl }

pub loop-rest-preserved : goal.loop-rest-preserved
loop-rest-preserved g c =
    let before = c.loop-rest.invariant in
    record {
      bytes = _;
      takes = takes_one g.W.Sink.was_written _ _ _ c.in-Ok.n _ c.loop-rest.rest.now before.takes c.in-Ok.ensures.once;
      so = part_more c.args.text.now before.bytes c.loop-rest.rest.now c.in-Ok.n before.so;
    }

pub returns-in-Err-clause-put : goal.returns-in-Err-clause-put
returns-in-Err-clause-put g c =
    let before = c.loop-rest.invariant in
    let some : c.loop-rest.rest.now ≡ [] → ⊥ = search rules in
    puts_refused g.W.Sink.was_written _ _ _ _ before.bytes before.takes
    (record { slice = c.loop-rest.rest.now; some = some; write = Err _; was = c.in-Err.ensures.once; none = tt })
    ((c.loop-rest.rest.now, before.so), refl)

pub returns-then-n-eq0-clause-put : goal.returns-then-n-eq0-clause-put
returns-then-n-eq0-clause-put g c =
    let before = c.loop-rest.invariant in
    let some : c.loop-rest.rest.now ≡ [] → ⊥ = search rules in
    puts_refused g.W.Sink.was_written _ _ _ _ before.bytes before.takes
    (record { slice = c.loop-rest.rest.now; some = some; write = Ok c.in-Ok.n; was = c.in-Ok.ensures.once; none = c.if-n-eq0.true })
    ((c.loop-rest.rest.now, before.so), refl)

pub returns-clause-put : goal.returns-clause-put
returns-clause-put g c =
    let before = c.loop-rest.invariant in
    let none : length c.loop-rest.rest.now ≡ 0 = search rules in
    puts_all g.W.Sink.was_written _ _ _ _ before.bytes before.takes (part_whole c.args.text.now before.bytes c.loop-rest.rest.now before.so none)
