use Rattle.std.proofs.Common.{◌≡◌, None}
use Rattle.sqlite.specs.Held.{state}
use Rattle.guest_store.specs.Holding.{records_of}
use Rattle.guest_store.specs.StoreState.{held_as}
use Rattle.guest_store.proofs.Rests.{held_at_rest, look_any, map_ok, map_err, rest_none}
use Rattle.guest_store.proofs.Tables.{found_fits, none_recorded}
use Rattle.std.proofs.Common.{sym}
use Rattle.guest_store.proofs.reads.answer_at_rest.Goals as goal

pub returns-then-id-ge-END : goal.returns-then-id-ge-END
returns-then-id-ge-END g c = λ t.
    rest_none g.G.Guested.GUEST (λ y r. r ≡ records_of y.kept c.args.id) (state g.S.Store c.args.conn.now) t None
    (λ y records. sym (none_recorded c.args.id y.kept c.if-id-ge-END.true records))

pub returns : goal.returns
returns g c = λ t.
    let G = g.G.Guested.GUEST in
    let a = state g.S.Store c.args.conn.now in
    look_any G (λ y r. r ≡ records_of y.kept c.args.id) a (state g.S.Store c.find_answer.new.conn) t c.find_answer.result c.find_answer.ensures.rests
    c.find_answer.ensures.open c.find_answer.ensures.plain
    (λ clean. map_ok c.find_answer.result _ _ (λ x is n y at. is (held_as G n y) (held_at_rest G n y a at)) (c.find_answer.ensures.value_at_rest clean))
    (λ clean. map_err c.find_answer.result _ _
    (λ f is n y at. is (held_as G n y) (held_at_rest G n y a at) (found_fits c.args.id y.kept at.holds.records)) (c.find_answer.ensures.safe clean))
