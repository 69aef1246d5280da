use Rattle.std.proofs.Common.{◌≡◌, length}
use Rattle.sqlite.specs.Held.{state}
use Rattle.guest_store.specs.StoreState.{held_as}
use Rattle.guest_store.proofs.Rests.{content_at_rest, held_at_rest, look_any, map_ok, map_err}
use Rattle.guest_store.proofs.reads.pairs_at_rest.Goals as goal

pub returns : goal.returns
returns g c = λ t.
    let G = g.G.Guested.GUEST in
    let a = state g.S.Store c.args.conn.now in
    look_any G (λ y n. n ≡ length y.state.pairs) a (state g.S.Store c.count_pairs.new.conn) t c.count_pairs.result c.count_pairs.ensures.rests
    c.count_pairs.ensures.open c.count_pairs.ensures.plain
    (λ clean. map_ok c.count_pairs.result _ _ (λ x is n y at. is (held_as G n y) (held_at_rest G n y a at)) (c.count_pairs.ensures.value clean))
    (λ clean. map_err c.count_pairs.result _ _ (λ f is n y at. is at.holds.held.0 (content_at_rest G n y a at)) (c.count_pairs.ensures.fault clean))
