use Rattle.std.proofs.Common.{◌≡◌}
use Rattle.sqlite.specs.Held.{state}
use Rattle.guest_store.specs.StoreState.{held_as}
use Rattle.guest_store.proofs.Rests.{held_at_rest, look_any, map_ok, map_err}
use Rattle.guest_store.proofs.reads.settings_at_rest.Goals as goal

pub returns : goal.returns
returns g c = λ t.
    let G = g.G.Guested.GUEST in
    let a = state g.S.Store c.args.conn.now in
    look_any G (λ y r. r ≡ y.state.settings) a (state g.S.Store c.find_settings.new.conn) t c.find_settings.result c.find_settings.ensures.rests
    c.find_settings.ensures.open c.find_settings.ensures.plain
    (λ clean. map_ok c.find_settings.result _ _ (λ x is n y at. is (held_as G n y) (held_at_rest G n y a at)) (c.find_settings.ensures.value_at_rest clean))
    (λ clean. map_err c.find_settings.result _ _ (λ f is n y at. is (held_as G n y) (held_at_rest G n y a at)) (c.find_settings.ensures.safe clean))
