use Rattle.std.proofs.Common.{◌≡◌, ap, length, ◌∙◌}
use Rattle.sqlite.specs.Held.{state}
use Rattle.guest_tables.specs.Holding.{GuestHolding}
use Rattle.guest_store.proofs.Rests.{content_at_rest, look_any, map_ok, map_err}
use Rattle.guest_store.proofs.reads.lots_at_rest.Goals as goal

pub returns : goal.returns
returns g c = λ t.
    let G = g.G.Guested.GUEST in
    let a = state g.S.Store c.args.conn.now in
    look_any G (λ y n. n ≡ length y.lots) a (state g.S.Store c.count_lots.new.conn) t c.count_lots.result c.count_lots.ensures.rests
    c.count_lots.ensures.open c.count_lots.ensures.plain
    (λ clean. map_ok c.count_lots.result _ _
    (λ x is n y at. is at.holds.held.0 (content_at_rest G n y a at) ∙ ap (λ (h : GuestHolding). length h.lots) at.holds.held.3) (c.count_lots.ensures.value clean))
    (λ clean. map_err c.count_lots.result _ _ (λ f is n y at. is at.holds.held.0 (content_at_rest G n y a at)) (c.count_lots.ensures.fault clean))
