use Rattle.std.proofs.Common.{refl, ap}
use Rattle.std.specs.Prelude.{⊤}
use Rattle.sqlite.specs.Held.{state}
use Rattle.guest_tables.specs.Content.{without_kept}
use Rattle.guest_store.specs.Group.{without_record}
use Rattle.guest_store.specs.inner.Stepping.{making, with_talk}
use Rattle.guest_store.proofs.Stepping.{step_none, table_ok}
use Rattle.guest_store.proofs.Tables.{made_held, forgets, forgot, records_forgotten, none_forgotten, statement_err}
use Rattle.guest_store.proofs.settled_ids.forget.Goals as goal

pub returns-then-id-ge-END : goal.returns-then-id-ge-END
returns-then-id-ge-END g c = λ t.
    let G = g.G.Guested.GUEST in
    step_none G (making G (λ y. without_record c.args.id y) (λ y r. ⊤)) (with_talk (state g.S.Store c.args.conn.now) t) tt
    (λ said y records. (ap (λ kept. record y { kept = kept }) (none_forgotten c.args.id y.kept c.if-id-ge-END.true records), tt)) (λ y. refl)

pub returns-in-Ok : goal.returns-in-Ok
returns-in-Ok g c = λ t.
    let G = g.G.Guested.GUEST in
    let a = state g.S.Store c.args.conn.now in
    let b = state g.S.Store c.delete_kept.new.conn in
    table_ok G (forgot c.args.id) (making G (λ y. without_record c.args.id y) (λ y r. ⊤)) a b t tt
    (made_held (without_kept c.args.id) (forgot c.args.id) a b _ (λ k fit. (forgets c.args.id k fit, refl)) c.in-Ok.ensures) (λ n y. refl)
    (λ y records. records_forgotten c.args.id y.kept records) (λ y. tt) (λ y. refl)

pub returns-in-Err : goal.returns-in-Err
returns-in-Err g c = λ t.
    let G = g.G.Guested.GUEST in
    statement_err G (making G (λ y. without_record c.args.id y) (λ y r. ⊤)) (state g.S.Store c.args.conn.now) (state g.S.Store c.delete_kept.new.conn) t
    c.in-Err.error c.from.result c.from.ensures c.in-Err.ensures.stays
