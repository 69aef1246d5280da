use Rattle.std.proofs.Common.{Option, ℕ, sym, subst}
use Rattle.sqlite.specs.Held.{state}
use Rattle.guest_talk.specs.TalkState.{TalkState}
use Rattle.guest_store.specs.inner.Lotting.{lotting}
use Rattle.guest_store.specs.inner.Stepping.{Steps, with_talk}
use Rattle.guest_store.proofs.Tables.{lot_none}
use Rattle.guest_store.proofs.lots.take_lot.Goals as goal

pub returns-in-None-clause-steps : goal.returns-in-None-clause-steps
returns-in-None-clause-steps g c =
    let G = g.G.Guested.GUEST in
    let a = state g.S.Store c.args.conn.now in
    let b = state g.S.Store c.take_next.new.conn in
    subst (λ (o : Option ℕ). (t : TalkState) → Steps G (lotting G o) (with_talk a t) (with_talk b t) c.take_next.result) (sym c.in-None.is)
    (λ t. lot_none G (with_talk a t) (with_talk b t) c.take_next.result (c.take_next.ensures.steps t))
