use Rattle.std.proofs.Common.{◌∙◌, sym, subst}
use Rattle.fuse_session.specs.Deeds.{Did}
use Rattle.fuse_session.specs.Passage.{passage_for}
use Rattle.fuse_session.specs.Session.{Session}
use Rattle.fuse_session.proofs.session.serve.Goals as goal

pub returns-clause-of_model : goal.returns-clause-of_model
returns-clause-of_model g c = λ honest.
    let k = g.K.Keeper.told c.args.keeper.now in
    let k' = g.K.Keeper.told c.serve_turns.new.keeper in
    subst (λ V. Session (passage_for V k k' (g.P.Port.told c.args.port.now) (g.P.Port.told c.serve_turns.new.port)
    (Did (g.C.Clock.gave c.args.clock.now c.serve_turns.new.clock) (g.K.Keeper.performed c.args.keeper.now c.serve_turns.new.keeper)
    (g.P.Port.became c.args.port.now c.serve_turns.new.port))) c.args.turns c.serve_turns.result)
    (sym c.serve_turns.ensures.session.service ∙ (g.met.K.Keeper.sound c.serve_turns.new.keeper).service honest) c.serve_turns.ensures.session
