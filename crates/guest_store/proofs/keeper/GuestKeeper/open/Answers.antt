use Rattle.std.proofs.Common.{ℕ, false, None, subst}
use Rattle.sqlite.specs.Held.{state}
use Rattle.fuse_store_tables.specs.inner.Following.{earlier}
use Rattle.guest_talk.specs.Greeting.{IsRefused}
use Rattle.guest_talk.specs.TalkState.{talk_told}
use Rattle.guest_store.specs.Holding.{records_of}
use Rattle.guest_store.specs.StoreState.{held_as}
use Rattle.guest_store.specs.inner.Stepping.{with_talk}
use Rattle.guest_store.proofs.Rests.{held_at_rest}
use Rattle.guest_store.proofs.Serving.{firm, holds_at, its_own, lots_same}
use Rattle.guest_store.proofs.Opened.{greeted_as, rests_still}
use Rattle.guest_store.proofs.keeper.GuestKeeper.open.Goals as goal

pub returns-in-Ok-greet-clause-held : goal.returns-in-Ok-greet-clause-held
returns-in-Ok-greet-clause-held g c = λ honest n y at.
    let G = g.G.Guested.GUEST in
    let a = state g.S.Store c.args.conn in
    let b = state g.S.Store c.look_over.new.conn in
    rests_still G n y a b at (c.in-Ok.ensures.held honest.0 (held_as G n y) (held_at_rest G n y a at))

pub returns-in-Ok-greet-clause-lots : goal.returns-in-Ok-greet-clause-lots
returns-in-Ok-greet-clause-lots g c = λ honest n y at.
    let G = g.G.Guested.GUEST in
    let a = state g.S.Store c.args.conn in
    let b = state g.S.Store c.look_over.new.conn in
    lots_same c.holdings_are_read.ensures G None n y b.now
    (rests_still G n y a b at (c.in-Ok.ensures.held honest.0 (held_as G n y) (held_at_rest G n y a at))).holds

pub returns-in-Ok-greet-clause-firm : goal.returns-in-Ok-greet-clause-firm
returns-in-Ok-greet-clause-firm g c = λ honest.
    let b = with_talk (state g.S.Store c.look_over.new.conn) (talk_told g.R.Read.remaining g.W.Write.contents c.in-Ok-greet.talk) in
    firm c.holdings_are_read.ensures g.G.Guested.GUEST b None false (g.met.S.Store.settled c.look_over.new.conn.store)

pub returns-in-Ok-greet-clause-greeted : goal.returns-in-Ok-greet-clause-greeted
returns-in-Ok-greet-clause-greeted g c = λ honest n y at.
    let G = g.G.Guested.GUEST in
    let a = state g.S.Store c.args.conn in
    let b = state g.S.Store c.look_over.new.conn in
    let is = c.in-Ok.ensures.value honest.0 (held_as G n y) (held_at_rest G n y a at) in
    greeted_as _ _ c.in-Ok.promised.settings y.state.settings c.in-Ok.promised.pledged y.state.pledged
    (talk_told g.R.Read.remaining g.W.Write.contents c.in-Ok-greet.talk) is.0 is.1 c.in-Ok-greet.ensures.ok

pub returns-in-Err-greet-clause-refused : goal.returns-in-Err-greet-clause-refused
returns-in-Err-greet-clause-refused g c = λ clean n y at.
    let G = g.G.Guested.GUEST in
    let is = c.in-Ok.ensures.value clean (held_as G n y) (held_at_rest G n y (state g.S.Store c.args.conn) at) in
    subst (λ (p : ℕ). IsRefused (g.R.Read.remaining c.args.pipes.source) p c.in-Err-greet.fault) is.1 c.in-Err-greet.ensures.refused

pub returns-in-Ok-greet-clause-whole : goal.returns-in-Ok-greet-clause-whole
returns-in-Ok-greet-clause-whole g c = λ honest. c.in-Ok.ensures.whole honest.0

pub returns-in-Ok-greet-clause-tabled : goal.returns-in-Ok-greet-clause-tabled
returns-in-Ok-greet-clause-tabled g c = λ honest. c.in-Ok.ensures.tabled honest.0

pub returns-in-Err-clause-sound : goal.returns-in-Err-clause-sound
returns-in-Err-clause-sound g c = λ clean n y at.
    let G = g.G.Guested.GUEST in
    c.in-Err.ensures.fault clean (held_as G n y) (held_at_rest G n y (state g.S.Store c.args.conn) at)

pub returns-in-Ok-greet-clause-holds : goal.returns-in-Ok-greet-clause-holds
returns-in-Ok-greet-clause-holds g c = λ honest n y at.
    let G = g.G.Guested.GUEST in
    let a = state g.S.Store c.args.conn in
    let b = state g.S.Store c.look_over.new.conn in
    holds_at c.holdings_are_read.ensures G b n y y.state (records_of y.kept)
    (rests_still G n y a b at (c.in-Ok.ensures.held honest.0 (held_as G n y) (held_at_rest G n y a at))) (its_own G y)

pub returns-in-Ok-greet-clause-clean : goal.returns-in-Ok-greet-clause-clean
returns-in-Ok-greet-clause-clean g c = λ honest.
    earlier (state g.S.Store c.args.conn) (state g.S.Store c.look_over.new.conn) _ c.in-Ok.ensures.alone.survives honest.0

pub returns-in-Ok-greet-clause-same : goal.returns-in-Ok-greet-clause-same
returns-in-Ok-greet-clause-same g c = c.in-Ok.ensures.alone

pub returns-in-Err-clause-alone : goal.returns-in-Err-clause-alone
returns-in-Err-clause-alone g c = c.in-Err.ensures.alone

pub returns-in-Err-greet-clause-alone : goal.returns-in-Err-greet-clause-alone
returns-in-Err-greet-clause-alone g c = c.in-Ok.ensures.alone

pub returns-in-Err-clause-fault : goal.returns-in-Err-clause-fault
returns-in-Err-clause-fault g c = λ clean. c.in-Err.ensures.says clean
