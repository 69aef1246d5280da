use Rattle.std.proofs.Common.{false, None}
use Rattle.sqlite.specs.Held.{state}
use Rattle.fuse_store_tables.specs.inner.Following.{earlier}
use Rattle.guest_talk.specs.TalkState.{talk_told}
use Rattle.guest_store.specs.inner.Showing.{same_survives}
use Rattle.guest_store.specs.inner.Stepping.{with_talk}
use Rattle.guest_store.proofs.Serving.{firm}
use Rattle.guest_store.proofs.Opened.{bare_of, new_left, new_makes, new_rests, says_outside}
use Rattle.guest_store.proofs.keeper.GuestKeeper.make.Goals as goal

pub returns-in-Ok-make_store-clause-held : goal.returns-in-Ok-make_store-clause-held
returns-in-Ok-make_store-clause-held g c = λ honest blank.
    let bare = bare_of (state g.S.Store c.args.conn) c.law_of_rest.ensures.live c.law_of_rest.ensures.settled blank in
    new_rests g.G.Guested.GUEST c.args.number (state g.S.Store c.make_store.new.conn) (c.in-Ok-make_store.ensures.serves.done honest.0 tt bare)

pub returns-in-Ok-make_store-clause-makes : goal.returns-in-Ok-make_store-clause-makes
returns-in-Ok-make_store-clause-makes g c = λ honest blank.
    let bare = bare_of (state g.S.Store c.args.conn) c.law_of_rest.ensures.live c.law_of_rest.ensures.settled blank in
    let b = with_talk (state g.S.Store c.make_store.new.conn) (talk_told g.R.Read.remaining g.W.Write.contents c.in-Ok.talk) in
    new_makes c.holdings_are_read.ensures c.pair_steps_fit.ensures g.G.Guested.GUEST c.args.number b false
    (new_rests g.G.Guested.GUEST c.args.number (state g.S.Store c.make_store.new.conn) (c.in-Ok-make_store.ensures.serves.done honest.0 tt bare))

pub returns-in-Ok-make_store-clause-firm : goal.returns-in-Ok-make_store-clause-firm
returns-in-Ok-make_store-clause-firm g c = λ honest.
    let b = with_talk (state g.S.Store c.make_store.new.conn) (talk_told g.R.Read.remaining g.W.Write.contents c.in-Ok.talk) in
    firm c.holdings_are_read.ensures g.G.Guested.GUEST b None false (g.met.S.Store.settled c.make_store.new.conn.store)

pub returns-in-Ok-make_store-clause-clean : goal.returns-in-Ok-make_store-clause-clean
returns-in-Ok-make_store-clause-clean g c = λ honest.
    earlier (state g.S.Store c.args.conn) (state g.S.Store c.make_store.new.conn) _ c.in-Ok-make_store.ensures.serves.survives honest.0

pub returns-in-Ok-make_store-clause-greeted : goal.returns-in-Ok-make_store-clause-greeted
returns-in-Ok-make_store-clause-greeted g c = c.in-Ok.ensures.ok

pub returns-in-Err-clause-crash : goal.returns-in-Err-clause-crash
returns-in-Err-clause-crash g c = same_survives (state g.S.Store c.args.conn) _

pub returns-in-Err-make_store-clause-crash : goal.returns-in-Err-make_store-clause-crash
returns-in-Err-make_store-clause-crash g c =
    new_left g.G.Guested.GUEST c.args.number (state g.S.Store c.args.conn) (state g.S.Store c.make_store.new.conn)
    (bare_of (state g.S.Store c.args.conn) c.law_of_rest.ensures.live c.law_of_rest.ensures.settled) c.in-Err-make_store.ensures.serves.survives

pub returns-in-Err-make_store-clause-fault : goal.returns-in-Err-make_store-clause-fault
returns-in-Err-make_store-clause-fault g c = λ clean.
    says_outside (state g.S.Store c.args.conn).now c.in-Err-make_store.fault c.in-Err-make_store.ensures.outside
