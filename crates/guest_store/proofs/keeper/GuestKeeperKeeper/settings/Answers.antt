use Rattle.std.proofs.Common.{◌≡◌, Option, Ok, Err, sym, ap, ◌∙◌}
use Rattle.sqlite.specs.Held.{state}
use Rattle.fuse_init.specs.declared.settings.Settings.{Settings}
use Rattle.guest_talk.specs.TalkState.{talk_told}
use Rattle.guest_store.specs.inner.Stepping.{making, with_talk}
use Rattle.guest_store.proofs.Calls.{serves_store, usable_still}
use Rattle.guest_store.proofs.Peeking.{may_where, seen_well, seen_wrong}
use Rattle.guest_store.proofs.keeper.GuestKeeperKeeper.settings.Goals as goal

pub returns-in-Ok-clause-looked : goal.returns-in-Ok-clause-looked
returns-in-Ok-clause-looked g c =
    let G = g.G.Guested.GUEST in
    let t = talk_told g.R.Read.remaining g.W.Write.contents c.args.self.now.store.talk in
    let a = with_talk (state g.S.Store c.args.self.now.store.pairs.conn) t in
    let b = with_talk (state g.S.Store c.settings_at_rest.new.conn) t in
    let s = g.met.S.Store.settled c.args.self.now.store.pairs.conn.store in
    let lot = c.args.self.now.lot.number in
    let failed = c.args.self.now.failed in
    let e = making G (λ y. y) (λ y (r : Option Settings). r ≡ y.state.settings) in
    let p = c.in-Ok.ensures t in
    seen_well c.holdings_are_read.ensures G a b (g.met.S.Store.stays c.args.self.now.store.pairs.conn.store) c.in-Ok.settings c.in-Ok.settings
    (serves_store G e a b s (Ok c.in-Ok.settings) p) (usable_still G e a b (Ok c.in-Ok.settings) p) lot failed

pub returns-in-Err-clause-looked : goal.returns-in-Err-clause-looked
returns-in-Err-clause-looked g c =
    let G = g.G.Guested.GUEST in
    let t = talk_told g.R.Read.remaining g.W.Write.contents c.args.self.now.store.talk in
    let a = with_talk (state g.S.Store c.args.self.now.store.pairs.conn) t in
    let b = with_talk (state g.S.Store c.settings_at_rest.new.conn) t in
    let s = g.met.S.Store.settled c.args.self.now.store.pairs.conn.store in
    let lot = c.args.self.now.lot.number in
    let failed = c.args.self.now.failed in
    let e = making G (λ y. y) (λ y (r : Option Settings). r ≡ y.state.settings) in
    let p = c.in-Err.ensures t in
    seen_wrong c.holdings_are_read.ensures G a b (g.met.S.Store.stays c.args.self.now.store.pairs.conn.store) c.in-Err.fault
    (serves_store G e a b s (Err c.in-Err.fault) p) (usable_still G e a b (Err c.in-Err.fault) p) lot
    (may_where G lot a b c.in-Err.fault (λ honest n y at. p.fault honest n y at tt)) failed

pub returns-in-Ok-clause-ok : goal.returns-in-Ok-clause-ok
returns-in-Ok-clause-ok g c = λ honest rows records at good.
    let t = talk_told g.R.Read.remaining g.W.Write.contents c.args.self.now.store.talk in
    (c.in-Ok.ensures t).value honest at.number at.holding at.rests ∙ sym (ap (λ r. r.settings) at.is_of.rows_are)
