use Rattle.std.specs.Prelude.{length}
use Rattle.std.proofs.Common.{Ok, Err, sym, ap, ◌∙◌}
use Rattle.sqlite.specs.Held.{state}
use Rattle.guest_talk.specs.TalkState.{talk_told}
use Rattle.guest_store.specs.inner.Transacting.{counting}
use Rattle.guest_store.specs.inner.Stepping.{with_talk}
use Rattle.guest_store.proofs.Calls.{serves_store, usable_still}
use Rattle.guest_store.proofs.Peeking.{may_where, seen_well, seen_wrong}
use Rattle.guest_store.proofs.Numbering.{counts_records}
use Rattle.guest_store.proofs.Serving.{lots_same}
use Rattle.guest_store.proofs.keeper.GuestKeeperKeeper.counts.Goals as goal

pub returns-in-Ok-clause-looked : goal.returns-in-Ok-clause-looked
returns-in-Ok-clause-looked g c =
    let G = g.G.Guested.GUEST in
    let t = talk_told g.R.Read.remaining g.W.Write.contents c.args.self.now.store.talk in
    let a = with_talk (state g.S.Store c.args.self.now.store.pairs.conn) t in
    let b = with_talk (state g.S.Store c.counts_at_rest.new.conn) t in
    let s = g.met.S.Store.settled c.args.self.now.store.pairs.conn.store in
    let lot = c.args.self.now.lot.number in
    let failed = c.args.self.now.failed in
    let e = counting G in
    let p = c.in-Ok.ensures t in
    seen_well c.holdings_are_read.ensures G a b (g.met.S.Store.stays c.args.self.now.store.pairs.conn.store) c.in-Ok.counts c.in-Ok.counts
    (serves_store G e a b s (Ok c.in-Ok.counts) p) (usable_still G e a b (Ok c.in-Ok.counts) p) lot failed

pub returns-in-Err-clause-looked : goal.returns-in-Err-clause-looked
returns-in-Err-clause-looked g c =
    let G = g.G.Guested.GUEST in
    let t = talk_told g.R.Read.remaining g.W.Write.contents c.args.self.now.store.talk in
    let a = with_talk (state g.S.Store c.args.self.now.store.pairs.conn) t in
    let b = with_talk (state g.S.Store c.counts_at_rest.new.conn) t in
    let s = g.met.S.Store.settled c.args.self.now.store.pairs.conn.store in
    let lot = c.args.self.now.lot.number in
    let failed = c.args.self.now.failed in
    let e = counting G in
    let p = c.in-Err.ensures t in
    seen_wrong c.holdings_are_read.ensures G a b (g.met.S.Store.stays c.args.self.now.store.pairs.conn.store) c.in-Err.fault
    (serves_store G e a b s (Err c.in-Err.fault) p) (usable_still G e a b (Err c.in-Err.fault) p) lot
    (may_where G lot a b c.in-Err.fault (λ honest n y at. p.fault honest n y at tt)) failed

pub returns-in-Ok-clause-nodes : goal.returns-in-Ok-clause-nodes
returns-in-Ok-clause-nodes g c = λ honest rows records at good.
    let t = talk_told g.R.Read.remaining g.W.Write.contents c.args.self.now.store.talk in
    ((c.in-Ok.ensures t).value honest at.number at.holding at.rests).nodes ∙ sym (ap (λ r. length r.pairs) at.is_of.rows_are)

pub returns-in-Ok-clause-handles : goal.returns-in-Ok-clause-handles
returns-in-Ok-clause-handles g c = λ honest rows records at good.
    let t = talk_told g.R.Read.remaining g.W.Write.contents c.args.self.now.store.talk in
    ((c.in-Ok.ensures t).value honest at.number at.holding at.rests).handles

pub returns-in-Ok-clause-records : goal.returns-in-Ok-clause-records
returns-in-Ok-clause-records g c = λ honest rows records at good.
    let t = talk_told g.R.Read.remaining g.W.Write.contents c.args.self.now.store.talk in
    counts_records g.G.Guested.GUEST at.number at.holding rows records (state g.S.Store c.args.self.now.store.pairs.conn).now at.rests.holds at.is_of _
    ((c.in-Ok.ensures t).value honest at.number at.holding at.rests).records

pub returns-in-Ok-clause-lots : goal.returns-in-Ok-clause-lots
returns-in-Ok-clause-lots g c = λ honest rows records at good.
    let t = talk_told g.R.Read.remaining g.W.Write.contents c.args.self.now.store.talk in
    let a = state g.S.Store c.args.self.now.store.pairs.conn in
    ((c.in-Ok.ensures t).value honest at.number at.holding at.rests).lots
    ∙ sym (ap length (lots_same c.holdings_are_read.ensures g.G.Guested.GUEST c.args.self.now.lot.number at.number at.holding a.now at.rests.holds).numbers)
