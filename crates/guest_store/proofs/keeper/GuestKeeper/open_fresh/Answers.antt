use Rattle.std.proofs.Common.{false, None}
use Rattle.sqlite.specs.Held.{state}
use Rattle.fuse_store_tables.specs.inner.Following.{earlier}
use Rattle.guest_talk.specs.TalkState.{talk_told}
use Rattle.guest_store.specs.Holding.{records_of}
use Rattle.guest_store.specs.Mounting.{begun}
use Rattle.guest_store.specs.StoreState.{HeldOf}
use Rattle.guest_store.specs.inner.Showing.{same_survives}
use Rattle.guest_store.specs.inner.Stepping.{with_talk}
use Rattle.guest_store.proofs.Serving.{firm, holds_at, its_own, lots_same}
use Rattle.guest_store.proofs.Opened.{begun_left, begun_rests, outside_at_rest, stored_at_rest}
use Rattle.guest_store.proofs.keeper.GuestKeeper.open_fresh.Goals as goal

pub returns-in-Ok-open_fresh-clause-held : goal.returns-in-Ok-open_fresh-clause-held
returns-in-Ok-open_fresh-clause-held g c = λ honest n y at.
    let a = state g.S.Store c.args.conn in
    let b = state g.S.Store c.open_fresh.new.conn in
    begun_rests g.G.Guested.GUEST n y a b at (c.in-Ok-open_fresh.ensures.serves.done honest.0 at.holds.held.0 (stored_at_rest g.G.Guested.GUEST n y a at))

pub returns-in-Ok-open_fresh-clause-lots : goal.returns-in-Ok-open_fresh-clause-lots
returns-in-Ok-open_fresh-clause-lots g c = λ honest n y at.
    let a = state g.S.Store c.args.conn in
    let b = state g.S.Store c.open_fresh.new.conn in
    lots_same c.holdings_are_read.ensures g.G.Guested.GUEST None n (begun y) b.now
    (begun_rests g.G.Guested.GUEST n y a b at (c.in-Ok-open_fresh.ensures.serves.done honest.0 at.holds.held.0 (stored_at_rest g.G.Guested.GUEST n y a at))).holds

pub returns-in-Ok-open_fresh-clause-firm : goal.returns-in-Ok-open_fresh-clause-firm
returns-in-Ok-open_fresh-clause-firm g c = λ honest.
    let b = with_talk (state g.S.Store c.open_fresh.new.conn) (talk_told g.R.Read.remaining g.W.Write.contents c.in-Ok.talk) in
    firm c.holdings_are_read.ensures g.G.Guested.GUEST b None false (g.met.S.Store.settled c.open_fresh.new.conn.store)

pub returns-in-Ok-open_fresh-clause-greeted : goal.returns-in-Ok-open_fresh-clause-greeted
returns-in-Ok-open_fresh-clause-greeted g c = c.in-Ok.ensures.ok

pub returns-in-Ok-open_fresh-clause-whole : goal.returns-in-Ok-open_fresh-clause-whole
returns-in-Ok-open_fresh-clause-whole g c = λ honest. c.in-Ok-open_fresh.ensures.whole honest.0

pub returns-in-Ok-open_fresh-clause-tabled : goal.returns-in-Ok-open_fresh-clause-tabled
returns-in-Ok-open_fresh-clause-tabled g c = λ honest. c.in-Ok-open_fresh.ensures.tabled honest.0

pub returns-in-Err-open_fresh-clause-sound : goal.returns-in-Err-open_fresh-clause-sound
returns-in-Err-open_fresh-clause-sound g c = λ clean n y at.
    outside_at_rest g.G.Guested.GUEST (state g.S.Store c.args.conn) (state g.S.Store c.open_fresh.new.conn) c.in-Err-open_fresh.fault
    c.in-Err-open_fresh.ensures.fault clean n y at

pub returns-in-Err-open_fresh-clause-ends : goal.returns-in-Err-open_fresh-clause-ends
returns-in-Err-open_fresh-clause-ends g c =
    let p = c.in-Err-open_fresh.ensures in
    record { ended = p.ended; refused = p.refused; undone = p.undone; once = p.once }

pub returns-in-Ok-open_fresh-clause-begins : goal.returns-in-Ok-open_fresh-clause-begins
returns-in-Ok-open_fresh-clause-begins g c = λ honest n y at.
    let G = g.G.Guested.GUEST in
    let a = state g.S.Store c.args.conn in
    let b = state g.S.Store c.open_fresh.new.conn in
    let z : HeldOf G = begun y in
    holds_at c.holdings_are_read.ensures G b n z z.state (records_of z.kept)
    (begun_rests G n y a b at (c.in-Ok-open_fresh.ensures.serves.done honest.0 at.holds.held.0 (stored_at_rest G n y a at))) (its_own G z)

pub returns-in-Ok-open_fresh-clause-clean : goal.returns-in-Ok-open_fresh-clause-clean
returns-in-Ok-open_fresh-clause-clean g c = λ honest.
    earlier (state g.S.Store c.args.conn) (state g.S.Store c.open_fresh.new.conn) _ c.in-Ok-open_fresh.ensures.serves.survives honest.0

pub returns-in-Err-clause-crash : goal.returns-in-Err-clause-crash
returns-in-Err-clause-crash g c = same_survives (state g.S.Store c.args.conn) _

pub returns-in-Err-open_fresh-clause-crash : goal.returns-in-Err-open_fresh-clause-crash
returns-in-Err-open_fresh-clause-crash g c =
    begun_left g.G.Guested.GUEST (state g.S.Store c.args.conn) (state g.S.Store c.open_fresh.new.conn) c.in-Err-open_fresh.ensures.serves.survives

pub returns-in-Err-open_fresh-clause-fault : goal.returns-in-Err-open_fresh-clause-fault
returns-in-Err-open_fresh-clause-fault g c = λ clean. c.in-Err-open_fresh.ensures.says clean
