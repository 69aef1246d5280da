use Rattle.std.specs.Prelude.{⊤}
use Rattle.std.proofs.Common.{true, None, Ok, Err, inl, inr, refl}
use Rattle.sqlite.specs.Held.{state}
use Rattle.guest_talk.specs.TalkState.{talk_told}
use Rattle.guest_store.specs.Mounting.{begun}
use Rattle.guest_store.specs.inner.Stepping.{making, with_talk}
use Rattle.guest_store.proofs.Beginning.{begins_mount, drops_lots, leaves_mount}
use Rattle.guest_store.proofs.Calls.{serves_store, usable_still}
use Rattle.guest_store.proofs.Peeking.{begun_may, failed_may, may_where, went_well, went_wrong}
use Rattle.guest_store.proofs.Serving.{firm}
use Rattle.guest_store.proofs.keeper.GuestKeeperKeeper.begin_mount.Goals as goal

pub returns-in-Ok-clause-called : goal.returns-in-Ok-clause-called
returns-in-Ok-clause-called g c =
    let G = g.G.Guested.GUEST in
    let t = talk_told g.R.Read.remaining g.W.Write.contents c.args.self.now.store.talk in
    let a = with_talk (state g.S.Store c.args.self.now.store.pairs.conn) t in
    let b = with_talk (state g.S.Store c.begin_mount.new.conn) t in
    let s = g.met.S.Store.settled c.args.self.now.store.pairs.conn.store in
    let lot = c.args.self.now.lot.number in
    let failed = c.args.self.now.failed in
    let e = making G (λ y. begun y) (λ y (r : Unit {0}). ⊤) in
    let p = c.in-Ok.ensures.serves t in
    went_well G begun a b tt tt (serves_store G e a b s (Ok tt) p) (usable_still G e a b (Ok tt) p) lot None failed

pub returns-in-Ok-clause-may : goal.returns-in-Ok-clause-may
returns-in-Ok-clause-may g c = λ unlotted.
    let G = g.G.Guested.GUEST in
    let t = talk_told g.R.Read.remaining g.W.Write.contents c.args.self.now.store.talk in
    let a = with_talk (state g.S.Store c.args.self.now.store.pairs.conn) t in
    let b = with_talk (state g.S.Store c.begin_mount.new.conn) t in
    let s = g.met.S.Store.settled c.args.self.now.store.pairs.conn.store in
    let lot = c.args.self.now.lot.number in
    let failed = c.args.self.now.failed in
    let e = making G (λ y. begun y) (λ y (r : Unit {0}). ⊤) in
    let p = c.in-Ok.ensures.serves t in
    elim unlotted [
      | inl bad ↦ absurd (let no = bad in cc)
      | inr none ↦ begun_may G begun a b tt (λ y. refl) (serves_store G e a b s (Ok tt) p) (usable_still G e a b (Ok tt) p) lot None failed failed none
    ]

pub returns-in-Ok-clause-ok : goal.returns-in-Ok-clause-ok
returns-in-Ok-clause-ok g c =
    let G = g.G.Guested.GUEST in
    let t = talk_told g.R.Read.remaining g.W.Write.contents c.args.self.now.store.talk in
    let a = with_talk (state g.S.Store c.args.self.now.store.pairs.conn) t in
    let b = with_talk (state g.S.Store c.begin_mount.new.conn) t in
    let s = g.met.S.Store.settled c.args.self.now.store.pairs.conn.store in
    let lot = c.args.self.now.lot.number in
    let failed = c.args.self.now.failed in
    let e = making G (λ y. begun y) (λ y (r : Unit {0}). ⊤) in
    let p = c.in-Ok.ensures.serves t in
    begins_mount c.holdings_are_read.ensures G a b tt (serves_store G e a b s (Ok tt) p) lot None failed failed

pub returns-in-Ok-clause-lots : goal.returns-in-Ok-clause-lots
returns-in-Ok-clause-lots g c =
    let G = g.G.Guested.GUEST in
    let t = talk_told g.R.Read.remaining g.W.Write.contents c.args.self.now.store.talk in
    let a = with_talk (state g.S.Store c.args.self.now.store.pairs.conn) t in
    let b = with_talk (state g.S.Store c.begin_mount.new.conn) t in
    let s = g.met.S.Store.settled c.args.self.now.store.pairs.conn.store in
    let lot = c.args.self.now.lot.number in
    let failed = c.args.self.now.failed in
    let e = making G (λ y. begun y) (λ y (r : Unit {0}). ⊤) in
    let p = c.in-Ok.ensures.serves t in
    drops_lots c.holdings_are_read.ensures G a b tt (serves_store G e a b s (Ok tt) p) lot failed failed

pub returns-in-Ok-clause-crash : goal.returns-in-Ok-clause-crash
returns-in-Ok-clause-crash g c =
    let G = g.G.Guested.GUEST in
    let t = talk_told g.R.Read.remaining g.W.Write.contents c.args.self.now.store.talk in
    let a = with_talk (state g.S.Store c.args.self.now.store.pairs.conn) t in
    let b = with_talk (state g.S.Store c.begin_mount.new.conn) t in
    let s = g.met.S.Store.settled c.args.self.now.store.pairs.conn.store in
    let lot = c.args.self.now.lot.number in
    let failed = c.args.self.now.failed in
    let e = making G (λ y. begun y) (λ y (r : Unit {0}). ⊤) in
    let p = c.in-Ok.ensures.serves t in
    leaves_mount c.holdings_are_read.ensures G a b (Ok tt) (serves_store G e a b s (Ok tt) p) lot None failed failed

pub returns-in-Ok-clause-firm : goal.returns-in-Ok-clause-firm
returns-in-Ok-clause-firm g c = λ honest.
    let G = g.G.Guested.GUEST in
    let t = talk_told g.R.Read.remaining g.W.Write.contents c.args.self.now.store.talk in
    let a = with_talk (state g.S.Store c.args.self.now.store.pairs.conn) t in
    let b = with_talk (state g.S.Store c.begin_mount.new.conn) t in
    let s = g.met.S.Store.settled c.args.self.now.store.pairs.conn.store in
    let lot = c.args.self.now.lot.number in
    let failed = c.args.self.now.failed in
    let e = making G (λ y. begun y) (λ y (r : Unit {0}). ⊤) in
    firm c.holdings_are_read.ensures G b None failed (g.met.S.Store.settled c.begin_mount.new.conn.store)

pub returns-in-Err-clause-called : goal.returns-in-Err-clause-called
returns-in-Err-clause-called g c =
    let G = g.G.Guested.GUEST in
    let t = talk_told g.R.Read.remaining g.W.Write.contents c.args.self.now.store.talk in
    let a = with_talk (state g.S.Store c.args.self.now.store.pairs.conn) t in
    let b = with_talk (state g.S.Store c.begin_mount.new.conn) t in
    let s = g.met.S.Store.settled c.args.self.now.store.pairs.conn.store in
    let lot = c.args.self.now.lot.number in
    let failed = c.args.self.now.failed in
    let e = making G (λ y. begun y) (λ y (r : Unit {0}). ⊤) in
    let p = c.in-Err.ensures.serves t in
    went_wrong c.holdings_are_read.ensures G begun a b c.in-Err.fault (serves_store G e a b s (Err c.in-Err.fault) p) lot
    (may_where G lot a b c.in-Err.fault (λ honest n y at. p.fault honest n y at tt)) failed

pub returns-in-Err-clause-may : goal.returns-in-Err-clause-may
returns-in-Err-clause-may g c = λ unlotted.
    let G = g.G.Guested.GUEST in
    let t = talk_told g.R.Read.remaining g.W.Write.contents c.args.self.now.store.talk in
    let a = with_talk (state g.S.Store c.args.self.now.store.pairs.conn) t in
    let b = with_talk (state g.S.Store c.begin_mount.new.conn) t in
    let s = g.met.S.Store.settled c.args.self.now.store.pairs.conn.store in
    let lot = c.args.self.now.lot.number in
    let failed = c.args.self.now.failed in
    let e = making G (λ y. begun y) (λ y (r : Unit {0}). ⊤) in
    let p = c.in-Err.ensures.serves t in
    failed_may G begun a b c.in-Err.fault (serves_store G e a b s (Err c.in-Err.fault) p) (usable_still G e a b (Err c.in-Err.fault) p) lot failed true

pub returns-in-Err-clause-crash : goal.returns-in-Err-clause-crash
returns-in-Err-clause-crash g c =
    let G = g.G.Guested.GUEST in
    let t = talk_told g.R.Read.remaining g.W.Write.contents c.args.self.now.store.talk in
    let a = with_talk (state g.S.Store c.args.self.now.store.pairs.conn) t in
    let b = with_talk (state g.S.Store c.begin_mount.new.conn) t in
    let s = g.met.S.Store.settled c.args.self.now.store.pairs.conn.store in
    let lot = c.args.self.now.lot.number in
    let failed = c.args.self.now.failed in
    let e = making G (λ y. begun y) (λ y (r : Unit {0}). ⊤) in
    let p = c.in-Err.ensures.serves t in
    leaves_mount c.holdings_are_read.ensures G a b (Err c.in-Err.fault) (serves_store G e a b s (Err c.in-Err.fault) p) lot lot failed true

-- ---- what is held

pub returns-in-Ok-clause-held : goal.returns-in-Ok-clause-held
returns-in-Ok-clause-held g c =
    let G = g.G.Guested.GUEST in
    let t = talk_told g.R.Read.remaining g.W.Write.contents c.args.self.now.store.talk in
    let a = with_talk (state g.S.Store c.args.self.now.store.pairs.conn) t in
    let b = with_talk (state g.S.Store c.begin_mount.new.conn) t in
    let s = g.met.S.Store.settled c.args.self.now.store.pairs.conn.store in
    let e = making G (λ y. begun y) (λ y (r : Unit {0}). ⊤) in
    serves_store G e a b s (Ok tt) (c.in-Ok.ensures.serves t)

pub returns-in-Err-clause-held : goal.returns-in-Err-clause-held
returns-in-Err-clause-held g c =
    let G = g.G.Guested.GUEST in
    let t = talk_told g.R.Read.remaining g.W.Write.contents c.args.self.now.store.talk in
    let a = with_talk (state g.S.Store c.args.self.now.store.pairs.conn) t in
    let b = with_talk (state g.S.Store c.begin_mount.new.conn) t in
    let s = g.met.S.Store.settled c.args.self.now.store.pairs.conn.store in
    let e = making G (λ y. begun y) (λ y (r : Unit {0}). ⊤) in
    serves_store G e a b s (Err c.in-Err.fault) (c.in-Err.ensures.serves t)

-- ---- of any database

pub returns-in-Ok-clause-ends : goal.returns-in-Ok-clause-ends
returns-in-Ok-clause-ends g c = c.in-Ok.ensures.ends

pub returns-in-Err-clause-ends : goal.returns-in-Err-clause-ends
returns-in-Err-clause-ends g c = c.in-Err.ensures.ends
