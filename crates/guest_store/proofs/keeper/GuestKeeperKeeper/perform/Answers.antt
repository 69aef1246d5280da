use Rattle.std.proofs.Common.{ℕ, true, Option, Ok, Err, sym, subst}
use Rattle.fuse_keeper.specs.Group.{ids_of, entries_of}
use Rattle.fuse_keeper.specs.History.{kept_of}
use Rattle.fuse_keeper.specs.KeeperState.{Looked}
use Rattle.fuse_guest.specs.Service.{service_of}
use Rattle.guest_store.specs.Group.{keeps_nothing, performed}
use Rattle.guest_store.specs.Keeping.{store_of}
use Rattle.guest_store.specs.TableState.{guest_told}
use Rattle.guest_store.specs.inner.Transacting.{performing}
use Rattle.guest_store.proofs.Calls.{serves_err, serves_ok, serves_store, usable_still}
use Rattle.guest_store.proofs.Ending.{ends_as, ends_fails}
use Rattle.guest_store.proofs.Grouping.{Known, performs, others_so, acts_so, leaves_group, leaves_acted, lots_so, nothing_by, nothing_is, nothing_so, serves_still}
use Rattle.guest_store.proofs.Peeking.{failed_may, lot_may, seen_well, seen_wrong, took_may, went_well, went_wrong}
use Rattle.guest_store.proofs.Serving.{firm}
use Rattle.guest_store.proofs.keeper.GuestKeeperKeeper.perform.Goals as goal

pub returns-in-Ok-clause-called : goal.returns-in-Ok-clause-called
returns-in-Ok-clause-called g c =
    let G = g.G.Guested.GUEST in
    let ids = ids_of c.args.settled.now in
    let es = entries_of c.args.group.now in
    let lot = c.args.self.now.lot.number in
    let failed = c.args.self.now.failed in
    let a = store_of g.S.Store g.R.Read.remaining g.W.Write.contents c.args.self.now.store in
    let b = store_of g.S.Store g.R.Read.remaining g.W.Write.contents c.perform.new.store in
    let s = g.met.S.Store.settled c.args.self.now.store.pairs.conn.store in
    let e = performing G c.args.self.now.deaths lot ids es in
    let known : Known G = record { read = c.holdings_are_read.ensures; fits = c.pair_steps_fit.ensures; law = c.guest_calls_perform.ensures } in
    let p = c.in-Ok.ensures.serves in
    let is = c.in-Ok.performed in
    let serves = serves_store G e a b s (Ok is) p in
    let usable = usable_still G e a b (Ok is) p in
    went_well G (performed lot ids es) a b is is.dones serves usable lot is.lot failed

pub returns-in-Ok-clause-may : goal.returns-in-Ok-clause-may
returns-in-Ok-clause-may g c =
    let G = g.G.Guested.GUEST in
    let ids = ids_of c.args.settled.now in
    let es = entries_of c.args.group.now in
    let lot = c.args.self.now.lot.number in
    let failed = c.args.self.now.failed in
    let a = store_of g.S.Store g.R.Read.remaining g.W.Write.contents c.args.self.now.store in
    let b = store_of g.S.Store g.R.Read.remaining g.W.Write.contents c.perform.new.store in
    let s = g.met.S.Store.settled c.args.self.now.store.pairs.conn.store in
    let e = performing G c.args.self.now.deaths lot ids es in
    let known : Known G = record { read = c.holdings_are_read.ensures; fits = c.pair_steps_fit.ensures; law = c.guest_calls_perform.ensures } in
    let p = c.in-Ok.ensures.serves in
    let is = c.in-Ok.performed in
    let serves = serves_store G e a b s (Ok is) p in
    let usable = usable_still G e a b (Ok is) p in
    let nothing = keeps_nothing (kept_of (service_of a.talk.ready) es) ids in
    took_may G (performed lot ids es) nothing is.lot lot a b is
    (λ none. (c.in-Ok.ensures.same_lot none, λ honest y. nothing_so G a ids es none (serves.honest honest) lot y)) c.in-Ok.ensures.some_lot serves usable failed failed

pub returns-in-Ok-clause-ok : goal.returns-in-Ok-clause-ok
returns-in-Ok-clause-ok g c =
    let G = g.G.Guested.GUEST in
    let ids = ids_of c.args.settled.now in
    let es = entries_of c.args.group.now in
    let lot = c.args.self.now.lot.number in
    let failed = c.args.self.now.failed in
    let a = store_of g.S.Store g.R.Read.remaining g.W.Write.contents c.args.self.now.store in
    let b = store_of g.S.Store g.R.Read.remaining g.W.Write.contents c.perform.new.store in
    let s = g.met.S.Store.settled c.args.self.now.store.pairs.conn.store in
    let e = performing G c.args.self.now.deaths lot ids es in
    let known : Known G = record { read = c.holdings_are_read.ensures; fits = c.pair_steps_fit.ensures; law = c.guest_calls_perform.ensures } in
    let p = c.in-Ok.ensures.serves in
    let is = c.in-Ok.performed in
    let serves = serves_store G e a b s (Ok is) p in
    let usable = usable_still G e a b (Ok is) p in
    performs known lot ids es a b c.requires.performed is serves is.lot failed failed is.dones.items (λ honest n y at. (p.value honest n y at).1)

pub returns-in-Ok-clause-acts : goal.returns-in-Ok-clause-acts
returns-in-Ok-clause-acts g c =
    let G = g.G.Guested.GUEST in
    let ids = ids_of c.args.settled.now in
    let es = entries_of c.args.group.now in
    let lot = c.args.self.now.lot.number in
    let failed = c.args.self.now.failed in
    let a = store_of g.S.Store g.R.Read.remaining g.W.Write.contents c.args.self.now.store in
    let b = store_of g.S.Store g.R.Read.remaining g.W.Write.contents c.perform.new.store in
    let s = g.met.S.Store.settled c.args.self.now.store.pairs.conn.store in
    let e = performing G c.args.self.now.deaths lot ids es in
    let known : Known G = record { read = c.holdings_are_read.ensures; fits = c.pair_steps_fit.ensures; law = c.guest_calls_perform.ensures } in
    let p = c.in-Ok.ensures.serves in
    let is = c.in-Ok.performed in
    let serves = serves_store G e a b s (Ok is) p in
    let usable = usable_still G e a b (Ok is) p in
    acts_so known lot ids es a b c.requires.performed is serves is.lot failed failed is.dones.items (λ honest n y at. (p.value honest n y at).1)

pub returns-in-Ok-clause-others : goal.returns-in-Ok-clause-others
returns-in-Ok-clause-others g c =
    let G = g.G.Guested.GUEST in
    let ids = ids_of c.args.settled.now in
    let es = entries_of c.args.group.now in
    let lot = c.args.self.now.lot.number in
    let failed = c.args.self.now.failed in
    let a = store_of g.S.Store g.R.Read.remaining g.W.Write.contents c.args.self.now.store in
    let b = store_of g.S.Store g.R.Read.remaining g.W.Write.contents c.perform.new.store in
    let s = g.met.S.Store.settled c.args.self.now.store.pairs.conn.store in
    let e = performing G c.args.self.now.deaths lot ids es in
    let known : Known G = record { read = c.holdings_are_read.ensures; fits = c.pair_steps_fit.ensures; law = c.guest_calls_perform.ensures } in
    let p = c.in-Ok.ensures.serves in
    let is = c.in-Ok.performed in
    let serves = serves_store G e a b s (Ok is) p in
    let usable = usable_still G e a b (Ok is) p in
    others_so known lot ids es a b c.requires.performed is serves is.lot failed failed

pub returns-in-Ok-clause-lots : goal.returns-in-Ok-clause-lots
returns-in-Ok-clause-lots g c =
    let G = g.G.Guested.GUEST in
    let ids = ids_of c.args.settled.now in
    let es = entries_of c.args.group.now in
    let lot = c.args.self.now.lot.number in
    let failed = c.args.self.now.failed in
    let a = store_of g.S.Store g.R.Read.remaining g.W.Write.contents c.args.self.now.store in
    let b = store_of g.S.Store g.R.Read.remaining g.W.Write.contents c.perform.new.store in
    let s = g.met.S.Store.settled c.args.self.now.store.pairs.conn.store in
    let e = performing G c.args.self.now.deaths lot ids es in
    let known : Known G = record { read = c.holdings_are_read.ensures; fits = c.pair_steps_fit.ensures; law = c.guest_calls_perform.ensures } in
    let p = c.in-Ok.ensures.serves in
    let is = c.in-Ok.performed in
    let serves = serves_store G e a b s (Ok is) p in
    let usable = usable_still G e a b (Ok is) p in
    lots_so known lot is.lot ids es a b is serves (λ honest n y at. (p.value honest n y at).0) failed failed

pub returns-in-Ok-clause-crash : goal.returns-in-Ok-clause-crash
returns-in-Ok-clause-crash g c =
    let G = g.G.Guested.GUEST in
    let ids = ids_of c.args.settled.now in
    let es = entries_of c.args.group.now in
    let lot = c.args.self.now.lot.number in
    let failed = c.args.self.now.failed in
    let a = store_of g.S.Store g.R.Read.remaining g.W.Write.contents c.args.self.now.store in
    let b = store_of g.S.Store g.R.Read.remaining g.W.Write.contents c.perform.new.store in
    let s = g.met.S.Store.settled c.args.self.now.store.pairs.conn.store in
    let e = performing G c.args.self.now.deaths lot ids es in
    let known : Known G = record { read = c.holdings_are_read.ensures; fits = c.pair_steps_fit.ensures; law = c.guest_calls_perform.ensures } in
    let p = c.in-Ok.ensures.serves in
    let is = c.in-Ok.performed in
    let serves = serves_store G e a b s (Ok is) p in
    let usable = usable_still G e a b (Ok is) p in
    leaves_group known lot ids es a b c.requires.performed (Ok is) serves is.lot failed failed

pub returns-in-Ok-clause-crash_acts : goal.returns-in-Ok-clause-crash_acts
returns-in-Ok-clause-crash_acts g c =
    let G = g.G.Guested.GUEST in
    let ids = ids_of c.args.settled.now in
    let es = entries_of c.args.group.now in
    let lot = c.args.self.now.lot.number in
    let failed = c.args.self.now.failed in
    let a = store_of g.S.Store g.R.Read.remaining g.W.Write.contents c.args.self.now.store in
    let b = store_of g.S.Store g.R.Read.remaining g.W.Write.contents c.perform.new.store in
    let s = g.met.S.Store.settled c.args.self.now.store.pairs.conn.store in
    let e = performing G c.args.self.now.deaths lot ids es in
    let known : Known G = record { read = c.holdings_are_read.ensures; fits = c.pair_steps_fit.ensures; law = c.guest_calls_perform.ensures } in
    let p = c.in-Ok.ensures.serves in
    let is = c.in-Ok.performed in
    let serves = serves_store G e a b s (Ok is) p in
    let usable = usable_still G e a b (Ok is) p in
    leaves_acted known lot ids es a b c.requires.performed (Ok is) serves is.lot failed failed

pub returns-in-Ok-clause-firm : goal.returns-in-Ok-clause-firm
returns-in-Ok-clause-firm g c = λ honest so.
    let G = g.G.Guested.GUEST in
    let ids = ids_of c.args.settled.now in
    let es = entries_of c.args.group.now in
    let lot = c.args.self.now.lot.number in
    let failed = c.args.self.now.failed in
    let a = store_of g.S.Store g.R.Read.remaining g.W.Write.contents c.args.self.now.store in
    let b = store_of g.S.Store g.R.Read.remaining g.W.Write.contents c.perform.new.store in
    let s = g.met.S.Store.settled c.args.self.now.store.pairs.conn.store in
    let e = performing G c.args.self.now.deaths lot ids es in
    let known : Known G = record { read = c.holdings_are_read.ensures; fits = c.pair_steps_fit.ensures; law = c.guest_calls_perform.ensures } in
    let p = c.in-Ok.ensures.serves in
    let is = c.in-Ok.performed in
    let serves = serves_store G e a b s (Ok is) p in
    let usable = usable_still G e a b (Ok is) p in
    firm known.read G b is.lot failed (g.met.S.Store.settled c.perform.new.store.pairs.conn.store)

pub returns-in-Ok-clause-looked : goal.returns-in-Ok-clause-looked
returns-in-Ok-clause-looked g c = λ only.
    let G = g.G.Guested.GUEST in
    let ids = ids_of c.args.settled.now in
    let es = entries_of c.args.group.now in
    let lot = c.args.self.now.lot.number in
    let failed = c.args.self.now.failed in
    let a = store_of g.S.Store g.R.Read.remaining g.W.Write.contents c.args.self.now.store in
    let b = store_of g.S.Store g.R.Read.remaining g.W.Write.contents c.perform.new.store in
    let s = g.met.S.Store.settled c.args.self.now.store.pairs.conn.store in
    let e = performing G c.args.self.now.deaths lot ids es in
    let known : Known G = record { read = c.holdings_are_read.ensures; fits = c.pair_steps_fit.ensures; law = c.guest_calls_perform.ensures } in
    let p = c.in-Ok.ensures.serves in
    let is = c.in-Ok.performed in
    let serves = serves_store G e a b s (Ok is) p in
    let usable = usable_still G e a b (Ok is) p in
    let same = c.in-Ok.ensures.same_lot (nothing_is _ ids only.0 only.1) in
    subst (λ (o : Option ℕ). Looked (guest_told G a lot failed) (guest_told G b o failed) (Ok is.dones)) (sym same)
    (seen_well known.read G a b (g.met.S.Store.stays c.args.self.now.store.pairs.conn.store) is is.dones
    (serves_still G (performed lot ids es) a b (Ok is) (λ honest y. nothing_by G a ids es only (serves.honest honest) lot y) serves) usable lot failed)

pub returns-in-Err-clause-called : goal.returns-in-Err-clause-called
returns-in-Err-clause-called g c =
    let G = g.G.Guested.GUEST in
    let ids = ids_of c.args.settled.now in
    let es = entries_of c.args.group.now in
    let lot = c.args.self.now.lot.number in
    let failed = c.args.self.now.failed in
    let a = store_of g.S.Store g.R.Read.remaining g.W.Write.contents c.args.self.now.store in
    let b = store_of g.S.Store g.R.Read.remaining g.W.Write.contents c.perform.new.store in
    let s = g.met.S.Store.settled c.args.self.now.store.pairs.conn.store in
    let e = performing G c.args.self.now.deaths lot ids es in
    let known : Known G = record { read = c.holdings_are_read.ensures; fits = c.pair_steps_fit.ensures; law = c.guest_calls_perform.ensures } in
    let p = c.in-Err.ensures.serves in
    let f = c.in-Err.fault in
    let serves = serves_store G e a b s (Err f) p in
    let usable = usable_still G e a b (Err f) p in
    went_wrong known.read G (performed lot ids es) a b f serves lot (lot_may known.read G lot a b f p.plain p.fault) failed

pub returns-in-Err-clause-may : goal.returns-in-Err-clause-may
returns-in-Err-clause-may g c =
    let G = g.G.Guested.GUEST in
    let ids = ids_of c.args.settled.now in
    let es = entries_of c.args.group.now in
    let lot = c.args.self.now.lot.number in
    let failed = c.args.self.now.failed in
    let a = store_of g.S.Store g.R.Read.remaining g.W.Write.contents c.args.self.now.store in
    let b = store_of g.S.Store g.R.Read.remaining g.W.Write.contents c.perform.new.store in
    let s = g.met.S.Store.settled c.args.self.now.store.pairs.conn.store in
    let e = performing G c.args.self.now.deaths lot ids es in
    let known : Known G = record { read = c.holdings_are_read.ensures; fits = c.pair_steps_fit.ensures; law = c.guest_calls_perform.ensures } in
    let p = c.in-Err.ensures.serves in
    let f = c.in-Err.fault in
    let serves = serves_store G e a b s (Err f) p in
    let usable = usable_still G e a b (Err f) p in
    failed_may G (performed lot ids es) a b f serves usable lot failed true

pub returns-in-Err-clause-crash : goal.returns-in-Err-clause-crash
returns-in-Err-clause-crash g c =
    let G = g.G.Guested.GUEST in
    let ids = ids_of c.args.settled.now in
    let es = entries_of c.args.group.now in
    let lot = c.args.self.now.lot.number in
    let failed = c.args.self.now.failed in
    let a = store_of g.S.Store g.R.Read.remaining g.W.Write.contents c.args.self.now.store in
    let b = store_of g.S.Store g.R.Read.remaining g.W.Write.contents c.perform.new.store in
    let s = g.met.S.Store.settled c.args.self.now.store.pairs.conn.store in
    let e = performing G c.args.self.now.deaths lot ids es in
    let known : Known G = record { read = c.holdings_are_read.ensures; fits = c.pair_steps_fit.ensures; law = c.guest_calls_perform.ensures } in
    let p = c.in-Err.ensures.serves in
    let f = c.in-Err.fault in
    let serves = serves_store G e a b s (Err f) p in
    let usable = usable_still G e a b (Err f) p in
    leaves_group known lot ids es a b c.requires.performed (Err f) serves lot failed true

pub returns-in-Err-clause-crash_acts : goal.returns-in-Err-clause-crash_acts
returns-in-Err-clause-crash_acts g c =
    let G = g.G.Guested.GUEST in
    let ids = ids_of c.args.settled.now in
    let es = entries_of c.args.group.now in
    let lot = c.args.self.now.lot.number in
    let failed = c.args.self.now.failed in
    let a = store_of g.S.Store g.R.Read.remaining g.W.Write.contents c.args.self.now.store in
    let b = store_of g.S.Store g.R.Read.remaining g.W.Write.contents c.perform.new.store in
    let s = g.met.S.Store.settled c.args.self.now.store.pairs.conn.store in
    let e = performing G c.args.self.now.deaths lot ids es in
    let known : Known G = record { read = c.holdings_are_read.ensures; fits = c.pair_steps_fit.ensures; law = c.guest_calls_perform.ensures } in
    let p = c.in-Err.ensures.serves in
    let f = c.in-Err.fault in
    let serves = serves_store G e a b s (Err f) p in
    let usable = usable_still G e a b (Err f) p in
    leaves_acted known lot ids es a b c.requires.performed (Err f) serves lot failed true

pub returns-in-Err-clause-looked : goal.returns-in-Err-clause-looked
returns-in-Err-clause-looked g c = λ only.
    let G = g.G.Guested.GUEST in
    let ids = ids_of c.args.settled.now in
    let es = entries_of c.args.group.now in
    let lot = c.args.self.now.lot.number in
    let failed = c.args.self.now.failed in
    let a = store_of g.S.Store g.R.Read.remaining g.W.Write.contents c.args.self.now.store in
    let b = store_of g.S.Store g.R.Read.remaining g.W.Write.contents c.perform.new.store in
    let s = g.met.S.Store.settled c.args.self.now.store.pairs.conn.store in
    let e = performing G c.args.self.now.deaths lot ids es in
    let known : Known G = record { read = c.holdings_are_read.ensures; fits = c.pair_steps_fit.ensures; law = c.guest_calls_perform.ensures } in
    let p = c.in-Err.ensures.serves in
    let f = c.in-Err.fault in
    let serves = serves_store G e a b s (Err f) p in
    let usable = usable_still G e a b (Err f) p in
    seen_wrong known.read G a b (g.met.S.Store.stays c.args.self.now.store.pairs.conn.store) f
    (serves_still G (performed lot ids es) a b (Err f) (λ honest y. nothing_by G a ids es only (serves.honest honest) lot y) serves) usable lot
    (lot_may known.read G lot a b f p.plain p.fault) failed

-- ---- what is held

pub returns-in-Ok-clause-held : goal.returns-in-Ok-clause-held
returns-in-Ok-clause-held g c =
    let G = g.G.Guested.GUEST in
    let ids = ids_of c.args.settled.now in
    let es = entries_of c.args.group.now in
    let lot = c.args.self.now.lot.number in
    let a = store_of g.S.Store g.R.Read.remaining g.W.Write.contents c.args.self.now.store in
    let b = store_of g.S.Store g.R.Read.remaining g.W.Write.contents c.perform.new.store in
    let s = g.met.S.Store.settled c.args.self.now.store.pairs.conn.store in
    let e = performing G c.args.self.now.deaths lot ids es in
    let is = c.in-Ok.performed in
    serves_ok G (performed lot ids es) a b is is.dones (serves_store G e a b s (Ok is) c.in-Ok.ensures.serves)

pub returns-in-Err-clause-held : goal.returns-in-Err-clause-held
returns-in-Err-clause-held g c =
    let G = g.G.Guested.GUEST in
    let ids = ids_of c.args.settled.now in
    let es = entries_of c.args.group.now in
    let lot = c.args.self.now.lot.number in
    let a = store_of g.S.Store g.R.Read.remaining g.W.Write.contents c.args.self.now.store in
    let b = store_of g.S.Store g.R.Read.remaining g.W.Write.contents c.perform.new.store in
    let s = g.met.S.Store.settled c.args.self.now.store.pairs.conn.store in
    let e = performing G c.args.self.now.deaths lot ids es in
    serves_err G (performed lot ids es) a b c.in-Err.fault (serves_store G e a b s (Err c.in-Err.fault) c.in-Err.ensures.serves)

-- ---- what is asked

pub returns-in-Ok-clause-asks : goal.returns-in-Ok-clause-asks
returns-in-Ok-clause-asks g c = c.in-Ok.ensures.serves.asked

pub returns-in-Err-clause-asks : goal.returns-in-Err-clause-asks
returns-in-Err-clause-asks g c = c.in-Err.ensures.serves.asked

-- ---- the fault

pub returns-in-Err-clause-fault : goal.returns-in-Err-clause-fault
returns-in-Err-clause-fault g c = λ honest. c.in-Err.ensures.serves.fault honest

-- ---- of any database

pub returns-in-Ok-clause-ends : goal.returns-in-Ok-clause-ends
returns-in-Ok-clause-ends g c =
    let a = store_of g.S.Store g.R.Read.remaining g.W.Write.contents c.args.self.now.store in
    let b = store_of g.S.Store g.R.Read.remaining g.W.Write.contents c.perform.new.store in
    ends_as a.tables b.tables c.in-Ok.performed c.in-Ok.performed.dones c.in-Ok.ensures.ends

pub returns-in-Err-clause-ends : goal.returns-in-Err-clause-ends
returns-in-Err-clause-ends g c =
    let a = store_of g.S.Store g.R.Read.remaining g.W.Write.contents c.args.self.now.store in
    let b = store_of g.S.Store g.R.Read.remaining g.W.Write.contents c.perform.new.store in
    ends_fails a.tables b.tables c.in-Err.fault c.in-Err.ensures.ends

pub returns-in-Ok-clause-alone : goal.returns-in-Ok-clause-alone
returns-in-Ok-clause-alone g c = λ only. c.in-Ok.ensures.alone (nothing_is _ (ids_of c.args.settled.now) only.0 only.1)

pub returns-in-Err-clause-alone : goal.returns-in-Err-clause-alone
returns-in-Err-clause-alone g c = λ only. c.in-Err.ensures.alone (nothing_is _ (ids_of c.args.settled.now) only.0 only.1)
