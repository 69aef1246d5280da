use Rattle.std.proofs.Common.{◌≡◌, true, refl, sym, subst}
use Rattle.fuse_keeper.specs.Group.{entries_of, ids_of}
use Rattle.fuse_keeper.specs.History.{kept_of}
use Rattle.fuse_guest.specs.Service.{service_of}
use Rattle.guest_frames.specs.declared.ready.Ready.{Ready}
use Rattle.guest_store.specs.declared.transaction.Performed.{Performed}
use Rattle.guest_store.specs.Group.{keeps_nothing}
use Rattle.guest_store.specs.Keeping.{store_of}
use Rattle.guest_store.proofs.Whole.{nothing_kept, saw, saw_not}
use Rattle.sqlite.specs.Held.{state}
use Rattle.guest_store.proofs.Ending.{ends_alone}
use Rattle.guest_store.proofs.transaction.see_group.Goals as goal

pub see_at_rest-requires-clause-seen : goal.see_at_rest-requires-clause-seen
see_at_rest-requires-clause-seen g c = (nothing_kept _ (ids_of c.args.settled.now) c.requires.nothing).0

pub returns-in-Ok-clause-serves : goal.returns-in-Ok-clause-serves
returns-in-Ok-clause-serves g c =
    let tell = store_of g.S.Store g.R.Read.remaining g.W.Write.contents in
    let G = g.G.Guested.GUEST in
    let ids = ids_of c.args.settled.now in
    let es = entries_of c.args.group.now in
    let p : Performed = record { lot = c.args.lot; dones = c.in-Ok.seen.dones } in
    saw G c.args.deaths c.args.lot ids es (tell c.args.store.now) (tell c.see_at_rest.new.store) c.in-Ok.seen p refl refl
    (subst (λ (r : Ready). keeps_nothing (kept_of (service_of r) es) ids ≡ true) (sym c.in-Ok.ensures.serves.spoke.ready) c.requires.nothing) c.in-Ok.ensures.serves

pub returns-in-Err-clause-serves : goal.returns-in-Err-clause-serves
returns-in-Err-clause-serves g c =
    let tell = store_of g.S.Store g.R.Read.remaining g.W.Write.contents in
    let G = g.G.Guested.GUEST in
    let ids = ids_of c.args.settled.now in
    let es = entries_of c.args.group.now in
    saw_not G c.args.deaths c.args.lot ids es (tell c.args.store.now) (tell c.see_at_rest.new.store) c.in-Err.fault
    (subst (λ (r : Ready). keeps_nothing (kept_of (service_of r) es) ids ≡ true) (sym c.in-Err.ensures.serves.spoke.ready) c.requires.nothing) c.in-Err.ensures.serves

pub returns-in-Ok-clause-alone : goal.returns-in-Ok-clause-alone
returns-in-Ok-clause-alone g c = c.in-Ok.ensures.alone

pub returns-in-Err-clause-alone : goal.returns-in-Err-clause-alone
returns-in-Err-clause-alone g c = c.in-Err.ensures.alone

pub returns-in-Ok-clause-ends : goal.returns-in-Ok-clause-ends
returns-in-Ok-clause-ends g c =
    ends_alone (state g.S.Store c.args.store.now.pairs.conn) (state g.S.Store c.see_at_rest.new.store.pairs.conn) _ c.in-Ok.ensures.alone

pub returns-in-Err-clause-ends : goal.returns-in-Err-clause-ends
returns-in-Err-clause-ends g c =
    ends_alone (state g.S.Store c.args.store.now.pairs.conn) (state g.S.Store c.see_at_rest.new.store.pairs.conn) _ c.in-Err.ensures.alone
