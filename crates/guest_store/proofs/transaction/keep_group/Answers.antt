use Rattle.std.proofs.Common.{◌≡◌, false, Some, refl, sym, subst}
use Rattle.fuse_keeper.specs.Group.{entries_of, ids_of}
use Rattle.fuse_keeper.specs.History.{kept_of}
use Rattle.fuse_guest.specs.Service.{service_of}
use Rattle.guest_frames.specs.declared.ready.Ready.{Ready}
use Rattle.guest_store.specs.declared.transaction.Performed.{Performed}
use Rattle.guest_store.specs.Group.{keeps_nothing}
use Rattle.guest_store.specs.Keeping.{store_of}
use Rattle.guest_store.proofs.Whole.{did, did_not}
use Rattle.sqlite.specs.Held.{state}
use Rattle.guest_store.proofs.Ending.{ends_as, ends_fails}
use Rattle.guest_store.proofs.transaction.keep_group.Goals as goal

pub returns-in-Ok-clause-serves : goal.returns-in-Ok-clause-serves
returns-in-Ok-clause-serves g c =
    let tell = store_of g.S.Store g.R.Read.remaining g.W.Write.contents in
    let G = g.G.Guested.GUEST in
    let ids = ids_of c.args.settled.now in
    let es = entries_of c.args.group.now in
    let p : Performed = record { lot = Some c.in-Ok.transacted.lot; dones = c.in-Ok.transacted.dones } in
    did G c.args.deaths c.args.lot ids es (tell c.args.store.now) (tell c.commit_group.new.store) c.in-Ok.transacted p refl refl
    (subst (λ (r : Ready). keeps_nothing (kept_of (service_of r) es) ids ≡ false) (sym c.in-Ok.ensures.serves.spoke.ready) c.requires.some) c.in-Ok.ensures.serves

pub returns-in-Err-clause-serves : goal.returns-in-Err-clause-serves
returns-in-Err-clause-serves g c =
    let tell = store_of g.S.Store g.R.Read.remaining g.W.Write.contents in
    let G = g.G.Guested.GUEST in
    let ids = ids_of c.args.settled.now in
    let es = entries_of c.args.group.now in
    did_not G c.args.deaths c.args.lot ids es (tell c.args.store.now) (tell c.commit_group.new.store) c.in-Err.fault
    (subst (λ (r : Ready). keeps_nothing (kept_of (service_of r) es) ids ≡ false) (sym c.in-Err.ensures.serves.spoke.ready) c.requires.some) c.in-Err.ensures.serves

pub returns-in-Ok-clause-ends : goal.returns-in-Ok-clause-ends
returns-in-Ok-clause-ends g c =
    let p : Performed = record { lot = Some c.in-Ok.transacted.lot; dones = c.in-Ok.transacted.dones } in
    ends_as (state g.S.Store c.args.store.now.pairs.conn) (state g.S.Store c.commit_group.new.store.pairs.conn) c.in-Ok.transacted p c.in-Ok.ensures.ends

pub returns-in-Err-clause-ends : goal.returns-in-Err-clause-ends
returns-in-Err-clause-ends g c =
    ends_fails (state g.S.Store c.args.store.now.pairs.conn) (state g.S.Store c.commit_group.new.store.pairs.conn) c.in-Err.fault c.in-Err.ensures.ends
