use Rattle.std.proofs.Common.{true, cond, Option, Ok, Err, ℕ, sym, ap, subst}
use Rattle.fuse_store_tree.specs.StoreState.{store_in}
use Rattle.fuse_keeper.specs.Group.{ids_of, entries_of}
use Rattle.fuse_tree.specs.Rowed.{rowed}
use Rattle.fuse_tree.specs.TheTree.{tree_of}
use Rattle.fuse_keeper.specs.History.{kept_of}
use Rattle.fuse_store_tree.specs.Holding.{Holding}
use Rattle.fuse_store_tree.specs.Group.{keeps_nothing, transacted, performed}
use Rattle.fuse_store_tree.specs.Knowing.{Knows}
use Rattle.fuse_keeper.specs.KeeperState.{Looked}
use Rattle.fuse_store.specs.TableState.{table_told}
use Rattle.fuse_store.specs.TableKeeper.{LiesInMemory}
use Rattle.fuse_store.proofs.Serving.{firm, serves_ok, serves_err}
use Rattle.fuse_store.proofs.Grouping.{ServesGroup, SaysGroup, TakesLotFor, performs, acts_so, others_so, lots_so, leaves_group, leaves_acted}
use Rattle.fuse_store.proofs.Peeking.{went_well, went_wrong, lot_may, took_may, failed_may, seen_well, seen_wrong}
use Rattle.fuse_store.proofs.Grouping.{nothing_for, serves_still, fails_still}
use Rattle.fuse_store.proofs.keeping.TableKeeperKeeper.perform.Goals as goal

pub returns-in-Ok-clause-called : goal.returns-in-Ok-clause-called
returns-in-Ok-clause-called g c =
    let p = g.P.Profiled.PROFILE in
    let ids = ids_of c.args.settled.now in
    let es = entries_of c.args.group.now in
    let m = c.args.self.now.look.known in
    let n = c.perform.new.look.known in
    let lot = c.args.self.now.lot.number in
    let a = store_in g.S.Store g.D.Disk c.args.self.now.look.conn c.args.self.now.look.contents.file in
    let b = store_in g.S.Store g.D.Disk c.perform.new.look.conn c.perform.new.look.contents.file in
    let V = (tree_of c.PROFILE.result).service in
    went_well p m n (performed V lot ids es) a b c.in-Ok.performed c.in-Ok.performed.dones c.in-Ok.ensures.serves c.in-Ok.ensures.usable lot
    c.in-Ok.performed.lot c.args.self.now.failed

pub returns-in-Ok-clause-ok : goal.returns-in-Ok-clause-ok
returns-in-Ok-clause-ok g c =
    let p = g.P.Profiled.PROFILE in
    let ids = ids_of c.args.settled.now in
    let es = entries_of c.args.group.now in
    let m = c.args.self.now.look.known in
    let n = c.perform.new.look.known in
    let lot = c.args.self.now.lot.number in
    let a = store_in g.S.Store g.D.Disk c.args.self.now.look.conn c.args.self.now.look.contents.file in
    let b = store_in g.S.Store g.D.Disk c.perform.new.look.conn c.perform.new.look.contents.file in
    let serves = subst (ServesGroup m n lot ids es a b (Ok c.in-Ok.performed)) c.PROFILE.ensures c.in-Ok.ensures.serves in
    let dones = subst (SaysGroup m lot ids es a b c.in-Ok.performed.dones.items) c.PROFILE.ensures c.in-Ok.ensures.dones in
    performs p c.one_holding.ensures c.calls_perform.ensures m n lot ids es a b c.in-Ok.performed serves c.in-Ok.performed.lot c.args.self.now.failed c.args.self.now.failed
    c.in-Ok.performed.dones.items dones

pub returns-in-Ok-clause-may : goal.returns-in-Ok-clause-may
returns-in-Ok-clause-may g c =
    let p = g.P.Profiled.PROFILE in
    let ids = ids_of c.args.settled.now in
    let es = entries_of c.args.group.now in
    let m = c.args.self.now.look.known in
    let n = c.perform.new.look.known in
    let lot = c.args.self.now.lot.number in
    let a = store_in g.S.Store g.D.Disk c.args.self.now.look.conn c.args.self.now.look.contents.file in
    let b = store_in g.S.Store g.D.Disk c.perform.new.look.conn c.perform.new.look.contents.file in
    let V = (tree_of c.PROFILE.result).service in
    took_may p m n (performed V lot ids es) (keeps_nothing (kept_of V es) ids) c.in-Ok.performed.lot lot a b c.in-Ok.performed
    (λ is. (c.in-Ok.ensures.same_lot is, λ y. ap (λ b. cond b y (transacted V lot ids es y)) is)) c.in-Ok.ensures.some_lot c.in-Ok.ensures.serves
    c.in-Ok.ensures.usable c.args.self.now.failed c.args.self.now.failed

pub returns-in-Ok-clause-acts : goal.returns-in-Ok-clause-acts
returns-in-Ok-clause-acts g c =
    let p = g.P.Profiled.PROFILE in
    let ids = ids_of c.args.settled.now in
    let es = entries_of c.args.group.now in
    let m = c.args.self.now.look.known in
    let n = c.perform.new.look.known in
    let lot = c.args.self.now.lot.number in
    let a = store_in g.S.Store g.D.Disk c.args.self.now.look.conn c.args.self.now.look.contents.file in
    let b = store_in g.S.Store g.D.Disk c.perform.new.look.conn c.perform.new.look.contents.file in
    let serves = subst (ServesGroup m n lot ids es a b (Ok c.in-Ok.performed)) c.PROFILE.ensures c.in-Ok.ensures.serves in
    let dones = subst (SaysGroup m lot ids es a b c.in-Ok.performed.dones.items) c.PROFILE.ensures c.in-Ok.ensures.dones in
    acts_so p c.one_holding.ensures c.calls_perform.ensures m n lot ids es a b c.in-Ok.performed serves c.in-Ok.performed.lot c.args.self.now.failed c.args.self.now.failed
    c.in-Ok.performed.dones.items dones

pub returns-in-Ok-clause-others : goal.returns-in-Ok-clause-others
returns-in-Ok-clause-others g c =
    let p = g.P.Profiled.PROFILE in
    let ids = ids_of c.args.settled.now in
    let es = entries_of c.args.group.now in
    let m = c.args.self.now.look.known in
    let n = c.perform.new.look.known in
    let lot = c.args.self.now.lot.number in
    let a = store_in g.S.Store g.D.Disk c.args.self.now.look.conn c.args.self.now.look.contents.file in
    let b = store_in g.S.Store g.D.Disk c.perform.new.look.conn c.perform.new.look.contents.file in
    let serves = subst (ServesGroup m n lot ids es a b (Ok c.in-Ok.performed)) c.PROFILE.ensures c.in-Ok.ensures.serves in
    others_so p c.one_holding.ensures c.calls_perform.ensures m n lot ids es a b c.in-Ok.performed serves c.rows_tell_state.ensures c.in-Ok.performed.lot
    c.args.self.now.failed c.args.self.now.failed

pub returns-in-Ok-clause-lots : goal.returns-in-Ok-clause-lots
returns-in-Ok-clause-lots g c =
    let p = g.P.Profiled.PROFILE in
    let ids = ids_of c.args.settled.now in
    let es = entries_of c.args.group.now in
    let m = c.args.self.now.look.known in
    let n = c.perform.new.look.known in
    let lot = c.args.self.now.lot.number in
    let a = store_in g.S.Store g.D.Disk c.args.self.now.look.conn c.args.self.now.look.contents.file in
    let b = store_in g.S.Store g.D.Disk c.perform.new.look.conn c.perform.new.look.contents.file in
    let serves = subst (ServesGroup m n lot ids es a b (Ok c.in-Ok.performed)) c.PROFILE.ensures c.in-Ok.ensures.serves in
    let taken = subst (TakesLotFor m lot ids es a b c.in-Ok.performed.lot) c.PROFILE.ensures c.in-Ok.ensures.lot in
    lots_so p c.lots_are_read.ensures.same c.calls_perform.ensures m n lot ids es a b c.in-Ok.performed serves c.in-Ok.performed.lot c.args.self.now.failed
    c.args.self.now.failed taken

pub returns-in-Ok-clause-crash : goal.returns-in-Ok-clause-crash
returns-in-Ok-clause-crash g c =
    let p = g.P.Profiled.PROFILE in
    let ids = ids_of c.args.settled.now in
    let es = entries_of c.args.group.now in
    let m = c.args.self.now.look.known in
    let n = c.perform.new.look.known in
    let lot = c.args.self.now.lot.number in
    let a = store_in g.S.Store g.D.Disk c.args.self.now.look.conn c.args.self.now.look.contents.file in
    let b = store_in g.S.Store g.D.Disk c.perform.new.look.conn c.perform.new.look.contents.file in
    let serves = subst (ServesGroup m n lot ids es a b (Ok c.in-Ok.performed)) c.PROFILE.ensures c.in-Ok.ensures.serves in
    leaves_group p c.one_holding.ensures c.calls_perform.ensures m n lot ids es a b (Ok c.in-Ok.performed) serves c.in-Ok.performed.lot c.args.self.now.failed c.args.self.now.failed

pub returns-in-Ok-clause-firm : goal.returns-in-Ok-clause-firm
returns-in-Ok-clause-firm g c =
    λ clean. firm g.P.Profiled.PROFILE c.one_holding.ensures c.perform.new.look.known (store_in g.S.Store g.D.Disk c.perform.new.look.conn c.perform.new.look.contents.file) c.in-Ok.performed.lot c.args.self.now.failed
    (g.met.S.Store.settled c.perform.new.look.conn.store)

pub returns-in-Err-clause-called : goal.returns-in-Err-clause-called
returns-in-Err-clause-called g c =
    let p = g.P.Profiled.PROFILE in
    let ids = ids_of c.args.settled.now in
    let es = entries_of c.args.group.now in
    let m = c.args.self.now.look.known in
    let n = c.perform.new.look.known in
    let lot = c.args.self.now.lot.number in
    let a = store_in g.S.Store g.D.Disk c.args.self.now.look.conn c.args.self.now.look.contents.file in
    let b = store_in g.S.Store g.D.Disk c.perform.new.look.conn c.perform.new.look.contents.file in
    let V = (tree_of c.PROFILE.result).service in
    went_wrong p c.one_holding.ensures c.lots_are_read.ensures.same m n (performed V lot ids es) a b c.in-Err.fault
    (λ y k. subst (λ o. Knows o (rowed y.tree)) (sym c.in-Err.ensures.forgets) tt) c.in-Err.ensures.serves lot
    (lot_may c.one_holding.ensures m lot a b c.in-Err.fault c.in-Err.ensures.plain c.in-Err.ensures.fault) c.args.self.now.failed

pub returns-in-Err-clause-may : goal.returns-in-Err-clause-may
returns-in-Err-clause-may g c =
    let p = g.P.Profiled.PROFILE in
    let ids = ids_of c.args.settled.now in
    let es = entries_of c.args.group.now in
    let m = c.args.self.now.look.known in
    let n = c.perform.new.look.known in
    let lot = c.args.self.now.lot.number in
    let a = store_in g.S.Store g.D.Disk c.args.self.now.look.conn c.args.self.now.look.contents.file in
    let b = store_in g.S.Store g.D.Disk c.perform.new.look.conn c.perform.new.look.contents.file in
    let V = (tree_of c.PROFILE.result).service in
    failed_may p m n (performed V lot ids es) a b c.in-Err.fault (λ y k. subst (λ o. Knows o (rowed y.tree)) (sym c.in-Err.ensures.forgets) tt)
    c.in-Err.ensures.serves c.in-Err.ensures.usable lot c.args.self.now.failed true

pub returns-in-Err-clause-crash : goal.returns-in-Err-clause-crash
returns-in-Err-clause-crash g c =
    let p = g.P.Profiled.PROFILE in
    let ids = ids_of c.args.settled.now in
    let es = entries_of c.args.group.now in
    let m = c.args.self.now.look.known in
    let n = c.perform.new.look.known in
    let lot = c.args.self.now.lot.number in
    let a = store_in g.S.Store g.D.Disk c.args.self.now.look.conn c.args.self.now.look.contents.file in
    let b = store_in g.S.Store g.D.Disk c.perform.new.look.conn c.perform.new.look.contents.file in
    let serves = subst (ServesGroup m n lot ids es a b (Err c.in-Err.fault)) c.PROFILE.ensures c.in-Err.ensures.serves in
    leaves_group p c.one_holding.ensures c.calls_perform.ensures m n lot ids es a b (Err c.in-Err.fault) serves lot c.args.self.now.failed true

pub returns-in-Ok-clause-crash_acts : goal.returns-in-Ok-clause-crash_acts
returns-in-Ok-clause-crash_acts g c =
    let p = g.P.Profiled.PROFILE in
    let ids = ids_of c.args.settled.now in
    let es = entries_of c.args.group.now in
    let m = c.args.self.now.look.known in
    let n = c.perform.new.look.known in
    let lot = c.args.self.now.lot.number in
    let a = store_in g.S.Store g.D.Disk c.args.self.now.look.conn c.args.self.now.look.contents.file in
    let b = store_in g.S.Store g.D.Disk c.perform.new.look.conn c.perform.new.look.contents.file in
    let serves = subst (ServesGroup m n lot ids es a b (Ok c.in-Ok.performed)) c.PROFILE.ensures c.in-Ok.ensures.serves in
    leaves_acted p c.one_holding.ensures c.calls_perform.ensures m n lot ids es a b (Ok c.in-Ok.performed) serves c.in-Ok.performed.lot c.args.self.now.failed c.args.self.now.failed

pub returns-in-Err-clause-crash_acts : goal.returns-in-Err-clause-crash_acts
returns-in-Err-clause-crash_acts g c =
    let p = g.P.Profiled.PROFILE in
    let ids = ids_of c.args.settled.now in
    let es = entries_of c.args.group.now in
    let m = c.args.self.now.look.known in
    let n = c.perform.new.look.known in
    let lot = c.args.self.now.lot.number in
    let a = store_in g.S.Store g.D.Disk c.args.self.now.look.conn c.args.self.now.look.contents.file in
    let b = store_in g.S.Store g.D.Disk c.perform.new.look.conn c.perform.new.look.contents.file in
    let serves = subst (ServesGroup m n lot ids es a b (Err c.in-Err.fault)) c.PROFILE.ensures c.in-Err.ensures.serves in
    leaves_acted p c.one_holding.ensures c.calls_perform.ensures m n lot ids es a b (Err c.in-Err.fault) serves lot c.args.self.now.failed true

pub returns-in-Ok-clause-ended : goal.returns-in-Ok-clause-ended
returns-in-Ok-clause-ended g c = c.in-Ok.ensures.ended

pub returns-in-Err-clause-ended : goal.returns-in-Err-clause-ended
returns-in-Err-clause-ended g c = c.in-Err.ensures.ended

pub returns-in-Err-clause-refused : goal.returns-in-Err-clause-refused
returns-in-Err-clause-refused g c = c.in-Err.ensures.refused

pub returns-in-Err-clause-undone : goal.returns-in-Err-clause-undone
returns-in-Err-clause-undone g c = c.in-Err.ensures.undone

pub returns-in-Ok-clause-once : goal.returns-in-Ok-clause-once
returns-in-Ok-clause-once g c =
    let once = c.in-Ok.ensures.once in
    record { trees = once.trees; survives = once.survives; made = once.made }

pub returns-in-Err-clause-once : goal.returns-in-Err-clause-once
returns-in-Err-clause-once g c =
    let once = c.in-Err.ensures.once in
    record { trees = once.trees; survives = once.survives; made = tt }

-- ---- what is held

pub returns-in-Ok-clause-held : goal.returns-in-Ok-clause-held
returns-in-Ok-clause-held g c =
    let ids = ids_of c.args.settled.now in
    let es = entries_of c.args.group.now in
    let m = c.args.self.now.look.known in
    let n = c.perform.new.look.known in
    let lot = c.args.self.now.lot.number in
    let a = store_in g.S.Store g.D.Disk c.args.self.now.look.conn c.args.self.now.look.contents.file in
    let b = store_in g.S.Store g.D.Disk c.perform.new.look.conn c.perform.new.look.contents.file in
    let serves = subst (ServesGroup m n lot ids es a b (Ok c.in-Ok.performed)) c.PROFILE.ensures c.in-Ok.ensures.serves in
    serves_ok m n _ a b c.in-Ok.performed c.in-Ok.performed.dones serves

pub returns-in-Err-clause-held : goal.returns-in-Err-clause-held
returns-in-Err-clause-held g c =
    let ids = ids_of c.args.settled.now in
    let es = entries_of c.args.group.now in
    let m = c.args.self.now.look.known in
    let n = c.perform.new.look.known in
    let lot = c.args.self.now.lot.number in
    let a = store_in g.S.Store g.D.Disk c.args.self.now.look.conn c.args.self.now.look.contents.file in
    let b = store_in g.S.Store g.D.Disk c.perform.new.look.conn c.perform.new.look.contents.file in
    let serves = subst (ServesGroup m n lot ids es a b (Err c.in-Err.fault)) c.PROFILE.ensures c.in-Err.ensures.serves in
    serves_err m n _ a b c.in-Err.fault serves

-- ---- where nothing is to be kept

pub returns-in-Ok-clause-alone : goal.returns-in-Ok-clause-alone
returns-in-Ok-clause-alone g c = λ only.
    c.in-Ok.ensures.alone (nothing_for g.P.Profiled.PROFILE c.PROFILE.result c.PROFILE.ensures (entries_of c.args.group.now) (ids_of c.args.settled.now) only)

pub returns-in-Err-clause-alone : goal.returns-in-Err-clause-alone
returns-in-Err-clause-alone g c = λ only.
    c.in-Err.ensures.alone (nothing_for g.P.Profiled.PROFILE c.PROFILE.result c.PROFILE.ensures (entries_of c.args.group.now) (ids_of c.args.settled.now) only)

pub returns-in-Ok-clause-looked : goal.returns-in-Ok-clause-looked
returns-in-Ok-clause-looked g c = λ only.
    let p = g.P.Profiled.PROFILE in
    let ids = ids_of c.args.settled.now in
    let es = entries_of c.args.group.now in
    let m = c.args.self.now.look.known in
    let n = c.perform.new.look.known in
    let lot = c.args.self.now.lot.number in
    let a = store_in g.S.Store g.D.Disk c.args.self.now.look.conn c.args.self.now.look.contents.file in
    let b = store_in g.S.Store g.D.Disk c.perform.new.look.conn c.perform.new.look.contents.file in
    let V = (tree_of c.PROFILE.result).service in
    let nothing = nothing_for p c.PROFILE.result c.PROFILE.ensures es ids only in
    let serves = serves_still m n (performed V lot ids es) a b c.in-Ok.performed (λ y. ap (λ b. cond b y (transacted V lot ids es y)) nothing)
    c.in-Ok.ensures.serves in
    subst (λ (o : Option ℕ). Looked (table_told p (LiesInMemory g.S.Store g.D.Disk) m a lot c.args.self.now.failed) (table_told p (LiesInMemory g.S.Store g.D.Disk) n b o c.args.self.now.failed) (Ok c.in-Ok.performed.dones))
    (sym (c.in-Ok.ensures.same_lot nothing))
    (seen_well p c.one_holding.ensures c.lots_are_read.ensures.same m a b (g.met.S.Store.settled c.args.self.now.look.conn.store)
    (g.met.S.Store.stays c.args.self.now.look.conn.store) (c.in-Ok.ensures.reads nothing).crash n c.in-Ok.performed c.in-Ok.performed.dones serves c.in-Ok.ensures.usable lot
    c.args.self.now.failed)

pub returns-in-Err-clause-looked : goal.returns-in-Err-clause-looked
returns-in-Err-clause-looked g c = λ only.
    let p = g.P.Profiled.PROFILE in
    let ids = ids_of c.args.settled.now in
    let es = entries_of c.args.group.now in
    let m = c.args.self.now.look.known in
    let n = c.perform.new.look.known in
    let lot = c.args.self.now.lot.number in
    let a = store_in g.S.Store g.D.Disk c.args.self.now.look.conn c.args.self.now.look.contents.file in
    let b = store_in g.S.Store g.D.Disk c.perform.new.look.conn c.perform.new.look.contents.file in
    let V = (tree_of c.PROFILE.result).service in
    let nothing = nothing_for p c.PROFILE.result c.PROFILE.ensures es ids only in
    let serves = fails_still m n (performed V lot ids es) a b c.in-Err.fault (λ y. ap (λ b. cond b y (transacted V lot ids es y)) nothing)
    c.in-Err.ensures.serves in
    seen_wrong p c.one_holding.ensures c.lots_are_read.ensures.same m a b (g.met.S.Store.settled c.args.self.now.look.conn.store)
    (g.met.S.Store.stays c.args.self.now.look.conn.store) (c.in-Err.ensures.reads nothing).crash n c.in-Err.fault
    (λ y k. subst (λ o. Knows o (rowed y.tree)) (sym c.in-Err.ensures.forgets) tt) serves c.in-Err.ensures.usable lot
    (lot_may c.one_holding.ensures m lot a b c.in-Err.fault c.in-Err.ensures.plain c.in-Err.ensures.fault) c.args.self.now.failed
