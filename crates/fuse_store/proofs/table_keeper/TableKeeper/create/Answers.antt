use Rattle.std.proofs.Common.{◌≡◌, [], Option, None, false, inl, inr, sym, subst, IsTrue}
use Rattle.std.proofs.lemmas.Bool.{cases_Bool}
use Rattle.sqlite.specs.Held.{Held, state}
use Rattle.sqlite.specs.State.{Survives}
use Rattle.sqlite.proofs.StateLemmas.{survives_weaker}
use Rattle.fuse_init.specs.declared.profile.Profile.{Profile}
use Rattle.fuse_data.specs.declared.data_file.DataFile.{DataFile}
use Rattle.fuse_data.specs.State.{state_in}
use Rattle.fuse_tree.specs.State.{new_store}
use Rattle.fuse_store_tables.specs.Moves.{RestsAs}
use Rattle.fuse_store_tree.specs.Holding.{HeldFor}
use Rattle.fuse_keeper.specs.KeeperState.{StandsFor}
use Rattle.fuse_store_tree.specs.declared.meta.Meta.{Meta}
use Rattle.fuse_store_tree.specs.inner.Laws.{still_survives}
use Rattle.fuse_store_tree.specs.StoreState.{IsAtRest, IsHonest, store_in}
use Rattle.fuse_tree.specs.Rowed.{rowed}
use Rattle.fuse_store_tables.specs.inner.Following.{earlier}
use Rattle.fuse_store_tree.specs.Store.{records_of}
use Rattle.fuse_store.specs.Creating.{IsDataOf, LeavesNew, new_holding}
use Rattle.fuse_store.specs.TableKeeper.{LiesInMemory, disk_in, parts_for, parts_state}
use Rattle.fuse_store.specs.TableState.{data_for, table_told}
use Rattle.fuse_store.proofs.Serving.{holds_at, firm}
use Rattle.fuse_store.proofs.Grouping.{its_own}
use Rattle.fuse_store.proofs.Beginning.{starts}
use Rattle.fuse_store.proofs.MadeNew.{left_new, new_at_rest, new_profile}
use Rattle.fuse_store.proofs.Restarting.{given_state}
use Rattle.fuse_store.proofs.table_keeper.TableKeeper.create.Goals as goal

-- what is so of a connection, a data file and nothing known is so of a look over them
looked_over : {S D : Type 0} (P : Held S → Option (DataFile D) → Option Meta → Type 0) (conn c : Held S) (file f : Option (DataFile D)) (known : Option Meta)
    → conn ≡ c → file ≡ f → known ≡ None → P c f None → P conn file known
looked_over {S = S} {D = D} P conn c file f known same is none so =
    subst (λ (x : Held S). P x file known) (sym same)
    (subst (λ (y : Option (DataFile D)). P c y known) (sym is) (subst (λ (m : Option Meta). P c f m) (sym none) so))

-- what it holds
pub returns-in-Ok-make_for-clause-held : goal.returns-in-Ok-make_for-clause-held
returns-in-Ok-make_for-clause-held g c =
    let p = g.P.Profiled.PROFILE in
    let y = new_holding p c.args.volume.capacity c.args.from in
    let b = store_in g.S.Store g.D.Disk c.make_for.new.conn c.in-Ok.file in
    looked_over (λ x f m. IsHonest (store_in g.S.Store g.D.Disk x f) → IsTrue (state g.S.Store c.args.parts.conn).is_open
    → IsAtRest None y (store_in g.S.Store g.D.Disk x f))
    c.look_over.result.conn c.make_for.new.conn c.look_over.result.contents.file c.in-Ok.file c.look_over.result.known c.look_over.ensures.conn
    c.look_over.ensures.file c.look_over.ensures.known
    (λ clean is_open.
    let has = c.in-Ok.ensures.made in
    let at = subst (λ (q : Profile). RestsAs (HeldFor b.contents.seen (new_holding q c.args.volume.capacity c.args.from)) b.tables) c.PROFILE-profile.ensures
    (c.in-Ok-make_for.ensures.done clean.0 is_open b.contents.seen has) in
    new_at_rest p c.args.volume c.args.from b at c.in-Ok.ensures.usable c.in-Ok.ensures.synced
    (c.in-Ok-make_for.ensures.lists clean.0 is_open b.contents.gaps))

pub returns-in-Ok-make_for-clause-stands : goal.returns-in-Ok-make_for-clause-stands
returns-in-Ok-make_for-clause-stands g c = λ clean is_open.
    let p = g.P.Profiled.PROFILE in
    let y = new_holding p c.args.volume.capacity c.args.from in
    let b = store_in g.S.Store g.D.Disk c.look_over.result.conn c.look_over.result.contents.file in
    let at = returns-in-Ok-make_for-clause-held g c clean is_open in
    subst (λ (m : Option Meta). StandsFor (table_told p (LiesInMemory g.S.Store g.D.Disk) m b None false) (new_store p c.args.volume.capacity c.args.from) [] [])
    (sym c.look_over.ensures.known)
    (record {
      rows = rowed (new_store p c.args.volume.capacity c.args.from);
      records = records_of [];
      held = holds_at c.one_holding.ensures None b y (rowed y.tree) (records_of []) (new_profile p c.args.volume.capacity c.args.from) at (its_own y);
      stands = starts p (new_store p c.args.volume.capacity c.args.from)
          (record { tree = at.rests.holds.0.tree; profile = new_profile p c.args.volume.capacity c.args.from });
    })

pub returns-in-Ok-make_for-clause-lots : goal.returns-in-Ok-make_for-clause-lots
returns-in-Ok-make_for-clause-lots g c = λ clean is_open.
    let b = store_in g.S.Store g.D.Disk c.look_over.result.conn c.look_over.result.contents.file in
    c.lots_are_read.ensures.same None b.contents.seen (new_holding g.P.Profiled.PROFILE c.args.volume.capacity c.args.from) b.tables.now
    (returns-in-Ok-make_for-clause-held g c clean is_open).rests.holds.0

pub returns-in-Ok-make_for-clause-honest : goal.returns-in-Ok-make_for-clause-honest
returns-in-Ok-make_for-clause-honest g c =
    looked_over (λ x f m. IsHonest (store_in g.S.Store g.D.Disk x f) → IsHonest (parts_for g.P.Profiled.PROFILE g.S.Store g.D.Disk c.args.parts))
    c.look_over.result.conn c.make_for.new.conn c.look_over.result.contents.file c.in-Ok.file c.look_over.result.known c.look_over.ensures.conn
    c.look_over.ensures.file c.look_over.ensures.known
    (λ clean. (
      earlier (state g.S.Store c.args.parts.conn) (state g.S.Store c.make_for.new.conn) _ c.in-Ok-make_for.ensures.crash clean.0,
      subst (λ (q : Profile). IsTrue (data_for q (disk_in g.D.Disk c.args.parts.disk)).is_clean) c.PROFILE-profile.ensures (c.in-Ok.ensures.clean clean.1),
    ))

pub returns-in-Ok-make_for-clause-was : goal.returns-in-Ok-make_for-clause-was
returns-in-Ok-make_for-clause-was g c =
    looked_over (λ x f m. IsHonest (store_in g.S.Store g.D.Disk x f) → IsTrue (state g.S.Store c.args.parts.conn).is_open)
    c.look_over.result.conn c.make_for.new.conn c.look_over.result.contents.file c.in-Ok.file c.look_over.result.known c.look_over.ensures.conn
    c.look_over.ensures.file c.look_over.ensures.known (λ clean. c.in-Ok-make_for.ensures.was clean.0)

pub returns-in-Ok-make_for-clause-firm : goal.returns-in-Ok-make_for-clause-firm
returns-in-Ok-make_for-clause-firm g c = λ clean.
    firm g.P.Profiled.PROFILE c.one_holding.ensures c.look_over.result.known
    (store_in g.S.Store g.D.Disk c.look_over.result.conn c.look_over.result.contents.file) None false (g.met.S.Store.settled c.look_over.result.conn.store)

pub returns-in-Ok-make_for-clause-medium : goal.returns-in-Ok-make_for-clause-medium
returns-in-Ok-make_for-clause-medium g c = record { honest = (λ honest. honest, λ clean. clean); memory = (λ memory. memory, λ memory. memory) }

-- its data file has its number
pub returns-in-Ok-make_for-clause-number : goal.returns-in-Ok-make_for-clause-number
returns-in-Ok-make_for-clause-number g c =
    subst (λ (q : Profile). IsDataOf q c.args.volume.number (state_in g.D.Disk c.look_over.result.contents.file).seen) c.PROFILE-profile.ensures
    (subst (λ (f : Option (DataFile _)). IsDataOf c.PROFILE-profile.result c.args.volume.number (state_in g.D.Disk f).seen) (sym c.look_over.ensures.file)
    c.in-Ok.ensures.made)

-- ---- nothing was made

pub returns-then-not-is_blank-clause-crash : goal.returns-then-not-is_blank-clause-crash
returns-then-not-is_blank-clause-crash g c =
    let a = state g.S.Store c.args.parts.conn in
    elim (cases_Bool a.in_transaction) [
      | inl busy ↦ subst
          (λ x. Survives a (state g.S.Store x)
          (LeavesNew g.P.Profiled.PROFILE c.args.volume.capacity c.args.from (parts_state g.S.Store g.D.Disk c.args.parts)
          (given_state g.S.Store g.D.Disk x c.args.parts.disk)))
          (sym (c.refuse_new-fault.ensures.busy busy)) (still_survives a _)
      | inr still ↦
          survives_weaker a (state g.S.Store c.refuse_new-fault.new.conn) _ _ (λ clean db none. absurd none) (c.refuse_new-fault.ensures.alone still).survives
    ]

pub returns-in-Err-clause-crash : goal.returns-in-Err-clause-crash
returns-in-Err-clause-crash g c = still_survives (state g.S.Store c.args.parts.conn) _

pub returns-in-Err-make_for-clause-crash : goal.returns-in-Err-make_for-clause-crash
returns-in-Err-make_for-clause-crash g c =
    let a = parts_state g.S.Store g.D.Disk c.args.parts in
    let b = given_state g.S.Store g.D.Disk c.make_for.new.conn c.disk_of.result in
    subst (λ (q : Profile). Survives a.tables b.tables (LeavesNew q c.args.volume.capacity c.args.from a b)) c.PROFILE-profile.ensures
    (left_new g.D.Disk c.PROFILE-profile.result c.args.volume c.args.from a b.tables c.in-Ok.file c.disk_of.result c.disk_of.ensures c.in-Ok.ensures.made
    c.in-Ok.ensures.synced c.in-Err-make_for.ensures.crash)

pub returns-in-Err-make_for-clause-kept : goal.returns-in-Err-make_for-clause-kept
returns-in-Err-make_for-clause-kept g c = λ clean is_open bare.
    (c.in-Err-make_for.ensures.serves (state_in g.D.Disk c.in-Ok.file).seen c.in-Ok.ensures.made).kept clean is_open tt bare
