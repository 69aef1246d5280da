use Rattle.std.proofs.Common.{◌≡◌, ℕ, List, [], Option, None, Some, false, IsTrue, ap, sym, subst, ◌∙◌}
use Rattle.std.specs.Prelude.{◌<◌, ◌^◌, IfSome}
use Rattle.sqlite.specs.Held.{state}
use Rattle.sqlite.specs.declared.error.Error.TheVariants.{InvalidQuery}
use Rattle.fuse_keeper.specs.declared.fault.StoreFault.TheVariants.{Sql}
use Rattle.fuse_data.specs.State.{state_of}
use Rattle.fuse_init.specs.declared.profile.Profile.TheVariants.{Plain, Everyday}
use Rattle.fuse_store_tables.specs.Saying.{IsToMigrate}
use Rattle.fuse_store_tables.specs.inner.Following.{earlier}
use Rattle.fuse_store_tree.specs.StoreState.{store_in}
use Rattle.sqlite.specs.State.{HasCleanDisk}
use Rattle.fuse_store_tree.specs.Holding.{Holding}
use Rattle.fuse_store.specs.Opening.{Stored, SecondEveryday, WasFor, WasOver, IsReady, FailsToOpen, HasFileFor, KeepsRows, opened_for, seen_of}
use Rattle.fuse_store.specs.TableKeeper.{disk_in, parts_state}
use Rattle.fuse_store.proofs.DoneOpenings.{SetsUp, looked, opens_by, opens_plain}
use Rattle.fuse_store.proofs.FailedOpenings.{FailsToSetUp, contents_same, fails_by, nothing_failed, survives_by, untouched_same}
use Rattle.fuse_store.proofs.Reopening.{is_undone, not_busy, once_seen}
use Rattle.fuse_store.proofs.SecondOpenings.{everyday_second, lists_second}
use Rattle.fuse_store.proofs.ThirdFiles.{second_of, some_file}
use Rattle.fuse_store.proofs.TablesAlone.{with_data}
use Rattle.fuse_store.proofs.opening.open_second.Goals as goal

-- ---- it is open

pub returns-in-Ok-Everyday-clause-opens : goal.returns-in-Ok-Everyday-clause-opens
returns-in-Ok-Everyday-clause-opens g c =
    let a = state g.S.Store c.args.parts.conn in
    let b = state g.S.Store c.set_up_for.new.conn in
    let old = disk_in g.D.Disk c.args.parts.disk in
    let it = c.in-Ok-Everyday.ensures in
    let file = it.made.0 in
    let on = it.made.2 in
    let new = state_of g.D.Disk file in
    let header = subst (λ (o : Option ℕ). HasFileFor o new.seen) (ap Some c.unmade-third.ensures.number) on.header in
    let owned : IsTrue new.is_clean → IsTrue (disk_in g.D.Disk c.args.parts.disk).is_clean =
    λ clean. subst (λ (o : Option _). IsTrue (disk_in g.D.Disk o).is_clean) c.unmade-third.ensures.disk (on.clean clean) in
    let before = earlier a b _ it.crash in
    let s : SetsUp Everyday opened_for (Some c.in-Some.stored) a b = record {
      ok = it.ok;
      profile = λ clean file z was. sym c.in-Ok-Everyday.field-0-is ∙ it.profile clean file z was;
      was = it.was;
      whole = λ clean content at.
          let so = it.whole clean content at in
          record { whole = so.whole; profile = so.profile ∙ c.in-Ok-Everyday.field-0-is };
      tabled = it.tabled;
      clean = before;
    } in
    let found : HasCleanDisk b → (z : Stored) → WasFor z (with_data a old)
    → (WasOver new.seen z a × IsReady (Some c.in-Some.stored) new.seen z) × ((y : Holding) × (z ≡ SecondEveryday y)) =
    λ clean z was.
    everyday_second a c.law_of_rest.ensures.rests c.requires.second old (Some c.in-Some.stored) b new header (before clean) z was
    (s.profile clean (seen_of z (with_data a old)) z was) in
    let look = c.look_over-in-Ok-Everyday.ensures in
    looked g.S.Store g.D.Disk Everyday opened_for (parts_state g.S.Store g.D.Disk c.args.parts) _ _ _ _ _ look.known look.conn (look.file ∙ it.made.1)
    (opens_by Everyday opened_for (Some c.in-Some.stored) a b old new s owned (λ clean z was. (found clean z was).0)
    (λ honest z was.
    let e = (found honest.0 z was).1 in
    lists_second new.gaps a b.now z (seen_of z (with_data a old)) was e.0 e.1 (it.none honest.0)) on.usable on.synced)

pub returns-in-Ok-Plain-clause-opens : goal.returns-in-Ok-Plain-clause-opens
returns-in-Ok-Plain-clause-opens g c =
    let a = state g.S.Store c.args.parts.conn in
    let b = state g.S.Store c.set_up_for.new.conn in
    let it = c.in-Ok-Plain.ensures in
    let s : SetsUp Plain opened_for (Some c.in-Some.stored) a b = record {
      ok = it.ok;
      profile = λ clean file z was. sym c.in-Ok-Plain.field-0-is ∙ it.profile clean file z was;
      was = it.was;
      whole = λ clean content at.
          let so = it.whole clean content at in
          record { whole = so.whole; profile = so.profile ∙ c.in-Ok-Plain.field-0-is };
      tabled = it.tabled;
      clean = earlier a b _ it.crash;
    } in
    looked g.S.Store g.D.Disk Plain opened_for (parts_state g.S.Store g.D.Disk c.args.parts) _ _ _ _ _ c.look_over.ensures.known c.look_over.ensures.conn
    c.look_over.ensures.file (opens_plain opened_for (Some c.in-Some.stored) a b (disk_in g.D.Disk c.args.parts.disk) s c.law_of_rest.ensures.rests)

-- ---- it is not

pub returns-in_default-clause-refused : goal.returns-in_default-clause-refused
returns-in_default-clause-refused g c =
    let a = state g.S.Store c.args.parts.conn in
    let old = disk_in g.D.Disk c.args.parts.disk in
    let f = Sql InvalidQuery in
    let s = nothing_failed opened_for IsToMigrate c.args.wanted c.args.number a a f c.law_of_rest.ensures.rests c.law_of_rest.ensures.settled tt in
    fails_by opened_for IsToMigrate c.args.wanted c.args.number a a old old f s (survives_by _ a a s.crash (λ clean db may. may)) (contents_same a a old old (λ x may. may))
    (λ clean z was. was) (λ z honest was is. tt) (λ _. untouched_same old)

pub returns-in-Err-clause-refused : goal.returns-in-Err-clause-refused
returns-in-Err-clause-refused g c =
    let a = state g.S.Store c.args.parts.conn in
    let b = state g.S.Store c.set_up_for.new.conn in
    let it = c.in-Err.ensures in
    let f = c.in-Err.fault in
    let x = c.unmade-third.result in
    let s : FailsToSetUp opened_for IsToMigrate c.args.wanted (Some c.in-Some.stored) a b f = record {
      crash = it.crash;
      kept = it.kept;
      says = it.says;
      refused = it.refused;
      alone = it.alone;
      ended = it.ended;
      undone = is_undone a b f it.undone it.once;
    } in
    let low = subst (λ (o : Option ℕ). IfSome o (λ n. n < 2 ^ 63)) c.in-Some.is c.requires.low in
    let some = some_file c.in-Some.stored low in
    subst (λ d. FailsToOpen opened_for IsToMigrate c.args.wanted (parts_state g.S.Store g.D.Disk c.args.parts) (with_data b (disk_in g.D.Disk d)) f) (sym c.into_disk.ensures)
    (second_of g.D.Disk x c.set_up_for.new.before (Some c.in-Some.stored) c.args.parts.disk (ap Some c.unmade-third.ensures.number) c.unmade-third.ensures.disk c.unmade-third.ensures.file opened_for IsToMigrate c.args.wanted a b f s
    c.law_of_rest.ensures.rests c.requires.second (earlier a b _ it.crash) c.requires.was (g.met.S.Store.settled c.args.parts.conn.store) it.sure some it.left_of)

-- ---- its rows

pub returns-in-Ok-Everyday-clause-rows : goal.returns-in-Ok-Everyday-clause-rows
returns-in-Ok-Everyday-clause-rows g c =
    let a = state g.S.Store c.args.parts.conn in
    let b = state g.S.Store c.set_up_for.new.conn in
    let it = c.in-Ok-Everyday.ensures in
    rw c.look_over-in-Ok-Everyday.ensures.conn (subst (λ (o : Option ℕ). KeepsRows o a b) (sym c.in-Some.is) (record {
      alone = λ other. it.alone (not_busy a.in_transaction it.busy) other;
      opened = it.rows.done;
      ended = λ clean. it.ended clean (it.was clean).1;
      once = once_seen a (state g.S.Store c.set_up_for.new.conn) _ it.once;
    }))

pub returns-in-Ok-Plain-clause-rows : goal.returns-in-Ok-Plain-clause-rows
returns-in-Ok-Plain-clause-rows g c =
    let a = state g.S.Store c.args.parts.conn in
    let b = state g.S.Store c.set_up_for.new.conn in
    let it = c.in-Ok-Plain.ensures in
    rw c.look_over.ensures.conn (subst (λ (o : Option ℕ). KeepsRows o a b) (sym c.in-Some.is) (record {
      alone = λ other. it.alone (not_busy a.in_transaction it.busy) other;
      opened = it.rows.done;
      ended = λ clean. it.ended clean (it.was clean).1;
      once = once_seen a (state g.S.Store c.set_up_for.new.conn) _ it.once;
    }))
