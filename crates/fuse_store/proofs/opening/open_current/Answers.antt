use Rattle.std.proofs.Common.{◌≡◌, None, Ok, true, refl, sym, ap, subst, ◌∙◌, IsTrue}
use Rattle.sqlite.specs.Held.{Held, state}
use Rattle.sqlite.specs.Effect.{Database}
use Rattle.sqlite.specs.State.{HasCleanDisk}
use Rattle.sqlite.proofs.StateLemmas.{survives_then}
use Rattle.fuse_data.specs.State.{state_of}
use Rattle.fuse_init.specs.declared.profile.Profile.TheVariants.{Plain, Everyday}
use Rattle.fuse_tree.specs.State.{profile_of}
use Rattle.fuse_store_tables.specs.Moves.{LeavesAlone}
use Rattle.fuse_store_tables.specs.Opening.{IsOpened}
use Rattle.fuse_store_tables.specs.Saying.{IsToMigrate}
use Rattle.fuse_store_tables.specs.inner.Following.{earlier}
use Rattle.fuse_store_tree.specs.Leaving.{ListsInUse}
use Rattle.fuse_store.specs.Opening.{Stored, WasFor, WasOver, IsReady, opened_for, seen_of}
use Rattle.fuse_store.specs.TableKeeper.{disk_in, parts_state}
use Rattle.fuse_store.specs.inner.Opened.{has_nine}
use Rattle.fuse_store.proofs.CurrentOpenings.{alone_failed, alone_read, data_clean, data_same, fails_now, once_read, rows_now, some_capacity, still_left}
use Rattle.fuse_store.proofs.DoneOpenings.{SetsUp, everyday_was, finds_everyday, finds_plain, looked, looked_finds, opens_by, opens_plain, over_everyday, rests_read, sets_up_read}
use Rattle.fuse_store.proofs.FailedOpenings.{FailsToSetUp, contents_same, fails_by, left_before, survives_by}
use Rattle.fuse_store.proofs.Reopening.{is_undone, not_busy, once_seen}
use Rattle.fuse_store.proofs.StoresFound.{current_ready, not_to_migrate, third_nine}
use Rattle.fuse_store.proofs.TablesAlone.{with_data}
use Rattle.fuse_store.proofs.ThirdMounts.{says_plain}
use Rattle.fuse_store.proofs.opening.open_current.Goals as goal

-- ---- plain

pub returns-in-Ok-Plain-clause-opens : goal.returns-in-Ok-Plain-clause-opens
returns-in-Ok-Plain-clause-opens g c =
    let a = state g.S.Store c.args.parts.conn in
    let b = state g.S.Store c.set_up_for.new.conn in
    let it = c.in-Ok-Plain.ensures in
    let s : SetsUp Plain opened_for None a b = record {
      ok = it.ok;
      profile = λ clean file z was. sym c.in-Ok-Plain.field-0-is ∙ it.profile clean file z was;
      was = it.was;
      whole = λ clean content at.
          let so = it.whole clean content at in
          record { whole = so.whole; profile = so.profile ∙ c.in-Ok-Plain.field-0-is };
      tabled = it.tabled;
      clean = earlier a b _ it.crash;
    } in
    looked g.S.Store g.D.Disk Plain opened_for (parts_state g.S.Store g.D.Disk c.args.parts) _ _ _ _ _ c.look_over.ensures.known c.look_over.ensures.conn
    c.look_over.ensures.file (opens_plain opened_for None a b (disk_in g.D.Disk c.args.parts.disk) s c.law_of_rest.ensures.rests)

pub returns-in-Ok-Plain-clause-found : goal.returns-in-Ok-Plain-clause-found
returns-in-Ok-Plain-clause-found g c =
    let a = state g.S.Store c.args.parts.conn in
    let b = state g.S.Store c.set_up_for.new.conn in
    let it = c.in-Ok-Plain.ensures in
    let s : SetsUp Plain opened_for None a b = record {
      ok = it.ok;
      profile = λ clean file z was. sym c.in-Ok-Plain.field-0-is ∙ it.profile clean file z was;
      was = it.was;
      whole = λ clean content at.
          let so = it.whole clean content at in
          record { whole = so.whole; profile = so.profile ∙ c.in-Ok-Plain.field-0-is };
      tabled = it.tabled;
      clean = earlier a b _ it.crash;
    } in
    looked_finds g.S.Store g.D.Disk Plain (parts_state g.S.Store g.D.Disk c.args.parts) _ _ _ _ c.look_over.ensures.conn c.look_over.ensures.file
    (finds_plain opened_for None a b (disk_in g.D.Disk c.args.parts.disk) s c.law_of_rest.ensures.rests (λ z. refl))

pub returns-in-Ok-Plain-clause-rows : goal.returns-in-Ok-Plain-clause-rows
returns-in-Ok-Plain-clause-rows g c = λ number.
    let a = state g.S.Store c.args.parts.conn in
    let b = state g.S.Store c.set_up_for.new.conn in
    let it = c.in-Ok-Plain.ensures in
    rw c.look_over.ensures.conn (rows_now number a b (λ clean. c.requires (earlier a b _ it.crash clean) (it.was clean).1)
    (λ other. it.alone (not_busy a.in_transaction it.busy) other) it.rows.done (λ clean. it.ended clean (it.was clean).1) (once_seen a b _ it.once))

-- ---- everyday

pub returns-in-Ok-clause-opens : goal.returns-in-Ok-clause-opens
returns-in-Ok-clause-opens g c =
    let a = state g.S.Store c.args.parts.conn in
    let b = state g.S.Store c.set_up_for.new.conn in
    let d = state g.S.Store c.open_contents.new.conn in
    let old = disk_in g.D.Disk c.args.parts.disk in
    let new = state_of g.D.Disk c.in-Ok.file in
    let it = c.in-Ok-Everyday.ensures in
    let on = c.in-Ok.ensures in
    let rests = c.law_of_rest.ensures.rests in
    let first : SetsUp Everyday opened_for None a b = record {
      ok = it.ok;
      profile = λ clean file z was. sym c.in-Ok-Everyday.field-0-is ∙ it.profile clean file z was;
      was = it.was;
      whole = λ clean content at.
          let so = it.whole clean content at in
          record { whole = so.whole; profile = so.profile ∙ c.in-Ok-Everyday.field-0-is };
      tabled = it.tabled;
      clean = earlier a b _ it.crash;
    } in
    let s = sets_up_read Everyday opened_for None a b d c.in-Ok.file first on.reads on.open in
    let ready : HasCleanDisk d → (z : Stored) → WasFor z (with_data a old) → IsReady None new.seen z =
    λ clean z was.
    current_ready (seen_of z (with_data a old)) z a.now (rests (seen_of z (with_data a old)) z was).holds (c.requires (s.clean clean) was.1) None new.seen in
    looked g.S.Store g.D.Disk Everyday opened_for (parts_state g.S.Store g.D.Disk c.args.parts) _ _ _ _ _ c.look_over-in-Ok.ensures.known
    c.look_over-in-Ok.ensures.conn c.look_over-in-Ok.ensures.file
    (opens_by Everyday opened_for None a d old new s on.clean (over_everyday None a d old new s on.seen ready)
    (λ honest z was.
    let mid = earlier b d _ on.reads.commits.survives honest.0 in
    let over = over_everyday None a d old new s on.seen ready honest.0 z was in
    subst (λ (e : Database). ListsInUse new.gaps e) (sym (on.reads.same honest.0))
    (on.in_use honest.0 honest.1 (opened_for z) (first.ok mid new.seen z over.0 over.1))) on.usable on.synced)

pub returns-in-Ok-clause-found : goal.returns-in-Ok-clause-found
returns-in-Ok-clause-found g c =
    let a = state g.S.Store c.args.parts.conn in
    let b = state g.S.Store c.set_up_for.new.conn in
    let d = state g.S.Store c.open_contents.new.conn in
    let old = disk_in g.D.Disk c.args.parts.disk in
    let new = state_of g.D.Disk c.in-Ok.file in
    let it = c.in-Ok-Everyday.ensures in
    let on = c.in-Ok.ensures in
    let rests = c.law_of_rest.ensures.rests in
    let first : SetsUp Everyday opened_for None a b = record {
      ok = it.ok;
      profile = λ clean file z was. sym c.in-Ok-Everyday.field-0-is ∙ it.profile clean file z was;
      was = it.was;
      whole = λ clean content at.
          let so = it.whole clean content at in
          record { whole = so.whole; profile = so.profile ∙ c.in-Ok-Everyday.field-0-is };
      tabled = it.tabled;
      clean = earlier a b _ it.crash;
    } in
    let s = sets_up_read Everyday opened_for None a b d c.in-Ok.file first on.reads on.open in
    let ready : HasCleanDisk d → (z : Stored) → WasFor z (with_data a old) → IsReady None new.seen z =
    λ clean z was.
    current_ready (seen_of z (with_data a old)) z a.now (rests (seen_of z (with_data a old)) z was).holds (c.requires (s.clean clean) was.1) None new.seen in
    looked_finds g.S.Store g.D.Disk Everyday (parts_state g.S.Store g.D.Disk c.args.parts) _ _ _ _ c.look_over-in-Ok.ensures.conn c.look_over-in-Ok.ensures.file
    (finds_everyday None a d old new s on.seen ready on.synced on.crash)

pub returns-in-Ok-clause-rows : goal.returns-in-Ok-clause-rows
returns-in-Ok-clause-rows g c = λ number.
    let a = state g.S.Store c.args.parts.conn in
    let b = state g.S.Store c.set_up_for.new.conn in
    let d = state g.S.Store c.open_contents.new.conn in
    let it = c.in-Ok-Everyday.ensures in
    let on = c.in-Ok.ensures in
    let mid : HasCleanDisk d → HasCleanDisk b = earlier b d _ on.reads.commits.survives in
    rw c.look_over-in-Ok.ensures.conn (rows_now number a d (λ clean. c.requires (earlier a b _ it.crash (mid clean)) (it.was (mid clean)).1)
    (λ other. alone_read a b d (Ok c.in-Ok.file) (it.alone (not_busy a.in_transaction it.busy) other) on.reads)
    (λ clean content at. rests_read (IsOpened None content) b d c.in-Ok.file on.reads on.open clean (it.rows.done (mid clean) content at))
    (λ clean. on.reads.outside clean (it.ended (mid clean) (it.was (mid clean)).1))
    (once_read a b d c.in-Ok-Everyday.field-0 c.in-Ok.file it.once on.reads))

-- ---- a fault of its contents

pub returns-in-Err-open_contents-clause-refused : goal.returns-in-Err-open_contents-clause-refused
returns-in-Err-open_contents-clause-refused g c =
    let a = state g.S.Store c.args.parts.conn in
    let b = state g.S.Store c.set_up_for.new.conn in
    let d = state g.S.Store c.open_contents.new.conn in
    let old = disk_in g.D.Disk c.args.parts.disk in
    let left = disk_in g.D.Disk c.in-Err-open_contents.disk in
    let f = c.in-Err-open_contents.fault in
    let it = c.in-Ok-Everyday.ensures in
    let on = c.in-Err-open_contents.ensures in
    let rests = c.law_of_rest.ensures.rests in
    let mid : HasCleanDisk d → HasCleanDisk b = earlier b d _ on.reads.commits.survives in
    let many : HasCleanDisk d → has_nine a.now.schema ≡ true =
    λ clean. ap has_nine (it.numbered (mid clean) refl c.in-Ok-Everyday.field-0-is) ∙ third_nine in
    let so : HasCleanDisk d → LeavesAlone a d =
    λ clean. alone_read a b d _ (it.alone (it.was (mid clean)).1 (not_to_migrate a.now (many clean))) on.reads in
    let through = survives_then a b d _ _ (λ _. Unit {0}) (λ _ db k. tt) (λ _ db none. tt) it.crash on.reads.commits.survives in
    let s : FailsToSetUp opened_for IsToMigrate c.args.wanted None a d f =
    alone_failed opened_for IsToMigrate c.args.wanted None a d f through so rests (λ clean. says_plain a.now f on.plain (it.tabled (mid clean))) in
    let everyday : HasCleanDisk d → (z : Stored) → WasFor z (with_data a old) → profile_of (opened_for z).tree ≡ Everyday =
    λ clean z was. sym (it.profile (mid clean) (seen_of z (with_data a old)) z was) ∙ c.in-Ok-Everyday.field-0-is in
    fails_by opened_for IsToMigrate c.args.wanted None a d old left f s
    (survives_by _ a d through (still_left opened_for IsToMigrate c.args.wanted None a d f through so rests)) (contents_same a d old left on.crash)
    (λ clean z was.
    subst (λ x. WasOver x z a) (sym (data_same (profile_of (opened_for z).tree) old left on.seen)) was)
    (λ z honest was is.
    let p = everyday honest.0 z was in
    let over = subst (λ x. WasOver x z a) (everyday_was (profile_of (opened_for z).tree) old p) was in
    let ready = current_ready (seen_of z (with_data a old)) z a.now (rests (seen_of z (with_data a old)) z was).holds
    (c.requires (earlier a b _ it.crash (mid honest.0)) was.1) None old.seen in
    on.outside honest.0 (data_clean (profile_of (opened_for z).tree) left p honest.1) (opened_for z) (some_capacity (opened_for z).tree.capacity p)
    (it.ok (mid honest.0) old.seen z over ready))
    (λ _. record { seen = on.seen; leaves = on.crash })

-- ---- a fault of its tables

pub returns-in-Err-clause-refused : goal.returns-in-Err-clause-refused
returns-in-Err-clause-refused g c =
    let a = state g.S.Store c.args.parts.conn in
    let b = state g.S.Store c.set_up_for.new.conn in
    let it = c.in-Err.ensures in
    let f = c.in-Err.fault in
    let s : FailsToSetUp opened_for IsToMigrate c.args.wanted None a b f = record {
      crash = it.crash;
      kept = it.kept;
      says = it.says;
      refused = it.refused;
      alone = it.alone;
      ended = it.ended;
      undone = is_undone a b f it.undone it.once;
    } in
    fails_now opened_for IsToMigrate c.args.wanted None a b (disk_in g.D.Disk c.args.parts.disk) f s c.law_of_rest.ensures.rests
    (λ clean outside. c.requires (earlier a b _ it.crash clean) outside) it.sure
    (λ many. left_before a b (λ busy db may. subst (λ (k : Held _). (state g.S.Store k).may_leave db) (it.busy busy) may)
    (λ none. it.alone none (not_to_migrate a.now many)))
