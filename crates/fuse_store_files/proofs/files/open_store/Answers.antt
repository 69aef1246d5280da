use Rattle.std.proofs.Common.{◌≡◌, Option, Some, None, IfSome, inr, sym, subst, inl, refl, arith}
use Rattle.sqlite_trees.proofs.Doubt.{no_doubt}
use Rattle.sqlite_wal.specs.Files.{image_at}
use Rattle.sqlite.specs.State.{HasCleanDisk}
use Rattle.sqlite.specs.Files.{file_state}
use Rattle.fuse_store_tables.specs.Faults.{IsOutside}
use Rattle.fuse_store.specs.Storing.{opening_fault}
use Rattle.fuse_store.specs.TableKeeper.{parts_state}
use Rattle.fuse_store.specs.StoreKeeper.{own_profile, own_conn, store_told}
use Rattle.fuse_store_files.specs.Files.{found_at}
use Rattle.fuse_store_files.specs.Databases.{FailsOver, IsNeverOpened}
use Rattle.fuse_store_files.proofs.Fresh.{some_made, none_made}
use Rattle.fuse_store_files.proofs.Beside.{sees_found, alone_found, clean_for, is_to_open, found_ghosts}
use Rattle.fuse_store_files.proofs.Found.{keeps, opens_as, was_for, rests, left_open, left_alone, not_opened, found_unopened, not_wanting}
use Rattle.fuse_store_files.proofs.Found.{opens_own, has_profile, keeps_found, fails_unopened, fails_open, left_unasked, opening_unasked, fails_unasked}
use Rattle.fuse_store_files.proofs.files.open_store.Goals as goal

-- ---- the tables are not opened

pub returns-in-Err-clause-crash : goal.returns-in-Err-clause-crash
returns-in-Err-clause-crash g c =
    some_made c.in-Err.left _ _ _ (λ it not. not_opened (found_at g.S.Start g.T.Start) c.args.how it c.in-Err.error not) c.unopened.result c.unopened.ensures
    c.in-Err.ensures.left

pub returns-in-Err-clause-fault : goal.returns-in-Err-clause-fault
returns-in-Err-clause-fault g c =
    some_made c.in-Err.left _ _ _
    (λ it not clean z held. subst IsOutside (sym c.opening_fault.ensures) (not_wanting (image_at g.S.Start) it c.in-Err.error not clean.0 _ held))
    c.unopened.result c.unopened.ensures c.in-Err.ensures.left

pub returns-in-Err-clause-untouched : goal.returns-in-Err-clause-untouched
returns-in-Err-clause-untouched g c = λ refusal.
    some_made c.in-Err.left _ _ _ (λ it not. found_unopened (found_at g.S.Start g.T.Start) c.args.how it c.in-Err.error not) c.unopened.result c.unopened.ensures
    c.in-Err.ensures.left

pub returns-in-Err-clause-unopened : goal.returns-in-Err-clause-unopened
returns-in-Err-clause-unopened g c = λ none.
    inl (subst IsNeverOpened (sym c.opening_fault.ensures) (elim (c.in-Err.ensures.none (none_made c.in-Err.left _ c.unopened.result c.unopened.ensures none)) [
      | inl e ↦ subst (λ x. IsNeverOpened (opening_fault x)) (sym e) (inr (inl refl))
      | inr other ↦ elim other [
        | inl e ↦ subst (λ x. IsNeverOpened (opening_fault x)) (sym e) (inl refl)
        | inr e ↦ subst (λ x. IsNeverOpened (opening_fault x)) (sym e) (inr (inr refl))
      ]
    ]))

pub returns-in-Err-clause-fails : goal.returns-in-Err-clause-fails
returns-in-Err-clause-fails g c =
    some_made c.in-Err.left _ _ _
    (λ it not. subst (λ f. FailsOver c.args.how (image_at g.S.Start) f it) (sym c.opening_fault.ensures)
    (fails_unopened (image_at g.S.Start) c.args.how it c.in-Err.error not))
    c.unopened.result c.unopened.ensures c.in-Err.ensures.left

-- ---- the data file is not opened, and the database needs it

pub returns-in-Err-find_beside-clause-crash : goal.returns-in-Err-find_beside-clause-crash
returns-in-Err-find_beside-clause-crash g c =
    opening_unasked (found_at g.S.Start g.T.Start) c.args.how c.in-Ok.conn (λ f. inl refl) c.in-Ok.ensures.opened c.in-Ok.ensures.found
    c.into_store.result c.into_store.ensures.quiet.clean c.into_store.ensures.quiet.outcomes c.into_store.ensures.sound

pub returns-in-Err-find_beside-clause-fault : goal.returns-in-Err-find_beside-clause-fault
returns-in-Err-find_beside-clause-fault g c = λ clean z held. c.in-Err-find_beside.ensures.outside

pub returns-in-Err-find_beside-clause-untouched : goal.returns-in-Err-find_beside-clause-untouched
returns-in-Err-find_beside-clause-untouched g c = λ refusal.
    left_unasked (found_at g.S.Start g.T.Start) c.args.how c.in-Ok.conn (λ f. inl refl) c.in-Ok.ensures.opened c.in-Ok.ensures.found
    c.into_store.result c.into_store.ensures.quiet.clean c.into_store.ensures.quiet.outcomes c.into_store.ensures.sound

pub returns-in-Err-find_beside-clause-fails : goal.returns-in-Err-find_beside-clause-fails
returns-in-Err-find_beside-clause-fails g c =
    fails_unasked (found_at g.S.Start g.T.Start) c.args.how c.in-Ok.conn (λ f. inl refl) c.in-Ok.ensures.opened c.in-Ok.ensures.found
    c.into_store.result c.into_store.ensures.quiet.clean c.into_store.ensures.quiet.outcomes c.into_store.ensures.sound
    c.in-Err-find_beside.fault c.in-Err-find_beside.ensures.outside

-- ---- a keeper is opened

pub returns-in-Ok-open_as-clause-found : goal.returns-in-Ok-open_as-clause-found
returns-in-Ok-open_as-clause-found g c = λ honest.
    let clean = (c.in-Ok-open_as.ensures.honest honest).0 in
    keeps_found (image_at g.S.Start) c.args.how c.in-Ok.conn (λ f. inl refl) (c.in-Ok.ensures.opened clean) (c.in-Ok.ensures.found clean)
    (file_state (own_conn c.in-Ok-open_as.keeper)) (c.in-Ok-open_as.ensures.clean honest) (c.in-Ok-open_as.ensures.stays honest)

pub returns-in-Ok-open_as-clause-opened : goal.returns-in-Ok-open_as-clause-opened
returns-in-Ok-open_as-clause-opened g c = λ honest.
    let clean = (c.in-Ok-open_as.ensures.honest honest).0 in
    let live = c.in-Ok.ensures.opened clean in
    let it = found_at g.S.Start g.T.Start in
    let finds = c.in-Ok.ensures.found clean in
    let sees = sees_found it (file_state c.in-Ok.conn) live.0 live.1 finds _ c.in-Ok-find_beside.disk c.in-Ok-find_beside.ensures.found c.in-Ok-find_beside.ensures.none in
    opens_as it _ live.0 live.1 finds sees (own_profile c.in-Ok-open_as.keeper) c.args.how (store_told _ _ c.in-Ok-open_as.keeper) (c.in-Ok-open_as.ensures.opens honest)

pub returns-in-Ok-open_as-clause-holds : goal.returns-in-Ok-open_as-clause-holds
returns-in-Ok-open_as-clause-holds g c = λ honest.
    let clean = (c.in-Ok-open_as.ensures.honest honest).0 in
    let live = c.in-Ok.ensures.opened clean in
    let it = found_at g.S.Start g.T.Start in
    let finds = c.in-Ok.ensures.found clean in
    let sees = sees_found it (file_state c.in-Ok.conn) live.0 live.1 finds _ c.in-Ok-find_beside.disk c.in-Ok-find_beside.ensures.found c.in-Ok-find_beside.ensures.none in
    keeps it _ live.0 live.1 finds sees (own_profile c.in-Ok-open_as.keeper) c.args.how (store_told _ _ c.in-Ok-open_as.keeper) (c.in-Ok-open_as.ensures.opens honest)

pub returns-in-Ok-open_as-clause-profile : goal.returns-in-Ok-open_as-clause-profile
returns-in-Ok-open_as-clause-profile g c = λ honest z held.
    let clean = (c.in-Ok-open_as.ensures.honest honest).0 in
    let live = c.in-Ok.ensures.opened clean in
    let it = found_at g.S.Start g.T.Start in
    let finds = c.in-Ok.ensures.found clean in
    let sees = sees_found it (file_state c.in-Ok.conn) live.0 live.1 finds _ c.in-Ok-find_beside.disk c.in-Ok-find_beside.ensures.found c.in-Ok-find_beside.ensures.none in
    (c.in-Ok-open_as.ensures.opens honest).profile z (was_for it _ live.0 live.1 finds sees z held)

pub returns-in-Ok-open_as-clause-rows : goal.returns-in-Ok-open_as-clause-rows
returns-in-Ok-open_as-clause-rows g c = λ honest content held.
    let clean = (c.in-Ok-open_as.ensures.honest honest).0 in
    let live = c.in-Ok.ensures.opened clean in
    c.in-Ok-open_as.ensures.rows honest content
    (rests (image_at g.S.Start) (file_state c.in-Ok.conn) live.0 live.1 (c.in-Ok.ensures.found clean) content held)

pub returns-in-Ok-open_as-clause-own : goal.returns-in-Ok-open_as-clause-own
returns-in-Ok-open_as-clause-own g c = λ honest.
    let clean = (c.in-Ok-open_as.ensures.honest honest).0 in
    let live = c.in-Ok.ensures.opened clean in
    opens_own (image_at g.S.Start) (file_state c.in-Ok.conn) live.0 live.1 (c.in-Ok.ensures.found clean) c.args.how (c.in-Ok-open_as.ensures.tabled honest)
    (λ ours content laid. (c.in-Ok-open_as.ensures.whole honest ours content laid).whole)

pub returns-in-Ok-open_as-clause-of_profile : goal.returns-in-Ok-open_as-clause-of_profile
returns-in-Ok-open_as-clause-of_profile g c = λ honest.
    let clean = (c.in-Ok-open_as.ensures.honest honest).0 in
    let live = c.in-Ok.ensures.opened clean in
    has_profile (image_at g.S.Start) (file_state c.in-Ok.conn) live.0 live.1 (c.in-Ok.ensures.found clean) c.args.how (own_profile c.in-Ok-open_as.keeper)
    (c.in-Ok-open_as.ensures.whole honest)

-- ---- none is opened

pub returns-in-Err-open_as-clause-crash : goal.returns-in-Err-open_as-clause-crash
returns-in-Err-open_as-clause-crash g c =
    let it = found_at g.S.Start g.T.Start in
    let s = file_state c.in-Ok.conn in
    let fb = c.in-Ok-find_beside.ensures in
    let opened = c.in-Ok.ensures.opened in
    let found = c.in-Ok.ensures.found in
    left_open (found_ghosts _ _ _ fb.found) it c.args.how c.in-Ok.conn (λ f. inl refl) opened found (file_state c.in-Err-open_as.field-0-1.conn) c.into_store-in-Err-open_as.result c.into_store-in-Err-open_as.ensures.quiet.clean
    c.into_store-in-Err-open_as.ensures.quiet.outcomes c.into_store-in-Err-open_as.ensures.sound c.in-Ok-find_beside.disk c.in-Err-open_as.field-0-1.disk
    (λ clean. sees_found it s (opened clean).0 (opened clean).1 (found clean) _ c.in-Ok-find_beside.disk fb.found fb.none)
    (λ clean. alone_found it s (opened clean).0 (opened clean).1 (found clean) _ c.in-Ok-find_beside.disk fb.found fb.none)
    (λ clean now z held. c.in-Err-open_as.ensures.contents (is_to_open it s (opened clean).0 (opened clean).1 (found clean) c.args.how z held) now z)
    c.in-Err-open_as.ensures.crash

pub returns-in-Err-open_as-clause-fault : goal.returns-in-Err-open_as-clause-fault
returns-in-Err-open_as-clause-fault g c = λ is_clean z held.
    let last = no_doubt _ is_clean.0 in
    let after : HasCleanDisk (file_state c.in-Err-open_as.field-0-1.conn) = omega (arith, last, c.into_store-in-Err-open_as.ensures.quiet.clean) in
    let clean : HasCleanDisk (file_state c.in-Ok.conn) = omega (arith, after, c.in-Err-open_as.ensures.crash.clean) in
    let live = c.in-Ok.ensures.opened clean in
    let it = found_at g.S.Start g.T.Start in
    let finds = c.in-Ok.ensures.found clean in
    let sees = sees_found it (file_state c.in-Ok.conn) live.0 live.1 finds _ c.in-Ok-find_beside.disk c.in-Ok-find_beside.ensures.found c.in-Ok-find_beside.ensures.none in
    c.in-Err-open_as.ensures.fault z (after, clean_for (found_ghosts _ _ _ c.in-Ok-find_beside.ensures.found) z (file_state c.in-Err-open_as.field-0-1.conn) c.in-Err-open_as.field-0-1.disk is_clean.1) (was_for it _ live.0 live.1 finds sees z held)

pub returns-in-Err-open_as-clause-untouched : goal.returns-in-Err-open_as-clause-untouched
returns-in-Err-open_as-clause-untouched g c = λ refusal.
    let it = found_at g.S.Start g.T.Start in
    let s = file_state c.in-Ok.conn in
    let fb = c.in-Ok-find_beside.ensures in
    let opened = c.in-Ok.ensures.opened in
    let found = c.in-Ok.ensures.found in
    left_alone (found_ghosts _ _ _ fb.found) it c.args.how c.in-Ok.conn (λ f. inl refl) opened found (file_state c.in-Err-open_as.field-0-1.conn) c.into_store-in-Err-open_as.result c.into_store-in-Err-open_as.ensures.quiet.clean
    c.into_store-in-Err-open_as.ensures.quiet.outcomes c.into_store-in-Err-open_as.ensures.sound c.in-Ok-find_beside.disk c.in-Err-open_as.field-0-1.disk
    (λ clean. alone_found it s (opened clean).0 (opened clean).1 (found clean) _ c.in-Ok-find_beside.disk fb.found fb.none)
    (λ clean now z held. c.in-Err-open_as.ensures.contents (is_to_open it s (opened clean).0 (opened clean).1 (found clean) c.args.how z held) now z)
    (c.in-Err-open_as.ensures.refused refusal)

pub returns-in-Err-open_as-clause-fails : goal.returns-in-Err-open_as-clause-fails
returns-in-Err-open_as-clause-fails g c =
    fails_open (image_at g.S.Start) c.args.how c.in-Ok.conn (λ f. inl refl) c.in-Ok.ensures.opened c.in-Ok.ensures.found
    (file_state c.in-Err-open_as.field-0-1.conn) c.into_store-in-Err-open_as.result c.in-Err-open_as.fault c.in-Err-open_as.ensures.crash.clean c.into_store-in-Err-open_as.ensures.quiet.clean
    c.into_store-in-Err-open_as.ensures.quiet.outcomes c.into_store-in-Err-open_as.ensures.sound c.in-Err-open_as.ensures.says c.in-Err-open_as.ensures.alone
    c.in-Err-open_as.ensures.undone c.in-Err-open_as.ensures.blank
