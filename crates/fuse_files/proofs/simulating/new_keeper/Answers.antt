use Rattle.std.proofs.Common.{◌≡◌, ◌∙◌, [], inl, refl, sym, ap, ap₂, subst}
use Rattle.fuse_tree.specs.State.{new_store}
use Rattle.fuse_store.specs.declared.new_store.NewStore.{NewStore}
use Rattle.fuse_store.specs.Creating.{origin_of}
use Rattle.std.specs.Prelude.{IsErrAnd}
use Rattle.sqlite.specs.Files.{over_files, image_of, file_state}
use Rattle.fuse_keeper.specs.KeeperState.{StandsFor, IsFirm}
use Rattle.fuse_store.specs.TableKeeper.{keeper_told}
use Rattle.fuse_commands.specs.Endings.{store_ending}
use Rattle.fuse_files.specs.StoreSimulations.{new_state}
use Rattle.fuse_files.specs.StoreShown.{IsUnopened}
use Rattle.fuse_files.proofs.Ends.{says_nothing_in}
use Rattle.fuse_files.proofs.Opened.{clean_conn, not_opened_in, finds_blank}
use Rattle.fuse_files.proofs.simulating.new_keeper.Goals as goal

pub returns-in-Ok-create-clause-stands : goal.returns-in-Ok-create-clause-stands
returns-in-Ok-create-clause-stands g c =
    let p = g.P.Profiled.PROFILE in
    let made = c.in-Ok-create.ensures in
    let capacity = ap (λ v. v.capacity) c.volume.ensures.is ∙ ap (λ (n : NewStore). n.kind.capacity) c.made_at-new.ensures in
    let from = c.origin.ensures ∙ ap origin_of c.made_at-new.ensures in
    let same : new_store p c.volume.result.capacity c.origin.result ≡ new_state p c.args.kind = ap₂ (new_store p) capacity from in
    subst (λ k. (keeper_told p over_files g.D.Disk k).is_honest → StandsFor (keeper_told p over_files g.D.Disk k) (new_state p c.args.kind) [] []) (sym c.new.ensures)
    (λ honest. subst (λ s. StandsFor (keeper_told p over_files g.D.Disk c.in-Ok-create.keeper) s [] []) same (made.stands honest (made.was honest)))

pub returns-in-Ok-create-clause-firm : goal.returns-in-Ok-create-clause-firm
returns-in-Ok-create-clause-firm g c =
    subst (λ k. (keeper_told g.P.Profiled.PROFILE over_files g.D.Disk k).is_honest → IsFirm (keeper_told g.P.Profiled.PROFILE over_files g.D.Disk k)) (sym c.new.ensures) c.in-Ok-create.ensures.firm

pub returns-in-Err-clause-fault : goal.returns-in-Err-clause-fault
returns-in-Err-clause-fault g c = λ sure.
    subst (λ f. IsUnopened (image_of g.D.Disk c.args.files.0) (store_ending f)) (sym c.opening_fault.ensures)
    (not_opened_in sure c.args.files.0 c.open_files.result c.in-Err.error c.open_files.ensures.cause
    (subst (λ r. IsErrAnd r (λ p. p.0 ≡ c.in-Err.error)) (sym c.in-Err.is) refl))

pub returns-clause-fault : goal.returns-clause-fault
returns-clause-fault g c = λ sure.
    inl (says_nothing_in c.create.result c.in-Err-create.fault c.create.ensures.outside
    (subst (λ r. IsErrAnd r (λ p. p.0 ≡ c.in-Err-create.fault)) (sym c.in-Err-create.is) refl))

pub returns-in-Ok-create-clause-blank : goal.returns-in-Ok-create-clause-blank
returns-in-Ok-create-clause-blank g c = λ sure.
    let clean = clean_conn sure c.in-Ok.conn in
    let live = c.in-Ok.ensures.opened clean in
    let found = c.in-Ok.ensures.found clean in
    finds_blank (image_of g.D.Disk c.args.files.0) (file_state c.in-Ok.conn) live.0 live.1 (record { holds = found.holds; reads = found.reads })
    c.in-Ok-create.ensures.blank
