use Rattle.std.proofs.Common.{◌≡◌, ◌∙◌, inl, refl, sym, ap, subst}
use Rattle.std.specs.Prelude.{IsErrAnd}
use Rattle.sqlite.specs.Files.{file_state}
use Rattle.sqlite_wal.specs.Recovery.{Image}
use Rattle.fuse_commands.specs.Endings.{store_ending}
use Rattle.fuse_store.specs.Storing.{opening_fault}
use Rattle.fuse_store_files.specs.Files.{AreTheirs}
use Rattle.fuse_files.specs.StoreShown.{image_in, SaysNothing, IsUnopened}
use Rattle.fuse_files.proofs.Opened.{clean_conn, not_opened_in, same_image}
use Rattle.fuse_files.proofs.showing.open_copy.Goals as goal

pub returns-in-Ok-open_files-clause-opened : goal.returns-in-Ok-open_files-clause-opened
returns-in-Ok-open_files-clause-opened c = c.in-Ok-open_files.ensures.opened (clean_conn (λ m. refl) c.in-Ok-open_files.conn)

pub returns-in-Ok-open_files-clause-found : goal.returns-in-Ok-open_files-clause-found
returns-in-Ok-open_files-clause-found c =
    let finds = c.in-Ok-open_files.ensures.found (clean_conn (λ m. refl) c.in-Ok-open_files.conn) in
    subst (λ (i : Image). AreTheirs i (file_state c.in-Ok-open_files.conn).committed.trees)
    (same_image _ _ _ _ c.in-Ok.ensures.log c.in-Ok.ensures.db) (record { holds = finds.holds; reads = finds.reads })

pub returns-clause-fault : goal.returns-clause-fault
returns-clause-fault c =
    let said = not_opened_in (λ m. refl) c.in-Ok.files c.open_files.result c.in-Err-open_files.error c.open_files.ensures.cause
    (subst (λ r. IsErrAnd r (λ p. p.0 ≡ c.in-Err-open_files.error)) (sym c.in-Err-open_files.is) refl) in
    subst (IsUnopened (image_in c.args.read)) (sym (c.of.ensures ∙ ap store_ending c.opening_fault.ensures))
    (subst (λ (i : Image). IsUnopened i (store_ending (opening_fault c.in-Err-open_files.error))) (same_image _ _ _ _ c.in-Ok.ensures.log c.in-Ok.ensures.db) said)

pub returns-in-Err-clause-fault : goal.returns-in-Err-clause-fault
returns-in-Err-clause-fault c = inl (subst SaysNothing (sym c.in-Err.ensures.fault) tt)
