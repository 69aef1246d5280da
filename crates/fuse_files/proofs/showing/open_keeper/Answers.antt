use Rattle.std.proofs.Common.{◌≡◌, refl, sym, subst}
use Rattle.std.specs.Prelude.{IsErrAnd}
use Rattle.fuse_store_tables.specs.Saying.{IsToMigrate}
use Rattle.fuse_store.specs.Opening.{opened_for}
use Rattle.fuse_store.specs.TableKeeper.{parts_state}
use Rattle.fuse_files.specs.StoreShown.{MayCutShort}
use Rattle.fuse_files.proofs.Looks.{refused_in}
use Rattle.fuse_files.proofs.Written.{store_cut}
use Rattle.fuse_files.proofs.showing.open_keeper.Goals as goal

pub returns-clause-fails : goal.returns-clause-fails
returns-clause-fails g c =
    refused_in opened_for IsToMigrate g.S.Store g.D.Disk (parts_state g.S.Store g.D.Disk c.args.parts) c.open.result c.in-Err.fault c.in-Err.field-0-1.disk _ c.open.ensures.refused
    (subst (λ r. IsErrAnd r (λ p. (p.0 ≡ c.in-Err.fault) × (p.1.disk ≡ c.in-Err.field-0-1.disk))) (sym c.in-Err.is) (refl, refl)) c.of.ensures

pub returns-clause-cut : goal.returns-clause-cut
returns-clause-cut g c = subst MayCutShort (sym c.of.ensures) (store_cut c.in-Err.fault)
