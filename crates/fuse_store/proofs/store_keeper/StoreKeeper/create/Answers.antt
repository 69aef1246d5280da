use Rattle.std.proofs.Common.{sym, subst}
use Rattle.fuse_data.specs.State.{state_in}
use Rattle.fuse_init.specs.declared.profile.Profile.{Profile}
use Rattle.fuse_init.specs.declared.profile.Profile.TheVariants.{Everyday}
use Rattle.fuse_store_tables.specs.declared.version.Volume.{Volume}
use Rattle.fuse_store.specs.Creating.{IsDataOf}
use Rattle.fuse_store.specs.Opening.{store_number}
use Rattle.fuse_store.proofs.store_keeper.StoreKeeper.create.Goals as goal

-- the data file of an everyday store
pub returns-in-Ok-create-clause-number : goal.returns-in-Ok-create-clause-number
returns-in-Ok-create-clause-number g c =
    let seen = (state_in g.D.Disk c.in-Ok-create.keeper.look.contents.file).seen in
    subst (λ (p : Profile). IsDataOf p (store_number c.args.new.number) seen) (sym c.in-Everyday.is)
    (subst (λ (v : Volume). IsDataOf Everyday v.number seen) c.volume-volume.ensures.is c.in-Ok-create.ensures.number)
