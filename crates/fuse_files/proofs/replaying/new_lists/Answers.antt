use Rattle.std.proofs.Common.{◌≡◌, ℕ, refl}
use Rattle.fuse_init.specs.declared.profile.Profile.{Profile}
use Rattle.fuse_init.specs.declared.profile.Profile.TheVariants.{Plain, Everyday}
use Rattle.fuse_tree.specs.State.{profile_of, new_store}
use Rattle.fuse_rows.specs.declared.origin.Origin.{Origin}
use Rattle.fuse_store.specs.Creating.{origin_of}
use Rattle.fuse_files.specs.StoreReplays.{made_then}
use Rattle.fuse_files.specs.StoreSimulations.{new_state}
use Rattle.fuse_files.proofs.replaying.new_lists.Goals as goal

-- a new tree is of its profile
of_profile : (p : Profile) (capacity : ℕ) (from : Origin) → profile_of (new_store p capacity from) ≡ p
of_profile Plain capacity from = refl
of_profile Everyday capacity from = refl

pub returns-clause-stands : goal.returns-clause-stands
returns-clause-stands g c =
    let p = g.P.Profiled.PROFILE in
    let from = origin_of (made_then c.args.kind 0) in
    c.over.ensures.stands (new_state p c.args.kind)
    (record { tree = c.new_store_is_tree.ensures p c.args.kind.capacity from c.args.kind.low; profile = of_profile p c.args.kind.capacity from })
    c.in_ok-tree.ensures.held
