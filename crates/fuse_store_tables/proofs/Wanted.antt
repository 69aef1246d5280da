-- The opening of a store of the profile that is wanted.
use Rattle.std.proofs.Common.{◌≡◌, Ok, Err, Result, Option, inl, inr, sym, subst}
use Rattle.sqlite.specs.Effect.{Database}
use Rattle.sqlite.specs.State.{State, HasCleanDisk}
use Rattle.fuse_init.specs.declared.profile.Profile.{Profile}
use Rattle.fuse_keeper.specs.declared.fault.StoreFault.{StoreFault}
use Rattle.fuse_keeper.specs.declared.fault.StoreFault.TheVariants.{Damaged}
use Rattle.fuse_store_tables.specs.Content.{Content}
use Rattle.fuse_store_tables.specs.Moves.{InsideAs, Takes}
use Rattle.fuse_store_tables.specs.Opening.{IsStored, IsSound, IsLaid, IsWanted, IsWantedStore, profile_in}
use Rattle.fuse_store_tables.specs.inner.Performing.{IsSure}
use Rattle.fuse_store_tables.proofs.Checks.{first_laid, second_laid, unindexed_laid}

stored_laid : (c : Content) (d : Database) → IsStored c d → IsLaid c d
stored_laid c d (inl (inl first)) = first_laid c d first
stored_laid c d (inl (inr second)) = second_laid c d second
stored_laid c d (inr unindexed) = unindexed_laid c d unindexed

-- what went well is refused all the same
pub told_refused : {C X Y E F : Type 0} (P Q : C → Database → Type 0) (a b : State) (x : X) (f : F) → Takes {E = E} P Q a b (Ok x)
    → Takes {X = Y} P Q a b (Err f)
told_refused P Q a b x f p = record { stays = p.stays; within = tt; turns = tt }

-- a fault says nothing of any store, so none of one that is wanted
pub sure_wanted : (wanted : Option Profile) (a b : State) (f : StoreFault) → IsSure {X = Profile} IsSound a b (Err f)
    → IsSure {X = Profile} (IsWantedStore wanted) a b (Err f)
sure_wanted wanted a b f sure clean at =
    sure clean (at.0, record { is_open = at.1.is_open; in_transaction = at.1.in_transaction; holds = at.1.holds.0 })

-- a store of another profile isn't the one that is wanted
pub unwanted : (wanted : Option Profile) (a b : State) (p : Profile) → (HasCleanDisk b → (c : Content) → InsideAs (IsLaid c) a → p ≡ profile_in c)
    → ¬ IsWanted wanted p → IsSure {X = Profile} (IsWantedStore wanted) a b (Err Damaged)
unwanted wanted a b p told other clean at =
    let laid : InsideAs (IsLaid at.0) a = record {
      is_open = at.1.is_open;
      in_transaction = at.1.in_transaction;
      holds = stored_laid at.0 a.now at.1.holds.0.stored;
    } in
    absurd (other (subst (IsWanted wanted) (sym (told clean at.0 laid)) at.1.holds.1))
