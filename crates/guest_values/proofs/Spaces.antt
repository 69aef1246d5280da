-- The free space is found anew.
use Rattle.std.proofs.Common.{◌≡◌, ◌⊎◌, Bool, List, sym, subst, ap, inr}
use Rattle.std.specs.Prelude.{Result, IfErr}
use Rattle.std.specs.List.Sorted.{IsPermutation}
use Rattle.sqlite_disk.specs.declared.Disk.{Ghosts}
use Rattle.sqlite_disk.specs.Disk.{Follows}
use Rattle.fuse_data.specs.declared.data_file.DataFile.{DataFile}
use Rattle.fuse_data.specs.declared.extent.Extent.{Extent}
use Rattle.fuse_data.specs.declared.extent.TheConstants.{END}
use Rattle.fuse_data.specs.declared.fault.DataFault.{DataFault}
use Rattle.fuse_data.specs.declared.gaps.Gap.{Gap}
use Rattle.fuse_data.specs.Causes.{FailsToAsk, FailsToFit}
use Rattle.fuse_data.specs.Leaving.{KeepsInUse}
use Rattle.fuse_data.specs.Space.{InUse, AllInUse}
use Rattle.fuse_data.specs.State.{state_of}
use Rattle.guest_values.specs.Serving.{RestsOn}
use Rattle.guest_values.proofs.Results.{if_err}
use Rattle.guest_values.proofs.Lasting.{over, rests_by, rests_found, rests_same}

module _ {D : Type 0} (g : Ghosts D) (a b : DataFile D) (same : b.disk ≡ a.disk) where
  pub left_rests : (now put gone : List Extent) → b.space ≡ a.space → RestsOn now (over (state_of g a) put gone) → RestsOn now (over (state_of g b) put gone)
  left_rests now put gone space h =
      rests_same (state_of g a) (state_of g b) (ap g.seen same) space (λ c may. subst (λ (d : D). g.may_leave d c) same may) now put gone h

  pub found_rests : (c : DataFile D) (now listed put gone : List Extent) → AllInUse (state_of g b).gaps listed → (state_of g c).gaps ≡ (state_of g b).gaps
      → KeepsInUse (state_of g b).gaps (state_of g b).seen (state_of g c).seen → Follows (KeepsInUse (state_of g b).gaps) (state_of g b).may_leave (state_of g c).may_leave
      → IsPermutation now listed → RestsOn now (over (state_of g a) put gone) → RestsOn now (over (state_of g c) put gone)
  found_rests c now listed put gone used gaps kept crash order h =
      rests_by (state_of g b) (state_of g c) (λ q is. subst (λ (k : List Gap). InUse k q) (sym gaps) is) kept crash now put gone
      (rests_found (state_of g a) (state_of g b) now listed put gone (ap g.seen same) (λ c may. subst (λ (d : D). g.may_leave d c) same may) used order h)

  pub cut_fails : {X : Type 0} (listed : List Extent) (r : Result X DataFault) → IfErr r (FailsToAsk (state_of g b).is_usable)
      → IfErr r (λ f. FailsToFit listed END f ⊎ FailsToAsk (state_of g a).is_usable f)
  cut_fails listed r fails =
      if_err (FailsToAsk (state_of g b).is_usable) (λ f. FailsToFit listed END f ⊎ FailsToAsk (state_of g a).is_usable f) r
      (λ f why. inr (subst (λ (u : Bool). FailsToAsk u f) (ap g.is_usable same) why)) fails
