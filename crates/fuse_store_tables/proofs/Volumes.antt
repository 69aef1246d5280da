-- The first rows of a new store, one after the other.
use Rattle.std.proofs.Common.{◌≡◌, None, Some, Result, refl, subst}
use Rattle.std.specs.Prelude.{⊤, Option, IfSome}
use Rattle.sqlite.specs.State.{State}
use Rattle.fuse_rows.specs.declared.origin.Origin.{Origin}
use Rattle.fuse_store_tables.specs.declared.version.Layout.{Layout}
use Rattle.fuse_store_tables.specs.declared.version.Layout.TheVariants.{Third}
use Rattle.fuse_store_tables.specs.declared.version.Volume.{Volume}
use Rattle.fuse_store_tables.specs.Content.{Content, Holds, with_node}
use Rattle.fuse_store_tables.specs.Making.{IsNew, IsVolume, new_content, counters_alone, root}
use Rattle.fuse_store_tables.specs.Moves.{Takes, Makes}
use Rattle.fuse_store_tables.specs.inner.Steps.{HasCounters, HasRoot, with_volume}
use Rattle.fuse_store_tables.proofs.Either.{narrowed_if}
use Rattle.fuse_store_tables.proofs.Joining.{taken_from}
use Rattle.fuse_store_tables.proofs.Fitting.{fit_new}

-- the root
pub roots : {X E : Type 0} (layout : Layout) (from : Origin) (a b : State) (r : Result X E) → Makes (with_node (root layout from)) a b r
    → Takes (HasCounters layout) (HasRoot layout from) a b r
roots layout from a b r p = taken_from Holds (λ k. Holds (with_node (root layout from) k)) (λ (_ : ⊤). counters_alone layout) a b r p

volume_is : (volume : Volume) (from : Origin) → with_volume volume.capacity volume.number (with_node (root Third from) (counters_alone Third))
    ≡ new_content (Some volume) from
volume_is volume from = refl

-- the rows of the volume
pub volumes : {X E : Type 0} (volume : Volume) (from : Origin) → IsVolume volume → (a b : State) (r : Result X E)
    → Makes (with_volume volume.capacity volume.number) a b r → Takes (HasRoot Third from) (IsNew (Some volume) from) a b r
volumes volume from is a b r p =
    let last : ⊤ → Content = λ _. with_node (root Third from) (counters_alone Third) in
    narrowed_if (HasRoot Third from) (λ _. Holds (with_volume volume.capacity volume.number (last tt))) (IsNew (Some volume) from) a b r
    (taken_from Holds (λ k. Holds (with_volume volume.capacity volume.number k)) last a b r p)
    (λ clean k at on. record {
      is_open = on.is_open;
      in_transaction = on.in_transaction;
      holds = record { holds = subst (λ c. Holds c b.now) (volume_is volume from) on.holds; fit = fit_new (Some volume) from is };
    })
