-- A run over files in memory, which always return what was written.
use Rattle.std.proofs.Common.{true, false, ◌≡◌, ℕ, ◌≤◌, List, [], Option, Some, None, refl, subst, ◌∙◌}
use Rattle.std.specs.Prelude.{IfSome, IsSomeAnd, IsTrue}
use Rattle.std.proofs.lemmas.Bool.{and_from}
use Rattle.sqlite_disk.specs.declared.Disk.{Ghosts}
use Rattle.sqlite_pool.proofs.StateLemmas.{clean_is}
use Rattle.sqlite_trees.proofs.Doubt.{no_doubt}
use Rattle.sqlite_store.specs.declared.store.FileStore.{FileStore}
use Rattle.sqlite_store.specs.FileStore.{files}
use Rattle.sqlite.specs.State.{HasCleanDisk}
use Rattle.sqlite.specs.Held.{Held}
use Rattle.sqlite.specs.Files.{file_state}
use Rattle.fuse_keeper.specs.Model.{Model}
use Rattle.fuse_keeper.specs.KeeperState.{KeeperState, StandsFor}
use Rattle.fuse_sim.specs.Driving.{told_in}
use Rattle.fuse_sim.specs.Twice.{Seen}
use Rattle.fuse_commands.specs.declared.ending.Ending.{Ending}
use Rattle.fuse_commands.specs.Endings.{status_of}
use Rattle.fuse_commands.specs.Simulating.{SimulatedFrom}
use Rattle.fuse_commands.specs.inner.Simulating.{from_start}
use Rattle.fuse_files.specs.StoreReplays.{Streams}
use Rattle.fuse_files.specs.StoreSimulations.{SimulatesOver}
use Rattle.std.specs.Io.KnownBytes.{Appends}

-- disks that are never in doubt
pub always_clean : {D : Type 0} {g : Ghosts D} → ((d : D) → g.is_clean d ≡ true) → (c : Held (FileStore D g)) → HasCleanDisk (file_state c)
always_clean sure c = no_doubt _ (clean_is c.store.pool ∙ and_from _ _ (sure (files c.store).0) (sure (files c.store).1))

good : {M : Model} {K : Type 0} (told : K → KeeperState M) → ((k : K) → (told k).is_honest) → (keeper : Option K)
    → IsSomeAnd keeper (λ k. (told k).has_failed ≡ false) → (told_in told keeper).is_honest
good told honest None none = absurd none
good told honest (Some k) going = honest k

from_known : {M : Model} {K : Type 0} (k : Seen M K) (s : M.State) (keeper : K) (streams : Streams) (ending : Ending) → ((x : K) → (k.told x).is_honest)
    → StandsFor (k.told keeper) s [] [] → SimulatesOver k keeper streams ending → (known : Option (List ℕ)) → streams.input ≡ known
    → IfSome known (λ script. status_of ending ≤ 1 → SimulatedFrom M s (Appends streams.written streams.written') script ending)
from_known k s keeper streams ending honest stands ran None is = tt
from_known k s keeper streams ending honest stands ran (Some script) is = λ low.
    from_start k (Some keeper) ran.keeper' (Appends streams.written streams.written') script s ending (good k.told honest ran.keeper' (ran.going low)) stands
    (ran.simulated low script is)

-- the output is that of the events from the start
pub simulated : {M : Model} {K : Type 0} (k : Seen M K) (s : M.State) (keeper : K) (streams : Streams) (ending : Ending) → ((x : K) → (k.told x).is_honest)
    → StandsFor (k.told keeper) s [] [] → SimulatesOver k keeper streams ending
    → IfSome streams.input (λ script. status_of ending ≤ 1 → SimulatedFrom M s (Appends streams.written streams.written') script ending)
simulated k s keeper streams ending honest stands ran = from_known k s keeper streams ending honest stands ran streams.input refl

-- of bytes that are known
pub of_known : {X : Type 0} (known : Option X) (P : X → Type 0) → IfSome known P → (x : X) → known ≡ Some x → P x
of_known None P all x is = absurd (cc is)
of_known (Some y) P all x is = let same : y ≡ x = cc is in subst P same all
