-- A script over a new store, if one was made.
use Rattle.std.proofs.Common.{◌≡◌, ◌≤◌, ◌⊎◌, ℕ, List, [], Option, Some, None, Result, Ok, Err, inl, inr, refl, sym, subst, arith}
use Rattle.std.specs.Prelude.{IsTrue, IfOk, IfErr, IfSome}
use Rattle.std.specs.Io.KnownBytes.{Appends}
use Rattle.sqlite_disk.specs.declared.Disk.{Ghosts}
use Rattle.sqlite_disk.specs.declared.Files.{Files}
use Rattle.sqlite_store.specs.declared.store.FileStore.{FileStore}
use Rattle.sqlite.specs.Files.{over_files, image_of}
use Rattle.fuse_init.specs.declared.profile.Profile.{Profile}
use Rattle.fuse_data.specs.declared.data_file.DataFile.{DataFile}
use Rattle.fuse_data.specs.State.{state_in}
use Rattle.fuse_keeper.specs.declared.fault.StoreFault.{StoreFault}
use Rattle.fuse_keeper.specs.declared.fault.StoreFault.TheVariants.{Memory, Sql, NotAStore, Version, Damaged, Guest}
use Rattle.fuse_keeper.specs.KeeperState.{StandsFor, IsFirm}
use Rattle.fuse_tree.specs.TheTree.{tree_of}
use Rattle.fuse_store.specs.declared.new_store.StoreKind.{StoreKind}
use Rattle.fuse_store_files.specs.declared.crash_keeper.CrashKeeper.{CrashKeeper}
use Rattle.fuse_store_files.specs.Restarting.{crash_told}
use Rattle.fuse_commands.specs.declared.ending.Ending.{Ending}
use Rattle.fuse_commands.specs.Endings.{status_of, store_ending}
use Rattle.fuse_commands.specs.Simulating.{SimulatedFrom}
use Rattle.fuse_files.specs.StoreReplays.{Streams}
use Rattle.fuse_files.specs.StoreShown.{IsUnopened}
use Rattle.fuse_files.specs.StoreSimulations.{new_state, crashing, SimulatesOver, StoreSimulated, AreSure, WereBlank, NotSimulated}
use Rattle.fuse_files.proofs.InMemory.{always_clean, simulated}

-- a fault of the store has no such status
high : (f : StoreFault) → status_of (store_ending f) ≤ 1 → ⊥
high Memory low = omega (arith, low)
high (Sql e) low = omega (arith, low)
high NotAStore low = omega (arith, low)
high (Version n) low = omega (arith, low)
high Damaged low = omega (arith, low)
high Guest low = omega (arith, low)

never : (X : List ℕ → Type 0) (known : Option (List ℕ)) (f : StoreFault) (ending : Ending) → ending ≡ store_ending f
    → IfSome known (λ script. status_of ending ≤ 1 → X script)
never X None f ending is = tt
never X (Some script) f ending is = λ low. absurd (high f (subst (λ e. status_of e ≤ 1) is low))

-- keepers over disks that are never in doubt are honest
data_clean : {D : Type 0} (g : Ghosts D) → AreSure g → (file : Option (DataFile D)) → IsTrue (state_in g file).is_clean
data_clean g sure None = refl
data_clean g sure (Some file) = sure file.disk

always_honest : {P D : Type 0} {g : Ghosts D} → AreSure g → (p : Profile) (k : CrashKeeper P D D g) → (crash_told p g k).is_honest
always_honest {g = g} sure p k = (always_clean sure k.inner.look.conn, data_clean g sure k.inner.look.contents.file)

module _ {P D : Type 0} {g : Ghosts D} (p : Profile) (kind : StoreKind) (crashed : D → D → Type 0) (streams : Streams) (ending : Ending) where
  pub ran_new : (files : Files D) (r : Result (CrashKeeper P D D g) StoreFault)
      → IfOk r (λ k. (crash_told p g k).is_honest → StandsFor (crash_told p g k) (new_state p kind) [] [])
      → IfOk r (λ k. (crash_told p g k).is_honest → IsFirm (crash_told p g k))
      → IfOk r (λ k. WereBlank g files) → IfErr r (λ f. AreSure g → IsUnopened (image_of g files) (store_ending f)) → IfOk r (λ k. SimulatesOver (crashing P p g crashed) k streams ending)
      → IfErr r (λ f. (ending ≡ store_ending f) × (streams.written' ≡ streams.written))
      → (StoreSimulated p kind (crashing P p g crashed) streams ending × WereBlank g files) ⊎ NotSimulated g files streams ending
  ran_new files (Ok k) stands firm blank fault ran failed = inl (record { keeper = k; stands = stands; firm = firm; ran = ran }, blank)
  ran_new files (Err f) stands firm blank fault ran failed = inr (record {
    fault = f;
    ending_is = failed.0;
    unwritten = failed.1;
    sure = λ sure. subst (IsUnopened (image_of g files)) (sym failed.0) (fault sure);
  })

  pub simulated_new : AreSure g → (r : Result (CrashKeeper P D D g) StoreFault)
      → IfOk r (λ k. (crash_told p g k).is_honest → StandsFor (crash_told p g k) (new_state p kind) [] [])
      → IfOk r (λ k. SimulatesOver (crashing P p g crashed) k streams ending)
      → IfErr r (λ f. (ending ≡ store_ending f) × (streams.written' ≡ streams.written))
      → IfSome streams.input (λ script. status_of ending ≤ 1 → SimulatedFrom (tree_of p) (new_state p kind) (Appends streams.written streams.written') script ending)
  simulated_new sure (Ok k) stands ran failed =
      simulated (crashing P p g crashed) (new_state p kind) k streams ending (always_honest sure p) (stands (always_honest sure p k)) ran
  simulated_new sure (Err f) stands ran failed =
      never (λ script. SimulatedFrom (tree_of p) (new_state p kind) (Appends streams.written streams.written') script ending) streams.input f ending failed.0
