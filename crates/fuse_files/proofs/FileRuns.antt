-- A run over the files of a store is a life of their mount.
use Rattle.std.proofs.Common.{◌≡◌, inl, inr, ℕ, zero, suc, List, [], ◌∷◌, take, refl, subst}
use Rattle.sqlite_disk.specs.declared.Disk.{Ghosts}
use Rattle.sqlite_store.specs.declared.store.FileStore.{FileStore}
use Rattle.sqlite.specs.Files.{over_files}
use Rattle.fuse_wire.specs.declared.moment.Moment.{Moment}
use Rattle.fuse_keeper.specs.History.{History, Includes}
use Rattle.fuse_keeper.specs.Stands.{Standing}
use Rattle.fuse_keeper.specs.KeeperState.{KeeperState}
use Rattle.fuse_keeper.specs.Model.{Model}
use Rattle.fuse_tree.specs.State.{State as TreeState}
use Rattle.fuse_tree.specs.Rowed.{rowed}
use Rattle.fuse_init.specs.declared.profile.Profile.{Profile}
use Rattle.fuse_tree.specs.TheTree.{tree_of}
use Rattle.fuse_session.specs.Deeds.{Did}
use Rattle.fuse_session.specs.Exchange.{HoldsAt}
use Rattle.fuse_session.specs.Passage.{passage}
use Rattle.fuse_store.specs.declared.table_keeper.TableKeeper.{TableKeeper}
use Rattle.fuse_store.specs.TableKeeper.{keeper_told}
use Rattle.fuse_store.specs.Opening.{opened_for}
use Rattle.fuse_store_tree.specs.Store.{records_of}
use Rattle.fuse_store_files.specs.declared.files.Opening.{Opening}
use Rattle.fuse_store_files.specs.declared.files.Opening.TheVariants.{Existing, Any, Fresh}
use Rattle.fuse_store_files.specs.Files.{StoreImage, HoldSome, TreesTell, FilesStand}
use Rattle.fuse_store_files.specs.Left.{LeavesWhole}
use Rattle.fuse_store_files.specs.Starting.{OpensAs, begun_at}
use Rattle.fuse_sim.specs.FileLives.{FileRun, IsRunFrom, AreRuns}
use Rattle.fuse_sim.specs.inner.FilesLived.{stands_more}
use Rattle.fuse_sim.specs.Lives.{RunsAreLives}
use Rattle.fuse_commands.specs.declared.serve.Begin.{Begin}
use Rattle.fuse_commands.specs.declared.serve.Begin.TheVariants.{Resume}
use Rattle.fuse_commands.specs.ServingRuns.{views, between}
use Rattle.fuse_files.specs.declared.serving.StoreRun.{StoreRun}
use Rattle.fuse_files.specs.StoreRuns.{Task, AroundViews, Around, OpensAt, OpensBy, StoreServed}
use Rattle.fuse_files.specs.StoreLives.{MayBeLeft, RunsOn, file_run, new_at}
use Rattle.fuse_files.proofs.Lots.{closed_some}
use Rattle.fuse_files.proofs.Served.{Keeps, served_life}

-- the first of these runs are runs
pub first_runs : {M : Model} {Image : Type 0} (Stand : Image → Standing M → Type 0) (s : M.State) (first : Image) (runs : List (FileRun Image)) (n : ℕ)
    → AreRuns Stand s first runs → AreRuns Stand s first (take n runs)
first_runs Stand s first runs zero are = tt
first_runs Stand s first [] (suc n) are = tt
first_runs Stand s first (r ∷ runs) (suc n) are = (are.0, first_runs Stand s r.left runs n are.1)

-- more ids are settled
files_more : (p : Profile) (it : StoreImage) (s : TreeState) (h : History) (t u : List ℕ) → Includes u t → FilesStand p it (record { state = s; history = h; settled = t })
    → FilesStand p it (record { state = s; history = h; settled = u })
files_more p it s h t u all stand = record {
  trees = stand.trees;
  held = stand.held;
  so = record { store = stand.so.store; left = stand.so.left; so = stands_more (tree_of p) _ _ s h t u all stand.so.so };
}

-- the trees that files hold are some that the keeper may leave
kept_files : (p : Profile) (k : KeeperState (tree_of p)) (it : StoreImage) → HoldSome (TreesTell k.may_leave it.contents) it.tables → Keeps (FilesStand p) k it
kept_files p k it hold =
    let z = hold.so.store in
    record {
      rows = rowed (opened_for z).tree;
      records = records_of (opened_for z).kept;
      may = hold.so.so;
      stands = λ at stands. record { trees = hold.trees; held = hold.held; so = record { store = z; left = hold.so.left; so = stands } };
    }

runs_on : (p : Profile) (k : KeeperState (tree_of p)) (how : Opening) (first : StoreImage) (r : _) → (k.is_honest → OpensAs p how first k)
    → ((at : Standing (tree_of p)) → (k.is_honest → HoldsAt k at) → IsRunFrom (FilesStand p) at r) → RunsOn p how first r
runs_on p k (Existing n) first r opened life = λ at stand. life at (λ honest. (opened honest).0 at stand)
runs_on p k (Any new) first r opened life =
    (λ at stand. life at (λ honest. (opened honest).0 at stand), λ nothing. life (new_at p new) (λ honest. ((opened honest).1 nothing).stands))
runs_on p k (Fresh new) first r opened life =
    (λ at stand. life (begun_at p at) (λ honest. (opened honest).0 at stand), λ nothing. life (new_at p new) (λ honest. ((opened honest).1 nothing).stands))

-- a run that was to resume opens the files as they are
pub resumed_how : {C : Type 0} (gave : C → C → List Moment → Type 0) (task : Task) (clock mid : C) (how : Opening) → task.begin ≡ Resume
    → OpensBy gave task clock mid how → how ≡ Existing task.number
resumed_how gave task clock mid how is opens = (subst (λ b. OpensAt gave task b clock mid how) is opens).0

module _ {P D E O C : Type 0} {g : Ghosts D} {h : Ghosts E} (p : Profile) (v : AroundViews O C) (x : Around O C) (task : Task) (run : StoreRun D E g)
    (s : StoreServed h P p v x task run)
    (lives : (k k' : TableKeeper P (FileStore D g) E) (o o' : O) (c c' : C)
    → RunsAreLives (passage (keeper_told p over_files h k) (keeper_told p over_files h k') (v.port o) (v.port o') (Did (v.gave c c') (λ _. Unit {0}) (v.became o o')))) where
  pub file_lives : (it : StoreImage) → MayBeLeft s.ran.closed it → RunsOn p s.how task.first (file_run s.ran.served it)
  file_lives it (left, clean, beside) =
      let k = keeper_told p over_files h s.keeper in
      let k' = keeper_told p over_files h s.ran.keeper' in
      let closed = s.ran.closed in
      let over = closed.disk_leaves it.contents beside in
      let some : k'.leaves_whole → HoldSome (TreesTell k'.may_leave it.contents) it.tables = λ leaves.
      let whole : LeavesWhole h p s.ran.keeper' = (leaves, closed.disk_clean clean) in
      elim left [
        | inl own ↦ closed.before whole own.0 it.contents over it.tables own.1
        | inr later ↦ elim later [
          | inl may ↦ closed.at_end whole it.contents over it.tables may
          | inr may ↦ closed_some (TreesTell k'.may_leave it.contents) s.ran.left it.tables (closed.closed whole it.contents over) (closed.uncopied whole it.contents over) may
        ]
      ] in
      runs_on p k s.how task.first (file_run s.ran.served it) s.from.opened (λ at holds.
      served_life (views (keeper_told p over_files h) (λ a b list. Unit {0}) v.port v.became) (v.gave s.mid x.clock') (FilesStand p) (files_more p) (λ k. refl)
      (between s.keeper s.ran.keeper' x.port x.port') task.begin run.ending run.counts s.ran.served at it
      (λ a b o o'. lives a b o o' s.mid x.clock') holds s.from.firm
      (λ whole.
      let hold = some (λ honest. whole honest honest) in
      (hold.so.so.clean, kept_files p k' it hold)))
