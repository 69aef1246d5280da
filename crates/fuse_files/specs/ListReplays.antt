-- A replay over a new store in memory (defined by this project).
use Rattle.std.specs.Prelude.{◌≡◌, []}
use Rattle.fuse_wire.specs.declared.moment.Moment.{Moment}
use Rattle.fuse_init.specs.declared.profile.Profile.{Profile}
use Rattle.fuse_init.specs.declared.profile.Profile.TheVariants.{Plain, Everyday}
use Rattle.fuse_init.specs.declared.profile.PlainProfile.{PlainProfile}
use Rattle.fuse_init.specs.declared.profile.EverydayProfile.{EverydayProfile}
use Rattle.fuse_keeper.specs.declared.plain.PlainKeeper.{PlainKeeper}
use Rattle.fuse_keeper.specs.KeeperState.{KeeperState, StandsFor}
use Rattle.fuse_keeper.specs.PlainKeeper.{plain_told}
use Rattle.fuse_lists.specs.declared.plain_tree.PlainTree.{PlainTree}
use Rattle.fuse_lists.specs.PlainTree.{tree_held}
use Rattle.fuse_tree.specs.TheTree.{tree_of}
use Rattle.fuse_store.specs.declared.new_store.StoreKind.{StoreKind}
use Rattle.fuse_commands.specs.declared.ending.Ending.{Ending}
use Rattle.fuse_commands.specs.declared.ending.Ending.TheVariants.{Memory}
use Rattle.fuse_files.specs.StoreReplays.{Streams, ReplaysOver}
use Rattle.fuse_files.specs.StoreSimulations.{new_state}

-- how contracts see keepers of lists
abbrev pub lists_told : {P : Type 0} → (p : Profile) → PlainKeeper (PlainTree P) → KeeperState (tree_of p)
lists_told p k = plain_told (tree_of p) tree_held k

-- the stream was replayed over a keeper of a new store, and no other
pub record ListsReplayed (P : Type 0) (p : Profile) (kind : StoreKind) (moment : Moment) (streams : Streams) (ending : Ending) : Type 0 where
  pub keeper : PlainKeeper (PlainTree P)
  pub keeper' : PlainKeeper (PlainTree P)
  pub stands : StandsFor (lists_told p keeper) (new_state p kind) [] []
  pub replays : ReplaysOver p (lists_told p keeper) (lists_told p keeper') moment streams ending

-- so it was under this profile
abbrev pub IsReplayedAnew : Profile → StoreKind → Moment → Streams → Ending → Type 0
IsReplayedAnew Plain kind moment streams ending = ListsReplayed PlainProfile Plain kind moment streams ending
IsReplayedAnew Everyday kind moment streams ending = ListsReplayed EverydayProfile Everyday kind moment streams ending

-- there was no memory for a new store, and nothing was written
pub record NotReplayedAnew (streams : Streams) (ending : Ending) : Type 0 where
  pub ending_is : ending ≡ Memory
  pub unwritten : streams.written' ≡ streams.written
