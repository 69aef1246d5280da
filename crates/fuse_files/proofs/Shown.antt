-- The line of counts of a replay, as its profile has it.
use Rattle.std.proofs.Common.{◌≡◌, ℕ, Bool, List, Some, subst}
use Rattle.fuse_wire.specs.declared.moment.Moment.{Moment}
use Rattle.fuse_init.specs.declared.profile.Profile.{Profile}
use Rattle.fuse_tree.specs.TheTree.{tree_of}
use Rattle.fuse_keeper.specs.KeeperState.{KeeperState}
use Rattle.fuse_commands.specs.declared.ending.Ending.{Ending}
use Rattle.fuse_commands.specs.Endings.{IsOfStream}
use Rattle.fuse_commands.specs.Output.{shows_seen}
use Rattle.fuse_commands.specs.Replaying.{Replayed, Prints}
use Rattle.fuse_files.specs.StoreReplays.{Streams}

-- what a replay printed, with or without the number of seen messages
abbrev pub ReplayedAs : (p : Profile) → (k k' : KeeperState (tree_of p)) → Moment → Streams → Ending → Bool → Type 0
ReplayedAs p k k' moment streams ending shown =
    IsOfStream ending → (input : List ℕ) → streams.input ≡ Some input → Replayed k k' moment input ending (Prints shown streams.written streams.written')

pub replayed_as : (p : Profile) (k k' : KeeperState (tree_of p)) (moment : Moment) (streams : Streams) (ending : Ending) (shown : Bool)
    → shown ≡ shows_seen p → ReplayedAs p k k' moment streams ending shown → ReplayedAs p k k' moment streams ending (shows_seen p)
replayed_as p k k' moment streams ending shown same replayed = subst (ReplayedAs p k k' moment streams ending) same replayed
