-- The output of a script over a new store of the tree in lists (defined by this project).
use Rattle.std.specs.Prelude.{◌≡◌, ℕ, List, [], ◌++◌, length, Option}
use Rattle.std.specs.Io.KnownBytes.{Appends}
use Rattle.fuse_request.specs.Opcodes.{profile_alone}
use Rattle.fuse_rows.specs.Origins.{made_at}
use Rattle.fuse_tree.specs.State.{State, new_store}
use Rattle.fuse_init.specs.declared.profile.Profile.TheVariants.{Plain}
use Rattle.fuse_tree.specs.TheTree.{tree_of}
use Rattle.fuse_sim.specs.declared.event.Event.{Event}
use Rattle.fuse_sim.specs.Driving.{outcomes_of, NoneReused}
use Rattle.fuse_commands.specs.declared.ending.Ending.{Ending}
use Rattle.fuse_commands.specs.declared.ending.Ending.TheVariants.{Done}
use Rattle.fuse_commands.specs.Output.{line, store_line}
use Rattle.fuse_commands.specs.Scripts.{lines_of, WritesAll}
use Rattle.fuse_commands.specs.Simulating.{outcome_lines, state_after, NotRun}

-- the new store
abbrev pub start : State
start = new_store Plain 0 (made_at (record { secs = 0; nanos = 0 }))

-- a line for each event, then the counts of the tree
abbrev pub tree_text : State → List Event → List ℕ
tree_text s events =
    outcome_lines (outcomes_of (tree_of Plain) s [] events)
    ++ line (store_line (length (state_after (tree_of Plain) s events).nodes) (length (state_after (tree_of Plain) s events).handles))

-- a message of the script comes again whose answer was taken
abbrev pub Reuses : List ℕ → Type 0
Reuses script = (events : List Event) × WritesAll (lines_of script) events × (¬ NoneReused profile_alone [] events)

-- the events of a script were run to their end, if no message comes again whose answer was taken, with this output; or its
-- first bad line is reported, and nothing is printed
abbrev pub SimulatedAnew : Option (List ℕ) → Option (List ℕ) → List ℕ → Ending → Type 0
SimulatedAnew old new script Done = (events : List Event) × WritesAll (lines_of script) events × (NoneReused profile_alone [] events → Appends old new (tree_text start events))
SimulatedAnew old new script ending = NotRun script ending × (new ≡ old)
