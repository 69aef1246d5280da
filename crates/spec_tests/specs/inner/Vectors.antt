-- Worked cases (defined by this project): `committed`, `outcomes_of` and `settled_by` of a short list of events, over the store of case
-- first-run.
use Rattle.std.specs.Prelude.{◌≡◌, ◌+◌, ◌^◌, ℕ, List, [], ◌∷◌, codes, Some, None}
use Rattle.spec_tests.specs.inner.Hex.{hex}
use Rattle.fuse_wire.specs.Errnos.{eexist, enosys}
use Rattle.fuse_answer.specs.Wire.{wire}
use Rattle.fuse_request.specs.Act as acts
use Rattle.fuse_request.specs.Canon.{canon}
use Rattle.fuse_request.specs.Opcodes.{profile_alone}
use Rattle.fuse_init.specs.declared.profile.Profile.TheVariants.{Plain}
use Rattle.fuse_tree.specs.TheTree.{tree_of}
use Rattle.fuse_keeper.specs.History.{Entry}
use Rattle.fuse_tree.specs.inner.Vectors.{at, asks, first, mkdir_a, entry_a}
use Rattle.fuse_sim.specs.declared.event.Fate.{Fate}
use Rattle.fuse_sim.specs.declared.event.Fate.TheVariants.{Answered, DiedBeforeCommit, DiedAfterCommit}
use Rattle.fuse_sim.specs.declared.event.Event.{Event}
use Rattle.fuse_sim.specs.Driving.{committed, outcomes_of, settled_by}

abbrev pub mkdir_event : ℕ → Fate → Event
mkdir_event unique fate = record { bytes = canon (asks unique 1 mkdir_a); moment = at 1000; fate = fate }

abbrev pub entry : ℕ → Entry
entry unique = record { asked = asks unique 1 mkdir_a; moment = at 1000 }

-- MKDIR of `a`, after which the server dies; the same resent; one that is lost; and one under another id
abbrev pub events : List Event
events = mkdir_event 6 DiedAfterCommit ∷ mkdir_event (2 ^ 63 + 6) Answered ∷ mkdir_event 8 DiedBeforeCommit ∷ mkdir_event 10 Answered ∷ []

abbrev pub Resent : Type 0
Resent =
    (committed profile_alone [] events ≡ entry 6 ∷ entry 10 ∷ [])
    × (outcomes_of (tree_of Plain) first [] events ≡ None ∷ Some (wire 0 entry_a (2 ^ 63 + 6)) ∷ None ∷ Some (wire eexist.0 [] 10) ∷ [])
    × (settled_by profile_alone [] events ≡ 6 ∷ 10 ∷ [])

-- a message with an opcode outside the profile, and FORGET
abbrev pub bare_and_silent : List Event
bare_and_silent =
    record { bytes = hex (codes "28000000 23000000 0400000000000000 0100000000000000 e8030000 e8030000 4d000000 00000000"); moment = at 1000; fate = Answered }
    ∷ record {
      bytes = hex (codes "30000000 02000000 0600000000000000 0100000000000000 e8030000 e8030000 4d000000 00000000 0100000000000000");
      moment = at 1000;
      fate = Answered;
    }
    ∷ []

abbrev pub NotKept : Type 0
NotKept =
    (committed profile_alone [] bare_and_silent ≡ [])
    × (outcomes_of (tree_of Plain) first [] bare_and_silent ≡ Some (wire enosys.0 [] 4) ∷ None ∷ [])
    × (settled_by profile_alone [] bare_and_silent ≡ [])
