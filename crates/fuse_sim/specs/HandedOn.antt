-- What a keeper is asked to perform as events are run: the groups, and the ids that are handed on with each, so that their
-- records are deleted (defined by this project).
use Rattle.std.specs.Prelude.{◌≡◌, ◌+◌, ◌||◌, nat_lt, ℕ, Bool, false, if◌then◌else◌, List, [], ◌∷◌, ◌++◌, length, Option}
use Rattle.fuse_request.specs.Opcodes.{Service}
use Rattle.fuse_keeper.specs.Bounds.{max_group_len}
use Rattle.fuse_keeper.specs.Group.{handed_to, left_pending}
use Rattle.fuse_keeper.specs.Performance.{Performance, performances_of}
use Rattle.fuse_sim.specs.declared.event.Event.{Event}
use Rattle.fuse_sim.specs.declared.event.DriveFault.{DriveFault}
use Rattle.fuse_sim.specs.Driving.{commits_in, performs, performs_in, settles_in, dies, dies_before, before, is_store, performed_in}

-- ---- the groups of events

-- a group of these events, unless there is none
abbrev pub one_run : List Event → List (List Event)
one_run [] = []
one_run (e ∷ es) = (e ∷ es) ∷ []

-- an event doesn't join the group that was begun with these: the server dies before it commits, or 16 of their messages are performed,
-- and the event's would be another one
abbrev pub begins_next : Service → List Event → Event → Bool
begins_next V begun e = dies_before e.fate || nat_lt max_group_len (length (performs_in V begun) + length (performs V e))

-- the group that ends before the event, if one does, and that of the event, up to it
abbrev pub ended_before : Service → List Event → Event → List (List Event)
ended_before V begun e = if begins_next V begun e then one_run begun else []

abbrev pub group_with : Service → List Event → Event → List Event
group_with V begun e = if begins_next V begun e then e ∷ [] else begun ++ e ∷ []

-- the groups of events, where the first one was begun with these: one ends after an event at which the server dies, too
abbrev pub groups_from : Service → List Event → List Event → List (List Event)
groups_from V begun [] = one_run begun
groups_from V begun (e ∷ es) = ended_before V begun e
    ++ (if dies e.fate then group_with V begun e ∷ groups_from V [] es else groups_from V (group_with V begun e) es)

abbrev pub groups_of_events : Service → List Event → List (List Event)
groups_of_events V events = groups_from V [] events

-- ---- the ids that are handed on

-- the server dies at one of them
abbrev pub dies_in : List Event → Bool
dies_in [] = false
dies_in (e ∷ es) = dies e.fate || dies_in es

-- the ids that are pending after a group: those that its answers settled, and those that weren't handed on with it; a crash forgets
-- all of them
abbrev pub pending_then : Service → List ℕ → List Event → List ℕ
pending_then V pending group = if dies_in group then [] else left_pending (commits_in V group) pending ++ settles_in V group

-- what groups ask for: the kept and seen messages of each and, where one is kept, all ids that are pending then
abbrev pub asked_by_groups : Service → List ℕ → List (List Event) → List Performance
asked_by_groups V pending [] = []
asked_by_groups V pending (group ∷ groups) =
    performances_of (performs_in V group) (handed_to (commits_in V group) pending) ++ asked_by_groups V (pending_then V pending group) groups

-- what events from a start ask for
abbrev pub performances : Service → List Event → List Performance
performances V events = asked_by_groups V [] (groups_of_events V events)

-- all ids that are handed on with them
abbrev pub handed_on_in : List Performance → List ℕ
handed_on_in [] = []
handed_on_in (p ∷ ps) = p.settled ++ handed_on_in ps

-- what was asked for up to a fault: what the events before it ask for and, where the store answered it, one group more, with
-- which the next events begin
pub record AsksUpTo (V : Service) (events : List Event) (fault : DriveFault) (asked : List Performance) : Type 0 where
  pub run : List Event
  pub rest : List Event
  pub parts : events ≡ before fault events ++ (run ++ rest)
  pub last : List Performance
  pub asked_are : asked ≡ performances V (before fault events ++ run)
  pub last_is : asked ≡ performances V (before fault events) ++ last
  pub count : length last ≡ (if is_store fault then 1 else 0)

-- the same after all of these
abbrev pub AsksThen : Service → List Event → List Event → DriveFault → List Performance → Type 0
AsksThen V first events fault asked = (later : List Performance) × AsksUpTo V events fault later × (asked ≡ performances V first ++ later)

-- a keeper was asked to perform such ones, and nothing else
abbrev pub AskedSome : {K : Type 0} → (K → K → List Performance → Type 0) → Option K → Option K → (List Performance → Type 0) → Type 0
AskedSome performed old new P = (asked : List Performance) × P asked × performed_in performed old new asked
