-- The ids that are handed on and pending as the groups of events step (defined by this project).
use Rattle.std.specs.Prelude.{◌≡◌, ℕ, List, [], ◌∷◌, ◌++◌, All}
use Rattle.fuse_request.specs.Opcodes.{Service}
use Rattle.fuse_sim.specs.declared.event.Event.{Event}
use Rattle.fuse_sim.specs.Driving.{IsFit}
use Rattle.fuse_sim.specs.HandedOn.{one_run, groups_of_events, pending_then, asked_by_groups, handed_on_in}

-- the ids that are pending after groups, and after events
abbrev pub pending_over : Service → List ℕ → List (List Event) → List ℕ
pending_over V pending [] = pending
pending_over V pending (group ∷ groups) = pending_over V (pending_then V pending group) groups

abbrev pub pending_by : Service → List ℕ → List Event → List ℕ
pending_by V pending es = pending_over V pending (groups_of_events V es)

-- all ids that are handed on during events
abbrev pub handed_on : Service → List ℕ → List Event → List ℕ
handed_on V pending es = handed_on_in (asked_by_groups V pending (groups_of_events V es))

-- these events are one group
abbrev pub IsOneGroup : Service → List Event → Type 0
IsOneGroup V run = groups_of_events V run ≡ one_run run

-- no group has events of both
abbrev pub IsCutAt : Service → List Event → List Event → Type 0
IsCutAt V es es' = groups_of_events V (es ++ es') ≡ groups_of_events V es ++ groups_of_events V es'

-- wherever the others are run up to
abbrev pub EndsGroup : Service → List Event → List Event → Type 0
EndsGroup V es others = (run rest : List Event) → others ≡ run ++ rest → All IsFit run → IsCutAt V es run
