-- The groups in which the messages of a session are performed (defined by this project).
use Rattle.std.specs.Prelude.{◌≡◌, ◌||◌, ◌+◌, ℕ, nat_lt, Bool, true, false, not, if◌then◌else◌, List, [], ◌∷◌, ◌++◌, length, map}
use Rattle.std.specs.List.{flat_map}
use Rattle.fuse_request.specs.declared.class.Class.{Class}
use Rattle.fuse_request.specs.declared.class.Class.TheVariants.{Silent, Bare, Kept, Seen}
use Rattle.fuse_request.specs.Act.{Asked}
use Rattle.fuse_request.specs.Classes.{class_for, is_zero}
use Rattle.fuse_request.specs.Opcodes.{Service}
use Rattle.fuse_request.specs.Places.{asked_at}
use Rattle.fuse_request.specs.Stream.{cut}
use Rattle.fuse_keeper.specs.History.{Entry}
use Rattle.fuse_keeper.specs.Performance.{Performance}
use Rattle.fuse_session.specs.Deeds.{Deeds}
use Rattle.fuse_session.specs.Processed.{destroys}
use Rattle.fuse_session.specs.Transcript.{PortEvent, Received, Handed}

-- kept and seen messages are performed
abbrev pub is_performed_class : Class → Bool
is_performed_class Silent = false
is_performed_class (Bare errno) = false
is_performed_class Kept = true
is_performed_class Seen = true

abbrev pub asked_in : List Entry → List Asked
asked_in es = map (λ e. e.asked) es

-- a group of these requests, unless there is none
abbrev pub one_group : List Asked → List (List Asked)
one_group [] = []
one_group (a ∷ more) = (a ∷ more) ∷ []

-- a group of so many ends with this message: it has 16 then, or the message is a kept DESTROY
abbrev pub ends_group : Service → ℕ → List ℕ → Bool
ends_group V so_far m = destroys V m || nat_lt 15 (so_far + 1)

-- the groups of messages that wait, up to one that is zero, where these requests are in the first one already
abbrev pub groups_after : Service → List Asked → List (List ℕ) → List (List Asked)
groups_after V so_far [] = one_group so_far
groups_after V so_far (m ∷ ms) =
    if is_zero m then one_group so_far
    else if not (is_performed_class (class_for V m)) then groups_after V so_far ms
    else if ends_group V (length so_far) m then (so_far ++ asked_at m ∷ []) ∷ groups_after V [] ms
    else groups_after V (so_far ++ asked_at m ∷ []) ms

abbrev pub groups_of : Service → List (List ℕ) → List (List Asked)
groups_of V ms = groups_after V [] ms

-- the messages that are whole after each receive, where these bytes waited
abbrev pub turns_of : List ℕ → List PortEvent → List (List (List ℕ))
turns_of held [] = []
turns_of held (Received result bytes ∷ es) = (cut (held ++ bytes)).0 ∷ turns_of (cut (held ++ bytes)).1 es
turns_of held (Handed slice result ∷ es) = turns_of held es

-- the groups of all of them
abbrev pub groups_in : Service → List PortEvent → List (List Asked)
groups_in V events = flat_map (groups_of V) (turns_of [] events)

-- the groups that a keeper was asked to perform
abbrev pub groups_asked : List Performance → List (List Asked)
groups_asked list = map (λ (p : Performance). asked_in p.group) list

-- a session asked for the first of the groups of what came, in order
abbrev pub AsksGroups : Service → Deeds → Type 0
AsksGroups V deeds = (later : List (List Asked)) × (groups_in V deeds.events ≡ groups_asked deeds.asked ++ later)
