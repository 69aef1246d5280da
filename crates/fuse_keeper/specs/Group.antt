-- The groups that a keeper performs (defined by this project).
use Rattle.std.specs.Prelude.{◌≡◌, ◌≢◌, ℕ, List, [], ◌∷◌, map}
use Rattle.fuse_wire.specs.declared.id.Id.{Id}
use Rattle.fuse_wire.specs.declared.moment.Moment.{Moment}
use Rattle.fuse_request.specs.declared.request.Request.{Request}
use Rattle.fuse_request.specs.Act.{asked}
use Rattle.fuse_request.specs.Act as act
use Rattle.fuse_request.specs.Opcodes.{Service}
use Rattle.fuse_keeper.specs.History.{Entry, entry_id, kept_of}

-- a request and its moment, wherever the request lies
abbrev pub entry_of : Request × Moment → Entry
entry_of p = record { asked = asked p.0; moment = p.1 }

abbrev pub entries_of : List (Request × Moment) → List Entry
entries_of group = map entry_of group

-- the id isn't 0, which a notification has
abbrev pub HasId : Entry → Type 0
HasId e = entry_id e ≢ 0

-- its message is kept or seen, where this is the service
abbrev pub IsPerformed : Service → Entry → Type 0
IsPerformed V e = act.IsPerformedFor V e.asked.act

-- nothing is to be kept: no request of a group is, and no ids are handed on with it
abbrev pub OnlySees : Service → List Entry → List ℕ → Type 0
OnlySees V group settled = (kept_of V group ≡ []) × (settled ≡ [])

-- the numbers of ids
abbrev pub ids_of : List Id → List ℕ
ids_of ids = map (λ id. id.0) ids

-- with no kept requests no ids are handed on, and all stay pending
abbrev pub handed_to : List Entry → List ℕ → List ℕ
handed_to [] pending = []
handed_to (e ∷ es) pending = pending

abbrev pub left_pending : List Entry → List ℕ → List ℕ
left_pending [] pending = pending
left_pending (e ∷ es) pending = []
