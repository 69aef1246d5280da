-- The laws on requests, new stores and rows (defined by this project).
use Rattle.std.specs.Prelude.{◌≡◌, ◌<◌, ℕ, true}
use Rattle.fuse_wire.specs.declared.moment.Moment.{Moment}
use Rattle.fuse_request.specs.Act.{Asked, opcode_of}
use Rattle.fuse_request.specs.AskedSize.{size_asked}
use Rattle.fuse_answer.specs.Replies.{IsRead}
use Rattle.fuse_answer.specs.Said.{FitsAnswer}
use Rattle.fuse_init.specs.declared.profile.Profile.{Profile}
use Rattle.fuse_init.specs.Profile.{only_looks}
use Rattle.fuse_rows.specs.Bounds.{capacity_end}
use Rattle.fuse_rows.specs.declared.origin.Origin.{Origin}
use Rattle.fuse_tree.specs.State.{State, Tree, new_store}
use Rattle.fuse_tree.specs.Rowed.{rowed}
use Rattle.fuse_tree.specs.Do.{done}

-- each request leaves a tree, of the same capacity
abbrev pub TreeKept : Type 0
TreeKept = (s : State) (request : Asked) (now : Moment) → Tree s → Tree (done s request now).state × ((done s request now).state.capacity ≡ s.capacity)

-- a new store is a tree
abbrev pub NewStoreIsTree : Type 0
NewStoreIsTree = (p : Profile) (capacity : ℕ) (from : Origin) → capacity < capacity_end → Tree (new_store p capacity from)

-- the rows determine the state
abbrev pub RowsTellState : Type 0
RowsTellState = (s other : State) → rowed s ≡ rowed other → s ≡ other

-- an answer has no body beside an error, and none that is too long
abbrev pub AnswersFit : Type 0
AnswersFit = (s : State) (request : Asked) (now : Moment) → FitsAnswer (done s request now).said

-- an answer in a tree is read as one to the request
abbrev pub AnswersAreRead : Type 0
AnswersAreRead = (s : State) (request : Asked) (now : Moment) → Tree s → IsRead (opcode_of request.act) (size_asked request.act) (done s request now).said

-- requests that only look change nothing
abbrev pub LooksStay : Type 0
LooksStay = (s : State) (request : Asked) (now : Moment) → only_looks (opcode_of request.act) ≡ true → (done s request now).state ≡ s
