-- What a keeper is asked to perform: the messages batch by batch, with the ids that are settled by then (defined by this project).
use Rattle.std.specs.Prelude.{◌≡◌, ◌⊎◌, ℕ, Bool, List, [], ◌∷◌, ◌++◌, length}
use Rattle.fuse_request.specs.Opcodes.{Service}
use Rattle.fuse_keeper.specs.Group.{handed_to, left_pending}
use Rattle.fuse_keeper.specs.Performance.{Performance, performances_of}
use Rattle.fuse_wire.specs.declared.moment.Moment.{Moment}
use Rattle.fuse_session.specs.Processed.{Timed, bytes_of, kept_in, performed_of, moments_in}
use Rattle.fuse_session.specs.Settling.{Mark, settled_in}

-- messages that are performed at once, and the whole answers to them
pub record Batch : Type 0 where
  pub timed : List Timed
  pub marks : List Mark

abbrev pub timed_in : List Batch → List Timed
timed_in [] = []
timed_in (b ∷ bs) = b.timed ++ timed_in bs

abbrev pub marks_in : List Batch → List Mark
marks_in [] = []
marks_in (b ∷ bs) = b.marks ++ marks_in bs

-- the ids that are pending after a batch: those that its answers settled, and those that weren't handed on with it
abbrev pub pending_after : Service → Bool → List ℕ → Batch → List ℕ
pending_after V confirms pending b = left_pending (kept_in V b.timed) pending ++ settled_in V confirms (bytes_of b.timed) b.marks

-- what is asked of the keeper: the kept and seen messages of each batch and, where one is kept, all ids that are settled by then and
-- weren't handed on before
abbrev pub handed_over : Service → Bool → List ℕ → List Batch → List Performance
handed_over V confirms pending [] = []
handed_over V confirms pending (b ∷ bs) =
    performances_of (performed_of V b.timed) (handed_to (kept_in V b.timed) pending) ++ handed_over V confirms (pending_after V confirms pending b) bs

-- the ids that are pending in the end
abbrev pub left_over : Service → Bool → List ℕ → List Batch → List ℕ
left_over V confirms pending [] = pending
left_over V confirms pending (b ∷ bs) = left_over V confirms (pending_after V confirms pending b) bs

-- each message of each batch was answered, but maybe in the last one
abbrev pub AnsweredButLast : List Batch → Type 0
AnsweredButLast [] = Unit {0}
AnsweredButLast (b ∷ bs) = ((bs ≡ []) ⊎ (length b.marks ≡ length b.timed)) × AnsweredButLast bs

-- each message of each batch was answered
abbrev pub AllAnswered : List Batch → Type 0
AllAnswered [] = Unit {0}
AllAnswered (b ∷ bs) = (length b.marks ≡ length b.timed) × AllAnswered bs

-- these are batches of the messages, and of the answers to them
pub record AreBatches (batches : List Batch) (timed : List Timed) (marks : List Mark) : Type 0 where
  pub messages : timed ≡ timed_in batches
  pub answers : marks ≡ marks_in batches

-- the moments that were given are those of these messages, and maybe more
abbrev pub TimedFirst : Service → List Moment → List Timed → Type 0
TimedFirst V given timed = (more : List Moment) × (given ≡ moments_in V timed ++ more)
