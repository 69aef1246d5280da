-- How a message is answered (defined by this project).
use Rattle.std.specs.Prelude.{◌≡◌, ◌==◌, ◌&&◌, ◌⊎◌, ℕ, Bool, true, false, not, if◌then◌else◌, List, Option, Some, None}
use Rattle.fuse_wire.specs.Errnos.{einval, enosys}
use Rattle.fuse_wire.specs.Ids.{id_of}
use Rattle.fuse_request.specs.declared.class.Class.{Class}
use Rattle.fuse_request.specs.declared.class.Class.TheVariants.{Silent, Bare, Kept, Seen}
use Rattle.fuse_request.specs.declared.decoding.Malformed.{Malformed}
use Rattle.fuse_request.specs.Act.{Asked, IsServedFor, IsKeptFor, IsSeenFor, opcode_of}
use Rattle.fuse_request.specs.Header.{raw_of}
use Rattle.fuse_request.specs.Places.{act_in}
use Rattle.fuse_wire.specs.Opcodes.{silent}
use Rattle.fuse_request.specs.Opcodes.{Service, is_served, profile_alone}
use Rattle.fuse_request.specs.Faults.{first_fault}
use Rattle.fuse_request.specs.Spelling.{Spells}

-- by whether the requests of its opcode are seen
abbrev pub class_if : Bool → Class
class_if true = Seen
class_if false = Kept

-- by its fault, and else by whether its opcode is served, and its requests are seen
abbrev pub class_by : Service → Option Malformed → ℕ → Class
class_by V (Some m) opcode = Bare einval
class_by V None opcode = if is_served V opcode then class_if (V.sees opcode) else Bare enosys

-- the class of a message for a file system of this service
unfoldable pub class_for : Service → List ℕ → Class
class_for V b = if silent (raw_of b).opcode then Silent else class_by V (first_fault b) (raw_of b).opcode

-- the same where the profile alone is served, and nothing is seen
abbrev pub class_of : List ℕ → Class
class_of = class_for profile_alone

-- how a class follows from the requests that the message spells
abbrev pub IsOfClass : Service → Class → List ℕ → Type 0
IsOfClass V Silent b = silent (raw_of b).opcode ≡ true
IsOfClass V (Bare errno) b =
    (silent (raw_of b).opcode ≡ false)
    × (((errno ≡ einval) × ((r : Asked) → ¬ (Spells r b))) ⊎ ((errno ≡ enosys) × ((r : Asked) × Spells r b × ¬ (IsServedFor V r.act))))
IsOfClass V Kept b = (silent (raw_of b).opcode ≡ false) × ((r : Asked) × Spells r b × IsKeptFor V r.act)
IsOfClass V Seen b = (silent (raw_of b).opcode ≡ false) × ((r : Asked) × Spells r b × IsSeenFor V r.act)

-- it must be answered, and its id is 0
abbrev pub is_zero : List ℕ → Bool
is_zero b = not (silent (raw_of b).opcode) && (id_of (raw_of b).unique == 0)

-- the request at its places in a message is of an opcode that is seen where the message is, and of one that isn't where it is kept
abbrev pub SeenByClass : Type 0
SeenByClass = (V : Service) (m : List ℕ) (seen : Bool) → class_for V m ≡ class_if seen → V.sees (opcode_of (act_in m)) ≡ seen
