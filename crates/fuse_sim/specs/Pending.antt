-- The requests that are pending on the kernel's side: sent, and their answers not taken, in order (defined by this project).
use Rattle.std.specs.Prelude.{◌≡◌, ◌≢◌, ◌+◌, ◌==◌, ℕ, suc, Bool, false, not, if◌then◌else◌, List, [], ◌∷◌, map, drop, Vec, Option, Some, None, Result, Ok, Err}
use Rattle.std.specs.Global.{Global}
use Rattle.std.specs.List.{filter}
use Rattle.fuse_wire.specs.Bytes.{number_of}
use Rattle.fuse_wire.specs.Ids.{id_of}
use Rattle.fuse_wire.specs.Opcodes.{silent}
use Rattle.fuse_wire.specs.Bits.{fuse_unique_resend}
use Rattle.fuse_request.specs.Act.{Asked, opcode_of}
use Rattle.fuse_request.specs.AskedSize.{size_asked}
use Rattle.fuse_request.specs.Places.{asked_at}
use Rattle.fuse_answer.specs.Replies.{Told, Answers, FirstFault}
use Rattle.fuse_keeper.specs.History.{is_in}
use Rattle.fuse_sim.specs.declared.kernel.TakeFault.{TakeFault}
use Rattle.fuse_sim.specs.declared.kernel.TakeFault.TheVariants.{Unknown, BadAnswer as Bad}

abbrev pub is_silent : Asked → Bool
is_silent r = silent (opcode_of r.act)

abbrev pub request_id : Asked → ℕ
request_id r = id_of r.header.unique

abbrev pub request_ids : List Asked → List ℕ
request_ids rs = map request_id rs

-- a request that may be sent: unless it is silent, it can be answered, and no pending one has its id
abbrev pub MayBeSent : List Asked → Asked → Type 0
MayBeSent pending r = is_silent r ≡ false → (request_id r ≢ 0) × (is_in (request_ids pending) (request_id r) ≡ false)

-- the part of a sent request that is pending
abbrev pub owed : Asked → List Asked
owed r = if is_silent r then [] else r ∷ []

-- the request as it is sent again, with bit 63 of its unique set
abbrev pub sent_again : Asked → Asked
sent_again r = record r { header = record r.header { unique = id_of r.header.unique + fuse_unique_resend } }

-- the requests from place n on, those at these places as they are sent again
abbrev pub again_from : ℕ → List ℕ → List Asked → List Asked
again_from n places [] = []
again_from n places (r ∷ rs) = (if is_in places n then sent_again r else r) ∷ again_from (suc n) places rs

abbrev pub all_again : List ℕ → List Asked → List Asked
all_again places rs = again_from 0 places rs

-- the unique that an answer bears
abbrev pub borne : List ℕ → ℕ
borne answer = number_of 8 (drop 8 answer)

abbrev pub has_unique : ℕ → Asked → Bool
has_unique unique r = r.header.unique == unique

-- the pending request of this unique, and the others
abbrev pub owner : ℕ → List Asked → Option Asked
owner unique [] = None
owner unique (r ∷ rs) = if has_unique unique r then Some r else owner unique rs

abbrev pub others : ℕ → List Asked → List Asked
others unique rs = filter (λ r. not (has_unique unique r)) rs

-- the bytes answer the request
abbrev pub AnswersIt : Asked → Told → List ℕ → Type 0
AnswersIt r told answer = Answers (opcode_of r.act) (size_asked r.act) told answer

-- the result for an answer that bears the unique of this pending request, or of none
abbrev pub TakenOf : Option Asked → List Asked → List Asked → List ℕ → Result (Unit {0}) TakeFault → Type 0
TakenOf None old new answer result = result ≡ Err Unknown
TakenOf (Some r) old new answer (Ok _) = ((told : Told) × AnswersIt r told answer) × (new ≡ others (borne answer) old)
TakenOf (Some r) old new answer (Err Unknown) = ⊥
TakenOf (Some r) old new answer (Err (Bad fault)) =
    FirstFault (opcode_of r.act) (size_asked r.act) answer fault × ((told : Told) → AnswersIt r told answer → ⊥)

-- the messages that are kept, and the requests that they are
abbrev pub messages_in : List (Vec ℕ Global) → List (List ℕ)
messages_in pending = map (λ m. m.items) pending

abbrev pub requests_in : List (Vec ℕ Global) → List Asked
requests_in pending = map asked_at (messages_in pending)
