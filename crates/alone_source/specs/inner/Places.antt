-- The bytes before a message that is to be alone (defined by this project).
use Rattle.std.specs.Prelude.{ℕ, List, [], ◌∷◌, Option}
use Rattle.fuse_wire.specs.declared.id.Id.{Id}
use Rattle.fuse_request.specs.Stream.{cut, joined}
use Rattle.alone_source.specs.Turns.{earlier, later}

abbrev pub before_by : List ℕ → List (List ℕ) → List (List ℕ) → List ℕ
before_by w es [] = w
before_by w es (m ∷ ms) = joined es

-- all bytes, where no whole message is to be alone
abbrev pub bytes_before : Option Id → List ℕ → List ℕ
bytes_before id w = before_by w (earlier id (cut w).0) (later id (cut w).0)
