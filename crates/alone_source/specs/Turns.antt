-- Which messages are handed on together (defined by this project).
use Rattle.std.specs.Prelude.{◌≡◌, ◌⊎◌, ◌==◌, ℕ, Bool, true, false, if◌then◌else◌, List, [], ◌∷◌, Option, Some, None}
use Rattle.std.specs.List.{AllByRecursion}
use Rattle.fuse_wire.specs.Ids.{id_of}
use Rattle.fuse_wire.specs.declared.id.Id.{Id}
use Rattle.fuse_request.specs.Header.{raw_of}
use Rattle.fuse_request.specs.Stream.{cut, joined}

-- the message has this id: it is to be alone
abbrev pub is_alone : Option Id → List ℕ → Bool
is_alone None m = false
is_alone (Some id) m = id_of (raw_of m).unique == id.0

-- the messages before the first that is to be alone, and those from it on
abbrev pub earlier : Option Id → List (List ℕ) → List (List ℕ)
earlier id [] = []
earlier id (m ∷ ms) = if is_alone id m then [] else m ∷ earlier id ms

abbrev pub later : Option Id → List (List ℕ) → List (List ℕ)
later id [] = []
later id (m ∷ ms) = if is_alone id m then m ∷ ms else later id ms

-- the first of these bytes that are handed on together, by the messages before one that is to be alone, and those from it on: all
-- bytes, where there is no such message; else the messages before it; itself, where it comes first
abbrev pub turn_by : List ℕ → List (List ℕ) → List (List ℕ) → List ℕ
turn_by w es [] = w
turn_by w [] (m ∷ ms) = m
turn_by w (e ∷ es) (m ∷ ms) = joined (e ∷ es)

-- the same of all messages that are whole in these bytes
abbrev pub turn_of : Option Id → List ℕ → List ℕ
turn_of id w = turn_by w (earlier id (cut w).0) (later id (cut w).0)

-- messages that come together: none of them is to be alone, or one is and it is alone
abbrev pub IsApart : Option Id → List (List ℕ) → Type 0
IsApart id ms = AllByRecursion (λ m. is_alone id m ≡ false) ms ⊎ ((m : List ℕ) × (ms ≡ m ∷ []) × (is_alone id m ≡ true))
