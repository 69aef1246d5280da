-- The answers of the readers of bodies: the request that a body spells (fuse.h), or its fault (defined by this project).
use Rattle.std.specs.Prelude.{◌≡◌, ℕ, List, [], ◌∷◌, Some, Result, Ok, Err}
use Rattle.std.specs.Borrow.{Bor}
use Rattle.fuse_wire.specs.Layout.{Lays, Placed, text}
use Rattle.fuse_request.specs.declared.decoding.Malformed.{Malformed}
use Rattle.fuse_request.specs.declared.request.Op.{Op}
use Rattle.fuse_request.specs.Act.{act, opcode_of}
use Rattle.fuse_request.specs.Bodies.{name_body_fault, names_fault}
use Rattle.fuse_request.specs.Spelling.{parts, IsSpellable}
use Rattle.fuse_request.specs.Faults.{body_fault}

-- the body of an opcode is read at the places of its layout, or its fault
abbrev pub ReadsOp : ℕ → List ℕ → Result Op Malformed → Type 0
ReadsOp opcode b (Ok op) = (opcode_of (act op) ≡ opcode) × IsSpellable (act op) × Placed 0 (parts (act op)) b
ReadsOp opcode b (Err m) = body_fault opcode b ≡ Some m

-- a name that ends the body is read, or its fault
abbrev pub GivesLastName : List ℕ → Result (Bor (List ℕ)) Malformed → Type 0
GivesLastName b (Ok name) = Lays (text name.now ∷ []) b
GivesLastName b (Err m) = name_body_fault b ≡ Some m

-- two names that end the body are read, or the fault
abbrev pub GivesTwoNames : List ℕ → Result (Bor (List ℕ) × Bor (List ℕ)) Malformed → Type 0
GivesTwoNames b (Ok names) = Lays (text names.0.now ∷ text names.1.now ∷ []) b
GivesTwoNames b (Err m) = names_fault b ≡ Some m
