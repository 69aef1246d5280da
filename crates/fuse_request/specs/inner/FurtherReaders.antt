-- What the readers of further bodies return: what a body says at the places of its layout (fuse.h), or its fault (defined by this project).
use Rattle.std.specs.Prelude.{◌≡◌, ℕ, false, List, [], ◌∷◌, length, Option, Some, None, Result, Ok, Err}
use Rattle.std.specs.Borrow.{Bor}
use Rattle.fuse_wire.specs.Bytes.{after_nul}
use Rattle.fuse_wire.specs.Layout.{Lays, Placed, text, bytes}
use Rattle.fuse_request.specs.declared.decoding.Malformed.{Malformed}
use Rattle.fuse_request.specs.declared.further.Body.{Body}
use Rattle.fuse_request.specs.FurtherBodies.{further_content, further_parts, further_opcode, further_fault, value_fault, is_further}

-- a body of this opcode is read at the places of its layout, or its fault
abbrev pub ReadsBody : ℕ → List ℕ → Result Body Malformed → Type 0
ReadsBody opcode b (Ok x) = (further_opcode (further_content x) ≡ opcode) × Placed 0 (further_parts (further_content x)) b
ReadsBody opcode b (Err m) = further_fault opcode b ≡ Some m

-- so of any opcode; one outside the table has no body that is read
abbrev pub ReadsAny : ℕ → List ℕ → Result (Option Body) Malformed → Type 0
ReadsAny opcode b (Ok (Some x)) = ReadsBody opcode b (Ok x)
ReadsAny opcode b (Ok None) = is_further opcode ≡ false
ReadsAny opcode b (Err m) = further_fault opcode b ≡ Some m

-- a name, and a value of this size that ends the body
abbrev pub GivesValue : ℕ → List ℕ → Result (Bor (List ℕ) × Bor (List ℕ)) Malformed → Type 0
GivesValue size b (Ok x) = (length x.1.now ≡ size) × Lays (text x.0.now ∷ bytes x.1.now ∷ []) b
GivesValue size b (Err m) = value_fault size (after_nul b) ≡ Some m
