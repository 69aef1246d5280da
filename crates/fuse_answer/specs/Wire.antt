-- A whole answer as bytes (fuse.h: fuse_out_header, then the body).
use Rattle.std.specs.Prelude.{ℕ, List, ◌++◌, ◌+◌, ◌-◌, ◌%◌, ◌^◌, length}
use Rattle.fuse_wire.specs.Layout.{form}
use Rattle.fuse_answer.specs.Bodies.{out_head_parts}
use Rattle.fuse_answer.specs.Sizes.{out_header_size}

-- the negation of an errno below 2 ^ 32, in the two's complement of 4 bytes
abbrev pub negated : ℕ → ℕ
negated errno = (2 ^ 32 - errno) % 2 ^ 32

-- the header of an answer with a body of so many bytes
unfoldable pub wire_head : ℕ → ℕ → ℕ → List ℕ
wire_head errno body_len unique = form (out_head_parts (out_header_size + body_len) (negated errno) unique)

-- the header, then the body
unfoldable pub wire : ℕ → List ℕ → ℕ → List ℕ
wire errno body unique = wire_head errno (length body) unique ++ body
