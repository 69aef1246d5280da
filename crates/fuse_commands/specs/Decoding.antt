-- The lines of a stream of answers and notices, as a server sends them (fuse.h: fuse_out_header; the lines are own).
use Rattle.std.specs.Prelude.{◌≡◌, ◌≤◌, ◌+◌, ◌==◌, ◌&&◌, ℕ, Bool, false, nat_le, nat_lt, List, [], ◌∷◌, ◌++◌, length, drop, All, if◌then◌else◌, codes, decimal}
use Rattle.std.specs.Prelude.{Option}
use Rattle.std.specs.Io.KnownBytes.{Appends}
use Rattle.fuse_wire.specs.Bounds.{max_body_len, max_error_number}
use Rattle.fuse_wire.specs.Bytes.{number_of}
use Rattle.fuse_wire.specs.Ids.{id_of}
use Rattle.fuse_request.specs.Stream.{joined}
use Rattle.fuse_answer.specs.Sizes.{out_header_size}
use Rattle.fuse_answer.specs.Wire.{negated}
use Rattle.fuse_commands.specs.declared.decode.Head.{Head}
use Rattle.fuse_commands.specs.declared.ending.Ending.{Ending}
use Rattle.fuse_commands.specs.declared.ending.Ending.TheVariants.{Done, Short, TooLong, Cut}
use Rattle.fuse_commands.specs.Dumping.{resend_text}
use Rattle.fuse_commands.specs.Output.{line}

abbrev pub max_answer_len : ℕ
max_answer_len = out_header_size + max_body_len

-- the bytes begin with a whole answer or notice
abbrev pub begins_whole : List ℕ → Bool
begins_whole w =
    nat_le 4 (length w)
    && (nat_le out_header_size (number_of 4 w) && (nat_le (number_of 4 w) max_answer_len && nat_le (number_of 4 w) (length w)))

-- a whole one
pub record IsSent (m : List ℕ) : Type 0 where
  pub size : number_of 4 m ≡ length m
  pub low : out_header_size ≤ length m
  pub high : length m ≤ max_answer_len

-- the header at the beginning of bytes
abbrev pub head_in : List ℕ → Head
head_in m = record { len = number_of 4 m; error = number_of 4 (drop 4 m); unique = number_of 8 (drop 8 m) }

-- why the kernel refuses an answer, whatever it answers (Linux: fuse_dev_do_write)
abbrev pub refusal_text : Head → List ℕ
refusal_text h =
    if nat_lt max_error_number (negated h.error) then codes " malformed=ErrorRange"
    else if nat_lt 0 (negated h.error) && nat_lt out_header_size h.len then codes " malformed=BodyAfterError"
    else []

-- the line of an answer at this offset, without its line feed
abbrev pub answer_line : ℕ → Head → List ℕ
answer_line at h =
    decimal at ++ (codes " id=" ++ (decimal (id_of h.unique)
    ++ (codes " resend=" ++ (resend_text h.unique
    ++ (codes " errno=" ++ (decimal (negated h.error)
    ++ (codes " len=" ++ (decimal h.len ++ refusal_text h))))))))

-- the line of a notice, whose header has its code in place of an error
abbrev pub notice_line : ℕ → Head → List ℕ
notice_line at h = decimal at ++ (codes " NOTICE code=" ++ (decimal h.error ++ (codes " len=" ++ decimal h.len)))

-- a notice has the unique 0
abbrev pub decode_line : ℕ → Head → List ℕ
decode_line at h = if h.unique == 0 then notice_line at h else answer_line at h

-- the lines of answers and notices, the first at this offset
abbrev pub decode_lines : ℕ → List (List ℕ) → List ℕ
decode_lines at [] = []
decode_lines at (m ∷ ms) = line (decode_line at (head_in m)) ++ decode_lines (at + length m) ms

-- how a stream ends whose rest from this offset on begins with no whole answer
abbrev pub rest_ending : ℕ → List ℕ → Ending
rest_ending at [] = Done
rest_ending at (x ∷ w) =
    if nat_lt (length (x ∷ w)) 4 then Cut at (length (x ∷ w)) 4
    else if nat_lt (number_of 4 (x ∷ w)) out_header_size then Short at (number_of 4 (x ∷ w))
    else if nat_lt max_answer_len (number_of 4 (x ∷ w)) then TooLong at (number_of 4 (x ∷ w))
    else Cut at (length (x ∷ w)) (number_of 4 (x ∷ w))

-- The stream is whole answers and notices, and a rest that begins with none. Their lines were written, and the rest says how the
-- command ends. A stream is so in one way, since each of them begins with its length.
pub record Decoded (old new : Option (List ℕ)) (stream : List ℕ) (ending : Ending) : Type 0 where
  pub sent : List (List ℕ)
  pub rest : List ℕ
  pub each : All IsSent sent
  pub whole : stream ≡ joined sent ++ rest
  pub stuck : begins_whole rest ≡ false
  pub written : Appends old new (decode_lines 0 sent)
  pub ends : ending ≡ rest_ending (length (joined sent)) rest
