-- What a payload says, or its first fault (defined by this project: the guest protocol, 'Faults'): the fields before the first part are
-- there, and zeros are 0; then their values; then the parts from left to right; then the end.
use Rattle.std.specs.Prelude.{◌==◌, ◌%◌, ◌/◌, ℕ, zero, suc, not, nat_lt, if◌then◌else◌, List, [], ◌∷◌, length, take, drop}
use Rattle.std.specs.Prelude.{Option, Some, None, Result, Ok, Err}
use Rattle.std.specs.Result.{result_err}
use Rattle.fuse_wire.specs.Bytes.{number_of}
use Rattle.fuse_wire.specs.Bounds.{max_body_len, max_error_number}
use Rattle.guest_frames.specs.declared.fault.GuestFault.{GuestFault}
use Rattle.guest_frames.specs.declared.fault.GuestFault.TheVariants as faults
use Rattle.guest_frames.specs.declared.guest_kind.GuestKind.{GuestKind}
use Rattle.guest_frames.specs.declared.guest_kind.GuestKind.TheVariants as kinds
use Rattle.guest_frames.specs.declared.ready.Ready.{Ready}
use Rattle.guest_frames.specs.Limits.{protocol_version, max_key_len, max_value_len, max_keys, max_changes}
use Rattle.guest_frames.specs.Frames.{ChangeContent, put, delete, clear, ScanContent, AnswerContent, Frame, of_ready, of_get, of_scan, of_answer}
use Rattle.guest_frames.specs.Seeable.{unseeable}

-- the number of four bytes at a place
abbrev pub word_at : ℕ → List ℕ → ℕ
word_at k b = number_of 4 (drop k b)

-- ---- parts that stand first: what they say, and the bytes after them, or the fault

infixl 10 ◌>>=◌
abbrev pub ◌>>=◌ : {A B : Type 0} → Result A GuestFault → (A → Result B GuestFault) → Result B GuestFault
(Ok x) >>= f = f x
(Err e) >>= f = Err e

abbrev pub word_first : GuestKind → List ℕ → Result (ℕ × List ℕ) GuestFault
word_first kind b = if nat_lt (length b) 4 then Err (faults.Malformed kind) else Ok (number_of 4 b, drop 4 b)

abbrev pub bytes_first : GuestKind → ℕ → List ℕ → Result (List ℕ × List ℕ) GuestFault
bytes_first kind n b = if nat_lt (length b) n then Err (faults.Malformed kind) else Ok (take n b, drop n b)

-- a bound of a range
unfoldable pub bound_first : GuestKind → List ℕ → Result (List ℕ × List ℕ) GuestFault
bound_first kind b = do
  n ← word_first kind b
  if nat_lt max_key_len n.0 then Err (faults.Key n.0) else bytes_first kind n.0 n.1

unfoldable pub key_first : GuestKind → List ℕ → Result (List ℕ × List ℕ) GuestFault
key_first kind b = do
  n ← word_first kind b
  if n.0 == 0 then Err (faults.Key n.0)
      else if nat_lt max_key_len n.0 then Err (faults.Key n.0)
      else bytes_first kind n.0 n.1

unfoldable pub value_first : GuestKind → List ℕ → Result (List ℕ × List ℕ) GuestFault
value_first kind b = do
  n ← word_first kind b
  if nat_lt max_value_len n.0 then Err (faults.Value n.0) else bytes_first kind n.0 n.1

unfoldable pub put_first : List ℕ → Result (ChangeContent × List ℕ) GuestFault
put_first b = do
  key ← key_first kinds.Answer b
  value ← value_first kinds.Answer key.1
  Ok (put key.0 value.0, value.1)

unfoldable pub delete_first : List ℕ → Result (ChangeContent × List ℕ) GuestFault
delete_first b = do
  key ← key_first kinds.Answer b
  Ok (delete key.0, key.1)

unfoldable pub clear_first : List ℕ → Result (ChangeContent × List ℕ) GuestFault
clear_first b = do
  from ← bound_first kinds.Answer b
  to ← bound_first kinds.Answer from.1
  Ok (clear from.0 to.0, to.1)

abbrev pub change_of : ℕ → List ℕ → Result (ChangeContent × List ℕ) GuestFault
change_of what b =
    if what == 1 then put_first b
    else if what == 2 then delete_first b
    else if what == 3 then clear_first b
    else Err (faults.Change what)

unfoldable pub change_first : List ℕ → Result (ChangeContent × List ℕ) GuestFault
change_first b = do
  what ← word_first kinds.Answer b
  change_of what.0 what.1

-- n items, one after the other
abbrev pub items_first : {A : Type 0} → (List ℕ → Result (A × List ℕ) GuestFault) → ℕ → List ℕ → Result (List A × List ℕ) GuestFault
items_first read zero b = Ok ([], b)
items_first read (suc n) b = do
  x ← read b
  xs ← items_first read n x.1
  Ok (x.0 ∷ xs.0, xs.1)

-- ---- payloads

abbrev pub ready_if_seeable : Option ℕ → Ready → Result Ready GuestFault
ready_if_seeable None r = Ok r
ready_if_seeable (Some opcode) r = Err (faults.CannotBeSeen opcode)

abbrev pub ready_at : List ℕ → Ready
ready_at b = record {
  max_write = word_at 4 b;
  opcodes = number_of 8 (drop 8 b);
  wanted = number_of 8 (drop 16 b);
  max_readahead = word_at 24 b;
  seen = number_of 8 (drop 32 b);
}

-- a guest of another version may have other fields
abbrev pub ready_in : List ℕ → Result Ready GuestFault
ready_in b =
    if nat_lt (length b) 4 then Err (faults.Malformed kinds.Ready)
    else if not (word_at 0 b == protocol_version) then Err (faults.Version (word_at 0 b))
    else if not (length b == 40) then Err (faults.Malformed kinds.Ready)
    else if not (word_at 28 b == 0) then Err (faults.Malformed kinds.Ready)
    else ready_if_seeable (unseeable (ready_at b).seen) (ready_at b)

unfoldable pub keys_in : ℕ → List ℕ → Result (List (List ℕ)) GuestFault
keys_in count b = do
  keys ← items_first (key_first kinds.Get) count b
  if length keys.1 == 0 then Ok keys.0 else Err (faults.Malformed kinds.Get)

abbrev pub get_in : List ℕ → Result (List (List ℕ)) GuestFault
get_in b =
    if nat_lt (length b) 8 then Err (faults.Malformed kinds.Get)
    else if not (word_at 4 b == 0) then Err (faults.Malformed kinds.Get)
    else if word_at 0 b == 0 then Err (faults.TooMany kinds.Get)
    else if nat_lt max_keys (word_at 0 b) then Err (faults.TooMany kinds.Get)
    else keys_in (word_at 0 b) (drop 8 b)

unfoldable pub range_in : ℕ → ℕ → List ℕ → Result ScanContent GuestFault
range_in limit flags b = do
  from ← bound_first kinds.Scan b
  to ← bound_first kinds.Scan from.1
  if length to.1 == 0
      then Ok (record { limit = limit; keys_alone = flags % 2 == 1; downwards = flags / 2 == 1; from = from.0; to = to.0 })
      else Err (faults.Malformed kinds.Scan)

abbrev pub scan_in : List ℕ → Result ScanContent GuestFault
scan_in b =
    if nat_lt (length b) 8 then Err (faults.Malformed kinds.Scan)
    else if nat_lt 3 (word_at 4 b) then Err (faults.Malformed kinds.Scan)
    else range_in (word_at 0 b) (word_at 4 b) (drop 8 b)

unfoldable pub changes_in : ℕ → ℕ → ℕ → List ℕ → Result AnswerContent GuestFault
changes_in error count size b = do
  changes ← items_first change_first count b
  if not (length changes.1 == size) then Err (faults.Malformed kinds.Answer)
      else if nat_lt max_body_len size then Err (faults.Body size)
      else Ok (record { error = error; changes = changes.0; body = changes.1 })

-- an error comes alone
abbrev pub guest_answer_in : List ℕ → Result AnswerContent GuestFault
guest_answer_in b =
    if nat_lt (length b) 16 then Err (faults.Malformed kinds.Answer)
    else if not (word_at 12 b == 0) then Err (faults.Malformed kinds.Answer)
    else if nat_lt max_error_number (word_at 0 b) then Err (faults.Error (word_at 0 b))
    else if nat_lt max_changes (word_at 4 b) then Err (faults.TooMany kinds.Answer)
    else if word_at 0 b == 0 then changes_in (word_at 0 b) (word_at 4 b) (word_at 8 b) (drop 16 b)
    else if not (word_at 4 b == 0) then Err faults.ErrorWithChanges
    else if not (word_at 8 b == 0) then Err faults.ErrorWithChanges
    else changes_in (word_at 0 b) (word_at 4 b) (word_at 8 b) (drop 16 b)

abbrev pub payload_in : GuestKind → List ℕ → Result Frame GuestFault
payload_in kinds.Ready b = ready_in b >>= λ x. Ok (of_ready x)
payload_in kinds.Get b = get_in b >>= λ x. Ok (of_get x)
payload_in kinds.Scan b = scan_in b >>= λ x. Ok (of_scan x)
payload_in kinds.Answer b = guest_answer_in b >>= λ x. Ok (of_answer x)

-- the fault of a payload of a kind that is none
abbrev pub first_guest_fault : GuestKind → List ℕ → Option GuestFault
first_guest_fault kind b = result_err (payload_in kind b)
