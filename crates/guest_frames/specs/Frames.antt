-- Which bytes are a frame (defined by this project: the guest protocol, 'Frames').
use Rattle.std.specs.Prelude.{◌≡◌, ◌≢◌, ◌≤◌, ◌+◌, ℕ, ℤ, Bool, true, if◌then◌else◌, FitsSigned}
use Rattle.std.specs.Prelude.{List, [], ◌∷◌, length, Option, Some, None, IfSome}
use Rattle.std.specs.Int.{cast_unsigned, w64}
use Rattle.std.specs.List.{flat_map, AllByRecursion}
use Rattle.fuse_wire.specs.Bounds.{min_message_len, max_body_len, max_error_number}
use Rattle.fuse_wire.specs.Layout.{Part, number, bytes, Lays, form, HasForm}
use Rattle.guest_frames.specs.declared.hello.Hello.{Hello}
use Rattle.guest_frames.specs.declared.hello.Agreed.{Agreed}
use Rattle.guest_frames.specs.declared.ready.Ready.{Ready}
use Rattle.guest_frames.specs.Limits.{protocol_version, max_frame_len, max_reply_len, max_key_len, max_value_len, max_keys, max_changes, no_value_size}
use Rattle.guest_frames.specs.Kinds.{hello_kind, ready_kind, request_kind, get_kind, values_kind, scan_kind, pairs_kind, answer_kind}
use Rattle.guest_frames.specs.Seeable.{unseeable}

-- ---- what frames say

pub record PairContent : Type 0 where
  pub key : List ℕ
  pub value : List ℕ

-- a change of the pairs: one is set; one is removed; those from one key on and below another are
pub data ChangeContent : Type 0 where
  put : List ℕ → List ℕ → ChangeContent
  delete : List ℕ → ChangeContent
  clear : List ℕ → List ℕ → ChangeContent

pub record RequestContent : Type 0 where
  pub secs : ℤ
  pub nanos : ℕ
  pub count : ℕ
  pub message : List ℕ

pub record ScanContent : Type 0 where
  pub limit : ℕ
  pub keys_alone : Bool
  pub downwards : Bool
  pub from : List ℕ
  pub to : List ℕ

pub record AnswerContent : Type 0 where
  pub error : ℕ
  pub changes : List ChangeContent
  pub body : List ℕ

-- of VALUES, None where there is no such pair; of PAIRS, and whether there are more
pub data Frame : Type 0 where
  of_hello : Hello → Frame
  of_ready : Ready → Frame
  of_request : RequestContent → Frame
  of_get : List (List ℕ) → Frame
  of_values : List (Option (List ℕ)) → Frame
  of_scan : ScanContent → Frame
  of_pairs : List PairContent → Bool → Frame
  of_answer : AnswerContent → Frame

-- ---- their layouts

abbrev pub key_parts : List ℕ → List Part
key_parts key = number 4 (length key) ∷ bytes key ∷ []

abbrev pub value_parts : Option (List ℕ) → List Part
value_parts None = number 4 no_value_size ∷ []
value_parts (Some value) = number 4 (length value) ∷ bytes value ∷ []

abbrev pub pair_parts : PairContent → List Part
pair_parts p = number 4 (length p.key) ∷ bytes p.key ∷ number 4 (length p.value) ∷ bytes p.value ∷ []

abbrev pub change_parts : ChangeContent → List Part
change_parts (put key value) = number 4 1 ∷ number 4 (length key) ∷ bytes key ∷ number 4 (length value) ∷ bytes value ∷ []
change_parts (delete key) = number 4 2 ∷ number 4 (length key) ∷ bytes key ∷ []
change_parts (clear from to) = number 4 3 ∷ number 4 (length from) ∷ bytes from ∷ number 4 (length to) ∷ bytes to ∷ []

-- each item by its layout, one after the other
abbrev pub items_bytes : {A : Type 0} → (A → List Part) → List A → List ℕ
items_bytes {A} parts items = flat_map (λ (x : A). form (parts x)) items

-- whether there are settings, those of INIT, the opcodes that can be handed on, and those that are pledged
abbrev pub settings_parts : Option Agreed → ℕ → List Part
settings_parts None opcodes = number 4 0 ∷ number 4 0 ∷ number 8 0 ∷ number 8 opcodes ∷ number 8 0 ∷ []
settings_parts (Some a) opcodes = number 4 1 ∷ number 4 a.minor ∷ number 8 a.flags ∷ number 8 opcodes ∷ number 8 a.pledged ∷ []

abbrev pub flag : ℕ → Bool → ℕ
flag n b = if b then n else 0

-- what follows the head of 8 bytes
abbrev pub payload_parts : Frame → List Part
payload_parts (of_hello h) =
    number 4 protocol_version ∷ number 4 max_frame_len ∷ number 4 max_key_len ∷ number 4 max_value_len ∷ number 4 max_keys ∷ number 4 max_changes
    ∷ settings_parts h.agreed h.opcodes
payload_parts (of_ready r) =
    number 4 protocol_version ∷ number 4 r.max_write ∷ number 8 r.opcodes ∷ number 8 r.wanted ∷ number 4 r.max_readahead ∷ number 4 0
    ∷ number 8 r.seen ∷ []
payload_parts (of_request r) = number 8 (cast_unsigned w64 r.secs) ∷ number 4 r.nanos ∷ number 4 r.count ∷ bytes r.message ∷ []
payload_parts (of_get keys) = number 4 (length keys) ∷ number 4 0 ∷ bytes (items_bytes key_parts keys) ∷ []
payload_parts (of_values values) = number 4 (length values) ∷ number 4 0 ∷ bytes (items_bytes value_parts values) ∷ []
payload_parts (of_scan s) =
    number 4 s.limit ∷ number 4 (flag 1 s.keys_alone + flag 2 s.downwards) ∷ number 4 (length s.from) ∷ bytes s.from ∷ number 4 (length s.to)
    ∷ bytes s.to ∷ []
payload_parts (of_pairs pairs more) = number 4 (length pairs) ∷ number 4 (flag 1 more) ∷ bytes (items_bytes pair_parts pairs) ∷ []
payload_parts (of_answer a) =
    number 4 a.error ∷ number 4 (length a.changes) ∷ number 4 (length a.body) ∷ number 4 0 ∷ bytes (items_bytes change_parts a.changes)
    ∷ bytes a.body ∷ []

abbrev pub frame_kind : Frame → ℕ
frame_kind (of_hello h) = hello_kind
frame_kind (of_ready r) = ready_kind
frame_kind (of_request r) = request_kind
frame_kind (of_get keys) = get_kind
frame_kind (of_values values) = values_kind
frame_kind (of_scan s) = scan_kind
frame_kind (of_pairs pairs more) = pairs_kind
frame_kind (of_answer a) = answer_kind

-- the length of a frame counts its head
abbrev pub frame_len : Frame → ℕ
frame_len f = 8 + length (form (payload_parts f))

abbrev pub frame_parts : Frame → List Part
frame_parts f = number 4 (frame_len f) ∷ number 4 (frame_kind f) ∷ payload_parts f

abbrev pub frame_bytes : Frame → List ℕ
frame_bytes f = form (frame_parts f)

-- ---- which are within the limits

-- a bound of a range; where it is empty there is none
abbrev pub IsBound : List ℕ → Type 0
IsBound key = length key ≤ max_key_len

abbrev pub IsKey : List ℕ → Type 0
IsKey key = (1 ≤ length key) × (length key ≤ max_key_len)

abbrev pub IsValue : List ℕ → Type 0
IsValue value = length value ≤ max_value_len

abbrev pub IsPair : PairContent → Type 0
IsPair p = IsKey p.key × IsValue p.value

abbrev pub IsChange : ChangeContent → Type 0
IsChange (put key value) = IsKey key × IsValue value
IsChange (delete key) = IsKey key
IsChange (clear from to) = IsBound from × IsBound to

-- at most as many as a GET asks for
pub record AreRightValues (values : List (Option (List ℕ))) : Type 0 where
  pub some : 1 ≤ length values
  pub few : length values ≤ max_keys
  pub each : AllByRecursion (λ v. IfSome v IsValue) values
  pub short : frame_len (of_values values) ≤ max_reply_len

-- where there are more pairs, some come
pub record AreRightPairs (pairs : List PairContent) (more : Bool) : Type 0 where
  pub each : AllByRecursion IsPair pairs
  pub some : more ≡ true → 1 ≤ length pairs
  pub short : frame_len (of_pairs pairs more) ≤ max_reply_len

-- an error comes alone
pub record IsRightAnswer (a : AnswerContent) : Type 0 where
  pub error : a.error ≤ max_error_number
  pub few : length a.changes ≤ max_changes
  pub alone : a.error ≢ 0 → (a.changes ≡ []) × (a.body ≡ [])
  pub each : AllByRecursion IsChange a.changes
  pub body : length a.body ≤ max_body_len

abbrev pub HasRightParts : Frame → Type 0
HasRightParts (of_hello h) = Unit {0}
HasRightParts (of_ready r) = unseeable r.seen ≡ None
HasRightParts (of_request r) = FitsSigned w64 r.secs × (min_message_len ≤ length r.message)
HasRightParts (of_get keys) = (1 ≤ length keys) × (length keys ≤ max_keys) × AllByRecursion IsKey keys
HasRightParts (of_values values) = AreRightValues values
HasRightParts (of_scan s) = IsBound s.from × IsBound s.to
HasRightParts (of_pairs pairs more) = AreRightPairs pairs more
HasRightParts (of_answer a) = IsRightAnswer a

-- the payload is that of this frame
pub record SpellsFrame (f : Frame) (payload : List ℕ) : Type 0 where
  pub within : HasRightParts f
  pub laid : Lays (payload_parts f) payload

-- the frame is within the limits, and as a whole it isn't too long
abbrev pub IsLimited : Frame → Type 0
IsLimited f = HasRightParts f × (frame_len f ≤ max_frame_len)

-- and each number fits its field
pub record IsFrame (f : Frame) : Type 0 where
  pub limited : IsLimited f
  pub fits : HasForm (payload_parts f)
