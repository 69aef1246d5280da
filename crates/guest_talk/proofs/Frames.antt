-- Frames of a guest, put together of their heads and payloads.
use Rattle.std.proofs.Common.{◌≡◌, ◌≤◌, ◌<◌, ◌+◌, ◌-◌, ◌⊎◌, inl, inr, ℕ, Bool, true, false, List, [], ◌∷◌, ◌++◌, length, take, drop, get_or, Option, Some, None, Result, Ok, Err}
use Rattle.std.proofs.Common.{refl, sym, ap, subst, ◌∙◌, arith}
use borrow.Rule.Slice.PartMut.{put_mid}
use Rattle.std.specs.Prelude.{nat_lt, is_ok, if◌then◌else◌}
use Rattle.std.specs.Io.KnownBytes.{Consumes}
use Rattle.std.specs.Option.{option_map_or}
use Rattle.std.specs.Result.{result_ok, result_err}
use Rattle.std.proofs.KnownBytes.{Consumes-trans}
use Rattle.std.proofs.lemmas.Bool.{cases_lt, le-ltb, lt-ltb, ltb-false}
use Rattle.std.proofs.lemmas.List.{append-nil, take_at, drop_at, drop-append-le, take-append-le, take_all, take-append-drop, length-append, length-take-le, length-drop, get_or_append_left, get_or-append_right}
use Rattle.fuse_wire.specs.Bytes.{IsBytes, le, number_of}
use Rattle.fuse_wire.specs.Laws.{NumbersRead}
use Rattle.fuse_wire.specs.Layout.{form}
use Rattle.guest_frames.specs.declared.fault.GuestFault.{GuestFault}
use Rattle.guest_frames.specs.declared.fault.GuestFault.TheVariants as faults
use Rattle.guest_frames.specs.declared.guest_head.GuestHead.{GuestHead}
use Rattle.guest_frames.specs.declared.guest_kind.GuestKind.{GuestKind}
use Rattle.guest_frames.specs.declared.guest_kind.GuestKind.TheVariants as kinds
use Rattle.guest_frames.specs.Limits.{max_frame_len}
use Rattle.guest_frames.specs.Kinds.{kind_number, guest_kind_of}
use Rattle.guest_frames.specs.Frames.{Frame, of_ready, of_get, of_scan, of_answer, AnswerContent, frame_bytes, frame_kind, frame_len, payload_parts, IsFrame, SpellsFrame}
use Rattle.guest_frames.specs.Heads.{head_of, guest_head_in}
use Rattle.guest_frames.specs.Laws.{FramesStand}
use Rattle.guest_frames.specs.Reading.{word_at, ◌>>=◌, payload_in, ready_in, get_in, scan_in, first_guest_fault, guest_answer_in}
use Rattle.fuse_guest.specs.declared.fault.TalkFault.{TalkFault}
use Rattle.fuse_guest.specs.declared.fault.TalkFault.TheVariants as talks
use Rattle.guest_talk.specs.Answered.{no_answer}
use Rattle.guest_talk.specs.declared.due.Due.{Due}
use Rattle.guest_talk.specs.Bytes.{Kinds, fault_after, len_shown, len_of_fault, ReadsFault}
use Rattle.guest_talk.specs.inner.Pipes.{IsPipeFault}
use Rattle.guest_talk.specs.inner.Reads.{due_kinds, IsSpelled, ReadsHead, ReadsWhole}

-- ---- payloads

abbrev pub frame_read : Result Frame GuestFault → Frame
frame_read r = option_map_or (λ f. f) (result_ok r) (of_get [])

pub frame_is : FramesStand → (kind : GuestKind) (b : List ℕ) (f : Frame) → frame_kind f ≡ kind_number kind → SpellsFrame f b
    → f ≡ frame_read (payload_in kind b)
frame_is laws kind b f of_kind s = sym (ap frame_read (laws.read kind b f of_kind s))

pub frame_right : FramesStand → (kind : GuestKind) (b : List ℕ) (f : Frame) → frame_kind f ≡ kind_number kind → SpellsFrame f b
    → is_ok (payload_in kind b) ≡ true
frame_right laws kind b f of_kind s = ap is_ok (laws.read kind b f of_kind s)

pub not_wrong : {A : Type 0} (r : Result A GuestFault) (fault : GuestFault) → is_ok r ≡ true → result_err r ≡ Some fault → ⊥
not_wrong (Ok x) fault right wrong = absurd cc
not_wrong (Err e) fault right wrong = absurd cc

-- ---- heads

abbrev none_yet : Result (Option GuestHead) GuestFault
none_yet = Ok None

abbrev head_from : ℕ → ℕ → Result (Option GuestHead) GuestFault
head_from len n =
    if nat_lt len 8 then Err (faults.Length len)
    else if nat_lt max_frame_len len then Err (faults.Length len)
    else head_of len n (guest_kind_of n)

pub head_long : (b : List ℕ) → 8 ≤ length b → guest_head_in b ≡ head_from (word_at 0 b) (word_at 4 b)
head_long b long =
    let some : nat_lt (length b) 4 ≡ false = le-ltb (length b) 4 (omega (arith, long)) in
    let enough : nat_lt (length b) 8 ≡ false = le-ltb (length b) 8 long in
    rw (some, enough) refl

no_head_of : (len n : ℕ) (kind : Option GuestKind) → head_of len n kind ≡ Ok None → ⊥
no_head_of len n None none = absurd cc
no_head_of len n (Some kind) none = absurd cc

no_head : (few many : Bool) (len n : ℕ) (kind : Option GuestKind)
    → (if few then Err (faults.Length len) else if many then Err (faults.Length len) else head_of len n kind) ≡ Ok None → ⊥
no_head true many len n kind none = absurd cc
no_head false true len n kind none = absurd cc
no_head false false len n kind none = no_head_of len n kind none

-- eight bytes are a head, or its fault
pub head_is_there : (b : List ℕ) → length b ≡ 8 → guest_head_in b ≡ Ok None → ⊥
head_is_there b long none =
    no_head (nat_lt (word_at 0 b) 8) (nat_lt max_frame_len (word_at 0 b)) (word_at 0 b) (word_at 4 b) (guest_kind_of (word_at 4 b))
    (sym (head_long b (omega (arith, long))) ∙ none)

-- later bytes don't matter
head_same : NumbersRead → (b p : List ℕ) → length b ≡ 8 → guest_head_in (b ++ p) ≡ guest_head_in b
head_same laws b p long =
    let first : word_at 0 (b ++ p) ≡ word_at 0 b = laws.apart 4 b p (omega (arith, long)) in
    let second : word_at 4 (b ++ p) ≡ word_at 4 b =
    ap (number_of 4) (drop-append-le 4 b p (omega (arith, long))) ∙ laws.apart 4 (drop 4 b) p (omega (arith, long, length-drop 4 b)) in
    head_long (b ++ p) (omega (arith, long, length-append b p)) ∙ ap (λ k. head_from k (word_at 4 (b ++ p))) first
    ∙ ap (head_from (word_at 0 b)) second ∙ sym (head_long b (omega (arith, long)))

-- ---- whole frames

pub joined_bytes : (b p : List ℕ) → IsBytes b → IsBytes p → IsBytes (b ++ p)
joined_bytes b p one two = λ i. by_place i (cases_lt i (length b))
  where
    by_place : (i : ℕ) → (i < length b) ⊎ (length b ≤ i) → get_or (b ++ p) i 0 < 256
    by_place i (inl low) = subst (λ k. k < 256) (sym (get_or_append_left b p 0 i low)) (one i)
    by_place i (inr high) = subst (λ k. k < 256) (sym (get_or-append_right b p (length b) i 0 refl high)) (two (i - length b))

pub record Joined (old new : Option (List ℕ)) (p : List ℕ) (f : Frame) : Type 0 where
  pub whole : IsFrame f
  pub came : Consumes old new (frame_bytes f)
  pub payload : p ≡ drop 8 (frame_bytes f)

pub joined : NumbersRead → FramesStand → (d : Due) (old mid new : Option (List ℕ)) (h : GuestHead) (p : List ℕ) (f : Frame) → ReadsHead d old mid h
    → IsBytes p → length p + 8 ≡ h.len → Consumes mid new p → frame_kind f ≡ kind_number h.kind → SpellsFrame f p → Joined old new p f
joined numbers laws d old mid new h p f head fits long came of_kind s =
    let dropped : drop 8 (head.bytes ++ p) ≡ p = drop_at head.bytes p 8 head.long in
    let whole = laws.whole (head.bytes ++ p) h f (joined_bytes head.bytes p head.are fits) (head_same numbers head.bytes p head.long ∙ head.is)
    (omega (arith, length-append head.bytes p, head.long, long)) of_kind (subst (SpellsFrame f) (sym dropped) s) in
    record {
      whole = whole.0;
      came = subst (Consumes old new) whole.1 (Consumes-trans old mid new head.bytes p head.came came);
      payload = sym dropped ∙ ap (drop 8) whole.1;
    }

-- ---- wrong frames

if_true : {A : Type 0} (b : Bool) (x y : A) → b ≡ true → (if b then x else y) ≡ x
if_true true x y is = refl
if_true false x y is = absurd cc

if_false : {A : Type 0} (b : Bool) (x y : A) → b ≡ false → (if b then x else y) ≡ y
if_false true x y is = absurd cc
if_false false x y is = refl

abbrev short_from : ℕ → Result (Option GuestHead) GuestFault
short_from len = if nat_lt len 8 then Err (faults.Length len) else if nat_lt max_frame_len len then Err (faults.Length len) else Ok None

head_short : (b : List ℕ) → length b ≡ 4 → guest_head_in b ≡ short_from (word_at 0 b)
head_short b long =
    let some : nat_lt (length b) 4 ≡ false = le-ltb (length b) 4 (omega (arith, long)) in
    let few : nat_lt (length b) 8 ≡ true = lt-ltb (length b) 8 (omega (arith, long)) in
    rw (some, few) refl

open_by : (few many : Bool) (len n : ℕ) (h : GuestHead)
    → (if few then Err (faults.Length len) else if many then Err (faults.Length len) else head_of len n (guest_kind_of n)) ≡ Ok (Some h)
    → (if few then Err (faults.Length len) else if many then Err (faults.Length len) else Ok None) ≡ none_yet
open_by true many len n h is = absurd cc
open_by false true len n h is = absurd cc
open_by false false len n h is = refl

-- the length of a head that is right is right by itself
len_right : NumbersRead → (b : List ℕ) (h : GuestHead) → length b ≡ 8 → guest_head_in b ≡ Ok (Some h) → guest_head_in (take 4 b) ≡ none_yet
len_right laws b h long is =
    let four : length (take 4 b) ≡ 4 = length-take-le 4 b (omega (arith, long)) in
    let word : word_at 0 (take 4 b) ≡ word_at 0 b = sym (laws.apart 4 (take 4 b) (drop 4 b) (omega (arith, four))) ∙ ap (number_of 4) (take-append-drop 4 b) in
    head_short (take 4 b) four ∙ ap short_from word
    ∙ open_by (nat_lt (word_at 0 b) 8) (nat_lt max_frame_len (word_at 0 b)) (word_at 0 b) (word_at 4 b) h (sym (head_long b (omega (arith, long))) ∙ is)

pub wrong_payload : NumbersRead → (d : Due) (old mid new : Option (List ℕ)) (h : GuestHead) (p : List ℕ) (fault : GuestFault)
    → ReadsHead d old mid h → Consumes mid new p → length p + 8 ≡ h.len → first_guest_fault h.kind p ≡ Some fault
    → ReadsFault (due_kinds d) old new (talks.Frame fault)
wrong_payload numbers d old mid new h p fault head came long wrong =
    let b : List ℕ = head.bytes ++ p in
    let is : guest_head_in b ≡ Ok (Some h) = head_same numbers head.bytes p head.long ∙ head.is in
    let few : guest_head_in (take 4 b) ≡ none_yet =
    ap guest_head_in (take-append-le 4 head.bytes p (omega (arith, head.long))) ∙ len_right numbers head.bytes h head.long head.is in
    let shown : len_of_fault (due_kinds d) b ≡ h.len =
    ap (λ r. len_shown (due_kinds d) r (guest_head_in b)) few ∙ ap (len_shown (due_kinds d) none_yet) is ∙ if_true (due_kinds d h.kind) h.len 8 head.of_due in (
      b,
      ap (λ r. fault_after (due_kinds d) r b) is ∙ if_true (due_kinds d h.kind) _ _ head.of_due
          ∙ ap (first_guest_fault h.kind) (drop_at head.bytes p 8 head.long) ∙ wrong,
      omega (arith, length-append head.bytes p, head.long, long, shown),
      Consumes-trans old mid new head.bytes p head.came came,
    )

-- four bytes are a wrong length
pub wrong_len : (due : Kinds) (old new : Option (List ℕ)) (b : List ℕ) (fault : GuestFault) → length b ≡ 4 → guest_head_in b ≡ Err fault → Consumes old new b
    → ReadsFault due old new (talks.Frame fault)
wrong_len due old new b fault long wrong came =
    let all : take 4 b ≡ b = take_all 4 b (omega (arith, long)) in (
      b,
      ap (λ r. fault_after due r b) wrong,
      long ∙ sym (ap (λ r. len_shown due r (guest_head_in b)) (ap guest_head_in all ∙ wrong)),
      came,
    )

open_len : (due : Kinds) (x : Option GuestHead) (fault : GuestFault) → 8 ≡ len_shown due (Ok x) (Err fault)
open_len due x fault = refl

-- eight are a wrong kind
pub wrong_kind : (due : Kinds) (old new : Option (List ℕ)) (b : List ℕ) (x : Option GuestHead) (fault : GuestFault) → length b ≡ 8
    → guest_head_in (take 4 b) ≡ Ok x → guest_head_in b ≡ Err fault → Consumes old new b → ReadsFault due old new (talks.Frame fault)
wrong_kind due old new b x fault long first wrong came = (
  b,
  ap (λ r. fault_after due r b) wrong,
  long ∙ open_len due x fault ∙ sym (ap (λ r. len_shown due r (guest_head_in b)) first ∙ ap (len_shown due (Ok x)) wrong),
  came,
)

-- or one that isn't due
pub not_due : NumbersRead → (due : Kinds) (old new : Option (List ℕ)) (b : List ℕ) (h : GuestHead) → length b ≡ 8 → guest_head_in b ≡ Ok (Some h)
    → due h.kind ≡ false → Consumes old new b → ReadsFault due old new (talks.Frame (faults.NotDue (kind_number h.kind)))
not_due laws due old new b h long is other came = (
  b,
  ap (λ r. fault_after due r b) is ∙ if_false (due h.kind) _ _ other,
  long
      ∙ sym (ap (λ r. len_shown due r (guest_head_in b)) (len_right laws b h long is) ∙ ap (len_shown due none_yet) is
      ∙ if_false (due h.kind) h.len 8 other),
  came,
)

-- ---- a head that is read in two parts, over bytes that are zero

abbrev zeros : List ℕ
zeros = 0 ∷ 0 ∷ 0 ∷ 0 ∷ []

both_parts : (first second : List ℕ) → length first ≡ 4 → put_mid 4 4 (first ++ zeros) second ≡ first ++ second
both_parts first second f =
    let front : take 4 (first ++ zeros) ≡ first = take_at first zeros 4 f in
    let back : drop 4 (drop 4 (first ++ zeros)) ≡ [] = ap (drop 4) (drop_at first zeros 4 f) in
    ap (λ (u : List ℕ). u ++ (second ++ drop 4 (drop 4 (first ++ zeros)))) front ∙ ap (λ (u : List ℕ). first ++ (second ++ u)) back
    ∙ ap (λ (u : List ℕ). first ++ u) (append-nil second)

pub whole_head : (first second : List ℕ) (r : Result (Option GuestHead) GuestFault) → length first ≡ 4
    → r ≡ guest_head_in (put_mid 4 4 (first ++ zeros) second) → guest_head_in (first ++ second) ≡ r
whole_head first second r f is = sym (is ∙ ap guest_head_in (both_parts first second f))

pub first_part : (first : List ℕ) (r : Result (Option GuestHead) GuestFault) → length first ≡ 4
    → r ≡ guest_head_in (take 4 (first ++ zeros)) → guest_head_in first ≡ r
first_part first r f is = sym (is ∙ ap guest_head_in (take_at first zeros 4 f))

pub first_of : (first second : List ℕ) (r : Result (Option GuestHead) GuestFault) → length first ≡ 4 → guest_head_in first ≡ r
    → guest_head_in (take 4 (first ++ second)) ≡ r
first_of first second r f is = ap guest_head_in (take_at first second 4 f) ∙ is

-- ---- bytes that are written

pub frame_long : NumbersRead → (f : Frame) → 8 ≤ length (frame_bytes f)
frame_long laws f =
    let first = length-append (le 4 (frame_len f)) (le 4 (frame_kind f) ++ form (payload_parts f)) in
    let second = length-append (le 4 (frame_kind f)) (form (payload_parts f)) in
    omega (arith, first, second, laws.len 4 (frame_len f), laws.len 4 (frame_kind f))

-- ---- an ANSWER

same_answer : (x a : AnswerContent) → of_answer x ≡ of_answer a → x ≡ a
same_answer x a same = cc

answered_by : (r : Result AnswerContent GuestFault) (a : AnswerContent) → is_ok (r >>= λ x. Ok (of_answer x)) ≡ true
    → frame_read (r >>= λ x. Ok (of_answer x)) ≡ of_answer a → r ≡ Ok a
answered_by (Ok x) a right is = ap (λ (y : AnswerContent). Ok y) (same_answer x a is)
answered_by (Err e) a right is = absurd cc

not_by : {A : Type 0} (r : Result A GuestFault) (wrap : A → Frame) (a : AnswerContent) → ((x : A) → wrap x ≡ of_answer a → ⊥)
    → is_ok (r >>= λ x. Ok (wrap x)) ≡ true → frame_read (r >>= λ x. Ok (wrap x)) ≡ of_answer a → ⊥
not_by (Ok x) wrap a other right is = other x is
not_by (Err e) wrap a other right is = absurd cc

pub is_answer : (kind : GuestKind) (b : List ℕ) (a : AnswerContent) → is_ok (payload_in kind b) ≡ true → frame_read (payload_in kind b) ≡ of_answer a
    → guest_answer_in b ≡ Ok a
is_answer kinds.Answer b a right is = answered_by (guest_answer_in b) a right is
is_answer kinds.Ready b a right is = absurd (not_by (ready_in b) of_ready a (λ x same. absurd cc) right is)
is_answer kinds.Get b a right is = absurd (not_by (get_in b) of_get a (λ x same. absurd cc) right is)
is_answer kinds.Scan b a right is = absurd (not_by (scan_in b) of_scan a (λ x same. absurd cc) right is)

-- ---- pipes

pub pipe_reads : (due : Kinds) (old new : Option (List ℕ)) (fault : TalkFault) → IsPipeFault fault → ReadsFault due old new fault
pipe_reads due old new talks.Ended pipe = tt
pipe_reads due old new talks.Hangs pipe = tt
pipe_reads due old new (talks.Frame fault) pipe = absurd pipe
pipe_reads due old new (talks.ChangesOf n) pipe = absurd pipe
pipe_reads due old new (talks.Body n m) pipe = absurd pipe
pipe_reads due old new (talks.BadBody n) pipe = absurd pipe
pipe_reads due old new talks.TooManyFrames pipe = absurd pipe

-- ---- what an owned ANSWER says

abbrev pub answer_read : Result AnswerContent GuestFault → AnswerContent
answer_read r = option_map_or (λ x. x) (result_ok r) no_answer

pub said_is : FramesStand → (b : List ℕ) (a : AnswerContent) → SpellsFrame (of_answer a) b → a ≡ answer_read (guest_answer_in b)
said_is laws b a s =
    let read = laws.read kinds.Answer b (of_answer a) refl s in
    sym (ap answer_read (answered_by (guest_answer_in b) a (ap is_ok read) (ap frame_read read)))

pub answer_said : (kind : GuestKind) (b : List ℕ) (a : AnswerContent) → is_ok (payload_in kind b) ≡ true → frame_read (payload_in kind b) ≡ of_answer a
    → answer_read (guest_answer_in b) ≡ a
answer_said kind b a right is = ap answer_read (is_answer kind b a right is)

-- ---- a frame that was read

pub read_whole : NumbersRead → FramesStand → (d : Due) (old mid new : Option (List ℕ)) (h : GuestHead) (p : List ℕ) → ReadsHead d old mid h → IsBytes p
    → length p + 8 ≡ h.len → Consumes mid new p → IsSpelled h.kind p
    → ReadsWhole old new (frame_read (payload_in h.kind p)) × (p ≡ drop 8 (frame_bytes (frame_read (payload_in h.kind p))))
    × (frame_kind (frame_read (payload_in h.kind p)) ≡ kind_number h.kind)
read_whole numbers laws d old mid new h p head fits long came is =
    let j = joined numbers laws d old mid new h p is.f head fits long came is.of_kind is.spelled in
    let same = frame_is laws h.kind p is.f is.of_kind is.spelled in (
      record { whole = subst IsFrame same j.whole; came = subst (λ (f : Frame). Consumes old new (frame_bytes f)) same j.came },
      j.payload ∙ ap (λ (f : Frame). drop 8 (frame_bytes f)) same,
      ap frame_kind (sym same) ∙ is.of_kind,
    )

-- a frame has its head at least
abbrev read_head : GuestHead → Result (Option GuestHead) GuestFault
read_head h = Ok (Some h)

head_is : (h g : GuestHead) → read_head h ≡ read_head g → h ≡ g
head_is h g same = cc

min_by : (few many : Bool) (len n : ℕ) (kind : Option GuestKind) (h : GuestHead) → nat_lt len 8 ≡ few
    → (if few then Err (faults.Length len) else if many then Err (faults.Length len) else head_of len n kind) ≡ read_head h → 8 ≤ h.len
min_by true many len n kind h small is = absurd cc
min_by false true len n kind h small is = absurd cc
min_by false false len n None h small is = absurd cc
min_by false false len n (Some kind) h small is =
    let same : record { len = len; kind = kind } ≡ h = head_is (record { len = len; kind = kind }) h is in
    let enough : 8 ≤ len = ltb-false len 8 small in
    subst (λ (x : GuestHead). 8 ≤ x.len) same enough

pub head_min : (d : Due) (old new : Option (List ℕ)) (h : GuestHead) → ReadsHead d old new h → 8 ≤ h.len
head_min d old new h head =
    let b = head.bytes in
    min_by (nat_lt (word_at 0 b) 8) (nat_lt max_frame_len (word_at 0 b)) (word_at 0 b) (word_at 4 b) (guest_kind_of (word_at 4 b)) h refl
    (sym (head_long b (omega (arith, head.long))) ∙ head.is)
