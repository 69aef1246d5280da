-- The groups that are read off messages, one message after another.
use Rattle.std.proofs.Common.{◌≡◌, ℕ, ◌+◌, ◌-◌, ◌<◌, ◌≤◌, ◌||◌, nat_lt, Bool, true, false, not, if◌then◌else◌, List, [], ◌∷◌, ◌++◌, length}
use Rattle.std.proofs.Common.{take, drop, get_or}
use Rattle.std.proofs.Common.{refl, sym, ap, ◌∙◌, append_assoc, arith, length-append, length-drop}
use Rattle.std.proofs.lemmas.List.{append-nil, drop_more, drop_all, map-append, length-map, take_all, drop-drop}
use Rattle.std.proofs.lemmas.Grind.{flat_map-append}
use Rattle.std.specs.List.{flat_map}
use Rattle.fuse_request.specs.Act.{Asked}
use Rattle.fuse_request.specs.Classes.{class_for, is_zero}
use Rattle.fuse_request.specs.Opcodes.{Service}
use Rattle.fuse_request.specs.Places.{asked_at}
use Rattle.fuse_request.specs.Stream.{cut, CutJoins}
use Rattle.fuse_request.specs.declared.class.Class.{Class}
use Rattle.fuse_request.specs.declared.class.Class.TheVariants.{Silent, Bare, Kept, Seen}
use Rattle.fuse_request.specs.declared.request.Request.{Request}
use Rattle.fuse_wire.specs.declared.moment.Moment.{Moment}
use Rattle.fuse_keeper.specs.Group.{entry_of, entries_of}
use Rattle.fuse_keeper.specs.History.{Entry}
use Rattle.fuse_keeper.specs.Performance.{Performance, performances_of, IsPerformanceLog}
use Rattle.fuse_session.specs.declared.port.Sent.{Sent}
use Rattle.fuse_session.specs.Clock.{IsLog}
use Rattle.fuse_session.specs.Deeds.{Deeds, Did}
use Rattle.fuse_session.specs.Grouping.{asked_in, is_performed_class, one_group, ends_group, groups_after, groups_of, turns_of, groups_in, groups_asked}
use Rattle.fuse_session.specs.Processed.{Timed, bytes_of, performed_of, performed_if, message_entry, destroys}
use Rattle.fuse_session.specs.inner.Group.{Gathers, IsStuck}
use Rattle.fuse_session.specs.Transcript.{PortEvent, Received, Handed, received_in, sends_of, IsTranscript}
use Rattle.fuse_session.specs.inner.Turn.{Mute, Grouped, GroupedSome, OneTurn}
use Rattle.fuse_session.proofs.Doing.{then_did, mute_more}

-- ---- one message

-- what is taken so far is a group where it is full, and else the begin of one
abbrev pub groups_next : Service → List Asked → List (List ℕ) → List (List Asked)
groups_next V so_far rest = if nat_lt 15 (length so_far) then so_far ∷ groups_after V [] rest else groups_after V so_far rest

abbrev kept_then : Service → List Asked → List ℕ → List (List ℕ) → Bool → List (List Asked)
kept_then V so_far m ms ends = if ends then (so_far ++ asked_at m ∷ []) ∷ groups_after V [] ms else groups_after V (so_far ++ asked_at m ∷ []) ms

abbrev class_then : Service → List Asked → List ℕ → List (List ℕ) → Bool → List (List Asked)
class_then V so_far m ms kept = if not kept then groups_after V so_far ms else kept_then V so_far m ms (ends_group V (length so_far) m)

abbrev zero_then : Service → List Asked → List ℕ → List (List ℕ) → Bool → List (List Asked)
zero_then V so_far m ms zero = if zero then one_group so_far else class_then V so_far m ms (is_performed_class (class_for V m))

next_is : (V : Service) (so_far : List Asked) (rest : List (List ℕ)) (full : Bool) → nat_lt 15 (length so_far) ≡ full
    → groups_next V so_far rest ≡ (if full then so_far ∷ groups_after V [] rest else groups_after V so_far rest)
next_is V so_far rest full is = ap (λ b. if b then so_far ∷ groups_after V [] rest else groups_after V so_far rest) is

one_some : (so_far : List Asked) (a : Asked) → one_group (so_far ++ a ∷ []) ≡ (so_far ++ a ∷ []) ∷ []
one_some [] a = refl
one_some (x ∷ xs) a = refl

-- it is full
pub next_full : (V : Service) (so_far : List Asked) (rest : List (List ℕ)) → nat_lt 15 (length so_far) ≡ true
    → groups_next V so_far rest ≡ one_group so_far ++ groups_of V rest
next_full V [] rest full = absurd (cc full)
next_full V (a ∷ more) rest full = next_is V (a ∷ more) rest true full

-- no message is left
pub next_end : (V : Service) (so_far : List Asked) → groups_next V so_far [] ≡ one_group so_far ++ groups_of V []
next_end V [] = refl
next_end V (a ∷ more) = elim (nat_lt 15 (length (a ∷ more))) as (λ b. (if b then (a ∷ more) ∷ [] else (a ∷ more) ∷ []) ≡ (a ∷ more) ∷ []) [ true ↦ refl | false ↦ refl ]

-- the next one is zero
pub next_zero : (V : Service) (so_far : List Asked) (m : List ℕ) (ms : List (List ℕ)) → nat_lt 15 (length so_far) ≡ false → is_zero m ≡ true
    → groups_next V so_far (m ∷ ms) ≡ one_group so_far ++ groups_of V (m ∷ ms)
next_zero V so_far m ms few zero =
    next_is V so_far (m ∷ ms) false few ∙ ap (zero_then V so_far m ms) zero ∙ sym (append-nil (one_group so_far))
    ∙ ap (λ (r : List (List Asked)). one_group so_far ++ r) (sym (ap (zero_then V [] m ms) zero))

next_class : (V : Service) (so_far : List Asked) (m : List ℕ) (ms : List (List ℕ)) (kept : Bool) → nat_lt 15 (length so_far) ≡ false → is_zero m ≡ false
    → is_performed_class (class_for V m) ≡ kept → groups_next V so_far (m ∷ ms) ≡ class_then V so_far m ms kept
next_class V so_far m ms kept few named is =
    next_is V so_far (m ∷ ms) false few ∙ ap (zero_then V so_far m ms) named ∙ ap (class_then V so_far m ms) is

-- the next one isn't kept
next_none : (V : Service) (so_far : List Asked) (m : List ℕ) (ms : List (List ℕ)) → nat_lt 15 (length so_far) ≡ false → is_zero m ≡ false
    → is_performed_class (class_for V m) ≡ false → groups_next V so_far (m ∷ ms) ≡ groups_next V so_far ms
next_none V so_far m ms few named isnt = next_class V so_far m ms false few named isnt ∙ sym (next_is V so_far ms false few)

-- the next one is kept, and no DESTROY
next_some : (V : Service) (so_far : List Asked) (m : List ℕ) (ms : List (List ℕ)) → nat_lt 15 (length so_far) ≡ false → is_zero m ≡ false
    → is_performed_class (class_for V m) ≡ true → destroys V m ≡ false
    → groups_next V so_far (m ∷ ms) ≡ groups_next V (so_far ++ asked_at m ∷ []) ms
next_some V so_far m ms few named kept isnt =
    next_class V so_far m ms true few named kept
    ∙ ap (kept_then V so_far m ms) (ap (λ d. d || nat_lt 15 (length so_far + 1)) isnt ∙ ap (nat_lt 15) (sym (length-append so_far (asked_at m ∷ []))))

-- the next one is a DESTROY
next_destroy : (V : Service) (so_far : List Asked) (m : List ℕ) (ms : List (List ℕ)) → nat_lt 15 (length so_far) ≡ false → is_zero m ≡ false
    → is_performed_class (class_for V m) ≡ true → destroys V m ≡ true
    → groups_next V so_far (m ∷ ms) ≡ one_group (so_far ++ asked_at m ∷ []) ++ groups_of V ms
next_destroy V so_far m ms few named kept is =
    next_class V so_far m ms true few named kept
    ∙ ap (kept_then V so_far m ms) (ap (λ d. d || nat_lt 15 (length so_far + 1)) is)
    ∙ ap (λ (g : List (List Asked)). g ++ groups_of V ms) (sym (one_some so_far (asked_at m)))

-- ---- the loop over them

kept_none : (class : Class) (e : Entry) → [] ≡ performed_if class e → is_performed_class class ≡ false
kept_none Silent e is = refl
kept_none (Bare errno) e is = refl
kept_none Kept e is = absurd (cc is)
kept_none Seen e is = absurd (cc is)

kept_one : (class : Class) (x e : Entry) → x ∷ [] ≡ performed_if class e → (is_performed_class class ≡ true) × (x ≡ e)
kept_one Silent x e is = absurd (cc is)
kept_one (Bare errno) x e is = absurd (cc is)
kept_one Kept x e is = (refl, cc is)
kept_one Seen x e is = (refl, cc is)

here : (ms : List (List ℕ)) (i : ℕ) (m bytes : List ℕ) → i < length ms → m ≡ get_or ms i m → bytes ≡ m → drop i ms ≡ bytes ∷ drop (i + 1) ms
here ms i m bytes lt at is = drop_more ms i m lt ∙ ap (λ x. x ∷ drop (i + 1) ms) (sym (is ∙ at))

pub asked_open : (taken : List (Request × Moment)) → length taken < 16 → nat_lt 15 (length (asked_in (entries_of taken))) ≡ false
asked_open taken few =
    let n : length (asked_in (entries_of taken)) ≡ length taken = length-map (entries_of taken) (λ (e : Entry). e.asked) ∙ length-map taken entry_of in
    grind (arith, n, few)

pub asked_full : (taken : List (Request × Moment)) → 16 ≤ length taken → nat_lt 15 (length (asked_in (entries_of taken))) ≡ true
asked_full taken many =
    let n : length (asked_in (entries_of taken)) ≡ length taken = length-map (entries_of taken) (λ (e : Entry). e.asked) ∙ length-map taken entry_of in
    grind (arith, n, many)

-- the requests, with one more of a message
asked_more : (taken taken' : List (Request × Moment)) (one : Request × Moment) (bytes : List ℕ) (t : Moment) → taken' ≡ taken ++ one ∷ []
    → entry_of one ≡ message_entry bytes t → asked_in (entries_of taken') ≡ asked_in (entries_of taken) ++ asked_at bytes ∷ []
asked_more taken taken' one bytes t pushed is =
    ap (λ l. asked_in (entries_of l)) pushed ∙ ap asked_in (map-append entry_of taken (one ∷ []))
    ∙ map-append (λ (e : Entry). e.asked) (entries_of taken) (entry_of one ∷ [])
    ∙ ap (λ (e : Entry). asked_in (entries_of taken) ++ e.asked ∷ []) is

pub groups_none : (V : Service) (ms : List (List ℕ)) (i : ℕ) (m bytes : List ℕ) (taken : List (Request × Moment)) (t : Moment) → i < length ms
    → m ≡ get_or ms i m → bytes ≡ m → length taken < 16 → is_zero bytes ≡ false → [] ≡ performed_if (class_for V bytes) (message_entry bytes t)
    → groups_of V ms ≡ groups_next V (asked_in (entries_of taken)) (drop i ms) → groups_of V ms ≡ groups_next V (asked_in (entries_of taken)) (drop (i + 1) ms)
groups_none V ms i m bytes taken t lt at is few named none so_far =
    so_far ∙ ap (groups_next V (asked_in (entries_of taken))) (here ms i m bytes lt at is)
    ∙ next_none V (asked_in (entries_of taken)) bytes (drop (i + 1) ms) (asked_open taken few) named (kept_none (class_for V bytes) (message_entry bytes t) none)

pub groups_some : (V : Service) (ms : List (List ℕ)) (i : ℕ) (m bytes : List ℕ) (taken taken' : List (Request × Moment)) (one : Request × Moment) (t : Moment)
    → i < length ms → m ≡ get_or ms i m → bytes ≡ m → length taken < 16 → is_zero bytes ≡ false
    → entry_of one ∷ [] ≡ performed_if (class_for V bytes) (message_entry bytes t) → taken' ≡ taken ++ one ∷ [] → destroys V bytes ≡ false
    → groups_of V ms ≡ groups_next V (asked_in (entries_of taken)) (drop i ms) → groups_of V ms ≡ groups_next V (asked_in (entries_of taken')) (drop (i + 1) ms)
groups_some V ms i m bytes taken taken' one t lt at is few named some pushed isnt so_far =
    let kept = kept_one (class_for V bytes) (entry_of one) (message_entry bytes t) some in
    so_far ∙ ap (groups_next V (asked_in (entries_of taken))) (here ms i m bytes lt at is)
    ∙ next_some V (asked_in (entries_of taken)) bytes (drop (i + 1) ms) (asked_open taken few) named kept.0 isnt
    ∙ ap (λ l. groups_next V l (drop (i + 1) ms)) (sym (asked_more taken taken' one bytes t pushed kept.1))

pub groups_destroy : (V : Service) (ms : List (List ℕ)) (i : ℕ) (m bytes : List ℕ) (taken taken' : List (Request × Moment)) (one : Request × Moment) (t : Moment)
    → i < length ms → m ≡ get_or ms i m → bytes ≡ m → length taken < 16 → is_zero bytes ≡ false
    → entry_of one ∷ [] ≡ performed_if (class_for V bytes) (message_entry bytes t) → taken' ≡ taken ++ one ∷ [] → destroys V bytes ≡ true
    → groups_of V ms ≡ groups_next V (asked_in (entries_of taken)) (drop i ms)
    → groups_of V ms ≡ one_group (asked_in (entries_of taken')) ++ groups_of V (drop (i + 1) ms)
groups_destroy V ms i m bytes taken taken' one t lt at is few named some pushed destroy so_far =
    let kept = kept_one (class_for V bytes) (entry_of one) (message_entry bytes t) some in
    so_far ∙ ap (groups_next V (asked_in (entries_of taken))) (here ms i m bytes lt at is)
    ∙ next_destroy V (asked_in (entries_of taken)) bytes (drop (i + 1) ms) (asked_open taken few) named kept.0 destroy
    ∙ ap (λ l. one_group l ++ groups_of V (drop (i + 1) ms)) (sym (asked_more taken taken' one bytes t pushed kept.1))

pub groups_zero : (V : Service) (ms : List (List ℕ)) (i : ℕ) (m bytes : List ℕ) (taken : List (Request × Moment)) → i < length ms
    → m ≡ get_or ms i m → bytes ≡ m → length taken < 16 → is_zero bytes ≡ true
    → groups_of V ms ≡ groups_next V (asked_in (entries_of taken)) (drop i ms) → groups_of V ms ≡ one_group (asked_in (entries_of taken)) ++ groups_of V (drop i ms)
groups_zero V ms i m bytes taken lt at is few zero so_far =
    let there = here ms i m bytes lt at is in
    so_far ∙ ap (groups_next V (asked_in (entries_of taken))) there ∙ next_zero V (asked_in (entries_of taken)) bytes (drop (i + 1) ms) (asked_open taken few) zero
    ∙ ap (λ l. one_group (asked_in (entries_of taken)) ++ groups_of V l) (sym there)

pub groups_full : (V : Service) (ms : List (List ℕ)) (i : ℕ) (taken : List (Request × Moment)) → 16 ≤ length taken
    → groups_of V ms ≡ groups_next V (asked_in (entries_of taken)) (drop i ms) → groups_of V ms ≡ one_group (asked_in (entries_of taken)) ++ groups_of V (drop i ms)
groups_full V ms i taken many so_far = so_far ∙ next_full V (asked_in (entries_of taken)) (drop i ms) (asked_full taken many)

pub groups_end : (V : Service) (ms : List (List ℕ)) (i : ℕ) (taken : List (Request × Moment)) → length ms ≤ i
    → groups_of V ms ≡ groups_next V (asked_in (entries_of taken)) (drop i ms) → groups_of V ms ≡ one_group (asked_in (entries_of taken)) ++ groups_of V (drop i ms)
groups_end V ms i taken all so_far =
    let none = drop_all i ms all in
    so_far ∙ ap (groups_next V (asked_in (entries_of taken))) none ∙ next_end V (asked_in (entries_of taken))
    ∙ ap (λ l. one_group (asked_in (entries_of taken)) ++ groups_of V l) (sym none)

-- nothing was taken
none_timed : (ts : List Timed) → [] ≡ bytes_of ts → ts ≡ []
none_timed [] is = refl
none_timed (t ∷ ts) is = absurd (cc is)

pub full_stuck : (V : Service) (gave : List Moment → Type 0) (ms : List (List ℕ)) (n : ℕ) (taken : List (Request × Moment)) → n ≡ 0
    → Gathers V gave (take n ms) taken false → 1 ≤ length taken → ⊥
full_stuck V gave ms n taken none gathers many =
    let b : [] ≡ bytes_of gathers.timed = ap (λ k. take k ms) (sym none) ∙ gathers.bytes in
    let e : entries_of taken ≡ [] = gathers.entries ∙ ap (performed_of V) (none_timed gathers.timed b) in
    omega (arith, ap length e, length-map taken entry_of, many)

pub zero_stuck : (ms : List (List ℕ)) (i : ℕ) (m bytes : List ℕ) → m ≡ get_or ms i m → bytes ≡ m → is_zero bytes ≡ true → i ≡ 0 → IsStuck ms
zero_stuck [] i m bytes at is zero first = tt
zero_stuck (x ∷ xs) i m bytes at is zero first = ap is_zero (sym (is ∙ at ∙ ap (λ k. get_or (x ∷ xs) k m) first)) ∙ zero

-- ---- what a keeper is asked to perform

asked_one : (es : List Entry) (ids : List ℕ) → groups_asked (performances_of es ids) ≡ one_group (asked_in es)
asked_one [] ids = refl
asked_one (e ∷ es) ids = refl

-- a group was taken off messages, and the keeper asked for it
pub grouped_one : (V : Service) (ms : List (List ℕ)) (n count : ℕ) (taken group : List (Request × Moment)) (ids : List ℕ) → count ≡ n → group ≡ taken
    → groups_of V ms ≡ one_group (asked_in (entries_of taken)) ++ groups_of V (drop n ms)
    → groups_of V ms ≡ groups_asked (performances_of (entries_of group) ids) ++ groups_of V (drop count ms)
grouped_one V ms n count taken group ids len same is =
    is ∙ ap (λ (l : List (Request × Moment)). one_group (asked_in (entries_of l)) ++ groups_of V (drop n ms)) (sym same)
    ∙ ap (λ (g : List (List Asked)). g ++ groups_of V (drop n ms)) (sym (asked_one (entries_of group) ids))
    ∙ ap (λ k. groups_asked (performances_of (entries_of group) ids) ++ groups_of V (drop k ms)) (sym len)

asked_both : (xs ys : List Performance) (later : List (List Asked)) → groups_asked xs ++ (groups_asked ys ++ later) ≡ groups_asked (xs ++ ys) ++ later
asked_both xs ys later =
    sym (append_assoc (groups_asked xs) (groups_asked ys) later)
    ∙ ap (λ (g : List (List Asked)). g ++ later) (sym (map-append (λ (p : Performance). asked_in p.group) xs ys))

-- the messages that wait in a slice
pub waiting_is : (ms : List (List ℕ)) (i : ℕ) → take (length ms - i) (drop i ms) ≡ drop i ms
waiting_is ms i = take_all (length ms - i) (drop i ms) (omega (arith, length-drop i ms))

pub left_is : (V : Service) (ms : List (List ℕ)) (i n : ℕ) → groups_of V (drop n (take (length ms - i) (drop i ms))) ≡ groups_of V (drop (i + n) ms)
left_is V ms i n = ap (λ l. groups_of V (drop n l)) (waiting_is ms i) ∙ ap (groups_of V) (drop-drop n i ms)

-- groups, and then those of the messages that were left
pub mute_grouped : {K P C : Type 0} (gave : C → C → List Moment → Type 0) (performed : K → K → List Performance → Type 0) (became : P → P → List PortEvent → Type 0)
    → IsLog gave → IsPerformanceLog performed → IsTranscript became → (c c' c'' : C) (k k' k'' : K) (p p' p'' : P) (a b : Deeds) (V : Service)
    (ms : List (List ℕ)) (i : ℕ) (later later' : List (List Asked)) → later ≡ later'
    → Mute (Did (gave c c') (Grouped V ms (groups_of V (drop i ms)) (performed k k')) (became p p')) a
    → Mute (Did (gave c' c'') (Grouped V (take (length ms - i) (drop i ms)) later (performed k' k'')) (became p' p'')) b
    → Mute (Did (gave c c'') (Grouped V ms later' (performed k k'')) (became p p'')) (then_did a b)
mute_grouped gave performed became log asks path c c' c'' k k' k'' p p' p'' a b V ms i later later' same one two =
    let both = mute_more gave performed became log asks path c c' c'' k k' k'' p p' p'' a b
    (record {
      done = record { moments = one.done.moments; asked = one.done.asked.0; events = one.done.events };
      slices = one.slices;
      events = one.events;
    })
    (record {
      done = record { moments = two.done.moments; asked = two.done.asked.0; events = two.done.events };
      slices = two.slices;
      events = two.events;
    }) in
    record {
      done = record {
        moments = both.done.moments;
        asked = (
          both.done.asked,
          one.done.asked.1 ∙ ap (λ (l : List (List ℕ)). groups_asked a.asked ++ groups_of V l) (sym (waiting_is ms i))
              ∙ ap (λ (g : List (List Asked)). groups_asked a.asked ++ g) two.done.asked.1 ∙ asked_both a.asked b.asked later
              ∙ ap (λ (g : List (List Asked)). groups_asked (a.asked ++ b.asked) ++ g) same,
        );
        events = both.done.events;
      };
      slices = both.slices;
      events = both.events;
    }

-- the same where it isn't known what is left in the end
pub mute_some : {K P C : Type 0} (gave : C → C → List Moment → Type 0) (performed : K → K → List Performance → Type 0) (became : P → P → List PortEvent → Type 0)
    → IsLog gave → IsPerformanceLog performed → IsTranscript became → (c c' c'' : C) (k k' k'' : K) (p p' p'' : P) (a b : Deeds) (V : Service)
    (ms : List (List ℕ)) (i : ℕ)
    → Mute (Did (gave c c') (Grouped V ms (groups_of V (drop i ms)) (performed k k')) (became p p')) a
    → Mute (Did (gave c' c'') (GroupedSome V (take (length ms - i) (drop i ms)) (performed k' k'')) (became p' p'')) b
    → Mute (Did (gave c c'') (GroupedSome V ms (performed k k'')) (became p p'')) (then_did a b)
mute_some gave performed became log asks path c c' c'' k k' k'' p p' p'' a b V ms i one two =
    let both = mute_grouped gave performed became log asks path c c' c'' k k' k'' p p' p'' a b V ms i two.done.asked.0 two.done.asked.0 refl one
    (record {
      done = record { moments = two.done.moments; asked = two.done.asked.1; events = two.done.events };
      slices = two.slices;
      events = two.events;
    }) in
    record {
      done = record { moments = both.done.moments; asked = (two.done.asked.0, both.done.asked); events = both.done.events };
      slices = both.slices;
      events = both.events;
    }

-- ---- turns

-- the bytes that wait after these events
abbrev held_after : List ℕ → List PortEvent → List ℕ
held_after held [] = held
held_after held (Received result bytes ∷ es) = held_after (cut (held ++ bytes)).1 es
held_after held (Handed slice result ∷ es) = held_after held es

turns-append : (held : List ℕ) (xs ys : List PortEvent) → turns_of held (xs ++ ys) ≡ turns_of held xs ++ turns_of (held_after held xs) ys
turns-append held [] ys = refl
turns-append held (Received result bytes ∷ xs) ys =
    ap (λ (l : List (List (List ℕ))). (cut (held ++ bytes)).0 ∷ l) (turns-append (cut (held ++ bytes)).1 xs ys)
turns-append held (Handed slice result ∷ xs) ys = turns-append held xs ys

turns_sends : (held : List ℕ) (slices : List (List ℕ × Sent)) → turns_of held (sends_of slices) ≡ []
turns_sends held [] = refl
turns_sends held (x ∷ xs) = turns_sends held xs

cut_then : CutJoins → (x bytes : List ℕ) → (cut ((cut x).1 ++ bytes)).1 ≡ (cut (x ++ bytes)).1
cut_then joins x bytes = sym (ap (λ (c : List (List ℕ) × List ℕ). c.1) (joins x bytes))

held_is : CutJoins → (x : List ℕ) (es : List PortEvent) → held_after (cut x).1 es ≡ (cut (x ++ received_in es)).1
held_is joins x [] = ap (λ (l : List ℕ). (cut l).1) (sym (append-nil x))
held_is joins x (Received result bytes ∷ es) =
    ap (λ (l : List ℕ). held_after l es) (cut_then joins x bytes) ∙ held_is joins (x ++ bytes) es
    ∙ ap (λ (l : List ℕ). (cut l).1) (append_assoc x bytes (received_in es))
held_is joins x (Handed slice result ∷ es) = held_is joins x es

cut_nothing : (cut []).1 ≡ []
unfolding cut
cut_nothing = refl

-- a turn more
pub groups_more : CutJoins → (V : Service) (a b : Deeds) (held received : List ℕ) (all : Bool) (did : Deeds → Type 0) → received_in a.events ≡ received
    → held ≡ (cut ([] ++ received)).1 → groups_in V a.events ≡ groups_asked a.asked → (turn : OneTurn V held all did b)
    → groups_in V (a.events ++ b.events) ≡ groups_asked (a.asked ++ b.asked) ++ turn.later
groups_more joins V a b held received all did came held_so so_far turn =
    let rest : held_after [] a.events ≡ held = ap (λ (l : List ℕ). held_after l a.events) (sym cut_nothing) ∙ held_is joins [] a.events
    ∙ ap (λ (l : List ℕ). (cut l).1) came ∙ sym held_so in
    let here : flat_map (groups_of V) (turns_of held b.events) ≡ groups_asked b.asked ++ turn.later =
    ap (λ es. flat_map (groups_of V) (turns_of held es)) turn.events
    ∙ ap (λ (l : List (List (List ℕ))). flat_map (groups_of V) ((cut (held ++ turn.bytes)).0 ∷ l)) (turns_sends (cut (held ++ turn.bytes)).1 turn.slices)
    ∙ append-nil (groups_of V (cut (held ++ turn.bytes)).0) ∙ turn.groups in
    ap (flat_map (groups_of V)) (turns-append [] a.events b.events)
    ∙ flat_map-append (groups_of V) (turns_of [] a.events) (turns_of (held_after [] a.events) b.events)
    ∙ ap (λ (g : List (List Asked)). g ++ flat_map (groups_of V) (turns_of (held_after [] a.events) b.events)) so_far
    ∙ ap (λ (l : List ℕ). groups_asked a.asked ++ flat_map (groups_of V) (turns_of l b.events)) rest
    ∙ ap (λ (g : List (List Asked)). groups_asked a.asked ++ g) here ∙ asked_both a.asked b.asked turn.later
