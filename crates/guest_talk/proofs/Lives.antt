-- Some guest agrees with the records of lives.
use Rattle.std.proofs.Common.{◌≡◌, ◌+◌, ◌⊎◌, inl, inr, ℕ, Bool, true, false, List, [], ◌∷◌, ◌++◌, length, take, drop, map, refl, sym, ap, subst, arith, ◌∙◌, append_assoc}
use Rattle.std.specs.Prelude.{◌==◌, if◌then◌else◌, bytes_eq}
use Rattle.std.specs.List.{flat_map, AllByRecursion}
use Rattle.std.proofs.lemmas.List.{drop_at, length-append}
use Rattle.std.proofs.lemmas.Slice.Eq.{bytes_eq-Decides}
use Rattle.std.proofs.Math.Seq.{take-append_seam, drop-append_seam}
use Rattle.fuse_wire.specs.Bytes.{le}
use Rattle.fuse_wire.specs.Laws.{NumbersRead}
use Rattle.fuse_wire.specs.Layout.{form}
use Rattle.guest_frames.specs.declared.fault.GuestFault.{GuestFault}
use Rattle.guest_frames.specs.declared.fault.GuestFault.TheVariants as bad
use Rattle.guest_frames.specs.declared.guest_kind.GuestKind.{GuestKind}
use Rattle.guest_frames.specs.declared.guest_kind.GuestKind.TheVariants as kinds
use Rattle.guest_frames.specs.Frames.{Frame, of_get, of_scan, frame_bytes, frame_kind, frame_len, payload_parts, HasRightParts, IsFrame}
use Rattle.guest_frames.specs.Kinds.{kind_number, request_kind}
use Rattle.guest_frames.specs.Laws.{FramesStand}
use Rattle.fuse_guest.specs.declared.fault.TalkFault.{TalkFault}
use Rattle.fuse_guest.specs.declared.fault.TalkFault.TheVariants as faults
use Rattle.fuse_guest.specs.Talk.{Guest, Turn, Says, Fails, IsRightTurn}
use Rattle.fuse_guest.specs.Conversations.{Trip, Conversation, IsRightConversation, SaysAll, asks_more}
use Rattle.guest_talk.specs.Events.{Event, AgreesWithAll, IsReadFault, IsWhole, IsWholeTrip, IsWholeTurn}
use Rattle.guest_talk.specs.Events.{fault_numbers, frame_event, request_frame, talk_events, trip_events, turn_event}
use Rattle.guest_talk.specs.Lives.{AreApart, AreTalks, CountedTalk, IsNoRequest, IsTalk, Life, SomeGuestAgrees, are_alike, events_of, request_bytes, talked_in}

-- ---- bytes

split_same : (a b x y : List ℕ) → length a ≡ length b → a ++ x ≡ b ++ y → (a ≡ b) × (x ≡ y)
split_same a b x y long same = (
  sym (take-append_seam a x) ∙ ap (take (length a)) same ∙ ap (λ n. take n (b ++ y)) long ∙ take-append_seam b y,
  sym (drop-append_seam a x) ∙ ap (drop (length a)) same ∙ ap (λ n. drop n (b ++ y)) long ∙ drop-append_seam b y,
)

abbrev payload : Frame → List ℕ
payload f = form (payload_parts f)

abbrev with_head : ℕ → List ℕ → List ℕ
with_head kind p = le 4 (8 + length p) ++ (le 4 kind ++ p)

payload_is : NumbersRead → (f : Frame) → drop 8 (frame_bytes f) ≡ payload f
payload_is laws f =
    let len = le 4 (frame_len f) in
    let kind = le 4 (frame_kind f) in
    ap (drop 8) (sym (append_assoc len kind (payload f)))
    ∙ drop_at (len ++ kind) (payload f) 8 (omega (arith, length-append len kind, laws.len 4 (frame_len f), laws.len 4 (frame_kind f)))

-- ---- frames and faults by their events

one_of : (a b : ℕ) → a ∷ [] ≡ b ∷ [] → a ≡ b
one_of a b same = cc

same_frame : NumbersRead → FramesStand → (f g : Frame) → IsFrame f → IsFrame g → frame_event f ≡ frame_event g → f ≡ g
same_frame laws stand f g one two same =
    let kind : frame_kind f ≡ frame_kind g = one_of (frame_kind f) (frame_kind g) (ap (λ (e : Event). e.0) same) in
    let rest : payload f ≡ payload g = sym (payload_is laws f) ∙ ap (λ (e : Event). e.1) same ∙ payload_is laws g in
    let whole : frame_bytes f ≡ frame_bytes g = ap (λ k. with_head k (payload f)) kind ∙ ap (with_head (frame_kind g)) rest in
    (stand.one f g [] [] one two (ap (λ (b : List ℕ). b ++ []) whole)).0

abbrev kind_of : ℕ → GuestKind
kind_of n = if n == 4 then kinds.Get else if n == 6 then kinds.Scan else if n == 8 then kinds.Answer else kinds.Ready

kind_read : (k : GuestKind) → kind_of (kind_number k) ≡ k
kind_read kinds.Ready = refl
kind_read kinds.Get = refl
kind_read kinds.Scan = refl
kind_read kinds.Answer = refl

abbrev bad_of : ℕ → ℕ → GuestFault
bad_of k n =
    if k == 100 then bad.Length n
    else if k == 101 then bad.NotDue n
    else if k == 102 then bad.Malformed (kind_of n)
    else if k == 103 then bad.Key n
    else if k == 104 then bad.Value n
    else if k == 105 then bad.TooMany (kind_of n)
    else if k == 106 then bad.Version n
    else if k == 107 then bad.CannotBeSeen n
    else if k == 108 then bad.Error n
    else if k == 109 then bad.ErrorWithChanges
    else if k == 110 then bad.Change n
    else bad.Body n

abbrev fault_of : List ℕ → TalkFault
fault_of [] = faults.Ended
fault_of (k ∷ []) = faults.Ended
fault_of (k ∷ n ∷ more) = if k == 112 then faults.Ended else if k == 113 then faults.Hangs else faults.Frame (bad_of k n)

fault_read : (x : TalkFault) → IsReadFault x → fault_of (fault_numbers x) ≡ x
fault_read faults.Ended is = refl
fault_read faults.Hangs is = refl
fault_read (faults.Frame (bad.Length n)) is = refl
fault_read (faults.Frame (bad.NotDue n)) is = refl
fault_read (faults.Frame (bad.Malformed kind)) is = ap (λ k. faults.Frame (bad.Malformed k)) (kind_read kind)
fault_read (faults.Frame (bad.Key n)) is = refl
fault_read (faults.Frame (bad.Value n)) is = refl
fault_read (faults.Frame (bad.TooMany kind)) is = ap (λ k. faults.Frame (bad.TooMany k)) (kind_read kind)
fault_read (faults.Frame (bad.Version n)) is = refl
fault_read (faults.Frame (bad.CannotBeSeen n)) is = refl
fault_read (faults.Frame (bad.Error n)) is = refl
fault_read (faults.Frame bad.ErrorWithChanges) is = refl
fault_read (faults.Frame (bad.Change n)) is = refl
fault_read (faults.Frame (bad.Body n)) is = refl
fault_read (faults.ChangesOf n) is = absurd is
fault_read (faults.Body len opcode) is = absurd is
fault_read (faults.BadBody n) is = absurd is
fault_read faults.TooManyFrames is = absurd is

-- no frame is of such a kind
no_fault : (k : ℕ) (x : TalkFault) → IsReadFault x → k ∷ [] ≡ fault_numbers x → ⊥
no_fault k faults.Ended is same = absurd cc
no_fault k faults.Hangs is same = absurd cc
no_fault k (faults.Frame (bad.Length n)) is same = absurd cc
no_fault k (faults.Frame (bad.NotDue n)) is same = absurd cc
no_fault k (faults.Frame (bad.Malformed kind)) is same = absurd cc
no_fault k (faults.Frame (bad.Key n)) is same = absurd cc
no_fault k (faults.Frame (bad.Value n)) is same = absurd cc
no_fault k (faults.Frame (bad.TooMany kind)) is same = absurd cc
no_fault k (faults.Frame (bad.Version n)) is same = absurd cc
no_fault k (faults.Frame (bad.CannotBeSeen n)) is same = absurd cc
no_fault k (faults.Frame (bad.Error n)) is same = absurd cc
no_fault k (faults.Frame bad.ErrorWithChanges) is same = absurd cc
no_fault k (faults.Frame (bad.Change n)) is same = absurd cc
no_fault k (faults.Frame (bad.Body n)) is same = absurd cc
no_fault k (faults.ChangesOf n) is same = absurd is
no_fault k (faults.Body len opcode) is same = absurd is
no_fault k (faults.BadBody n) is same = absurd is
no_fault k faults.TooManyFrames is same = absurd is

same_turn : NumbersRead → FramesStand → (s t : Turn) → IsWholeTurn s → IsWholeTurn t → turn_event s ≡ turn_event t → s ≡ t
same_turn laws stand (Says f) (Says g) one two same = ap (λ (x : Frame). Says x) (same_frame laws stand f g one two same)
same_turn laws stand (Says f) (Fails y) one two same = absurd (no_fault (frame_kind f) y two (ap (λ (e : Event). e.0) same))
same_turn laws stand (Fails x) (Says g) one two same = absurd (no_fault (frame_kind g) x one (ap (λ (e : Event). e.0) (sym same)))
same_turn laws stand (Fails x) (Fails y) one two same =
    ap (λ (z : TalkFault). Fails z) (sym (fault_read x one) ∙ ap (λ (e : Event). fault_of e.0) same ∙ fault_read y two)

-- ---- REQUEST

abbrev request_payload : ℕ → ℕ → ℕ → List ℕ → List ℕ
request_payload secs nanos count message = le 8 secs ++ (le 4 nanos ++ (le 4 count ++ (message ++ [])))

uncounted : NumbersRead → (s t m n k l : ℕ) (x y : List ℕ) → request_payload s m k x ≡ request_payload t n l y → request_payload s m 0 x ≡ request_payload t n 0 y
uncounted laws s t m n k l x y same =
    let secs = split_same (le 8 s) (le 8 t) _ _ (laws.len 8 s ∙ sym (laws.len 8 t)) same in
    let nanos = split_same (le 4 m) (le 4 n) _ _ (laws.len 4 m ∙ sym (laws.len 4 n)) secs.1 in
    let count = split_same (le 4 k) (le 4 l) _ _ (laws.len 4 k ∙ sym (laws.len 4 l)) nanos.1 in
    ap (λ b. b ++ (le 4 m ++ (le 4 0 ++ (x ++ [])))) secs.0 ∙ ap (λ b. le 8 t ++ (b ++ (le 4 0 ++ (x ++ [])))) nanos.0
    ∙ ap (λ b. le 8 t ++ (le 4 n ++ (le 4 0 ++ b))) count.1

-- requests of the same events are of the same bytes, whatever their counts are
same_request : NumbersRead → (c d : Conversation) (k l : ℕ) → frame_event (request_frame c.asked c.now k) ≡ frame_event (request_frame d.asked d.now l)
    → request_bytes c ≡ request_bytes d
same_request laws c d k l same =
    let rest : payload (request_frame c.asked c.now k) ≡ payload (request_frame d.asked d.now l) =
    sym (payload_is laws (request_frame c.asked c.now k)) ∙ ap (λ (e : Event). e.1) same ∙ payload_is laws (request_frame d.asked d.now l) in
    ap (with_head request_kind) (uncounted laws _ _ c.now.nanos d.now.nanos k l _ _ rest)

-- ---- events that are no REQUEST

abbrev IsInner : Event → Type 0
IsInner e = e.0 ≡ request_kind ∷ [] → ⊥

query_kind : (f : Frame) → asks_more (Says f) ≡ true → (frame_kind f ≡ 4) ⊎ (frame_kind f ≡ 6)
query_kind (of_get keys) asks = inl refl
query_kind (of_scan s) asks = inr refl
query_kind _ asks = absurd cc

inner_query : (t : Trip) → IsWholeTrip t → IsInner (frame_event t.query)
inner_query t whole is =
    let three = one_of (frame_kind t.query) request_kind is in
    elim (query_kind t.query whole.asks) [
      | inl four ↦ omega (arith, three, four)
      | inr six ↦ omega (arith, three, six)
    ]

inner_told : (t : Trip) → IsWholeTrip t → IsInner (frame_event t.told)
inner_told t whole is =
    let three = one_of (frame_kind t.told) request_kind is in
    elim (query_kind t.query whole.asks) [
      | inl four ↦ omega (arith, three, four, whole.kind)
      | inr six ↦ omega (arith, three, six, whole.kind)
    ]

inner_last : (t : CountedTalk) → IsTalk t → IsInner (turn_event t.c.last)
inner_last t talk = by t.c.last talk.whole.last talk.last
  where
    by : (last : Turn) → IsWholeTurn last → IsNoRequest last → IsInner (turn_event last)
    by (Says f) whole other is = other (one_of (frame_kind f) request_kind is)
    by (Fails x) whole other is = no_fault request_kind x whole (sym is)

inner_all : (trips : List Trip) (e : Event) → AllByRecursion IsWholeTrip trips → IsInner e → AllByRecursion IsInner (flat_map trip_events trips ++ e ∷ [])
inner_all [] e whole last = (last, tt)
inner_all (t ∷ ts) e whole last = (inner_query t whole.0, (inner_told t whole.0, inner_all ts e whole.1 last))

heads : (a b : Event) (x y : List Event) → a ∷ x ≡ b ∷ y → a ≡ b
heads a b x y same = cc

tails : (a b : Event) (x y : List Event) → a ∷ x ≡ b ∷ y → x ≡ y
tails a b x y same = cc

-- a REQUEST that comes after them comes in what is left
past_inner : (inner : List Event) → AllByRecursion IsInner inner → (before : List Event) (r : Event) (x more : List Event) → r.0 ≡ request_kind ∷ []
    → inner ++ more ≡ before ++ (r ∷ x) → (rest : List Event) × (more ≡ rest ++ (r ∷ x))
past_inner [] all before r x more is same = (before, same)
past_inner (i ∷ inner) all [] r x more is same = absurd (all.0 (ap (λ (e : Event). e.0) (heads i r (inner ++ more) x same) ∙ is))
past_inner (i ∷ inner) all (b ∷ before) r x more is same = past_inner inner all.1 before r x more is (tails i b (inner ++ more) (before ++ (r ∷ x)) same)

-- ---- what stands where a conversation begins is a beginning of it

abbrev StartsAnew : List Event → Type 0
StartsAnew [] = Unit {0}
StartsAnew (e ∷ es) = e.0 ≡ request_kind ∷ []

starts : (ts : List CountedTalk) → StartsAnew (events_of ts)
starts [] = tt
starts (t ∷ ts) = refl

abbrev rest_of : List Trip → Turn → List Event
rest_of trips last = flat_map trip_events trips ++ turn_event last ∷ []

says_too : NumbersRead → FramesStand → (says : List Frame → Turn) (told : List Frame) (trips : List Trip) (last : Turn) (later : List Event)
    (all : List Trip) (final : Turn) (more : List Event) → AllByRecursion IsWholeTrip trips → IsWholeTurn last → AllByRecursion IsWholeTrip all
    → IsWholeTurn final → StartsAnew more → rest_of all final ++ more ≡ rest_of trips last ++ later → SaysAll says told all final → SaysAll says told trips last
says_too laws stand says told [] last later [] final more whole end wholes over anew same said =
    said ∙ same_turn laws stand final last over end (heads (turn_event final) (turn_event last) more later same)
says_too laws stand says told [] last later (t ∷ ts) final more whole end wholes over anew same said =
    said.0 ∙ same_turn laws stand (Says t.query) last wholes.0.query end
    (heads (frame_event t.query) (turn_event last) (frame_event t.told ∷ (rest_of ts final ++ more)) later same)
says_too laws stand says told (u ∷ us) last later [] final more whole end wholes over anew same said =
    absurd (inner_told u whole.0 (subst StartsAnew (tails (turn_event final) (frame_event u.query) more (frame_event u.told ∷ (rest_of us last ++ later)) same) anew))
says_too laws stand says told (u ∷ us) last later (t ∷ ts) final more whole end wholes over anew same said =
    let after = tails (frame_event t.query) (frame_event u.query) (frame_event t.told ∷ (rest_of ts final ++ more)) (frame_event u.told ∷ (rest_of us last ++ later)) same in
    let query : t.query ≡ u.query = same_frame laws stand t.query u.query wholes.0.query whole.0.query
    (heads (frame_event t.query) (frame_event u.query) (frame_event t.told ∷ (rest_of ts final ++ more)) (frame_event u.told ∷ (rest_of us last ++ later)) same) in
    let given : t.told ≡ u.told = same_frame laws stand t.told u.told wholes.0.told whole.0.told
    (heads (frame_event t.told) (frame_event u.told) (rest_of ts final ++ more) (rest_of us last ++ later) after) in (
      said.0 ∙ ap (λ (f : Frame). Says f) query,
      subst (λ (f : Frame). SaysAll says (told ++ f ∷ []) us last) given
          (says_too laws stand says (told ++ t.told ∷ []) us last later ts final more whole.1 end wholes.1 over anew
          (tails (frame_event t.told) (frame_event u.told) (rest_of ts final ++ more) (rest_of us last ++ later) after) said.1),
    )

-- a guest goes by the bytes of the request
abbrev SaysBy : (List ℕ → List Frame → Turn) → Conversation → Type 0
SaysBy says d = SaysAll (says (request_bytes d)) [] d.trips d.last

module _ (laws : NumbersRead) (stand : FramesStand) (says : List ℕ → List Frame → Turn) (c : Conversation) (count : ℕ) (whole : IsWhole c) where
  -- what is noted among these is said, where all of these are
  said_where : (ts : List CountedTalk) → AllByRecursion IsTalk ts → AllByRecursion (λ t. SaysBy says t.c) ts → (before later : List Event)
      → events_of ts ≡ before ++ (talk_events count c ++ later) → SaysBy says c
  said_where [] talks said [] later same = absurd cc
  said_where [] talks said (b ∷ before) later same = absurd cc
  said_where (t ∷ ts) talks said [] later same =
      let first = frame_event (request_frame t.c.asked t.c.now t.count) in
      let mine = frame_event (request_frame c.asked c.now count) in
      let key : request_bytes t.c ≡ request_bytes c = same_request laws t.c c t.count count
      (heads first mine (rest_of t.c.trips t.c.last ++ events_of ts) (rest_of c.trips c.last ++ later) same) in
      subst (λ (k : List ℕ). SaysAll (says k) [] c.trips c.last) key
      (says_too laws stand (says (request_bytes t.c)) [] c.trips c.last later t.c.trips t.c.last (events_of ts) whole.trips whole.last talks.0.whole.trips
      talks.0.whole.last (starts ts) (tails first mine (rest_of t.c.trips t.c.last ++ events_of ts) (rest_of c.trips c.last ++ later) same) said.0)
  said_where (t ∷ ts) talks said (b ∷ before) later same =
      let first = frame_event (request_frame t.c.asked t.c.now t.count) in
      let mine = frame_event (request_frame c.asked c.now count) in
      let inner = inner_all t.c.trips (turn_event t.c.last) talks.0.whole.trips (inner_last t talks.0) in
      let past = past_inner (rest_of t.c.trips t.c.last) inner before mine (rest_of c.trips c.last ++ later) (events_of ts) refl
      (tails first b (rest_of t.c.trips t.c.last ++ events_of ts) (before ++ (talk_events count c ++ later)) same) in
      said_where ts talks.1 said.1 past.0 later past.1

-- ---- the guest

-- what was said after so much
abbrev said_in : List Trip → Turn → List Frame → Turn
said_in [] last told = last
said_in (t ∷ ts) last [] = Says t.query
said_in (t ∷ ts) last (f ∷ told) = said_in ts last told

abbrev said_for : List Conversation → List ℕ → List Frame → Turn
said_for [] key told = Fails faults.Ended
said_for (c ∷ cs) key told = if bytes_eq (request_bytes c) key then said_in c.trips c.last told else said_for cs key told

turn_right : (trips : List Trip) (last : Turn) → AllByRecursion (λ (t : Trip). HasRightParts t.query) trips → IsRightTurn last → (told : List Frame)
    → IsRightTurn (said_in trips last told)
turn_right [] last each right told = right
turn_right (t ∷ ts) last each right [] = each.0
turn_right (t ∷ ts) last each right (f ∷ told) = turn_right ts last each.1 right told

if_right : (b : Bool) (one two : Turn) → IsRightTurn one → IsRightTurn two → IsRightTurn (if b then one else two)
if_right true one two first second = first
if_right false one two first second = second

all_right : (cs : List Conversation) → AllByRecursion IsRightConversation cs → (key : List ℕ) (told : List Frame) → IsRightTurn (said_for cs key told)
all_right [] each key told = tt
all_right (c ∷ cs) each key told =
    if_right (bytes_eq (request_bytes c) key) (said_in c.trips c.last told) (said_for cs key told) (turn_right c.trips c.last each.0.0 each.0.1 told)
    (all_right cs each.1 key told)

-- ---- it says all of each conversation

one_more : (before told : List Frame) (f : Frame) → (before ++ f ∷ []) ++ told ≡ before ++ f ∷ told
one_more [] told f = refl
one_more (g ∷ before) told f = ap (λ l. g ∷ l) (one_more before told f)

no_more : (before : List Frame) → before ≡ before ++ []
no_more [] = refl
no_more (f ∷ before) = ap (λ l. f ∷ l) (no_more before)

abbrev GoesBy : (List Frame → Turn) → List Frame → List Trip → Turn → Type 0
GoesBy says before rest last = (told : List Frame) → says (before ++ told) ≡ said_in rest last told

says_rest : (says : List Frame → Turn) (before : List Frame) (rest : List Trip) (last : Turn) → GoesBy says before rest last → SaysAll says before rest last
says_rest says before [] last goes = ap says (no_more before) ∙ goes []
says_rest says before (t ∷ ts) last goes = (
  ap says (no_more before) ∙ goes [],
  says_rest says (before ++ t.told ∷ []) ts last (λ told. ap says (one_more before told t.told) ∙ goes (t.told ∷ told)),
)

at_first : (c : Conversation) (cs : List Conversation) → SaysBy (said_for (c ∷ cs)) c
at_first c cs =
    says_rest (said_for (c ∷ cs) (request_bytes c)) [] c.trips c.last
    (λ told. ap (λ (b : Bool). if b then said_in c.trips c.last told else said_for cs (request_bytes c) told)
    ((bytes_eq-Decides (request_bytes c) (request_bytes c)).1 refl))

says_same : (f g : List Frame → Turn) → ((told : List Frame) → f told ≡ g told) → (before : List Frame) (trips : List Trip) (last : Turn)
    → SaysAll g before trips last → SaysAll f before trips last
says_same f g same before [] last says_all = same before ∙ says_all
says_same f g same before (t ∷ ts) last says_all = (same before ∙ says_all.0, says_same f g same (before ++ t.told ∷ []) ts last says_all.1)

past_first : (c : Conversation) (cs ds : List Conversation) → AllByRecursion (λ (d : Conversation). are_alike c d ≡ false) ds
    → AllByRecursion (SaysBy (said_for cs)) ds → AllByRecursion (SaysBy (said_for (c ∷ cs))) ds
past_first c cs [] apart said = tt
past_first c cs (d ∷ ds) apart said = (
  says_same (said_for (c ∷ cs) (request_bytes d)) (said_for cs (request_bytes d))
      (λ told. ap (λ (b : Bool). if b then said_in c.trips c.last told else said_for cs (request_bytes d) told) apart.0) [] d.trips d.last said.0,
  past_first c cs ds apart.1 said.1,
)

all_said : (cs : List Conversation) → AreApart cs → AllByRecursion (SaysBy (said_for cs)) cs
all_said [] apart = tt
all_said (c ∷ cs) apart = (at_first c cs, past_first c cs cs apart.0 (all_said cs apart.1))

-- ---- of each life

right_trips : (trips : List Trip) → AllByRecursion IsWholeTrip trips → AllByRecursion (λ (t : Trip). HasRightParts t.query) trips
right_trips [] whole = tt
right_trips (t ∷ ts) whole = (whole.0.query.limited.0, right_trips ts whole.1)

right_last : (last : Turn) → IsWholeTurn last → IsRightTurn last
right_last (Says f) whole = whole.limited.0
right_last (Fails x) whole = tt

right_talks : (ts : List CountedTalk) (cs : List Conversation) → AllByRecursion IsTalk ts → AllByRecursion IsRightConversation cs
    → AllByRecursion IsRightConversation (map (λ t. t.c) ts ++ cs)
right_talks [] cs talks right = right
right_talks (t ∷ ts) cs talks right = ((right_trips t.c.trips talks.0.whole.trips, right_last t.c.last talks.0.whole.last), right_talks ts cs talks.1 right)

right_lives : (lives : List Life) → AllByRecursion AreTalks lives → AllByRecursion IsRightConversation (flat_map talked_in lives)
right_lives [] each = tt
right_lives (l ∷ lives) each = right_talks l.talks (flat_map talked_in lives) each.0 (right_lives lives each.1)

parted : (says : List ℕ → List Frame → Turn) (ts : List CountedTalk) (cs : List Conversation) → AllByRecursion (SaysBy says) (map (λ t. t.c) ts ++ cs)
    → AllByRecursion (λ t. SaysBy says t.c) ts × AllByRecursion (SaysBy says) cs
parted says [] cs said = (tt, said)
parted says (t ∷ ts) cs said =
    let rest = parted says ts cs said.1 in
    ((said.0, rest.0), rest.1)

module _ (laws : NumbersRead) (stand : FramesStand) (G : Guest) (says : List ℕ → List Frame → Turn)
    (goes : (c : Conversation) → SaysBy says c → SaysAll (G.says c.asked c.now) [] c.trips c.last) where
  agrees_with : (lives : List Life) → AllByRecursion AreTalks lives → AllByRecursion (SaysBy says) (flat_map talked_in lives)
      → AllByRecursion (λ (l : Life). AgreesWithAll G l.events) lives
  agrees_with [] each said = tt
  agrees_with (l ∷ lives) each said =
      let two = parted says l.talks (flat_map talked_in lives) said in (
        λ c n. goes c (said_where laws stand says c n.count n.whole l.talks each.0 two.0 n.before (n.later ++ l.missing)
            (sym l.joins ∙ ap (λ (e : List Event). e ++ l.missing) n.here ∙ append_assoc n.before (talk_events n.count c ++ n.later) l.missing
            ∙ ap (λ (e : List Event). n.before ++ e) (append_assoc (talk_events n.count c) n.later l.missing))),
        agrees_with lives each.1 two.1,
      )

pub some_guest : NumbersRead → FramesStand → SomeGuestAgrees
some_guest laws stand r lives each apart =
    let cs = flat_map talked_in lives in
    let G : Guest = record {
      ready = r;
      says = λ asked now told. said_for cs (frame_bytes (request_frame asked now 0)) told;
      right = λ asked now told. all_right cs (right_lives lives each) (frame_bytes (request_frame asked now 0)) told;
    } in
    (G, refl, agrees_with laws stand G (said_for cs) (λ c says_all. says_all) lives each (all_said cs apart))
