-- What the calls of a port come to.
use Rattle.std.proofs.Common.{◌≡◌, ◌⊎◌, inl, inr, ◌≤◌, ◌<◌, ◌||◌, ℕ, ◌+◌, ◌-◌, Bool, true, false, List, [], ◌∷◌, ◌++◌, length, take, drop, Option, refl, sym, ap, subst, ◌∙◌}
use Rattle.std.proofs.Common.{append_assoc, arith, length-append}
use Rattle.std.specs.List.{AllByRecursion}
use Rattle.fuse_session.specs.declared.port.Received.{Received as Receipt}
use Rattle.fuse_session.specs.declared.port.Received.TheVariants.{Got, End, Failed as ReceiveFailed}
use Rattle.fuse_session.specs.declared.port.Sent.{Sent}
use Rattle.fuse_session.specs.declared.port.Sent.TheVariants.{Took, Gone, Failed}
use Rattle.fuse_session.specs.Port.{PortState, Receives, Sends, MoreGone, is_gone}
use Rattle.fuse_session.specs.Transcript.{PortEvent, Received, Handed, one_receive, one_send, Steps, Gave, came_with, received_in}
use Rattle.fuse_session.specs.Transcript.{handed_with, handed_in, IsTranscript, sends_of, left_after, left_of, StopsAfter, RestsOf, IsLeft, Hands, SendsPart}
use Rattle.fuse_session.specs.Slices.{gone_in}
use Rattle.fuse_session.proofs.Bytes.{SentPrefix, prefix_failed, rest_is}

-- ---- one call

pub one_received : (old new : PortState) (result : Receipt) (buffer : List ℕ) → Receives old new result buffer → Steps old new (one_receive result buffer)
one_received old new result buffer receives = (new, record { buffer = buffer; came = refl; receives = receives }, refl)

pub one_sent : (old new : PortState) (slice : List ℕ) (result : Sent) → Sends old new result slice → Steps old new (one_send slice result)
one_sent old new slice result sends = (new, sends, refl)

-- ---- parts of a transcript

pub received_more : (xs ys : List PortEvent) → received_in (xs ++ ys) ≡ received_in xs ++ received_in ys
received_more [] ys = refl
received_more (x ∷ xs) ys = ap (λ (l : List ℕ). came_with x ++ l) (received_more xs ys) ∙ sym (append_assoc (came_with x) (received_in xs) (received_in ys))

pub handed_more : (xs ys : List PortEvent) → handed_in (xs ++ ys) ≡ handed_in xs ++ handed_in ys
handed_more [] ys = refl
handed_more (x ∷ xs) ys = ap (λ (l : List (List ℕ × Sent)). handed_with x ++ l) (handed_more xs ys)
    ∙ sym (append_assoc (handed_with x) (handed_in xs) (handed_in ys))

pub sends_more : (xs ys : List (List ℕ × Sent)) → sends_of (xs ++ ys) ≡ sends_of xs ++ sends_of ys
sends_more [] ys = refl
sends_more (x ∷ xs) ys = ap (λ l. Handed x.0 x.1 ∷ l) (sends_more xs ys)

pub handed_sends : (slices : List (List ℕ × Sent)) → handed_in (sends_of slices) ≡ slices
handed_sends [] = refl
handed_sends (x ∷ xs) = ap (λ (l : List (List ℕ × Sent)). x ∷ l) (handed_sends xs)

pub received_sends : (slices : List (List ℕ × Sent)) → received_in (sends_of slices) ≡ []
received_sends [] = refl
received_sends (x ∷ xs) = received_sends xs

-- ---- the slices of one answer

TookSome : Sent → Type 0
TookSome (Took n) = n ≡ 0 → ⊥
TookSome Gone = ⊥
TookSome Failed = ⊥

AllTook : List (List ℕ × Sent) → Type 0
AllTook [] = Unit {0}
AllTook (h ∷ more) = TookSome h.1 × AllTook more

goes_on : (s : Sent) (more : List (List ℕ × Sent)) → TookSome s → StopsAfter s more
unfolding TookSome
goes_on (Took n) more some = λ none. absurd (some none)
goes_on Gone more some = absurd some
goes_on Failed more some = absurd some

stops : (s : Sent) → StopsAfter s []
stops (Took n) = λ none. refl
stops Gone = refl
stops Failed = refl

rests_more : (bytes : List ℕ) (xs : List (List ℕ × Sent)) (s : Sent) → RestsOf bytes xs → AllTook xs → (left_of bytes xs ≡ [] → ⊥)
    → RestsOf bytes (xs ++ (left_of bytes xs, s) ∷ [])
unfolding AllTook
rests_more bytes [] s rests took some = (some, refl, stops s, tt)
rests_more bytes (x ∷ xs) s rests took some =
    (rests.0, rests.1, goes_on x.1 (xs ++ (left_of (left_after x.1 bytes) xs, s) ∷ []) took.0, rests_more (left_after x.1 bytes) xs s rests.3 took.1 some)

left_more : (bytes slice : List ℕ) (xs : List (List ℕ × Sent)) (s : Sent) → left_of bytes (xs ++ (slice, s) ∷ []) ≡ left_after s (left_of bytes xs)
left_more bytes slice [] s = refl
left_more bytes slice (x ∷ xs) s = left_more (left_after x.1 bytes) slice xs s

took_more : (xs : List (List ℕ × Sent)) (slice : List ℕ) (s : Sent) → AllTook xs → TookSome s → AllTook (xs ++ (slice, s) ∷ [])
unfolding AllTook
took_more [] slice s all some = (some, tt)
took_more (x ∷ xs) slice s all some = (all.0, took_more xs slice s all.1 some)

-- an answer was handed over slice by slice, as far as this rest
pub record HandsSome (became : List PortEvent → Type 0) (bytes rest : List ℕ) : Type 0 where
  slices : List (List ℕ × Sent)
  calls : became (sends_of slices)
  rests : RestsOf bytes slices
  took : AllTook slices
  left : left_of bytes slices ≡ rest

pub hands_none : {P : Type 0} (became : P → P → List PortEvent → Type 0) → IsTranscript became → (p : P) (bytes : List ℕ) → HandsSome (became p p) bytes bytes
unfolding AllTook
hands_none became path p bytes = record { slices = []; calls = path.none p; rests = tt; took = tt; left = refl }

-- one slice more, with this result
next_call : {P : Type 0} (became : P → P → List PortEvent → Type 0) → IsTranscript became → (a b c : P) (bytes rest : List ℕ) (s : Sent)
    → (one : HandsSome (became a b) bytes rest) → became b c (one_send rest s) → became a c (sends_of (one.slices ++ (rest, s) ∷ []))
next_call became path a b c bytes rest s one two =
    subst (became a c) (sym (sends_more one.slices ((rest, s) ∷ []))) (path.onward a b c (sends_of one.slices) (one_send rest s) one.calls two)

next_rests : (became : List PortEvent → Type 0) (bytes rest : List ℕ) (s : Sent) → (one : HandsSome became bytes rest) → (rest ≡ [] → ⊥)
    → RestsOf bytes (one.slices ++ (rest, s) ∷ [])
next_rests became bytes rest s one some =
    subst (λ r. RestsOf bytes (one.slices ++ (r, s) ∷ [])) one.left (rests_more bytes one.slices s one.rests one.took (λ none. some (sym one.left ∙ none)))

pub hands_more : {P : Type 0} (became : P → P → List PortEvent → Type 0) → IsTranscript became → (a b c : P) (bytes rest : List ℕ) (n : ℕ)
    → (n ≡ 0 → ⊥) → (rest ≡ [] → ⊥) → HandsSome (became a b) bytes rest → became b c (one_send rest (Took n))
    → HandsSome (became a c) bytes (take (length rest - n) (drop n rest))
unfolding TookSome
hands_more became path a b c bytes rest n isnt some one two = record {
  slices = one.slices ++ (rest, Took n) ∷ [];
  calls = next_call became path a b c bytes rest (Took n) one two;
  rests = next_rests (became a b) bytes rest (Took n) one some;
  took = took_more one.slices rest (Took n) one.took isnt;
  left = left_more bytes rest one.slices (Took n) ∙ ap (drop n) one.left ∙ sym (rest_is rest n);
}

pub hands_last : {P : Type 0} (became : P → P → List PortEvent → Type 0) → IsTranscript became → (a b c : P) (bytes rest : List ℕ) (s : Sent) (whole : Bool)
    → (rest ≡ [] → ⊥) → IsLeft whole (left_after s rest) → HandsSome (became a b) bytes rest → became b c (one_send rest s) → Hands (became a c) bytes whole
hands_last became path a b c bytes rest s whole some left one two = record {
  slices = one.slices ++ (rest, s) ∷ [];
  calls = next_call became path a b c bytes rest s one two;
  rests = next_rests (became a b) bytes rest s one some;
  left = subst (IsLeft whole) (sym (left_more bytes rest one.slices s ∙ ap (left_after s) one.left)) left;
}

-- the port failed at a slice: with its bytes, what was sent of the answer
pub fails_last : {P : Type 0} (told : P → PortState) (became : P → P → List PortEvent → Type 0) → IsTranscript became → (a b c : P) (bytes rest more : List ℕ)
    (s : Sent) → (rest ≡ [] → ⊥) → (left_after s rest ≡ [] → ⊥) → (told b).failures < (told c).failures → (told c).gone ≡ (told b).gone
    → SentPrefix (told a) (told b) bytes rest → HandsSome (became a b) bytes rest → (two : Sends (told b) (told c) s rest)
    → left_after s rest ≡ more ++ drop two.count rest → became b c (one_send rest s) → SendsPart (became a c) (told a) (told c) bytes
fails_last told became path a b c bytes rest more s some left failed same sent one two untaken call = record {
  sent = prefix_failed (told a) (told b) (told c) bytes rest s failed same sent two;
  hands = record {
    slices = one.slices ++ (rest, s) ∷ [];
    calls = next_call became path a b c bytes rest s one call;
    rests = next_rests (became a b) bytes rest s one some;
    left = λ none. left (sym (left_more bytes rest one.slices s ∙ ap (left_after s) one.left) ∙ none);
  };
  more = more;
  untaken = left_more bytes rest one.slices s ∙ ap (left_after s) one.left ∙ untaken;
}

-- nothing was taken of the last
pub left_at_zero : (rest : List ℕ) (n : ℕ) → n ≡ 0 → (rest ≡ [] → ⊥) → drop n rest ≡ [] → ⊥
left_at_zero rest n zero some none = some (sym (ap (λ k. drop k rest) zero) ∙ none)

nothing_left : (rest : List ℕ) → length rest ≡ 0 → rest ≡ []
nothing_left [] none = refl
nothing_left (b ∷ rest) none = absurd (omega arith)

pub hands_all : (became : List PortEvent → Type 0) (bytes rest : List ℕ) → length rest ≡ 0 → HandsSome became bytes rest → Hands became bytes true
hands_all became bytes rest none one = record { slices = one.slices; calls = one.calls; rests = one.rests; left = one.left ∙ nothing_left rest none }

-- ---- a port that neither ended nor failed to receive

ends_rise : (old new : PortState) (es : List PortEvent) → Steps old new es → old.ends ≤ new.ends
ends_rise old new [] is = omega (arith, ap (λ (p : PortState). p.ends) is)
ends_rise old new (Received result bytes ∷ es) steps = omega (arith, steps.1.receives.ends, ends_rise steps.0 new es steps.2)
ends_rise old new (Handed slice result ∷ es) steps = omega (arith, steps.1.quiet.ends, ends_rise steps.0 new es steps.2)

failures_rise : (old new : PortState) (es : List PortEvent) → Steps old new es → old.receive_failures ≤ new.receive_failures
failures_rise old new [] is = omega (arith, ap (λ (p : PortState). p.receive_failures) is)
failures_rise old new (Received result bytes ∷ es) steps = omega (arith, steps.1.receives.receive_failures, failures_rise steps.0 new es steps.2)
failures_rise old new (Handed slice result ∷ es) steps = omega (arith, steps.1.quiet.receive_failures, failures_rise steps.0 new es steps.2)

-- each receive gave bytes
pub each_gave : (old new : PortState) (es : List PortEvent) → Steps old new es → new.ends ≡ old.ends → new.receive_failures ≡ old.receive_failures
    → AllByRecursion Gave es
each_gave old new [] steps ends failures = tt
each_gave old new (Received (Got n) bytes ∷ es) steps ends failures =
    (tt, each_gave steps.0 new es steps.2 (omega (arith, steps.1.receives.ends, ends)) (omega (arith, steps.1.receives.receive_failures, failures)))
each_gave old new (Received End bytes ∷ es) steps ends failures =
    absurd (omega (arith, steps.1.receives.ends, ends, ends_rise steps.0 new es steps.2))
each_gave old new (Received ReceiveFailed bytes ∷ es) steps ends failures =
    absurd (omega (arith, steps.1.receives.receive_failures, failures, failures_rise steps.0 new es steps.2))
each_gave old new (Handed slice result ∷ es) steps ends failures =
    (tt, each_gave steps.0 new es steps.2 (omega (arith, steps.1.quiet.ends, ends)) (omega (arith, steps.1.quiet.receive_failures, failures)))

-- ---- whether a slice was answered Gone, by the places that a port has

more_long : (g : Bool) (old new : List ℕ) (sent : Option (List ℕ)) → MoreGone g old new sent → length old ≤ length new
more_long true old new sent more = omega (arith, ap length more.1, length-append old (more.0 ∷ []))
more_long false old new sent more = omega (arith, ap length more)

one_longer : (g : Bool) (old new : List ℕ) (sent : Option (List ℕ)) → g ≡ true → MoreGone g old new sent → length new ≡ length old + 1
one_longer true old new sent is more = ap length more.1 ∙ length-append old (more.0 ∷ [])
one_longer false old new sent is more = absurd (cc is)

none_more : (g : Bool) (old new : List ℕ) (sent : Option (List ℕ)) → g ≡ false → MoreGone g old new sent → new ≡ old
none_more true old new sent is more = absurd (cc is)
none_more false old new sent is more = more

or_true : (x y : Bool) → (x || y) ≡ true → (x ≡ true) ⊎ (y ≡ true)
or_true true y is = inl refl
or_true false y is = inr is

or_false : (x y : Bool) → (x || y) ≡ false → (x ≡ false) × (y ≡ false)
or_false true y is = absurd (cc is)
or_false false y is = (refl, is)

gone_rise : (old new : PortState) (slices : List (List ℕ × Sent)) → Steps old new (sends_of slices) → length old.gone ≤ length new.gone
gone_rise old new [] is = omega (arith, ap (λ (p : PortState). length p.gone) is)
gone_rise old new (h ∷ more) steps =
    omega (arith, more_long (is_gone h.1) old.gone steps.0.gone steps.0.sent steps.1.gone, gone_rise steps.0 new more steps.2)

gone_longer : (old new : PortState) (slices : List (List ℕ × Sent)) → Steps old new (sends_of slices) → gone_in slices ≡ true
    → length old.gone < length new.gone
gone_longer old new [] steps is = absurd (cc is)
gone_longer old new (h ∷ more) steps is = elim (or_true (is_gone h.1) (gone_in more) is) [
  | inl here ↦ omega (arith, one_longer (is_gone h.1) old.gone steps.0.gone steps.0.sent here steps.1.gone, gone_rise steps.0 new more steps.2)
  | inr later ↦ omega (arith, more_long (is_gone h.1) old.gone steps.0.gone steps.0.sent steps.1.gone, gone_longer steps.0 new more steps.2 later)
]

gone_same : (old new : PortState) (slices : List (List ℕ × Sent)) → Steps old new (sends_of slices) → gone_in slices ≡ false → new.gone ≡ old.gone
gone_same old new [] steps is = ap (λ (p : PortState). p.gone) steps
gone_same old new (h ∷ more) steps is =
    let parts = or_false (is_gone h.1) (gone_in more) is in
    gone_same steps.0 new more steps.2 parts.1 ∙ none_more (is_gone h.1) old.gone steps.0.gone steps.0.sent parts.0 steps.1.gone

gone_by : (g b : Bool) (old new : PortState) (slices : List (List ℕ × Sent)) → Steps old new (sends_of slices) → MoreGone g old.gone new.gone new.sent
    → gone_in slices ≡ b → b ≡ g
gone_by true true old new slices steps more is = refl
gone_by false false old new slices steps more is = refl
gone_by true false old new slices steps more is =
    absurd (omega (arith, ap length (gone_same old new slices steps is), one_longer true old.gone new.gone new.sent refl more))
gone_by false true old new slices steps more is = absurd (omega (arith, gone_longer old new slices steps is, ap length more))

pub gone_is : (g : Bool) (old new : PortState) (slices : List (List ℕ × Sent)) → Steps old new (sends_of slices) → MoreGone g old.gone new.gone new.sent
    → gone_in slices ≡ g
gone_is g old new slices steps more = gone_by g (gone_in slices) old new slices steps more refl
