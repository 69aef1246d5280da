-- The messages returned so far, and their counts.
use Rattle.std.proofs.Common.{All, ◌≡◌, ◌≤◌, ◌+◌, ℕ, Bool, true, false, cond, List, [], ◌∷◌, ◌++◌, length, Option, Some, None, Err, inl, inr, refl, sym, ap}
use Rattle.std.proofs.Common.{subst, ◌∙◌, append_assoc, arith, length-append}
use Rattle.std.specs.List.{filter, AllByRecursion}
use Rattle.std.specs.Option.{IfSome}
use Rattle.std.specs.Io.KnownBytes.{Consumes, IsAtEnd}
use Rattle.std.proofs.lemmas.List.{append-nil}
use Rattle.std.proofs.lemmas.List.Elements.{All-append, All-cons, All-nil, recursion_from_All, filter-append}
use Rattle.std.proofs.lemmas.List.Sums.{length-filter, count_by-le-length}
use Rattle.fuse_request.specs.declared.framer.FrameFault.{FrameFault}
use Rattle.fuse_request.specs.Stream.{cut, joined, is_whole, IsMessage, IsOneCut, CutSteps}
use Rattle.fuse_request.specs.Framing.{HasNone, end_fault}
use Rattle.fuse_commands.specs.declared.check.MessageCounts.{MessageCounts}
use Rattle.fuse_commands.specs.declared.messages.Placed.{Placed}
use Rattle.fuse_commands.specs.declared.ending.Ending.{Ending}
use Rattle.fuse_commands.specs.Messages.{stream_fault}
use Rattle.fuse_commands.specs.inner.Messages.{GaveMessage, GaveSome, GivesPlaced, WentSoFar, WentThrough}
use Rattle.fuse_commands.specs.Checking.{is_malformed, is_unsupported, checked}
use Rattle.fuse_commands.proofs.Known.{consumes_then}

all_one : (P : List ℕ → Type 0) (m : List ℕ) → P m → All P (m ∷ [])
all_one P m h = All-cons P m [] h (All-nil P)

pub joined-one : (ms : List (List ℕ)) (m : List ℕ) → joined (ms ++ m ∷ []) ≡ joined ms ++ m
joined-one [] m = append-nil m
joined-one (n ∷ ms) m = ap (λ (x : List ℕ). n ++ x) (joined-one ms m) ∙ sym (append_assoc n (joined ms) m)

pub gave_more : (stream left left' : Option (List ℕ)) (at at' : ℕ) (ms : List (List ℕ)) (p : Placed) → GaveSome stream left at ms
    → GaveMessage left left' at at' p → GaveSome stream left' at' (ms ++ p.bytes ∷ [])
gave_more stream left left' at at' ms p some one = record {
  left_is =
      subst (λ (x : List ℕ). Consumes stream left' x) (sym (joined-one ms p.bytes)) (consumes_then stream left left' (joined ms) p.bytes some.left_is one.left);
  each = All-append IsMessage ms (p.bytes ∷ []) some.each (all_one IsMessage p.bytes one.message);
  place = one.place ∙ ap (λ n. n + length p.bytes) some.place ∙ sym (length-append (joined ms) p.bytes) ∙ ap length (sym (joined-one ms p.bytes));
}

pub few : (ms : List (List ℕ)) → AllByRecursion IsMessage ms → length ms ≤ length (joined ms)
few [] each = omega arith
few (m ∷ ms) each =
    let low = each.0.low in
    let less = few ms each.1 in
    omega (arith, length-append m (joined ms))

-- ---- the whole stream

stuck : (rest : List ℕ) (b : Bool) → is_whole rest ≡ b → CutSteps → HasNone rest → is_whole rest ≡ false
stuck rest false is steps none = is
stuck rest true is steps none = absurd (let e = ap (λ (x : List (List ℕ) × List ℕ). x.0) (sym ((steps rest).0 is) ∙ none) in cc)

cut_known : (stream left : Option (List ℕ)) (at : ℕ) (ms : List (List ℕ)) → IsOneCut → CutSteps → GaveSome stream left at ms
    → IfSome left HasNone → IfSome stream (λ w. IfSome left (λ rest. cut w ≡ (ms, rest)))
cut_known None left at ms one steps some none = tt
cut_known (Some w) None at ms one steps some none = tt
cut_known (Some w) (Some rest) at ms one steps some none =
    (one w).1 ms rest (record { whole = some.left_is; each = recursion_from_All IsMessage ms some.each; stuck = stuck rest (is_whole rest) refl steps none })

pub went_faulty : (stream left : Option (List ℕ)) (at : ℕ) (P : List (List ℕ) → Type 0) (fault : FrameFault) → IsOneCut → CutSteps → WentSoFar stream left at P
    → IfSome left (λ rest. HasNone rest × (end_fault at rest ≡ Some fault)) → IfSome stream (λ w. (stream_fault w ≡ Some fault) × P (cut w).0)
went_faulty None left at P fault one steps some here = tt
went_faulty (Some w) None at P fault one steps some here = absurd some.gave.left_is
went_faulty (Some w) (Some rest) at P fault one steps some here =
    let e : cut w ≡ (some.messages, rest) = cut_known (Some w) (Some rest) at some.messages one steps some.gave here.0 in
    rw e (rw (sym some.gave.place) here.1, some.so)

none_left : HasNone []
unfolding cut
none_left = refl

pub went_whole : (stream left : Option (List ℕ)) (at : ℕ) (P : List (List ℕ) → Type 0) → IsOneCut → CutSteps → WentSoFar stream left at P
    → IsAtEnd left → IfSome stream (λ w. (stream_fault w ≡ None) × P (cut w).0)
went_whole None left at P one steps some end = tt
went_whole (Some w) None at P one steps some end = absurd some.gave.left_is
went_whole (Some w) (Some rest) at P one steps some end =
    let none : HasNone rest = subst HasNone (sym end) none_left in
    let e : cut w ≡ (some.messages, rest) = cut_known (Some w) (Some rest) at some.messages one steps some.gave none in
    rw (e, end) (refl, some.so)

-- a fault of the stream
pub went_err : (stream left left' : Option (List ℕ)) (at at' : ℕ) (P : List (List ℕ) → Type 0) (ending : Ending) → IsOneCut → CutSteps
    → WentSoFar stream left at P
    → GivesPlaced left left' at at' (Err ending) → WentThrough stream P (Err ending)
went_err stream left left' at at' P ending one steps some (inl h) = inl h
went_err stream left left' at at' P ending one steps some (inr h) = inr (h.fault, h.same, went_faulty stream left at P h.fault one steps some h.here)

pub none_yet : (stream : Option (List ℕ)) (at : ℕ) (P : List (List ℕ) → Type 0) → at ≡ 0 → P [] → WentSoFar stream stream at P
none_yet None at P here so = record { messages = []; gave = record { left_is = tt; each = All-nil IsMessage; place = here }; so = so }
none_yet (Some w) at P here so = record { messages = []; gave = record { left_is = refl; each = All-nil IsMessage; place = here }; so = so }

-- ---- the counts

one_of : (b : Bool) (m : List ℕ) → length (cond {A = List (List ℕ)} b (m ∷ []) []) ≡ cond {A = ℕ} b 1 0
one_of true m = refl
one_of false m = refl

one_more : (p : List ℕ → Bool) (ms : List (List ℕ)) (m : List ℕ) → length (filter p (ms ++ m ∷ [])) ≡ length (filter p ms) + cond {A = ℕ} (p m) 1 0
one_more p ms m = ap length (filter-append p ms (m ∷ [])) ∙ length-append (filter p ms) (filter p (m ∷ []))
    ∙ ap (λ n. length (filter p ms) + n) (one_of (p m) m)

same_counts : (a b c a' b' c' : ℕ) → a ≡ a' → b ≡ b' → c ≡ c'
    → ◌≡◌ {A = MessageCounts} (record { messages = a; malformed = b; unsupported = c }) (record { messages = a'; malformed = b'; unsupported = c' })
same_counts a b c a' b' c' e f g = cc

pub counted_more : (ms : List (List ℕ)) (m : List ℕ) → checked (ms ++ m ∷ [])
    ≡ record {
      messages = (checked ms).messages + 1;
      malformed = (checked ms).malformed + cond {A = ℕ} (is_malformed m) 1 0;
      unsupported = (checked ms).unsupported + cond {A = ℕ} (is_unsupported m) 1 0;
    }
counted_more ms m = same_counts _ _ _ _ _ _ (length-append ms (m ∷ [])) (one_more is_malformed ms m) (one_more is_unsupported ms m)

pub some_counted : (stream left left' : Option (List ℕ)) (at at' : ℕ) (counts counts' : MessageCounts) (p : Placed)
    → WentSoFar stream left at (λ ms. counts ≡ checked ms) → GaveMessage left left' at at' p
    → counts' ≡ record {
      messages = counts.messages + 1;
      malformed = counts.malformed + cond {A = ℕ} (is_malformed p.bytes) 1 0;
      unsupported = counts.unsupported + cond {A = ℕ} (is_unsupported p.bytes) 1 0;
    }
    → WentSoFar stream left' at' (λ ms. counts' ≡ checked ms)
some_counted stream left left' at at' counts counts' p some one is = record {
  messages = some.messages ++ p.bytes ∷ [];
  gave = gave_more stream left left' at at' some.messages p some.gave one;
  so = is ∙ rw some.so (sym (counted_more some.messages p.bytes));
}

-- no count is above the number of bytes
pub record AreFew (counts : MessageCounts) (at : ℕ) : Type 0 where
  pub messages : counts.messages ≤ at
  pub malformed : counts.malformed ≤ at
  pub unsupported : counts.unsupported ≤ at

pub are_few : (stream left : Option (List ℕ)) (at : ℕ) (counts : MessageCounts) → WentSoFar stream left at (λ ms. counts ≡ checked ms) → AreFew counts at
are_few stream left at counts some =
    let ms = some.messages in
    let less : length ms ≤ at = rw some.gave.place (few ms (recursion_from_All IsMessage ms some.gave.each)) in
    let malformed : length (filter is_malformed ms) ≤ length ms = rw (length-filter is_malformed ms) (count_by-le-length is_malformed ms) in
    let unsupported : length (filter is_unsupported ms) ≤ length ms = rw (length-filter is_unsupported ms) (count_by-le-length is_unsupported ms) in
    let counted = some.so in
    record {
      messages = omega (arith, ap (λ (c : MessageCounts). c.messages) counted);
      malformed = omega (arith, ap (λ (c : MessageCounts). c.malformed) counted);
      unsupported = omega (arith, ap (λ (c : MessageCounts). c.unsupported) counted);
    }
