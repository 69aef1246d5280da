-- Known bytes, one piece after another.
use Rattle.std.proofs.Common.{◌≡◌, ◌<◌, ◌+◌, ◌-◌, ℕ, true, false, ◌==◌, if◌then◌else◌, List, [], ◌∷◌, ◌++◌, length, take, drop, Option, Some, None, refl, sym}
use Rattle.std.proofs.Common.{ap, subst, ◌∙◌, append_assoc, arith}
use Rattle.std.proofs.lemmas.List.{append-nil, take-append-drop, take_all, length-drop}
use Rattle.std.specs.Io.KnownBytes.{Keeps, Appends, Consumes}
use Rattle.fuse_session.specs.declared.port.Sent.{Sent}
use Rattle.fuse_session.specs.declared.port.Sent.TheVariants.{Took, Gone}
use Rattle.fuse_session.specs.Port.{PortState, IsQuiet, Sends, SentWhole, SentPart}

pub appends_none : (o : Option (List ℕ)) → Appends o o []
appends_none None = tt
appends_none (Some xs) = sym (append-nil xs)

pub appends_more : (a b c : Option (List ℕ)) (xs ys : List ℕ) → Appends a b xs → Appends b c ys → Appends a c (xs ++ ys)
appends_more None b c xs ys one two = tt
appends_more (Some p) None c xs ys one two = absurd one
appends_more (Some p) (Some q) None xs ys one two = absurd two
appends_more (Some p) (Some q) (Some r) xs ys one two = two ∙ ap (λ z. z ++ ys) one ∙ append_assoc p xs ys

pub keeps_appends : (a b : Option (List ℕ)) → Keeps a b → Appends a b []
keeps_appends None b k = tt
keeps_appends (Some p) None k = absurd k
keeps_appends (Some p) (Some q) k = k ∙ sym (append-nil p)

pub appends_kept : (a b c : Option (List ℕ)) (xs : List ℕ) → Appends a b xs → Keeps b c → Appends a c xs
appends_kept a b c xs one k = subst (Appends a c) (append-nil xs) (appends_more a b c xs [] one (keeps_appends b c k))

pub consumes_none : (o : Option (List ℕ)) → Consumes o o []
consumes_none None = tt
consumes_none (Some xs) = refl

pub consumes_more : (a b c : Option (List ℕ)) (xs ys : List ℕ) → Consumes a b xs → Consumes b c ys → Consumes a c (xs ++ ys)
consumes_more None b c xs ys one two = tt
consumes_more (Some p) None c xs ys one two = absurd one
consumes_more (Some p) (Some q) None xs ys one two = absurd two
consumes_more (Some p) (Some q) (Some r) xs ys one two = one ∙ ap (λ z. xs ++ z) two ∙ sym (append_assoc xs ys r)

pub keeps_consumes : (a b : Option (List ℕ)) → Keeps a b → Consumes a b []
keeps_consumes None b k = tt
keeps_consumes (Some p) None k = absurd k
keeps_consumes (Some p) (Some q) k = sym k

pub quiet_none : (p : PortState) → IsQuiet p p
quiet_none p = record { coming = refl; receives = refl; has_ended = refl; ends = refl; receive_failures = refl; confirms = refl }

pub quiet_more : (a b c : PortState) → IsQuiet a b → IsQuiet b c → IsQuiet a c
quiet_more a b c one two = record {
  coming = two.coming ∙ one.coming;
  receives = two.receives ∙ one.receives;
  has_ended = two.has_ended ∙ one.has_ended;
  ends = two.ends ∙ one.ends;
  receive_failures = two.receive_failures ∙ one.receive_failures;
  confirms = two.confirms ∙ one.confirms;
}

-- ---- one slice

-- a prefix of a slice was sent, and this is left of it
pub record SentPrefix (old new : PortState) (bytes rest : List ℕ) : Type 0 where
  pub part : List ℕ
  pub parts : bytes ≡ part ++ rest
  pub sent : Appends old.sent new.sent part
  pub failures : new.failures ≡ old.failures
  pub gone : new.gone ≡ old.gone
  pub quiet : IsQuiet old new

pub nothing_sent : (p : PortState) (bytes : List ℕ) → SentPrefix p p bytes bytes
nothing_sent p bytes = record { part = []; parts = refl; sent = appends_none p.sent; failures = refl; gone = refl; quiet = quiet_none p }

isnt_zero : (n : ℕ) → (n ≡ 0 → ⊥) → (n == 0) ≡ false
isnt_zero n isnt = grind arith

no_failure : (n len old new : ℕ) → (n ≡ 0 → ⊥) → new ≡ old + (if n == 0 then (if len == 0 then 0 else 1) else 0) → new ≡ old
no_failure n len old new isnt is = is ∙ ap (λ b. old + (if b then (if len == 0 then 0 else 1) else 0)) (isnt_zero n isnt) ∙ omega arith

pub rest_is : (rest : List ℕ) (n : ℕ) → take (length rest - n) (drop n rest) ≡ drop n rest
rest_is rest n = take_all (length rest - n) (drop n rest) (omega (arith, length-drop n rest))

-- more of it was taken
pub prefix_more : (old mid new : PortState) (bytes rest : List ℕ) (n : ℕ) → (n ≡ 0 → ⊥) → SentPrefix old mid bytes rest → Sends mid new (Took n) rest
    → SentPrefix old new bytes (take (length rest - n) (drop n rest))
prefix_more old mid new bytes rest n isnt one two =
    let is : take two.count rest ≡ take n rest = ap (λ k. take k rest) two.counts in
    record {
      part = one.part ++ take n rest;
      parts = one.parts ∙ ap (λ r. one.part ++ r) (sym (take-append-drop n rest) ∙ ap (λ r. take n rest ++ r) (sym (rest_is rest n)))
          ∙ sym (append_assoc one.part (take n rest) (take (length rest - n) (drop n rest)));
      sent = appends_more old.sent mid.sent new.sent one.part (take n rest) one.sent (subst (Appends mid.sent new.sent) is two.sent);
      failures = no_failure n (length rest) mid.failures new.failures isnt two.failures ∙ one.failures;
      gone = two.gone ∙ one.gone;
      quiet = quiet_more old mid new one.quiet two.quiet;
    }

empty_behind : (xs ys : List ℕ) → xs ++ ys ≡ [] → ys ≡ []
empty_behind [] ys is = is
empty_behind (x ∷ xs) ys is = absurd (cc is)

-- nobody waits for it
pub prefix_gone : (old mid new : PortState) (bytes rest : List ℕ) → (rest ≡ [] → ⊥) → SentPrefix old mid bytes rest → Sends mid new Gone rest
    → SentWhole old new bytes true
prefix_gone old mid new bytes rest some one two =
    let is : take two.count rest ≡ rest = take_all two.count rest (omega (arith, two.counts)) in
    let place = two.gone in
    record {
      some = λ none. absurd (some (empty_behind one.part rest (sym one.parts ∙ none)));
      sent = subst (Appends old.sent new.sent) (sym one.parts)
          (appends_more old.sent mid.sent new.sent one.part rest one.sent (subst (Appends mid.sent new.sent) is two.sent));
      failures = two.failures ∙ omega (arith, one.failures);
      gone = (place.0, place.1 ∙ ap (λ (g : List ℕ). g ++ (place.0 ∷ [])) one.gone, place.2);
      quiet = quiet_more old mid new one.quiet two.quiet;
    }

-- all of it was taken
pub prefix_whole : (old new : PortState) (bytes rest : List ℕ) → rest ≡ [] → SentPrefix old new bytes rest → SentWhole old new bytes false
prefix_whole old new bytes rest none one = record {
  some = λ _. refl;
  sent = subst (Appends old.sent new.sent) (sym (one.parts ∙ ap (λ r. one.part ++ r) none ∙ append-nil one.part)) one.sent;
  failures = one.failures;
  gone = one.gone;
  quiet = one.quiet;
}

-- the port failed
abbrev pub prefix_failed : (old mid new : PortState) (bytes rest : List ℕ) (result : Sent) → mid.failures < new.failures → new.gone ≡ mid.gone
    → SentPrefix old mid bytes rest → Sends mid new result rest
    → SentPart old new bytes
prefix_failed old mid new bytes rest result more same one two = record {
  part = one.part ++ take two.count rest;
  rest = drop two.count rest;
  parts = one.parts ∙ ap (λ r. one.part ++ r) (sym (take-append-drop two.count rest)) ∙ sym (append_assoc one.part (take two.count rest) (drop two.count rest));
  sent = appends_more old.sent mid.sent new.sent one.part (take two.count rest) one.sent two.sent;
  failures = omega (arith, more, one.failures);
  gone = same ∙ one.gone;
  quiet = quiet_more old mid new one.quiet two.quiet;
}

pub took_nothing : (n : ℕ) (rest : List ℕ) (old new : ℕ) → n ≡ 0 → (rest ≡ [] → ⊥) → new ≡ old + (if n == 0 then (if length rest == 0 then 0 else 1) else 0)
    → old < new
took_nothing n [] old new none some is = absurd (some refl)
took_nothing n (x ∷ rest) old new none some is = grind arith
