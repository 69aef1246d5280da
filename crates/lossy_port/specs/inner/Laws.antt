-- The laws of a port that loses answers (defined by this project).
use Rattle.std.specs.Prelude.{◌≡◌, ℕ, List, [], ◌∷◌, ◌++◌, refl}
use Rattle.std.proofs.Common.{sym, ap, subst, ◌∙◌}
use Rattle.std.proofs.lemmas.List.{append_assoc, append-nil}
use Rattle.std.proofs.lemmas.Grind.{flat_map-append}
use Rattle.fuse_request.specs.Stream.{joined}
use Rattle.fuse_session.specs.inner.Stepping.{steps_more}
use Rattle.fuse_session.specs.Transcript.{PortEvent, IsTranscript, Tells}
use Rattle.lossy_port.specs.declared.line.Line.{Line}
use Rattle.lossy_port.specs.Losing.{through_of, lost_then, through, lost_after, Delivers}
use Rattle.lossy_port.specs.Lossy.{lossy_told, taken_with, taken_in, Delivered}
use Rattle.lossy_port.specs.inner.OneAnswer.{Stays}

pub taken_more : (xs ys : List PortEvent) → taken_in (xs ++ ys) ≡ taken_in xs ++ taken_in ys
taken_more [] ys = refl
taken_more (x ∷ xs) ys = ap (λ (l : List (List ℕ)). taken_with x ++ l) (taken_more xs ys) ∙ sym (append_assoc (taken_with x) (taken_in xs) (taken_in ys))

pub through_more : (every left : ℕ) (xs ys : List (List ℕ))
    → through every left (xs ++ ys) ≡ through every left xs ++ through every (lost_after every left xs) ys
through_more every left [] ys = refl
through_more every left (x ∷ xs) ys = ap (λ bytes. through_of left x ++ bytes) (through_more every (lost_then every left) xs ys)
    ∙ sym (append_assoc (through_of left x) (through every (lost_then every left) xs) (through every (lost_after every (lost_then every left) xs) ys))

pub lost_more : (every left : ℕ) (xs ys : List (List ℕ)) → lost_after every left (xs ++ ys) ≡ lost_after every (lost_after every left xs) ys
lost_more every left [] ys = refl
lost_more every left (x ∷ xs) ys = lost_more every (lost_then every left) xs ys

pub delivers_more : (a b c : Line) (xs ys : List (List ℕ)) → Delivers a b xs → Delivers b c ys → Delivers a c (xs ++ ys)
delivers_more a b c xs ys first second = record {
  sent = second.sent ∙ ap (λ bytes. bytes ++ joined ys) first.sent ∙ append_assoc a.sent.items (joined xs) (joined ys)
      ∙ ap (λ bytes. a.sent.items ++ bytes) (sym (flat_map-append (λ m. m) xs ys));
  delivered = second.delivered ∙ ap (λ bytes. bytes ++ through b.every b.left ys) first.delivered
      ∙ ap (λ e. (a.delivered.items ++ through a.every a.left xs) ++ through e b.left ys) first.every
      ∙ ap (λ l. (a.delivered.items ++ through a.every a.left xs) ++ through a.every l ys) first.left
      ∙ append_assoc a.delivered.items (through a.every a.left xs) (through a.every (lost_after a.every a.left xs) ys)
      ∙ ap (λ bytes. a.delivered.items ++ bytes) (sym (through_more a.every a.left xs ys));
  every = second.every ∙ first.every;
  left = second.left ∙ ap (λ e. lost_after e b.left ys) first.every ∙ ap (λ l. lost_after a.every l ys) first.left
      ∙ sym (lost_more a.every a.left xs ys);
}

pub delivers_none : (a b : Line) → Stays a b → Delivers a b []
delivers_none a b stays = record {
  sent = stays.sent ∙ sym (append-nil a.sent.items);
  delivered = stays.delivered ∙ sym (append-nil a.delivered.items);
  every = stays.every;
  left = stays.left;
}

pub delivered_path : IsTranscript Delivered
delivered_path = record {
  none = λ p. record { steps = refl; delivers = delivers_none p.line p.line (record { sent = refl; delivered = refl; every = refl; left = refl }) };
  onward = λ a b c xs ys one two. record {
    steps = steps_more (lossy_told a) (lossy_told b) (lossy_told c) xs ys one.steps two.steps;
    delivers = subst (Delivers a.line c.line) (sym (taken_more xs ys))
        (delivers_more a.line b.line c.line (taken_in xs) (taken_in ys) one.delivers two.delivers);
  };
}

pub delivered_tells : Tells lossy_told Delivered
delivered_tells a b events one = one.steps
