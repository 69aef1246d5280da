-- What is asked, one after another.
use Rattle.std.proofs.Common.{◌≡◌, ◌≤◌, ◌<◌, ◌++◌, ℕ, List, [], ◌∷◌, Ok, inl, refl, sym, ap, subst, arith, ◌∙◌}
use Rattle.std.proofs.lemmas.List.{append_assoc}
use Rattle.guest_frames.specs.Frames.{AnswerContent}
use Rattle.fuse_guest.specs.Pairs.{Pairs}
use Rattle.fuse_guest.specs.Talk.{Ending}
use Rattle.guest_talk.specs.Asking.{Ask, EndsBy}
use Rattle.guest_talk.specs.GivingUp.{GivesUp}
use Rattle.guest_talk.specs.TalkState.{TalkState}
use Rattle.guest_store.specs.Asks.{Asking, AreAsked, AreAskedUntil, IsTalkedOf, StopsAt}

pub no_more : {X : Type 0} (xs : List X) → xs ≡ xs ++ []
no_more [] = refl
no_more (x ∷ xs) = ap (λ more. x ∷ more) (no_more xs)

-- ---- requests that were asked

pub asked_then : (xs ys : List Asking) (a b d : TalkState) → AreAsked xs a b → AreAsked ys b d → AreAsked (xs ++ ys) a d
asked_then [] ys a b d p q = subst (λ (t : TalkState). AreAsked ys t d) p q
asked_then (x ∷ xs) ys a b d p q = (p.0, p.1, asked_then xs ys p.0 b d p.2 q)

-- ---- until a call failed

stopped : (xs : List Asking) (a b : TalkState) → b ≡ a → StopsAt xs a b
stopped [] a b is = is
stopped (x ∷ xs) a b is = inl is

stops_more : (xs more : List Asking) (a b : TalkState) → StopsAt xs a b → StopsAt (xs ++ more) a b
stops_more [] more a b p = stopped more a b p
stops_more (x ∷ xs) more a b p = p

-- nothing was asked
pub still : (xs : List Asking) (t : TalkState) → AreAskedUntil xs t t
still xs t = record { before = []; later = xs; split = refl; mid = t; asked = refl; stops = stopped xs t t refl }

-- all were
pub asked_all : (xs : List Asking) (a b : TalkState) → AreAsked xs a b → AreAskedUntil xs a b
asked_all xs a b p = record { before = xs; later = []; split = no_more xs; mid = b; asked = p; stops = refl }

-- the first ones of others
abbrev pub AreFirst : List Asking → List Asking → Type 0
AreFirst xs ys = (more : List Asking) × (ys ≡ xs ++ more)

pub first_all : (xs ys : List Asking) → xs ≡ ys → AreFirst xs ys
first_all xs ys is = ([], sym is ∙ no_more xs)

pub until_then : (xs ys zs : List Asking) (a b d : TalkState) → AreAsked xs a b → AreAskedUntil ys b d → AreFirst (xs ++ ys) zs → AreAskedUntil zs a d
until_then xs ys zs a b d p q first = record {
  before = xs ++ q.before;
  later = q.later ++ first.0;
  split = first.1 ∙ ap (λ l. (xs ++ l) ++ first.0) q.split ∙ ap (λ l. l ++ first.0) (sym (append_assoc xs q.before q.later))
      ∙ append_assoc (xs ++ q.before) q.later first.0;
  mid = q.mid;
  asked = asked_then xs q.before a b q.mid p q.asked;
  stops = stops_more q.later first.0 q.mid d q.stops;
}

-- ---- one of them

-- over pairs that are shown
pub ends_over : (old new : TalkState) (ask : Ask) (shown : Pairs → Type 0) (end : Ending) (ps : Pairs) → shown ps → EndsBy old new ask shown end
    → EndsBy old new ask (λ qs. qs ≡ ps) end
ends_over old new ask shown end ps at p = record {
  c = p.c;
  asked = p.asked;
  now = p.now;
  whole = p.whole;
  told = λ qs is. p.told qs (subst shown (sym is) at);
  completed = p.completed;
  ends = p.ends;
  noted = p.noted;
  passed = p.passed;
  reply = λ G qs ready agrees is. p.reply G qs ready agrees (subst shown (sym is) at);
}

-- a request that ended fewer than three guests was asked
pub was_asked : (old new : TalkState) (ask : Ask) (shown : Pairs → Type 0) (answer : AnswerContent) (n : ℕ) (ps : Pairs) → ask.count ≡ n → ask.count < 3 → shown ps
    → EndsBy old new ask shown (Ok answer) → IsTalkedOf old new (record { ask = record { asked = ask.asked; now = ask.now; count = n }; pairs = ps })
was_asked old new ask shown answer n ps same low at p =
    subst (λ (k : ℕ). IsTalkedOf old new (record { ask = record { asked = ask.asked; now = ask.now; count = k }; pairs = ps })) same (record {
      asked = λ below. record { answer = answer; ends = ends_over old new ask shown (Ok answer) ps at p };
      given_up = λ high. absurd (omega (arith, low, high));
    })

-- one that ended three was given up
pub was_given_up : (old new : TalkState) (ask : Ask) (n : ℕ) (ps : Pairs) → ask.count ≡ n → 3 ≤ ask.count → GivesUp old new ask
    → (new.coming ≡ old.coming) × (new.sent ≡ old.sent)
    → IsTalkedOf old new (record { ask = record { asked = ask.asked; now = ask.now; count = n }; pairs = ps })
was_given_up old new ask n ps same high p unmoved =
    subst (λ (k : ℕ). IsTalkedOf old new (record { ask = record { asked = ask.asked; now = ask.now; count = k }; pairs = ps })) same (record {
      asked = λ low. absurd (omega (arith, low, high));
      given_up = λ above. record { gives = p; unread = unmoved.0; unwritten = unmoved.1 };
    })
