-- The clocks keep the law of what they gave (defined by this project).
use Rattle.std.proofs.Common.{◌≡◌, List, [], ◌∷◌, ◌++◌, refl, sym, ap, subst, ◌∙◌}
use Rattle.std.specs.List.{AllByRecursion}
use Rattle.fuse_wire.specs.declared.moment.Moment.{Moment}
use Rattle.fuse_session.specs.declared.clock.Fixed.{Fixed}
use Rattle.fuse_session.specs.declared.clock.System.{System}
use Rattle.fuse_session.specs.Clock.{IsLog, GaveFixed, GaveSystem, last_of}

each_more : (m n : Moment) (xs ys : List Moment) → n ≡ m → AllByRecursion (λ t. t ≡ m) xs → AllByRecursion (λ t. t ≡ n) ys
    → AllByRecursion (λ t. t ≡ m) (xs ++ ys)
each_more m n [] ys same each more = subst (λ x. AllByRecursion (λ t. t ≡ x) ys) same more
each_more m n (x ∷ xs) ys same each more = (each.0, each_more m n xs ys same each.1 more)

pub fixed_logged : IsLog GaveFixed
fixed_logged = record {
  none = λ c. record { still = refl; each = tt };
  onward = λ a b c xs ys one two. record {
    still = two.still ∙ one.still;
    each =
        each_more a.0 b.0 xs ys (ap (λ (f : Fixed). f.0) one.still) one.each two.each;
  };
}

last_more : (m : Moment) (xs ys : List Moment) → last_of m (xs ++ ys) ≡ last_of (last_of m xs) ys
last_more m [] ys = refl
last_more m (x ∷ xs) ys = last_more x xs ys

pub system_logged : {T : Type 0} → IsLog (λ (a b : System T). GaveSystem a b)
system_logged = record {
  none = λ c. record { last = refl; runtime = refl };
  onward = λ a b c xs ys one two. record {
    last = two.last ∙ ap (λ m. last_of m ys) one.last ∙ sym (last_more a.last xs ys);
    runtime = two.runtime ∙ one.runtime;
  };
}
