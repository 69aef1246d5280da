-- Sessions in which nothing is kept: the keeper only looks.
use Rattle.std.proofs.Common.{◌≡◌, ℕ, List, [], ◌∷◌, ◌++◌, refl, sym, ◌∙◌}
use Rattle.fuse_request.specs.Opcodes.{Service}
use Rattle.fuse_keeper.specs.Lots.{Lots, SameLots}
use Rattle.fuse_keeper.specs.Model.{Model}
use Rattle.fuse_keeper.specs.KeeperState.{KeeperState}
use Rattle.fuse_session.specs.Processed.{Timed, kept_in}
use Rattle.fuse_session.specs.Serving.{OnlySaw}
use Rattle.fuse_session.proofs.Outs.{kept_in-append}

none_left : {A : Type 0} (xs ys : List A) → xs ++ ys ≡ [] → xs ≡ []
none_left [] ys is = refl
none_left (x ∷ xs) ys is = absurd (cc is)

none_right : {A : Type 0} (xs ys : List A) → xs ++ ys ≡ [] → ys ≡ []
none_right [] ys is = is
none_right (x ∷ xs) ys is = absurd (cc is)

-- none of two rows of messages is kept
pub none_both : (V : Service) (xs ys : List Timed) → kept_in V (xs ++ ys) ≡ [] → (kept_in V xs ≡ []) × (kept_in V ys ≡ [])
none_both V xs ys none =
    let is = sym (kept_in-append V xs ys) ∙ none in
    (none_left (kept_in V xs) (kept_in V ys) is, none_right (kept_in V xs) (kept_in V ys) is)

lots_then : (a b c : Lots) → SameLots a b → SameLots b c → SameLots a c
lots_then a b c one two = record {
  numbers = two.numbers ∙ one.numbers;
  current = two.current ∙ one.current;
  under = λ i. two.under i ∙ one.under i;
}

-- nothing was done
pub looked_none : (M : Model) → (k : KeeperState M) (Intact : Type 0) → OnlySaw k k Intact
looked_none M k Intact = record {
  same = λ _ rows records held. held;
  lots = λ _ rows records held. record { numbers = refl; current = refl; under = λ i. refl };
  whole = λ _ rows records held is. is;
  crash = λ _ x r rows records held left. left;
}

-- one after the other
pub looked_then : (M : Model) → (a b c : KeeperState M) (Intact : Type 0) → (Intact → c.is_honest) → (c.is_honest → b.is_honest)
    → OnlySaw a b b.is_honest → OnlySaw b c Intact → OnlySaw a c Intact
looked_then M a b c Intact honest too one two = record {
  same = λ is rows records held. two.same is rows records (one.same (too (honest is)) rows records held);
  lots = λ is rows records held. lots_then a.lots b.lots c.lots (one.lots (too (honest is)) rows records held)
      (two.lots is rows records (one.same (too (honest is)) rows records held));
  whole = λ is rows records held w. two.whole is rows records (one.same (too is) rows records held) (one.whole (too is) rows records held w);
  crash = λ is x r rows records held left. one.crash (too is) x r rows records held
      (two.crash is x r rows records (one.same (too is) rows records held) left);
}

-- where less is known
pub looked_if : (M : Model) → (a b : KeeperState M) (Intact : Type 0) → (Intact → b.is_honest) → OnlySaw a b b.is_honest → OnlySaw a b Intact
looked_if M a b Intact honest one = record {
  same = λ is. one.same (honest is);
  lots = λ is. one.lots (honest is);
  whole = one.whole;
  crash = one.crash;
}
