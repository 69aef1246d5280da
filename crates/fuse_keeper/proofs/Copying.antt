-- How a map of records is copied, one entry after another.
use Rattle.std.proofs.Common.{◌≡◌, ℕ, suc, Bool, true, false, cond, nat_eq, List, ◌∷◌, All, Option, Some, None, refl, sym, ap, ◌∙◌, arith}
use Rattle.std.specs.Map.{lookup}
use Rattle.fuse_answer.specs.Said.{Said}
use Rattle.fuse_keeper.specs.Stands.{Records}

-- of these entries each is one of the records
abbrev pub AreAmong : Records → List (ℕ × Said) → Type 0
AreAmong records es = All (λ e. records e.0 ≡ Some e.1) es

pub among_rest : (records : Records) (e : ℕ × Said) (es : List (ℕ × Said)) → AreAmong records (e ∷ es) → AreAmong records es
among_rest records e es among = λ k d lt. among (suc k) d (omega (arith, lt))

pub among_first : (records : Records) (e : ℕ × Said) (es : List (ℕ × Said)) → AreAmong records (e ∷ es) → records e.0 ≡ Some e.1
among_first records e es among = among 0 e (omega arith)

-- each record that isn't left is in the copy
abbrev pub AreCopied : Records → List (ℕ × Said) → Records → Type 0
AreCopied records left copy = (i : ℕ) → lookup (nat_eq i) left ≡ None → copy i ≡ records i

same_key : (k i : ℕ) → nat_eq k i ≡ true → k ≡ i
same_key k i same = grind arith

turned : (k i : ℕ) → nat_eq i k ≡ nat_eq k i
turned k i = grind arith

copied_by : (b : Bool) (here old new rest : Option Said) (a : Said) → new ≡ cond b (Some a) old → (b ≡ true → here ≡ Some a)
    → (cond b (Some a) rest ≡ None → old ≡ here) → rest ≡ None → new ≡ here
copied_by true here old new rest a is found so none = is ∙ sym (found refl)
copied_by false here old new rest a is found so none = is ∙ so none

-- one entry more
pub one_copied : (records : Records) (e : ℕ × Said) (left : List (ℕ × Said)) (old new : Records) → AreAmong records (e ∷ left)
    → AreCopied records (e ∷ left) old
    → ((i : ℕ) → new i ≡ cond (nat_eq e.0 i) (Some e.1) (old i)) → AreCopied records left new
one_copied records e left old new among so are i none =
    copied_by (nat_eq e.0 i) (records i) (old i) (new i) (lookup (nat_eq i) left) e.1 (are i)
    (λ same. ap records (sym (same_key e.0 i same)) ∙ among_first records e left among)
    (λ absent. so i (ap (λ b. cond b (Some e.1) (lookup (nat_eq i) left)) (turned e.0 i) ∙ absent))
    none
