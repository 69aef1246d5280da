-- Texts and their parts.
use Rattle.std.proofs.Common.{◌≡◌, ◌<◌, ◌≤◌, ◌+◌, ℕ, zero, suc, List, [], ◌∷◌, ◌++◌, length, take, drop, get_or, refl, sym, ap, subst, ◌∙◌, arith, append_assoc, append-nil}
use Rattle.std.specs.List.{AllByRecursion}
use Rattle.std.proofs.lemmas.List.{take_all, take-append-drop}
use Rattle.fuse_show.specs.Sinks.{IsPartOf}

abbrev nothing : List ℕ
nothing = []

take_nil : (n : ℕ) → take n nothing ≡ []
take_nil zero = refl
take_nil (suc n) = refl

-- one more piece
pub take_sum : (o len : ℕ) (xs : List ℕ) → take o xs ++ take len (drop o xs) ≡ take (o + len) xs
take_sum zero len xs =
    let same : len ≡ 0 + len = omega arith in
    ap (λ n. take n xs) same
take_sum (suc o) len [] = take_nil len ∙ sym (take_nil (suc o + len))
take_sum (suc o) len (x ∷ xs) =
    let same : suc (o + len) ≡ suc o + len = omega arith in
    ap (λ (y : List ℕ). x ∷ y) (take_sum o len xs) ∙ ap (λ n. take n (x ∷ xs)) same

-- a part of a piece
pub piece_part : (xs bytes ys : List ℕ) (o len : ℕ) → bytes ≡ take o xs → IsPartOf ys (take len (drop o xs)) → IsPartOf (bytes ++ ys) xs
piece_part xs bytes ys o len before p =
    let whole : xs ≡ take o xs ++ (take len (drop o xs) ++ drop len (drop o xs)) =
    sym (take-append-drop o xs) ∙ ap (λ (y : List ℕ). take o xs ++ y) (sym (take-append-drop len (drop o xs))) in (
      p.0 ++ drop len (drop o xs),
      whole
          ∙ ap (λ (y : List ℕ). take o xs ++ (y ++ drop len (drop o xs))) p.1
          ∙ ap (λ (y : List ℕ). take o xs ++ y) (append_assoc ys p.0 (drop len (drop o xs)))
          ∙ sym (append_assoc (take o xs) ys (p.0 ++ drop len (drop o xs)))
          ∙ ap (λ (y : List ℕ). (y ++ ys) ++ (p.0 ++ drop len (drop o xs))) (sym before),
    )

pub taken_part : (xs bytes : List ℕ) (o : ℕ) → bytes ≡ take o xs → IsPartOf bytes xs
taken_part xs bytes o same = (drop o xs, sym (take-append-drop o xs) ∙ ap (λ (y : List ℕ). y ++ drop o xs) (sym same))

pub piece_all : (xs : List ℕ) (o : ℕ) → length xs ≤ o → take o xs ≡ xs
piece_all xs o all = take_all o xs all

pub all_at : {A : Type 0} (P : A → Type 0) (xs : List A) (i : ℕ) (x : A) → AllByRecursion P xs → i < length xs → get_or xs i x ≡ x → P x
all_at P [] i x all within is = absurd (omega arith)
all_at P (y ∷ ys) zero x all within is = subst P is all.0
all_at P (y ∷ ys) (suc i) x all within is = all_at P ys i x all.1 (omega arith) is
