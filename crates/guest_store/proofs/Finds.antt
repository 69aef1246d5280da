-- What is found under an id, as records come and go.
use Rattle.std.proofs.Common.{◌≡◌, ℕ, ◌==◌, List, [], ◌∷◌, Bool, true, false, cond, not, Option, Some, None, option_map, Less, Equal, Greater, ◌||◌}
use Rattle.std.proofs.Common.{refl, sym, ap, arith, ◌∙◌}
use Rattle.std.specs.Ordering.{is_eq, nat_cmp, match_ordering}
use Rattle.std.specs.declared.cmp.Ordering.{Ordering}
use Rattle.std.proofs.lemmas.Bool.Decides.{nat_tests}
use Rattle.fuse_keeper.specs.History.{is_in}
use Rattle.fuse_store_tables.specs.Content.{Kept, kept_key, put_by, without_by, has_by, at_by}
use Rattle.fuse_keeper.specs.Model.{Model}
use Rattle.guest_store.specs.Holding.{Holding}
use Rattle.guest_store.specs.Group.{without_record, without_settled}

-- ---- numbers

same_test : (a b : ℕ) → is_eq (nat_cmp a b) ≡ (a == b)
same_test a b = grind (arith, nat_tests)

clash_less : (a b i : ℕ) → nat_cmp a b ≡ Less → is_eq (nat_cmp a i) ≡ true → (b == i) ≡ true → ⊥
clash_less a b i less here there = grind (arith, nat_tests)

clash_apart : (a b i : ℕ) → is_eq (nat_cmp a b) ≡ false → is_eq (nat_cmp a i) ≡ true → (b == i) ≡ true → ⊥
clash_apart a b i apart here there = grind (arith, nat_tests)

off_equal : (a b i : ℕ) → nat_cmp a b ≡ Equal → (b == i) ≡ false → is_eq (nat_cmp a i) ≡ false
off_equal a b i same off = grind (arith, nat_tests)

off_same : (a b i : ℕ) → is_eq (nat_cmp a b) ≡ true → (b == i) ≡ false → is_eq (nat_cmp a i) ≡ false
off_same a b i same off = grind (arith, nat_tests)

-- ---- choices

module _ {X : Type 0} where
  swap : (a b : Bool) (p q r : X) → (a ≡ true → b ≡ true → ⊥) → cond a p (cond b q r) ≡ cond b q (cond a p r)
  swap true true p q r clash = absurd (clash refl refl)
  swap true false p q r clash = refl
  swap false true p q r clash = refl
  swap false false p q r clash = refl

  pub pick : (b : Bool) (p q r : X) → (b ≡ false → q ≡ r) → cond b p q ≡ cond b p r
  pick true p q r same = refl
  pick false p q r same = same refl

  both : (b : Bool) (p : X) → p ≡ cond b p p
  both true p = refl
  both false p = refl

  nest : (a b : Bool) (p r : X) → cond b p (cond a p r) ≡ cond (a || b) p r
  nest true b p r = sym (both b p)
  nest false b p r = refl

-- ---- the record with an id

module _ {X : Type 0} (f : Kept → X) where
  abbrev pub at_id : List Kept → ℕ → Option X
  at_id ks i = option_map f (at_by kept_key i ks)

  first : (b : Bool) (k : Kept) (o : Option Kept) → option_map f (cond b (Some k) o) ≡ cond b (Some (f k)) (option_map f o)
  first true k o = refl
  first false k o = refl

  skip : (i : ℕ) (x : Kept) (xs : List Kept) → has_by kept_key i x ≡ false → at_id xs i ≡ at_id (x ∷ xs) i
  skip i x xs off = ap (λ b. option_map f (cond b (Some x) (at_by kept_key i xs))) (sym off)

  pub found_put : (k : Kept) (ks : List Kept) (i : ℕ) → at_id (put_by kept_key k ks) i ≡ cond (k.id == i) (Some (f k)) (at_id ks i)
  found_put k [] i = first (has_by kept_key i k) k None ∙ ap (λ b. cond b (Some (f k)) None) (same_test k.id i)
  found_put k (x ∷ xs) i = by (nat_cmp x.id k.id) refl (found_put k xs i)
    where
      by : (o : Ordering) → nat_cmp x.id k.id ≡ o → at_id (put_by kept_key k xs) i ≡ cond (k.id == i) (Some (f k)) (at_id xs i)
          → at_id (match_ordering o (x ∷ put_by kept_key k xs) (k ∷ xs) (k ∷ x ∷ xs)) i ≡ cond (k.id == i) (Some (f k)) (at_id (x ∷ xs) i)
      by Less is more =
          first (has_by kept_key i x) x (at_by kept_key i (put_by kept_key k xs)) ∙ ap (λ r. cond (has_by kept_key i x) (Some (f x)) r) more
          ∙ swap (has_by kept_key i x) (k.id == i) (Some (f x)) (Some (f k)) (at_id xs i) (λ here there. clash_less x.id k.id i is here there)
          ∙ ap (λ r. cond (k.id == i) (Some (f k)) r) (sym (first (has_by kept_key i x) x (at_by kept_key i xs)))
      by Equal is more =
          first (has_by kept_key i k) k (at_by kept_key i xs) ∙ ap (λ b. cond b (Some (f k)) (at_id xs i)) (same_test k.id i)
          ∙ pick (k.id == i) (Some (f k)) (at_id xs i) (at_id (x ∷ xs) i) (λ off. skip i x xs (off_equal x.id k.id i is off))
      by Greater is more =
          first (has_by kept_key i k) k (at_by kept_key i (x ∷ xs)) ∙ ap (λ b. cond b (Some (f k)) (at_id (x ∷ xs) i)) (same_test k.id i)

  pub found_without : (id : ℕ) (ks : List Kept) (i : ℕ) → at_id (without_by kept_key id ks) i ≡ cond (id == i) None (at_id ks i)
  found_without id [] i = both (id == i) None
  found_without id (x ∷ xs) i = by (has_by kept_key id x) refl (found_without id xs i)
    where
      by : (b : Bool) → has_by kept_key id x ≡ b → at_id (without_by kept_key id xs) i ≡ cond (id == i) None (at_id xs i)
          → at_id (cond (not b) (x ∷ without_by kept_key id xs) (without_by kept_key id xs)) i ≡ cond (id == i) None (at_id (x ∷ xs) i)
      by true is more = more ∙ pick (id == i) None (at_id xs i) (at_id (x ∷ xs) i) (λ off. skip i x xs (off_same x.id id i is off))
      by false is more =
          first (has_by kept_key i x) x (at_by kept_key i (without_by kept_key id xs)) ∙ ap (λ r. cond (has_by kept_key i x) (Some (f x)) r) more
          ∙ swap (has_by kept_key i x) (id == i) (Some (f x)) None (at_id xs i) (λ here there. clash_apart x.id id i is here there)
          ∙ ap (λ r. cond (id == i) None r) (sym (first (has_by kept_key i x) x (at_by kept_key i xs)))

  -- without the settled ones
  pub found_settled : {M : Model} (ids : List ℕ) (y : Holding M) (i : ℕ) → at_id (without_settled ids y).kept i ≡ cond (is_in ids i) None (at_id y.kept i)
  found_settled [] y i = refl
  found_settled (id ∷ ids) y i =
      found_settled ids (without_record id y) i ∙ ap (λ r. cond (is_in ids i) None r) (found_without id y.kept i)
      ∙ nest (id == i) (is_in ids i) None (at_id y.kept i)
