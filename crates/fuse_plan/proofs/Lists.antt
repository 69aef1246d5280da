-- Lists that grow at their end, are changed in place, or lose elements.
use Rattle.std.proofs.Common.{◌≡◌, ℕ, suc, Bool, true, false, cond, ◌&&◌, ◌||◌, ◌≤◌, arith, List, [], ◌∷◌, ◌++◌, length, map, Option, Some, None, refl, sym, ap, subst, ◌∙◌, ◌⊎◌, inl, inr}
use Rattle.std.specs.Prelude.{find, filter}
use Rattle.std.specs.List.{AllByRecursion, list_any}
use Rattle.fuse_tree.specs.State.{Apart}

pub all_more : {A : Type 0} (P Q : A → Type 0) (xs : List A) → ((x : A) → P x → Q x) → AllByRecursion P xs → AllByRecursion Q xs
all_more P Q [] more all = tt
all_more P Q (x ∷ xs) more all = (more x all.0, all_more P Q xs more all.1)

pub all_both : {A : Type 0} (P Q R : A → Type 0) (xs : List A) → ((x : A) → P x → Q x → R x) → AllByRecursion P xs → AllByRecursion Q xs → AllByRecursion R xs
all_both P Q R [] more p q = tt
all_both P Q R (x ∷ xs) more p q = (more x p.0 q.0, all_both P Q R xs more p.1 q.1)

pub all_always : {A : Type 0} (P : A → Type 0) (xs : List A) → ((x : A) → P x) → AllByRecursion P xs
all_always P [] always = tt
all_always P (x ∷ xs) always = (always x, all_always P xs always)

pub all_grown : {A : Type 0} (P : A → Type 0) (xs : List A) (y : A) → AllByRecursion P xs → P y → AllByRecursion P (xs ++ y ∷ [])
all_grown P [] y all last = (last, tt)
all_grown P (x ∷ xs) y all last = (all.0, all_grown P xs y all.1 last)

pub all_mapped : {A : Type 0} (P : A → Type 0) (f : A → A) (xs : List A) → AllByRecursion (λ x. P (f x)) xs → AllByRecursion P (map f xs)
all_mapped P f [] all = tt
all_mapped P f (x ∷ xs) all = (all.0, all_mapped P f xs all.1)

pub all_filtered : {A : Type 0} (P : A → Type 0) (test : A → Bool) (xs : List A) → AllByRecursion P xs
    → AllByRecursion (λ x. P x × (test x ≡ true)) (filter test xs)
all_filtered P test [] all = tt
all_filtered P test (x ∷ xs) all =
    let rest = all_filtered P test xs all.1 in
    let step : (b : Bool) → test x ≡ b → AllByRecursion (λ y. P y × (test y ≡ true)) (cond b (x ∷ filter test xs) (filter test xs)) =
    elim [ true ↦ λ is. ((all.0, is), rest) | false ↦ λ is. rest ] in
    step (test x) refl

pub apart_grown : {A : Type 0} (R : A → A → Type 0) (xs : List A) (y : A) → Apart R xs → AllByRecursion (λ x. R x y) xs → Apart R (xs ++ y ∷ [])
apart_grown R [] y apart all = (tt, tt)
apart_grown R (x ∷ xs) y apart all = (all_grown (R x) xs y apart.0 all.0, apart_grown R xs y apart.1 all.1)

pub apart_mapped : {A : Type 0} (R : A → A → Type 0) (f : A → A) (xs : List A) → ((x y : A) → R x y → R (f x) (f y)) → Apart R xs → Apart R (map f xs)
apart_mapped R f [] same apart = tt
apart_mapped R f (x ∷ xs) same apart =
    (all_mapped (R (f x)) f xs (all_more (R x) (λ y. R (f x) (f y)) xs (λ y r. same x y r) apart.0), apart_mapped R f xs same apart.1)

pub any_mapped : {A : Type 0} (test : A → Bool) (f : A → A) (xs : List A) → ((x : A) → test (f x) ≡ test x) → list_any test (map f xs) ≡ list_any test xs
any_mapped test f [] same = refl
any_mapped test f (x ∷ xs) same = rw (same x, any_mapped test f xs same) refl

pub or_true : (b : Bool) → (b || true) ≡ true
or_true true = refl
or_true false = refl

pub any_grown : {A : Type 0} (test : A → Bool) (xs : List A) (y : A) → list_any test xs ≡ true → list_any test (xs ++ y ∷ []) ≡ true
any_grown test [] y is = absurd cc
any_grown test (x ∷ xs) y is =
    let step : (b : Bool) → (b || list_any test xs) ≡ true → (b || list_any test (xs ++ y ∷ [])) ≡ true =
    elim [ true ↦ λ e. refl | false ↦ λ e. any_grown test xs y e ] in
    step (test x) is

pub any_last : {A : Type 0} (test : A → Bool) (xs : List A) (y : A) → test y ≡ true → list_any test (xs ++ y ∷ []) ≡ true
any_last test [] y is = rw is refl
any_last test (x ∷ xs) y is = rw (any_last test xs y is) (or_true (test x))

pub cond_found : {A : Type 0} (b : Bool) (x d : A) (r : Option A) → cond b (Some x) r ≡ Some d → ((b ≡ true) × (x ≡ d)) ⊎ ((b ≡ false) × (r ≡ Some d))
cond_found true x d r e = inl (refl, cc)
cond_found false x d r e = inr (refl, e)

pub any_found : {A : Type 0} (test : A → Bool) (xs : List A) (d : A) → find test xs ≡ Some d → list_any test xs ≡ true
any_found test [] d e = absurd cc
any_found test (x ∷ xs) d e =
    elim (cond_found (test x) x d (find test xs) e) [
      | inl h ↦ rw h.0 refl
      | inr h ↦ rw h.0 (any_found test xs d h.1)
    ]

cond_none : {A : Type 0} (b : Bool) (x : A) (r : Option A) → cond b (Some x) r ≡ None → (b ≡ false) × (r ≡ None)
cond_none true x r e = absurd cc
cond_none false x r e = (refl, e)

pub none_found : {A : Type 0} (test : A → Bool) (xs : List A) → find test xs ≡ None → AllByRecursion (λ x. test x ≡ false) xs
none_found test [] e = tt
none_found test (x ∷ xs) e = let h = cond_none (test x) x (find test xs) e in (h.0, none_found test xs h.1)

-- what holds of each element holds of the one that is found, and the test does
pub found : {A : Type 0} (P : A → Type 0) (test : A → Bool) (xs : List A) (d : A) → AllByRecursion P xs → find test xs ≡ Some d → P d × (test d ≡ true)
found P test [] d all e = absurd cc
found P test (x ∷ xs) d all e =
    elim (cond_found (test x) x d (find test xs) e) [
      | inl h ↦ subst (λ y. P y × (test y ≡ true)) h.1 (all.0, h.0)
      | inr h ↦ found P test xs d all.1 h.1
    ]

pub length_kept : {A : Type 0} (b : Bool) (n : A) (ns : List A) → length (cond b (n ∷ ns) ns) ≡ cond b (suc (length ns)) (length ns)
length_kept true n ns = refl
length_kept false n ns = refl

-- as many are kept as were, where each is kept as it was
pub count_mapped : {A : Type 0} (p q : A → Bool) (f : A → A) (xs : List A) → AllByRecursion (λ x. p (f x) ≡ q x) xs
    → length (filter p (map f xs)) ≡ length (filter q xs)
count_mapped p q f [] all = refl
count_mapped p q f (x ∷ xs) all =
    length_kept (p (f x)) (f x) (filter p (map f xs))
    ∙ ap (λ (b : Bool). cond b (suc (length (filter p (map f xs)))) (length (filter p (map f xs)))) all.0
    ∙ ap (λ (m : ℕ). cond (q x) (suc m) m) (count_mapped p q f xs all.1)
    ∙ sym (length_kept (q x) x (filter q xs))

pub count_none : {A : Type 0} (p : A → Bool) (xs : List A) → AllByRecursion (λ x. p x ≡ false) xs → length (filter p xs) ≡ 0
count_none p [] all = refl
count_none p (x ∷ xs) all = rw all.0 (count_none p xs all.1)

pub count_one : {A : Type 0} (p : A → Bool) (x : A) → length (filter p (x ∷ [])) ≡ cond (p x) 1 0
count_one p x = length_kept (p x) x []

-- what follows from the element that passes the test
pub any_gives : {A : Type 0} (P : A → Type 0) (test : A → Bool) (C : Type 0) (xs : List A) → AllByRecursion P xs → list_any test xs ≡ true
    → ((x : A) → P x → test x ≡ true → C) → C
any_gives P test C [] all is gives = absurd cc
any_gives P test C (x ∷ xs) all is gives =
    let step : (b : Bool) → test x ≡ b → (b || list_any test xs) ≡ true → C =
    elim [ true ↦ λ here e. gives x all.0 here | false ↦ λ here e. any_gives P test C xs all.1 e gives ] in
    step (test x) refl is

pub and_true : (b c : Bool) → (b && c) ≡ true → (b ≡ true) × (c ≡ true)
and_true true c e = (refl, e)
and_true false c e = absurd cc

pub or_false : (b c : Bool) → (b || c) ≡ false → (b ≡ false) × (c ≡ false)
or_false true c e = absurd cc
or_false false c e = (refl, e)

pub and_false : (b : Bool) → (b && false) ≡ false
and_false true = refl
and_false false = refl

pub all_kept : {A : Type 0} (P : A → Type 0) (test : A → Bool) (xs : List A) → AllByRecursion P xs → AllByRecursion P (filter test xs)
all_kept P test xs all = all_more (λ x. P x × (test x ≡ true)) P (filter test xs) (λ x p. p.0) (all_filtered P test xs all)

pub apart_filtered : {A : Type 0} (R : A → A → Type 0) (test : A → Bool) (xs : List A) → Apart R xs → Apart R (filter test xs)
apart_filtered R test [] apart = tt
apart_filtered R test (x ∷ xs) apart =
    let rest = apart_filtered R test xs apart.1 in
    elim (test x) as (λ b. Apart R (cond b (x ∷ filter test xs) (filter test xs))) [ true ↦ (all_kept (R x) test xs apart.0, rest) | false ↦ rest ]

pub length_filtered : {A : Type 0} (test : A → Bool) (xs : List A) → length (filter test xs) ≤ length xs
length_filtered test [] = omega arith
length_filtered test (x ∷ xs) =
    let rest = length_filtered test xs in
    elim (test x) as (λ b. length (cond b (x ∷ filter test xs) (filter test xs)) ≤ suc (length xs)) [ true ↦ omega arith | false ↦ omega arith ]

-- an element that passes the test is still there where the test keeps it
pub any_kept : {A : Type 0} (test kept : A → Bool) (xs : List A) → ((x : A) → test x ≡ true → kept x ≡ true) → list_any test xs ≡ true
    → list_any test (filter kept xs) ≡ true
any_kept test kept [] keeps is = absurd cc
any_kept test kept (x ∷ xs) keeps is =
    let step : (b d : Bool) → test x ≡ b → kept x ≡ d → (b || list_any test xs) ≡ true → list_any test (cond d (x ∷ filter kept xs) (filter kept xs)) ≡ true =
    elim [
      | true ↦ elim [
        | true ↦ λ here stays e. rw here refl
        | false ↦ λ here goes e. absurd (let stays = keeps x here in cc)
      ]
      | false ↦ elim [
        | true ↦ λ here stays e. rw here (any_kept test kept xs keeps e)
        | false ↦ λ here goes e. any_kept test kept xs keeps e
      ]
    ] in
    step (test x) (kept x) refl refl is
