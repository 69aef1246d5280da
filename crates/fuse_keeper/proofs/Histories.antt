-- How histories grow.
use Rattle.std.proofs.Common.{◌≡◌, ℕ, Bool, true, false, ◌==◌, ◌||◌, ◌⊎◌, inl, inr, if◌then◌else◌, List, [], ◌∷◌, ◌++◌, map, Some, None, refl, ap, subst, ◌∙◌}
use Rattle.std.proofs.Common.{arith}
use Rattle.fuse_answer.specs.Said.{Said, FitsAnswer}
use Rattle.fuse_keeper.specs.Model.{Model, IsSoundModel}
use Rattle.fuse_keeper.specs.History.{Entry, entry_id, History, next_state, answer_to, has, after, said, Distinct, add, grown}

-- a test passes or not
pub tested : (b : Bool) → (b ≡ true) ⊎ (b ≡ false)
tested true = inl refl
tested false = inr refl

pub has-append : (h : History) (e : Entry) (i : ℕ) → has (h ++ e ∷ []) i ≡ (has h i || (entry_id e == i))
unfolding has
has-append [] e i = elim (entry_id e == i) as (λ b. (if b then true else false) ≡ b) [ true ↦ refl | false ↦ refl ]
has-append (x ∷ h) e i =
    elim (entry_id x == i) as (λ b. (if b then true else has (h ++ e ∷ []) i) ≡ ((if b then true else has h i) || (entry_id e == i)))
    [ true ↦ refl | false ↦ has-append h e i ]

pub after-append : (M : Model) → (s : M.State) (h : History) (e : Entry) → after M s (h ++ e ∷ []) ≡ next_state M (after M s h) e
unfolding after
after-append M s [] e = refl
after-append M s (x ∷ h) e = after-append M (next_state M s x) h e

pub said_none : (M : Model) → (s : M.State) (h : History) (i : ℕ) → has h i ≡ false → said M s h i ≡ None
unfolding has said
said_none M s [] i none = refl
said_none M s (x ∷ h) i none =
    elim (entry_id x == i) as (λ b. (if b then true else has h i) ≡ false → (if b then Some (answer_to M s x) else said M (next_state M s x) h i) ≡ None)
    [ true ↦ λ isnt. absurd (cc isnt) | false ↦ said_none M (next_state M s x) h i ] none

-- what was said of an id that is there doesn't change
pub said-append_old : (M : Model) → (s : M.State) (h : History) (e : Entry) (i : ℕ) → has h i ≡ true → said M s (h ++ e ∷ []) i ≡ said M s h i
unfolding has said
said-append_old M s [] e i there = absurd (cc there)
said-append_old M s (x ∷ h) e i there =
    elim (entry_id x == i) as (λ b. (if b then true else has h i) ≡ true → (if b then Some (answer_to M s x) else said M (next_state M s x) (h ++ e ∷ []) i) ≡
    (if b then Some (answer_to M s x) else said M (next_state M s x) h i))
    [ true ↦ λ _. refl | false ↦ said-append_old M (next_state M s x) h e i ] there

pub said-append_new : (M : Model) → (s : M.State) (h : History) (e : Entry) (i : ℕ) → has h i ≡ false
    → said M s (h ++ e ∷ []) i ≡ (if entry_id e == i then Some (answer_to M (after M s h) e) else None)
unfolding has said after
said-append_new M s [] e i none = refl
said-append_new M s (x ∷ h) e i none =
    elim (entry_id x == i) as (λ b. (if b then true else has h i) ≡ false → (if b then Some (answer_to M s x) else said M (next_state M s x) (h ++ e ∷ []) i) ≡
    (if entry_id e == i then Some (answer_to M (after M (next_state M s x) h) e) else None))
    [ true ↦ λ isnt. absurd (cc isnt) | false ↦ said-append_new M (next_state M s x) h e i ] none

other : (b : Bool) (c : Bool) → (if b then true else c) ≡ false → (b ≡ false) × (c ≡ false)
other true c isnt = absurd (cc isnt)
other false c isnt = (refl, isnt)

turned : (m n : ℕ) → (m == n) ≡ false → (n == m) ≡ false
turned m n isnt = grind arith

not_there : (a b : Bool) → a ≡ false → b ≡ false → (a || b) ≡ false
not_there a b p q = rw (p, q)

pub Distinct-append : (h : History) (e : Entry) → Distinct h → has h (entry_id e) ≡ false → Distinct (h ++ e ∷ [])
unfolding Distinct has
Distinct-append [] e each none = (refl, tt)
Distinct-append (x ∷ h) e each none =
    let apart = other (entry_id x == entry_id e) (has h (entry_id e)) none in
    (has-append h e (entry_id x) ∙ not_there _ _ each.0 (turned _ _ apart.0), Distinct-append h e each.1 apart.1)

pub add_old : (h : History) (e : Entry) → has h (entry_id e) ≡ true → add h e ≡ h
unfolding add
add_old h e there = rw there

pub add_new : (h : History) (e : Entry) → has h (entry_id e) ≡ false → add h e ≡ h ++ e ∷ []
unfolding add
add_new h e none = rw none

pub same_id : (n : ℕ) → (n == n) ≡ true
same_id n = grind arith

-- what was added is there
pub has-add : (h : History) (e : Entry) → has (add h e) (entry_id e) ≡ true
has-add h e = elim (tested (has h (entry_id e))) [
  | inl there ↦ rw (add_old h e there) there
  | inr none ↦ rw (add_new h e none, has-append, none, same_id)
]

pub has-add_old : (h : History) (e : Entry) (i : ℕ) → has h i ≡ true → has (add h e) i ≡ true
has-add_old h e i there = elim (tested (has h (entry_id e))) [
  | inl known ↦ rw (add_old h e known) there
  | inr none ↦ rw (add_new h e none, has-append, there)
]

pub said-add : (M : Model) → (s : M.State) (h : History) (e : Entry) (i : ℕ) → has h i ≡ true → said M s (add h e) i ≡ said M s h i
said-add M s h e i there = elim (tested (has h (entry_id e))) [
  | inl known ↦ rw (add_old h e known)
  | inr none ↦ rw (add_new h e none) (said-append_old M s h e i there)
]

pub has-grown : (h : History) (es : List Entry) (i : ℕ) → has h i ≡ true → has (grown h es) i ≡ true
has-grown h [] i there = there
has-grown h (e ∷ es) i there = has-grown (add h e) es i (has-add_old h e i there)

pub said-grown : (M : Model) → (s : M.State) (h : History) (es : List Entry) (i : ℕ) → has h i ≡ true → said M s (grown h es) i ≡ said M s h i
said-grown M s h [] i there = refl
said-grown M s h (e ∷ es) i there = said-grown M s (add h e) es i (has-add_old h e i there) ∙ said-add M s h e i there

Distinct-add : (h : History) (e : Entry) → Distinct h → Distinct (add h e)
Distinct-add h e each = elim (tested (has h (entry_id e))) [
  | inl there ↦ rw (add_old h e there) each
  | inr none ↦ rw (add_new h e none) (Distinct-append h e each none)
]

pub Distinct-grown : (h : History) (es : List Entry) → Distinct h → Distinct (grown h es)
Distinct-grown h [] each = each
Distinct-grown h (e ∷ es) each = Distinct-grown (add h e) es (Distinct-add h e each)

-- what is said is what is in the history
pub found : (M : Model) → (s : M.State) (h : History) (i : ℕ) (a : Said) → said M s h i ≡ Some a → has h i ≡ true
found M s h i a is = elim (tested (has h i)) [ inl there ↦ there | inr none ↦ absurd (cc (said_none M s h i none)) ]

pub isnt_there : (M : Model) → (s : M.State) (h : History) (i : ℕ) → said M s h i ≡ None → has h i ≡ false
unfolding said has
isnt_there M s [] i none = refl
isnt_there M s (x ∷ h) i none =
    elim (entry_id x == i) as (λ b. (if b then Some (answer_to M s x) else said M (next_state M s x) h i) ≡ None → (if b then true else has h i) ≡ false)
    [ true ↦ λ isnt. absurd (cc isnt) | false ↦ isnt_there M (next_state M s x) h i ] none

pub map-append : {A B : Type 0} (f : A → B) (xs ys : List A) → map f (xs ++ ys) ≡ map f xs ++ map f ys
map-append f [] ys = refl
map-append f (x ∷ xs) ys = ap (λ r. f x ∷ r) (map-append f xs ys)

-- an empty history
pub no_history : (M : Model) → (s : M.State) → after M s [] ≡ s
unfolding after
no_history M s = refl

pub nothing_said : (M : Model) → (s : M.State) (i : ℕ) → said M s [] i ≡ None
unfolding said
nothing_said M s i = refl

pub Distinct-none : Distinct []
unfolding Distinct
Distinct-none = tt

pub said_fits : (M : Model) → IsSoundModel M → (s : M.State) (h : History) (i : ℕ) (a : Said) → said M s h i ≡ Some a → FitsAnswer a
unfolding said
said_fits M sound s [] i a is = absurd (cc is)
said_fits M sound s (e ∷ h) i a is =
    elim (entry_id e == i) as (λ b. (if b then Some (answer_to M s e) else said M (next_state M s e) h i) ≡ Some a → FitsAnswer a)
    [ true ↦ λ here. subst FitsAnswer (cc here) (sound.fits s e.asked e.moment) | false ↦ said_fits M sound (next_state M s e) h i a ] is
