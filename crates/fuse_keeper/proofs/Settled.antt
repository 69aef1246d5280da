-- Which ids are settled, and what stands as more of them are.
use Rattle.std.proofs.Common.{◌≡◌, ◌⊎◌, inl, inr, ℕ, true, ◌||◌, ◌==◌, List, ◌++◌, refl, sym, ap, ◌∙◌}
use Rattle.std.proofs.Math.Bool.{or-true}
use Rattle.std.proofs.lemmas.Bool.{or_cases}
use Rattle.std.proofs.lemmas.List.{map-append}
use Rattle.std.proofs.lemmas.List.Folds.{list_any-append}
use Rattle.fuse_keeper.specs.Model.{Model}
use Rattle.fuse_keeper.specs.History.{Entry, entry_id, History, is_in, ids_in, Includes}
use Rattle.fuse_keeper.specs.Stands.{Records, Stands, without}
use Rattle.fuse_keeper.proofs.Standing.{Stands-without, Stands-settled}

-- ---- lists of ids

pub is_in-append : (xs ys : List ℕ) (i : ℕ) → is_in (xs ++ ys) i ≡ (is_in xs i || is_in ys i)
is_in-append xs ys i = list_any-append (λ x. x == i) xs ys

pub includes_left : (xs ys : List ℕ) → Includes (xs ++ ys) xs
includes_left xs ys i there = is_in-append xs ys i ∙ ap (λ b. b || is_in ys i) there

pub includes_right : (xs ys : List ℕ) → Includes (xs ++ ys) ys
includes_right xs ys i there = is_in-append xs ys i ∙ ap (λ b. is_in xs i || b) there ∙ or-true (is_in xs i)

pub in_either : (xs ys : List ℕ) (i : ℕ) → is_in (xs ++ ys) i ≡ true → (is_in xs i ≡ true) ⊎ (is_in ys i ≡ true)
in_either xs ys i there = or_cases (is_in xs i) (is_in ys i) (sym (is_in-append xs ys i) ∙ there)

pub includes_both : (all xs ys : List ℕ) → Includes all xs → Includes all ys → Includes all (xs ++ ys)
includes_both all xs ys one two i there = elim (in_either xs ys i there) [ inl left ↦ one i left | inr right ↦ two i right ]

pub ids-append : (xs ys : List Entry) → ids_in (xs ++ ys) ≡ ids_in xs ++ ids_in ys
ids-append xs ys = map-append entry_id xs ys

-- ---- what stands

-- ids that are handed on are settled, and their records go
pub Stands-handed : (M : Model) → (rows : M.Rows) (records : Records) (s : M.State) (h : History) (t handed : List ℕ) → Stands M rows records s h t
    → Stands M rows (without handed records) s h (t ++ handed)
Stands-handed M rows records s h t handed so =
    Stands-without M rows records s h (t ++ handed) handed (without handed records) (includes_right t handed) (λ i. refl)
    (Stands-settled M rows records s h t (t ++ handed) (includes_left t handed) so)
