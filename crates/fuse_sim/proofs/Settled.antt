-- Which ids are settled, handed on, and left.
use Rattle.std.proofs.Common.{◌≡◌, ◌⊎◌, inl, inr, ℕ, true, false, ◌||◌, ◌==◌, List, [], ◌∷◌, ◌++◌, ◌≤◌, length, All, sym, ap, ◌∙◌}
use Rattle.std.proofs.Common.{arith}
use Rattle.std.proofs.Math.Bool.{or-true}
use Rattle.std.proofs.lemmas.Bool.{or_cases, false_from_ne_true, both_ways}
use Rattle.std.proofs.lemmas.List.Folds.{list_any-append}
use Rattle.fuse_keeper.specs.declared.keeper.Done.{Done}
use Rattle.fuse_keeper.specs.History.{Entry, History, grown, kept_of, is_in, Includes, IsUnsettled}
use Rattle.fuse_keeper.specs.Model.{Model}
use Rattle.fuse_keeper.specs.KeeperState.{KeeperState, StandsFor, KeepsHeld, Performs}
use Rattle.fuse_keeper.specs.Stands.{StillStands}
use Rattle.fuse_keeper.specs.Group.{left_pending}

-- ---- lists of ids

pub is_in-append : (xs ys : List ℕ) (i : ℕ) → is_in (xs ++ ys) i ≡ (is_in xs i || is_in ys i)
is_in-append xs ys i = list_any-append (λ x. x == i) xs ys

pub includes_left : (xs ys : List ℕ) → Includes (xs ++ ys) xs
includes_left xs ys i there = is_in-append xs ys i ∙ ap (λ b. b || is_in ys i) there

pub includes_right : (xs ys : List ℕ) → Includes (xs ++ ys) ys
includes_right xs ys i there = is_in-append xs ys i ∙ ap (λ b. is_in xs i || b) there ∙ or-true (is_in xs i)

pub in_either : (xs ys : List ℕ) (i : ℕ) → is_in (xs ++ ys) i ≡ true → (is_in xs i ≡ true) ⊎ (is_in ys i ≡ true)
in_either xs ys i there = or_cases (is_in xs i) (is_in ys i) (sym (is_in-append xs ys i) ∙ there)

pub includes_both : (all xs ys : List ℕ) → Includes all xs → Includes all ys → Includes all (xs ++ ys)
includes_both all xs ys one two i there = elim (in_either xs ys i there) [ inl left ↦ one i left | inr right ↦ two i right ]

pub unsettled_too : (all some : List ℕ) (i : ℕ) → Includes all some → is_in all i ≡ false → is_in some i ≡ false
unsettled_too all some i within isnt = false_from_ne_true (is_in some i) (λ there. both_ways (is_in all i) isnt (within i there))

-- ---- what stands

-- more may be settled
pub stands_later : (M : Model) → StillStands M → (holds : KeeperState M) (s : M.State) (h : History) (t u : List ℕ) → Includes u t → StandsFor holds s h t
    → StandsFor holds s h u
stands_later M still holds s h t u more so =
    record { rows = so.rows; records = so.records; held = so.held; stands = still.settled so.rows so.records s h t u more so.stands }

-- what stands is still held
pub stands_kept : (M : Model) → (holds holds' : KeeperState M) (s : M.State) (h : History) (t : List ℕ) → KeepsHeld holds holds' → StandsFor holds s h t
    → StandsFor holds' s h t
stands_kept M holds holds' s h t keeps so = record { rows = so.rows; records = so.records; held = keeps so.rows so.records so.held; stands = so.stands }

-- ids that are handed on with a group may be settled before it
pub performs_later : (M : Model) → StillStands M → (holds holds' : KeeperState M) (handed : List ℕ) (es : List Entry) (dones : List Done)
    → Performs holds holds' handed es dones
    → holds'.is_honest → (s : M.State) (h : History) (t : List ℕ) → StandsFor holds s h t → All (IsUnsettled (t ++ handed)) (kept_of M.service es)
    → StandsFor holds' s (grown h (kept_of M.service es)) (t ++ handed)
performs_later M still holds holds' handed es dones performs honest s h t so un =
    (performs honest s h (t ++ handed) (stands_later M still holds s h t (t ++ handed) (includes_left t handed) so) (includes_right t handed) un).stands

-- no more is pending than was
pub left_short : (pending left : List ℕ) (es : List Entry) → left ≡ left_pending es pending → length left ≤ length pending
left_short pending left [] is = omega (arith, ap length is)
left_short pending left (e ∷ es) is = omega (arith, ap length is)
