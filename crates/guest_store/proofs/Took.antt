-- What a group makes of what is held, in the words of a keeper.
use Rattle.std.proofs.Common.{◌≡◌, ℕ, ◌==◌, ◌&&◌, ◌||◌, suc, zero, not, List, [], ◌∷◌, ◌++◌, Bool, true, false, cond, All, Option, Some, None}
use Rattle.std.proofs.Common.{refl, sym, ap, subst, arith, ◌∙◌}
use Rattle.std.proofs.lemmas.List.{append_assoc}
use Rattle.fuse_answer.specs.Said.{Said}
use Rattle.fuse_request.specs.Act.{IsKeptFor, opcode_of}
use Rattle.fuse_request.specs.Opcodes.{is_performed_for}
use Rattle.fuse_keeper.specs.Model.{Model, IsSoundModel}
use Rattle.fuse_keeper.specs.Group.{IsPerformed}
use Rattle.fuse_keeper.specs.History.{Entry, entry_id, is_seen, unless_seen, kept_of, IsUnsettled, is_in, ids_in, next_state}
use Rattle.fuse_keeper.specs.Stands.{Standing, StandsAt, OthersStay}
use Rattle.fuse_keeper.specs.Taking.{Took, TookBy, TookIf, TakesAll, Acts, ActedOn, IsAnswerOver, GroupsGrow}
use Rattle.fuse_keeper.specs.declared.keeper.Done.{Done}
use Rattle.guest_store.specs.Holding.{Holding, records_of, content_of}
use Rattle.guest_store.specs.Group.{said_of, taken, taken_if, taken_by, with_group, dones_of, keeps_nothing, without_settled, with_lot_for, lot_for, transacted, performed}
use Rattle.guest_store.specs.Performing.{RowsTellState, HasPerformed}
use Rattle.guest_store.proofs.Finds.{found_put, found_settled}
use Rattle.guest_store.proofs.KeptOnes.{kept_first, kept_rest}

-- what is so of the model, and of a group to which one more comes
pub record Below (M : Model) : Type 0 where
  pub sound : IsSoundModel M
  pub tells : RowsTellState M
  pub grow : GroupsGrow M

-- ---- each of a list

pub all_first : {A : Type 0} (P : A → Type 0) (x : A) (xs : List A) → All P (x ∷ xs) → P x
all_first P x xs all = all zero x (omega arith)

pub all_rest : {A : Type 0} (P : A → Type 0) (x : A) (xs : List A) → All P (x ∷ xs) → All P xs
all_rest P x xs all k z below = all (suc k) z (omega (arith, below))

-- ---- one request

abbrev pub IsKept : Model → Entry → Type 0
IsKept M e = IsKeptFor M.service e.asked.act

kept_by : (p s : Bool) → p ≡ true → s ≡ false → (p && not s) ≡ true
kept_by true true is off = absurd (cc off)
kept_by true false is off = refl
kept_by false s is off = absurd (cc is)

kept_so : (M : Model) (e : Entry) → IsPerformed M.service e → is_seen M.service e ≡ false → IsKept M e
kept_so M e is off = kept_by (is_performed_for M.service (opcode_of e.asked.act)) (is_seen M.service e) is off

-- a kept one leads to a good state
good_next : {M : Model} → Below M → (e : Entry) (s : M.State) → IsKept M e → M.IsGood s → M.IsGood (next_state M s e)
good_next g e s kept good = g.sound.goes_on s e.asked e.moment kept good

acts_so : {M : Model} → Below M → (e : Entry) (y : Holding M) → IsKept M e → M.IsGood y.state
    → Acts M (M.held_for y.state) e (M.held_for (next_state M y.state e)) (said_of e y)
acts_so {M} g e y kept own s good is =
    subst (λ (z : M.State). ActedOn M z e (M.held_for (next_state M y.state e)) (said_of e y)) (g.tells y.state s own good is)
    (record { answer_is = refl; rows_are = refl; tree = good_next g e y.state kept own })

took_by : {M : Model} → Below M → (r : Option Said) (lot : ℕ) (e : Entry) (y : Holding M) → IsKept M e → M.IsGood y.state
    → TookBy M r (content_of M y) e (content_of M (taken_by r lot e y).holding) (taken_by r lot e y).done
took_by g (Some known) lot e y kept good = (refl, λ i. refl, refl, refl)
took_by g None lot e y kept good =
    (acts_so g e y kept good, λ i. found_put (λ k. k.said) (record { id = entry_id e; lot = lot; said = said_of e y }) y.kept i, refl)

-- the answer to a seen one is that of the state
answer_over : {M : Model} → Below M → (e : Entry) (y : Holding M) → M.IsGood y.state → IsAnswerOver M (M.held_for y.state) e (said_of e y)
answer_over {M} g e y own s good is = ap (λ (z : M.State). M.answer z e.asked e.moment) (g.tells y.state s own good is)

took_if : {M : Model} → Below M → (b : Bool) (lot : ℕ) (e : Entry) (y : Holding M) → (b ≡ false → IsKept M e) → M.IsGood y.state
    → TookIf M b (content_of M y) e (content_of M (taken_if b lot e y).holding) (taken_if b lot e y).done
took_if g true lot e y kept good = ((refl, λ i. refl), answer_over g e y good, refl)
took_if g false lot e y kept good = took_by g (records_of y.kept (entry_id e)) lot e y (kept refl) good

pub took : {M : Model} → Below M → (lot : ℕ) (e : Entry) (y : Holding M) → IsPerformed M.service e → M.IsGood y.state
    → Took M (content_of M y) e (content_of M (taken lot e y).holding) (taken lot e y).done
took {M} g lot e y is good = took_if g (is_seen M.service e) lot e y (kept_so M e is) good

good_by : {M : Model} → Below M → (r : Option Said) (lot : ℕ) (e : Entry) (y : Holding M) → IsKept M e → M.IsGood y.state
    → M.IsGood (taken_by r lot e y).holding.state
good_by g (Some known) lot e y kept good = good
good_by g None lot e y kept good = good_next g e y.state kept good

good_if : {M : Model} → Below M → (b : Bool) (lot : ℕ) (e : Entry) (y : Holding M) → (b ≡ false → IsKept M e) → M.IsGood y.state
    → M.IsGood (taken_if b lot e y).holding.state
good_if g true lot e y kept good = good
good_if g false lot e y kept good = good_by g (records_of y.kept (entry_id e)) lot e y (kept refl) good

pub good_taken : {M : Model} → Below M → (lot : ℕ) (e : Entry) (y : Holding M) → IsPerformed M.service e → M.IsGood y.state
    → M.IsGood (taken lot e y).holding.state
good_taken {M} g lot e y is good = good_if g (is_seen M.service e) lot e y (kept_so M e is) good

-- ---- a group

pub group_good : {M : Model} → Below M → (lot : ℕ) (es : List Entry) (y : Holding M) → All (IsPerformed M.service) es → M.IsGood y.state
    → M.IsGood (with_group lot es y).state
group_good g lot [] y are good = good
group_good {M} g lot (e ∷ es) y are good =
    group_good g lot es (taken lot e y).holding (all_rest (IsPerformed M.service) e es are)
    (good_taken g lot e y (all_first (IsPerformed M.service) e es are) good)

pub group_taken : {M : Model} → Below M → (lot : ℕ) (es : List Entry) (y : Holding M) → All (IsPerformed M.service) es → M.IsGood y.state
    → TakesAll M (content_of M y) es (content_of M (with_group lot es y)) (dones_of lot es y)
group_taken g lot [] y are good = (refl, λ i. refl)
group_taken {M} g lot (e ∷ es) y are good =
    let z = (taken lot e y).holding in
    let one = all_first (IsPerformed M.service) e es are in
    (content_of M z, took g lot e y one good, group_taken g lot es z (all_rest (IsPerformed M.service) e es are) (good_taken g lot e y one good))

no_more : {X : Type 0} (xs : List X) → xs ≡ xs ++ []
no_more [] = refl
no_more (x ∷ xs) = ap (λ more. x ∷ more) (no_more xs)

group_took : {M : Model} → Below M → (lot : ℕ) (es : List Entry) (y : Holding M) (at : Standing M) (so_far : List Entry) (dones : List Done)
    → All (IsPerformed M.service) es → M.IsGood y.state → All (IsUnsettled at.settled) (kept_of M.service es) → HasPerformed M y at so_far dones
    → HasPerformed M (with_group lot es y) at (so_far ++ es) (dones ++ dones_of lot es y)
group_took {M} g lot [] y at so_far dones are good each does =
    subst (λ l. HasPerformed M y at l (dones ++ [])) (no_more so_far) (subst (λ l. HasPerformed M y at so_far l) (no_more dones) does)
group_took {M} g lot (e ∷ es) y at so_far dones are good each does =
    let V = M.service in
    let z = (taken lot e y).holding in
    let d = (taken lot e y).done in
    let one = all_first (IsPerformed M.service) e es are in
    let more : HasPerformed M z at (so_far ++ e ∷ []) (dones ++ d ∷ []) =
    (g.grow).one_more (content_of M y) e (content_of M z) d at so_far dones (kept_first V (IsUnsettled at.settled) e es each) (took g lot e y one good)
    does in
    let all = group_took g lot es z at (so_far ++ e ∷ []) (dones ++ d ∷ []) (all_rest (IsPerformed M.service) e es are) (good_taken g lot e y one good)
    (kept_rest V (IsUnsettled at.settled) e es each) more in
    subst (λ l. HasPerformed M (with_group lot es z) at l (dones ++ d ∷ dones_of lot es z)) (append_assoc so_far (e ∷ []) es)
    (subst (λ l. HasPerformed M (with_group lot es z) at ((so_far ++ e ∷ []) ++ es) l) (append_assoc dones (d ∷ []) (dones_of lot es z)) all)

pub group_performed : {M : Model} → Below M → (lot : ℕ) (es : List Entry) (y : Holding M) (at : Standing M) → All (IsPerformed M.service) es → M.IsGood y.state
    → All (IsUnsettled at.settled) (kept_of M.service es) → StandsAt M (content_of M y) at
    → HasPerformed M (with_group lot es y) at es (dones_of lot es y)
group_performed {M} g lot es y at are good each so = group_took g lot es y at [] [] are good each ((g.grow).none_yet (content_of M y) at so)

-- ---- the records of other ids

neither : (a b : Bool) → (a || b) ≡ false → (a ≡ false) × (b ≡ false)
neither true b is = absurd cc
neither false b is = (refl, is)

pub other_by : {M : Model} → (r : Option Said) (lot : ℕ) (e : Entry) (y : Holding M) (i : ℕ) → (entry_id e == i) ≡ false
    → records_of (taken_by r lot e y).holding.kept i ≡ records_of y.kept i
other_by (Some known) lot e y i off = refl
other_by None lot e y i off =
    found_put (λ k. k.said) (record { id = entry_id e; lot = lot; said = said_of e y }) y.kept i
    ∙ ap (λ b. cond b (Some (said_of e y)) (records_of y.kept i)) off

other_if : {M : Model} → (b : Bool) (lot : ℕ) (e : Entry) (y : Holding M) (i : ℕ) (rest : List Entry) → is_in (ids_in (unless_seen b e ++ rest)) i ≡ false
    → (records_of (taken_if b lot e y).holding.kept i ≡ records_of y.kept i) × (is_in (ids_in rest) i ≡ false)
other_if true lot e y i rest none = (refl, none)
other_if false lot e y i rest none =
    let two = neither (entry_id e == i) (is_in (ids_in rest) i) none in
    (other_by (records_of y.kept (entry_id e)) lot e y i two.0, two.1)

group_others : {M : Model} → (lot : ℕ) (es : List Entry) (y : Holding M) (i : ℕ) → is_in (ids_in (kept_of M.service es)) i ≡ false
    → records_of (with_group lot es y).kept i ≡ records_of y.kept i
group_others lot [] y i none = refl
group_others {M} lot (e ∷ es) y i none =
    let two = other_if (is_seen M.service e) lot e y i (kept_of M.service es) none in
    group_others lot es (taken lot e y).holding i two.1 ∙ two.0

-- the records after a whole call
pub kept_for : {M : Model} → (lot : Option ℕ) (y : Holding M) → (with_lot_for lot y).kept ≡ y.kept
kept_for None y = refl
kept_for (Some n) y = refl

transacted_others : {M : Model} → (lot : Option ℕ) (ids : List ℕ) (es : List Entry) (y : Holding M)
    → OthersStay (records_of y.kept) ids (kept_of M.service es) (records_of (transacted lot ids es y).kept)
transacted_others lot ids es y i none =
    group_others (lot_for lot y) es (with_lot_for lot (without_settled ids y)) i none ∙ ap (λ ks. records_of ks i) (kept_for lot (without_settled ids y))
    ∙ found_settled (λ k. k.said) ids y i

-- what holds of a transaction, and of no change where nothing is to be kept, holds of a call
pub by_kept : {M : Model} → (P : Holding M → Type 0) (kept : List Entry) (ids : List ℕ) (y z : Holding M) → ((kept ≡ []) → (ids ≡ []) → P y) → P z
    → P (cond (keeps_nothing kept ids) y z)
by_kept P [] [] y z none some = none refl refl
by_kept P [] (id ∷ ids) y z none some = some
by_kept P (e ∷ es) ids y z none some = some

pub others_stay : {M : Model} → (lot : Option ℕ) (ids : List ℕ) (es : List Entry) (y : Holding M)
    → OthersStay (records_of y.kept) ids (kept_of M.service es) (records_of (performed lot ids es y).kept)
others_stay {M} lot ids es y i off =
    by_kept (λ (z : Holding M). records_of z.kept i ≡ cond (is_in ids i) None (records_of y.kept i)) (kept_of M.service es) ids y (transacted lot ids es y)
    (λ none empty. ap (λ l. cond (is_in l i) None (records_of y.kept i)) (sym empty)) (transacted_others lot ids es y i off)
