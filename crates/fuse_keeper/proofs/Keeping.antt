-- The state of a keeper in memory, and a crash of it.
use Rattle.std.proofs.Common.{◌≡◌, ◌||◌, Bool, true, false, ℕ, nat_eq, List, [], None, inr, refl, sym, ap, ◌∙◌}
use Rattle.std.specs.HashMap.{HashMap, IsEmpty}
use Rattle.std.specs.Map.{lookup}
use Rattle.fuse_answer.specs.Said.{Said}
use Rattle.fuse_keeper.specs.Model.{Model, IsOfGoodState}
use Rattle.fuse_keeper.specs.History.{Entry, History, after}
use Rattle.fuse_keeper.specs.Lots.{no_lots, SameLots, RecordsUnder}
use Rattle.fuse_keeper.specs.Stands.{Records, Stands, StandsBy, AreThese, IsFirmBy, KeepsHeldBy}
use Rattle.fuse_keeper.specs.Taking.{Clears}
use Rattle.fuse_keeper.specs.Plain.{mapped}
use Rattle.fuse_keeper.proofs.Standing.{Stands-same, Stands-rowed, Stands-start}
use Rattle.fuse_keeper.proofs.Performing.{these_stand, stand_so}

-- a crash leaves what is held now
pub left_new : (M : Model) → (rows : M.Rows) (records : Records) (x : M.Rows) (r : Records) (s : M.State) (h : History) (t : List ℕ)
    → StandsBy M (AreThese M rows records) s h t → AreThese M rows records x r → Stands M x r s h t
left_new M rows records x r s h t so left = Stands-same M rows records x r s h t left (these_stand M rows records s h t so)

-- and where nothing changed what was held before
pub left_old : (M : Model) → (rows : M.Rows) (records : Records) (rows' : M.Rows) (records' : Records) (x : M.Rows) (r : Records) (s : M.State) (h : History)
    (t : List ℕ)
    → StandsBy M (AreThese M rows records) s h t → KeepsHeldBy M (AreThese M rows records) (AreThese M rows' records') → AreThese M rows' records' x r
    → Stands M x r s h t
left_old M rows records rows' records' x r s h t so keeps left =
    let same = keeps rows records (refl, λ i. refl) in
    Stands-same M rows records x r s h t (left.0 ∙ sym same.0, λ i. left.1 i ∙ sym (same.1 i)) (these_stand M rows records s h t so)

pub plain_firm : (M : Model) → (rows : M.Rows) (records : Records) → IsFirmBy M (AreThese M rows records) (Unit {0}) (AreThese M rows records)
plain_firm M rows records = λ y q held. (tt, λ x r left. (left.0 ∙ sym held.0, λ i. left.1 i ∙ sym (held.1 i)))

pub keeps_same : (M : Model) → (rows : M.Rows) (records : Records) (rows' : M.Rows) (records' : Records) → rows' ≡ rows → ((i : ℕ) → records' i ≡ records i)
    → KeepsHeldBy M (AreThese M rows records) (AreThese M rows' records')
keeps_same M rows records rows' records' is are = λ x r held. (held.0 ∙ sym is, λ i. held.1 i ∙ sym (are i))

-- where it stands its rows are those of a tree
pub rowed_where : (M : Model) → (rows : M.Rows) (records : Records) (s : M.State) (h : History) (t : List ℕ) → StandsBy M (AreThese M rows records) s h t
    → IsOfGoodState M rows
rowed_where M rows records s h t so = Stands-rowed M rows records s h t (these_stand M rows records s h t so)

-- ---- starts

pub none_mapped : {S : Type 0} (m : HashMap ℕ Said S) → IsEmpty m → (i : ℕ) → mapped m i ≡ None
none_mapped m empty i = ap (λ es. lookup (nat_eq i) es) empty

pub starts : (M : Model) → (rows : M.Rows) (records : Records) (s : M.State) → M.IsGood s → rows ≡ M.held_for s → ((i : ℕ) → records i ≡ None)
    → StandsBy M (AreThese M rows records) s [] []
starts M rows records s tree is none = stand_so M rows records s [] [] (Stands-start M rows records s tree is none)

-- a mount begins
pub mount_begins : (M : Model) → (rows : M.Rows) (records : Records) (rows' : M.Rows) (records' : Records) (s : M.State) (h : History) (t : List ℕ)
    → Clears M rows rows' → ((i : ℕ) → records' i ≡ None)
    → StandsBy M (AreThese M rows records) s h t → StandsBy M (AreThese M rows' records') (M.cleared (after M s h)) [] []
mount_begins M rows records rows' records' s h t clears none so =
    let stands = these_stand M rows records s h t so in
    let clear = clears (after M s h) stands.tree stands.rows_are in
    starts M rows' records' (M.cleared (after M s h)) clear.0 clear.1 none

pub or-true : (b : Bool) → (b || true) ≡ true
or-true true = refl
or-true false = refl

pub or-false : (b : Bool) → b ≡ (b || false)
or-false true = refl
or-false false = refl

-- ---- lots: there are none

pub lots_stay : SameLots no_lots no_lots
lots_stay = record { numbers = refl; current = refl; under = λ i. refl }

pub no_lot : (records : Records) (settled : List ℕ) (group : List Entry) → RecordsUnder no_lots no_lots records settled group
no_lot records settled group = record {
  kept = λ lot there. absurd (let e = there in cc);
  taken = λ none. inr (refl, refl);
  added = λ i within free. refl;
  others = λ i a there isnt. refl;
}
