-- Reads outside a transaction, of what is held.
use Rattle.std.proofs.Common.{◌≡◌, ◌≤◌, ◌^◌, ◌<◌, ◌+◌, ℕ, List, [], ◌∷◌, None, Ok, Err, Result, IfOk, refl, sym, ap, map, option_map, ◌∙◌}
use Rattle.std.specs.List.{sum_by}
use Rattle.std.proofs.lemmas.List.Sums.{sum_by-cons}
use Rattle.std.specs.Result.{IsErr}
use Rattle.sqlite.specs.Order.{Row}
use Rattle.sqlite.specs.Effect.{Database}
use Rattle.sqlite.specs.declared.error.Error.{Error}
use Rattle.sqlite.specs.State.{State, HasCleanDisk}
use Rattle.fuse_keeper.specs.declared.fault.StoreFault.{StoreFault}
use Rattle.fuse_tree.specs.Rowed.{rowed}
use Rattle.fuse_rows.specs.declared.rows.NodeRow.{NodeRow}
use Rattle.fuse_rows.specs.declared.rows.Full.{Full}
use Rattle.fuse_store_tables.specs.Content.{Content, Kept, Counter, Holds, kept_key, at_by, shown_counter}
use Rattle.fuse_store_tables.specs.Moves.{Rests, RestsAs, Serves, ServesAs, IsSafe}
use Rattle.fuse_store_tables.specs.inner.Following.{rests_less, rests_also, rests_told, rests_failed, safe_also}
use Rattle.fuse_store_tree.specs.Fits.{KeepsRecord}
use Rattle.fuse_store_tree.specs.Store.{records_of, meta_rows_of}
use Rattle.fuse_store_tree.specs.Holding.{Holding, HeldFor, ReportsAfter, TreesAreInOrder}
use Rattle.fuse_store_tree.proofs.Looks.{all_map, none_found}

-- a database holds it by its content alone, over one data file
abbrev has_content : (file : List ℕ) (y : Holding) (d : Database) → HeldFor file y d → (c : Content) × Holds c d × ((e : Database) → Holds c e → HeldFor file y e)
has_content file y d h = (h.held.0, h.held.1, λ e holds. record { tree = h.tree; below = h.below; next = h.next; held = (h.held.0, holds, h.held.2) })

pub content_at : (file : List ℕ) (y : Holding) (a : State) (at : RestsAs (HeldFor file y) a) → Rests at.holds.held.0 a
content_at file y a at = rests_less Holds (HeldFor file) (has_content file) a y at

pub rests_for : {X E : Type 0} (file : List ℕ) (a b : State) (r : Result X E) → Serves (λ c. c) a b r → ServesAs (HeldFor file) (HeldFor file) a b r
rests_for file a b r p = rests_also Holds (HeldFor file) (has_content file) a b r p

pub safe_for : {X : Type 0} (file : List ℕ) (a b : State) (r : Result X StoreFault) → IsSafe Holds a b r → IsSafe (HeldFor file) a b r
safe_for file a b r p = safe_also Holds (HeldFor file) (has_content file) a b r p

-- a fact on the content is one on the holding
pub describes_for : {X : Type 0} (a b : State) (r : Result X StoreFault) (P : X → Content → Type 0) (Q : X → Holding → Type 0)
    → ((file : List ℕ) (x : X) (y : Holding) (at : RestsAs (HeldFor file y) a) → P x at.holds.held.0 → Q x y)
    → (HasCleanDisk b → IfOk r (λ x. (c : Content) → Rests c a → P x c)) → IfOk r (λ x. (file : List ℕ) → ReportsAfter file a b (Q x))
describes_for a b (Ok x) P Q more told = λ file clean y at. more file x y at (told clean at.holds.held.0 (content_at file y a at))
describes_for a b (Err f) P Q more told = tt

-- what `?` returns of a read that failed
pub fails_for : {X Y E : Type 0} (file : List ℕ) (a b : State) (e : E) (r : Result Y StoreFault) → IsErr r → ServesAs {X = X} (HeldFor file) (HeldFor file) a b (Err e)
    → ServesAs (HeldFor file) (HeldFor file) a b r
fails_for file a b e (Ok y) is p = absurd cc
fails_for file a b e (Err f) is p = rests_failed (HeldFor file) a b e f p

pub failed_for : {X Y : Type 0} (file : List ℕ) (a b : State) (e : Error) (r : Result Y StoreFault) → IsErr r → Serves {X = X} (λ c. c) a b (Err e)
    → ServesAs (HeldFor file) (HeldFor file) a b r
failed_for file a b e r is p = fails_for file a b e r is (rests_for file a b (Err e) p)

-- a read that succeeded
pub read_for : {X Y : Type 0} (file : List ℕ) (a b : State) (x : X) (r : Result Y StoreFault) → Serves {X = X} {E = Error} (λ c. c) a b (Ok x)
    → ServesAs (HeldFor file) (HeldFor file) a b r
read_for file a b x r p = rests_for file a b r (rests_told Holds a b x r p)

-- no record has an id so high
pub none_kept : (file : List ℕ) (id : ℕ) (y : Holding) (a : State) → 2 ^ 63 ≤ id → RestsAs (HeldFor file y) a → None ≡ records_of y.kept id
none_kept file id y a high at =
    let told = at.holds.held.2 in
    let kept = at.holds.held.0.kept in
    let none : at_by kept_key id kept ≡ None =
    none_found kept_key id (2 ^ 63) kept high (all_map KeepsRecord (λ k. kept_key k < 2 ^ 63) kept (λ k fits. fits.id) told.fits.kept) in
    sym (ap (option_map (λ (k : Kept). k.said)) none) ∙ ap (λ ks. records_of ks id) told.kept

-- the counters of what is held, in a store of this number
abbrev pub counters_held : Holding → ℕ → List Counter
counters_held y number = meta_rows_of (rowed y.tree).counters (rowed y.tree).settings y.next_lot number

pub counters_shown : (file : List ℕ) (y : Holding) (a : State) (rows : List Row) → ((c : Content) → Rests c a → rows ≡ map shown_counter c.counters)
    → (at : RestsAs (HeldFor file y) a) → rows ≡ map shown_counter (counters_held y at.holds.held.2.number)
counters_shown file y a rows found at = found at.holds.held.0 (content_at file y a at) ∙ ap (map shown_counter) at.holds.held.2.counters

-- the sizes of what is held
sizes_mapped : (fs : List Full) → sum_by (λ (n : NodeRow). n.size) (map (λ f. f.row) fs) ≡ sum_by (λ (f : Full). f.row.size) fs
sizes_mapped [] = refl
sizes_mapped (f ∷ fs) =
    sum_by-cons (λ (n : NodeRow). n.size) f.row (map (λ f. f.row) fs) ∙ ap (λ (n : ℕ). f.row.size + n) (sizes_mapped fs)
    ∙ sym (sum_by-cons (λ (f : Full). f.row.size) f fs)

pub sizes_held : TreesAreInOrder → (file : List ℕ) (y : Holding) (a : State) (at : RestsAs (HeldFor file y) a)
    → sum_by (λ n. n.size) at.holds.held.0.nodes ≡ sum_by (λ f. f.row.size) (rowed y.tree).nodes
sizes_held ordered file y a at =
    ap (sum_by (λ (n : NodeRow). n.size)) (at.holds.held.2.nodes ∙ (ordered y.tree at.holds.tree).nodes) ∙ sizes_mapped (rowed y.tree).nodes
