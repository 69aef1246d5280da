-- Going up through the entries.
use Rattle.std.proofs.Common.{◌≡◌, ◌≢◌, ◌<◌, ℕ, zero, suc, true, false, cond, eqb, List, [], ◌∷◌, ◌++◌, refl, ap, ◌∙◌, arith}
use Rattle.std.specs.List.{AllByRecursion}
use Rattle.std.proofs.lemmas.Bool.{ne_eqb, eq-eqb}
use Rattle.fuse_rows.specs.declared.rows.EntryRow.{EntryRow}
use Rattle.fuse_tree.specs.State.{up_of, above, Reaches}

-- an entry of another node leaves the directory above
pub up_more : (es : List EntryRow) (e : EntryRow) (k : ℕ) → e.child ≢ k → up_of (es ++ e ∷ []) k ≡ up_of es k
up_more [] e k ne = rw (ne_eqb e.child k ne) refl
up_more (x ∷ es) e k ne = ap (λ (r : ℕ). cond (eqb x.child k) x.dir r) (up_more es e k ne)

pub up_new : (es : List EntryRow) (e : EntryRow) (n : ℕ) → AllByRecursion (λ x. x.child < n) es → e.child ≡ n → up_of (es ++ e ∷ []) n ≡ e.dir
up_new [] e n below is = rw (eq-eqb e.child n is) refl
up_new (x ∷ es) e n below is =
    let lt : x.child < n = below.0 in
    let ne : x.child ≢ n = omega arith in
    rw (ne_eqb x.child n ne) (up_new es e n below.1 is)

-- what holds of 0 and of each directory holds of the one above
pub up_in : (P : ℕ → Type 0) (es : List EntryRow) (k : ℕ) → AllByRecursion (λ x. P x.dir) es → P 0 → P (up_of es k)
up_in P [] k all none = none
up_in P (x ∷ es) k all none = elim (eqb x.child k) as (λ b. P (cond b x.dir (up_of es k))) [ true ↦ all.0 | false ↦ up_in P es k all.1 none ]

-- the same way up through other entries, where each place on it has the same directory above
pub above_same : (P : ℕ → Type 0) (es fs : List EntryRow) → ((k : ℕ) → P k → (up_of fs k ≡ up_of es k) × P (up_of es k)) → (n k : ℕ) → P k
    → above fs n k ≡ above es n k
above_same P es fs step zero k at = refl
above_same P es fs step (suc n) k at = let q = step k at in ap (above fs n) q.0 ∙ above_same P es fs step n (up_of es k) q.1

pub reaches_same : (P : ℕ → Type 0) (es fs : List EntryRow) → ((k : ℕ) → P k → (up_of fs k ≡ up_of es k) × P (up_of es k)) → (k : ℕ) → P k → Reaches es k
    → Reaches fs k
reaches_same P es fs step k at climb = (climb.0, above_same P es fs step climb.0 k at ∙ climb.1)

-- an entry of a new node leaves each way up
pub reaches_more : (es : List EntryRow) (e : EntryRow) (n : ℕ) → AllByRecursion (λ x. x.dir < n) es → 0 < n → e.child ≡ n → (k : ℕ) → k < n → Reaches es k
    → Reaches (es ++ e ∷ []) k
reaches_more es e n dirs pos is =
    reaches_same (λ k. k < n) es (es ++ e ∷ []) (λ k lt. let ne : e.child ≢ k = omega arith in (up_more es e k ne, up_in (λ i. i < n) es k dirs pos))

within : (es fs : List EntryRow) → AllByRecursion (λ e. Reaches es e.dir) fs → AllByRecursion (λ e. e.dir ≢ 0 → Reaches es e.dir) fs
within es [] all = tt
within es (e ∷ fs) all = (λ ne. all.0, within es fs all.1)

-- from a node with an entry too, going up reaches 1
pub named_reaches : (es : List EntryRow) (k : ℕ) → AllByRecursion (λ e. Reaches es e.dir) es → up_of es k ≢ 0 → Reaches es k
named_reaches es k all named =
    let up : up_of es k ≢ 0 → Reaches es (up_of es k) = up_in (λ i. i ≢ 0 → Reaches es i) es k (within es es all) (λ ne. absurd (ne refl)) in
    let climb = up named in
    (suc climb.0, climb.1)
