-- Entries of the rows of a tree: each has a name and leads to a node.
use Rattle.std.proofs.Common.{◌≡◌, ◌<◌, ◌≤◌, ◌+◌, ℕ, zero, suc, get_or, List, [], ◌∷◌, ◌++◌, length, map, take, None, refl, sym, ap, subst, ◌∙◌, append_assoc, arith}
use Rattle.std.specs.Prelude.{◌≢◌}
use Rattle.std.specs.List.{AllByRecursion}
use Rattle.std.proofs.lemmas.Bool.{eqb-false, ltb-false}
use Rattle.std.proofs.lemmas.List.{map-append, take_more}
use Rattle.fuse_wire.specs.Errnos.{einval, enametoolong}
use Rattle.fuse_rows.specs.declared.rows.EntryRow.{EntryRow}
use Rattle.fuse_rows.specs.declared.rows.Child.{Child}
use Rattle.fuse_tree.specs.State.{State, Shape, IsEntry, name_fault, is_odd_name}
use Rattle.fuse_rows.specs.Rows.{Rows, row_at, is_after, entries_after, with_child}
use Rattle.fuse_tree.specs.Rowed.{IsRowed, rows_of_state}
use Rattle.fuse_plan.proofs.Fit.{no_fault}
use Rattle.fuse_plan.proofs.Lists.{all_more, all_kept, or_false}
use Rattle.fuse_plan.proofs.Bounds.{rowed_is, child_there}

-- ---- names

pub record NameFits (name : List ℕ) : Type 0 where
  pub some : 1 ≤ length name
  pub short : length name ≤ 255

pub name_fits : (name : List ℕ) → name_fault name ≡ None → NameFits name
name_fits name none =
    let h = no_fault _ (is_odd_name name) enametoolong einval none in
    let given = eqb-false (length name) 0 (or_false _ _ (or_false _ _ (or_false _ _ h.1).0).0).0 in
    record { some = omega (arith, given); short = ltb-false 255 (length name) h.0 }

-- ---- entries

-- an entry has a name of 1 to 255 bytes, and leads to a row
pub record Leads (rows : Rows) (e : EntryRow) : Type 0 where
  pub some : 1 ≤ length e.name
  pub short : length e.name ≤ 255
  pub there : row_at rows e.child ≢ None

shown_of : (s : State) (e : EntryRow) → IsEntry s.nodes s.entries s.next_cookie e → Leads (rows_of_state s) e
shown_of s e p = let n = name_fits e.name p.name in record { some = n.some; short = n.short; there = child_there s e.child p.child }

pub all_taken : {A : Type 0} (P : A → Type 0) (n : ℕ) (xs : List A) → AllByRecursion P xs → AllByRecursion P (take n xs)
all_taken P zero xs all = tt
all_taken P (suc n) [] all = tt
all_taken P (suc n) (x ∷ xs) all = (all.0, all_taken P n xs all.1)

shown_in : (s : State) (dir cookie limit : ℕ) → Shape s → AllByRecursion (Leads (rows_of_state s)) (entries_after (rows_of_state s) dir cookie limit)
shown_in s dir cookie limit tree =
    all_taken _ limit _
    (all_kept _ (is_after dir cookie) s.entries
    (all_more (IsEntry s.nodes s.entries s.next_cookie) (Leads (rows_of_state s)) s.entries (λ e p. shown_of s e p) tree.entries))

pub all_lead : (rows : Rows) (dir cookie limit : ℕ) → IsRowed rows → AllByRecursion (Leads rows) (entries_after rows dir cookie limit)
unfolding IsRowed
all_lead rows dir cookie limit is =
    let s = is.0 in
    subst (λ (r : Rows). AllByRecursion (Leads r) (entries_after r dir cookie limit)) (sym (is.2 ∙ rowed_is s)) (shown_in s dir cookie limit is.1.shape)

-- what is made of the children is made of the entries
pub made_of : {A : Type 0} (make : Child → A) (rows : Rows) (es : List EntryRow) → map make (map (with_child rows) es) ≡ map (λ e. make (with_child rows e)) es
made_of make rows [] = refl
made_of make rows (e ∷ es) = ap (λ more. make (with_child rows e) ∷ more) (made_of make rows es)

-- ---- entries that are listed one after the other

pub all_at : {A : Type 0} (P : A → Type 0) (xs : List A) (i : ℕ) (x : A) → AllByRecursion P xs → i < length xs → get_or xs i x ≡ x → P x
all_at P [] i x all within is = absurd (omega arith)
all_at P (y ∷ ys) zero x all within is = subst P is all.0
all_at P (y ∷ ys) (suc i) x all within is = all_at P ys i x all.1 (omega arith) is

pub one_more : {D A E : Type 0} (see : D → A) (make : E → A) (es : List E) (i : ℕ) (e : E) (old : List A) (ds new : List D) (d : D)
    → i < length es → get_or es i e ≡ e → new ≡ ds ++ d ∷ []
    → map see ds ≡ old ++ map make (take i es) → see d ≡ make e
    → map see new ≡ old ++ map make (take (i + 1) es)
one_more {D} {A} {E} see make es i e old ds new d within is put before told =
    let more : take (i + 1) es ≡ take i es ++ e ∷ [] = take_more es i e within ∙ ap (λ (x : E). take i es ++ x ∷ []) is in
    ap (map see) put ∙ map-append see ds (d ∷ []) ∙ ap (λ (x : List A). x ++ see d ∷ []) before
    ∙ ap (λ (x : A). (old ++ map make (take i es)) ++ x ∷ []) told
    ∙ append_assoc old (map make (take i es)) (make e ∷ []) ∙ ap (λ (x : List A). old ++ x) (sym (map-append make (take i es) (e ∷ [])))
    ∙ ap (λ (x : List E). old ++ map make x) (sym more)
