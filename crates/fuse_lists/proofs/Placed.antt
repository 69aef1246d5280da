-- A list in which each node stands once: one node is changed in its place, or comes last.
use Rattle.std.proofs.Common.{◌≡◌, ◌≢◌, ◌<◌, ◌≤◌, ◌==◌, ℕ, zero, suc, Bool, true, false, ◌&&◌, not, cond, eqb, List, [], ◌∷◌, ◌++◌, length, map, get_or, set, Some, None, refl, sym, ap, subst, ◌∙◌, arith}
use Rattle.std.specs.Prelude.{filter, position, nat_lt}
use Rattle.std.specs.List.{list_any, position_or_len}
use Rattle.std.proofs.lemmas.Bool.{ne_eqb, eq-eqb, eqb-true, eqb-false, ltb-false, or_parts}
use Rattle.std.proofs.lemmas.List.Folds.{list_any_at, list_any_none}
use Rattle.std.proofs.lemmas.List.Sums.{prefix_len_passes}
use Rattle.std.proofs.lemmas.List.Quantifiers.{position-Some}
use Rattle.fuse_rows.specs.declared.rows.NodeRow.{NodeRow}
use Rattle.fuse_rows.specs.declared.rows.Full.{Full}
use Rattle.fuse_rows.specs.Rows.{put_node, at_node, new_body}
use Rattle.fuse_rows.specs.Blocks.{Body}
use Rattle.fuse_lists.specs.inner.NumbersOnce.{are_distinct}

-- ---- tests

not_true : (b : Bool) → not b ≡ true → b ≡ false
not_true true e = absurd cc
not_true false e = refl

and_true : (b c : Bool) → (b && c) ≡ true → (b ≡ true) × (c ≡ true)
and_true true c e = (refl, e)
and_true false c e = absurd cc

-- what no element passes, the one at a place doesn't
fails_at : {A : Type 0} (test : A → Bool) (xs : List A) (i : ℕ) (d : A) → list_any test xs ≡ false → i < length xs → test (get_or xs i d) ≡ false
fails_at test xs i d none lt =
    let step : (b : Bool) → test (get_or xs i d) ≡ b → b ≡ false =
    elim [ true ↦ λ is. absurd (let e = list_any_at test xs i d lt is in cc) | false ↦ λ is. refl ] in
    step (test (get_or xs i d)) refl

-- no place is found: no element passes
pub no_place : {A : Type 0} (test : A → Bool) (xs : List A) → position test xs ≡ None → list_any test xs ≡ false
no_place test xs e =
    list_any_none test xs (λ k d lt.
    let all : length xs ≤ position_or_len test xs =
    ltb-false (position_or_len test xs) (length xs) (none (nat_lt (position_or_len test xs) (length xs)) (position_or_len test xs) e) in
    let at : k < position_or_len test xs = omega arith in
    not_true (test (get_or xs k d)) (prefix_len_passes (λ x. not (test x)) xs k d at))
  where
    none : (b : Bool) (i : ℕ) → cond b (Some i) None ≡ None → b ≡ false
    none true i e = absurd cc
    none false i e = refl

-- ---- one node changed in its place

none_changed : (test : Full → Bool) (change : Full → Full) (fs : List Full) → list_any test fs ≡ false → map (λ f. cond (test f) (change f) f) fs ≡ fs
none_changed test change [] none = refl
none_changed test change (f ∷ fs) none =
    let h = or_parts (test f) (list_any test fs) none in
    rw (h.0, none_changed test change fs h.1) refl

changed_at : (number : ℕ) (change : Full → Full) (fs : List Full) (i : ℕ) (d y : Full) → are_distinct fs ≡ true → i < length fs
    → (get_or fs i d).row.node ≡ number → y ≡ change (get_or fs i d)
    → set fs i y ≡ map (λ f. cond (eqb f.row.node number) (change f) f) fs
changed_at number change [] i d y once lt is e = absurd (omega arith)
changed_at number change (f ∷ fs) zero d y once lt is e =
    let h = and_true _ _ once in
    let others : list_any (λ g. eqb g.row.node number) fs ≡ false = subst (λ (n : ℕ). list_any (λ g. eqb g.row.node n) fs ≡ false) is (not_true _ h.0) in
    rw (eq-eqb f.row.node number is, none_changed (λ g. eqb g.row.node number) change fs others, e) refl
changed_at number change (f ∷ fs) (suc i) d y once lt is e =
    let less : i < length fs = omega arith in
    let h = and_true _ _ once in
    let apart : eqb (get_or fs i d).row.node f.row.node ≡ false = fails_at (λ g. eqb g.row.node f.row.node) fs i d (not_true _ h.0) less in
    let other : f.row.node ≢ number = λ same. eqb-false _ _ apart (is ∙ sym same) in
    rw (ne_eqb f.row.node number other) (ap (λ (gs : List Full). f ∷ gs) (changed_at number change fs i d y h.1 less is e))

any_mapped : {A : Type 0} (test : A → Bool) (f : A → A) (xs : List A) → ((x : A) → test (f x) ≡ test x) → list_any test (map f xs) ≡ list_any test xs
any_mapped test f [] same = refl
any_mapped test f (x ∷ xs) same = rw (same x, any_mapped test f xs same) refl

mapped_once : (change : Full → Full) (fs : List Full) → ((f : Full) → (change f).row.node ≡ f.row.node) → are_distinct (map change fs) ≡ are_distinct fs
mapped_once change [] same = refl
mapped_once change (f ∷ fs) same =
    rw (mapped_once change fs same, same f, any_mapped (λ g. eqb g.row.node f.row.node) change fs (λ g. ap (λ (n : ℕ). eqb n f.row.node) (same g))) refl

pub record Changed (number : ℕ) (change : Full → Full) (old new : List Full) : Type 0 where
  pub changed : new ≡ map (λ f. cond (eqb f.row.node number) (change f) f) old
  pub once : are_distinct new ≡ true

-- the node at the place that was found is changed, and keeps its number
changed_in_place : (number : ℕ) (change : Full → Full) (fs : List Full) (i : ℕ) (d y : Full) → are_distinct fs ≡ true
    → position (λ f. f.row.node == number) fs ≡ Some i → d ≡ get_or fs i d
    → ((f : Full) → eqb f.row.node number ≡ true → (change f).row.node ≡ f.row.node) → y ≡ change d → Changed number change fs (set fs i y)
changed_in_place number change fs i d y once at here keeps e =
    let p = position-Some (λ f. f.row.node == number) fs i d at in
    let is : (get_or fs i d).row.node ≡ number = eqb-true _ _ p.1 in
    let new = changed_at number change fs i d y once p.0 is (e ∙ ap change here) in
    record {
      changed = new;
      once = ap are_distinct new ∙ mapped_once (λ f. cond (eqb f.row.node number) (change f) f) fs (λ f. same f (eqb f.row.node number) refl) ∙ once;
    }
  where
    same : (f : Full) (b : Bool) → eqb f.row.node number ≡ b → (cond b (change f) f).row.node ≡ f.row.node
    same f true is = keeps f is
    same f false is = refl

pub row_in_place : (row : NodeRow) (fs : List Full) (i : ℕ) (d : Full) → are_distinct fs ≡ true → position (λ f. f.row.node == row.node) fs ≡ Some i
    → d ≡ get_or fs i d
    → Changed row.node (λ f. record f { row = row }) fs (set fs i (record d { row = row }))
row_in_place row fs i d once at here =
    changed_in_place row.node (λ f. record f { row = row }) fs i d (record d { row = row }) once at here (λ f is. sym (eqb-true f.row.node row.node is)) refl

pub row_there : (row : NodeRow) (fs : List Full) (i : ℕ) (d : Full) → position (λ f. f.row.node == row.node) fs ≡ Some i
    → put_node row fs ≡ map (λ f. cond (eqb f.row.node row.node) (record f { row = row }) f) fs
row_there row fs i d at =
    let p = position-Some (λ f. f.row.node == row.node) fs i d at in
    rw (list_any_at (λ f. f.row.node == row.node) fs i d p.0 p.1) refl

pub content_in_place : (number : ℕ) (change : Body → Body) (fs : List Full) (i : ℕ) (d : Full) (made : Body) → are_distinct fs ≡ true
    → position (λ f. f.row.node == number) fs ≡ Some i → d ≡ get_or fs i d → made ≡ change d.content
    → Changed number (λ f. record f { content = change f.content }) fs (set fs i (record { row = d.row; content = made }))
content_in_place number change fs i d made once at here e =
    changed_in_place number (λ f. record f { content = change f.content }) fs i d (record { row = d.row; content = made }) once at here (λ f is. refl)
    (ap (λ (body : Body). record { row = d.row; content = body }) e)

-- where no node has the number, none is changed
pub no_content : (number : ℕ) (change : Body → Body) (fs : List Full) → position (λ f. f.row.node == number) fs ≡ None → fs ≡ map (at_node number change) fs
no_content number change fs none =
    sym (none_changed (λ f. eqb f.row.node number) (λ f. record f { content = change f.content }) fs (no_place (λ f. f.row.node == number) fs none))

-- ---- a node that comes last, and nodes that go

pub row_last : (row : NodeRow) (fs : List Full) → position (λ f. f.row.node == row.node) fs ≡ None
    → fs ++ record { row = row; content = new_body row.written } ∷ [] ≡ put_node row fs
row_last row fs none = rw (no_place (λ f. f.row.node == row.node) fs none) refl

none_last : (test : Full → Bool) (fs : List Full) (x : Full) → list_any test fs ≡ false → test x ≡ false → list_any test (fs ++ x ∷ []) ≡ false
none_last test [] x none is = rw is refl
none_last test (f ∷ fs) x none is =
    let h = or_parts (test f) (list_any test fs) none in
    rw (h.0) (none_last test fs x h.1 is)

pub once_last : (fs : List Full) (x : Full) → are_distinct fs ≡ true → list_any (λ f. f.row.node == x.row.node) fs ≡ false
    → are_distinct (fs ++ x ∷ []) ≡ true
once_last [] x once none = refl
once_last (f ∷ fs) x once none =
    let h = and_true _ _ once in
    let n = or_parts (eqb f.row.node x.row.node) (list_any (λ g. g.row.node == x.row.node) fs) none in
    let apart : x.row.node ≢ f.row.node = λ same. eqb-false _ _ n.0 (sym same) in
    rw (none_last (λ g. eqb g.row.node f.row.node) fs x (not_true _ h.0) (ne_eqb _ _ apart)) (once_last fs x h.1 n.1)

none_kept : (test kept : Full → Bool) (fs : List Full) → list_any test fs ≡ false → list_any test (filter kept fs) ≡ false
none_kept test kept [] none = refl
none_kept test kept (f ∷ fs) none =
    let h = or_parts (test f) (list_any test fs) none in
    let rest = none_kept test kept fs h.1 in
    elim (kept f) as (λ b. list_any test (cond b (f ∷ filter kept fs) (filter kept fs)) ≡ false) [ true ↦ rw (h.0) rest | false ↦ rest ]

pub once_kept : (kept : Full → Bool) (fs : List Full) → are_distinct fs ≡ true → are_distinct (filter kept fs) ≡ true
once_kept kept [] once = refl
once_kept kept (f ∷ fs) once =
    let h = and_true _ _ once in
    let rest = once_kept kept fs h.1 in
    elim (kept f) as
    (λ b. are_distinct (cond b (f ∷ filter kept fs) (filter kept fs)) ≡ true) [
      | true ↦ rw
          (none_kept (λ g. eqb g.row.node f.row.node) kept fs (not_true _ h.0)) rest
      | false ↦ rest
    ]
