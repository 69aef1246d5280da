-- Properties of the rows of a tree, by the law `rows_of_trees`, which is the first argument of each.
use Rattle.std.proofs.Common.{◌≡◌, ◌≤◌, ◌==◌, ℕ, Bool, true, false, cond, eqb, List, [], ◌∷◌, length, take, zero, suc}
use Rattle.std.proofs.Common.{Some, None, refl, sym, ap, subst, ◌∙◌, arith}
use Rattle.std.specs.Prelude.{find, filter}
use Rattle.std.specs.Option.{option_map}
use Rattle.std.specs.List.{AllByRecursion}
use Rattle.std.proofs.lemmas.Bool.{eqb-true}
use Rattle.fuse_init.specs.declared.profile.Profile.{Profile}
use Rattle.fuse_init.specs.declared.profile.Profile.TheVariants.{Plain, Everyday}
use Rattle.fuse_init.specs.Profile.{terms}
use Rattle.fuse_rows.specs.Bounds.{fuse_root_id, file_limit}
use Rattle.fuse_rows.specs.declared.rows.EntryRow.{EntryRow}
use Rattle.fuse_rows.specs.declared.rows.NodeRow.{NodeRow}
use Rattle.fuse_rows.specs.declared.rows.Full.{Full}
use Rattle.fuse_rows.specs.Rows.{is_entry, Rows, profile_at, row_at, entry_at, is_after, entries_after}
use Rattle.fuse_tree.specs.Rowed.{IsRowed}
use Rattle.fuse_tree.specs.RowsOfTrees.{RowsOfTrees, LeadsToRow}
use Rattle.fuse_show.specs.Content.{content_at}

-- the root of a tree has a row
pub root_there : RowsOfTrees → (rows : Rows) → IsRowed rows → row_at rows fuse_root_id ≡ None → ⊥
root_there law rows is = (law rows is).root

-- the size in a row of a tree is that of the content
pub sized_right : RowsOfTrees → (rows : Rows) (number : ℕ) (row : NodeRow) → IsRowed rows → row_at rows number ≡ Some row
    → row.size ≡ length (content_at rows number)
sized_right law rows number row is e = ((law rows is).sizes number row e).told

pub small : RowsOfTrees → (rows : Rows) (number : ℕ) (row : NodeRow) → IsRowed rows → row_at rows number ≡ Some row → row.size ≤ file_limit
small law rows number row is e =
    let within : row.size ≤ (terms (profile_at rows)).file_limit = ((law rows is).sizes number row e).within in
    omega (arith, within, most (profile_at rows))
  where
    most : (p : Profile) → (terms p).file_limit ≤ file_limit
    most Plain = omega arith
    most Everyday = omega arith

-- ---- entries

found_all : {A : Type 0} (P : A → Type 0) (test : A → Bool) (xs : List A) (x : A) → AllByRecursion P xs → find test xs ≡ Some x → P x
found_all P test [] x all is = absurd cc
found_all P test (y ∷ ys) x all is =
    let step : (b : Bool) → test y ≡ b → cond b (Some y) (find test ys) ≡ Some x → P x =
    elim [
      | true ↦ λ _ e. (let same : y ≡ x = cc e in subst P same all.0)
      | false ↦ λ _ e. found_all P test ys x all.1 e
    ] in
    step (test y) refl is

-- the child of an entry has a row
pub child_row : RowsOfTrees → (rows : Rows) (dir : ℕ) (name : List ℕ) (e : EntryRow) → IsRowed rows → entry_at rows.entries dir name ≡ Some e
    → row_at rows e.child ≡ None → ⊥
child_row law rows dir name e is found = found_all (LeadsToRow rows) (is_entry dir name) rows.entries e (law rows is).children found

pub filtered : {A : Type 0} (P : A → Type 0) (test : A → Bool) (xs : List A) → AllByRecursion P xs → AllByRecursion P (filter test xs)
filtered P test [] all = tt
filtered P test (x ∷ xs) all =
    elim (test x) as (λ b. AllByRecursion P (cond b (x ∷ filter test xs) (filter test xs))) [
      | true ↦ (all.0, filtered P test xs all.1)
      | false ↦ filtered P test xs all.1
    ]

taken : {A : Type 0} (P : A → Type 0) (n : ℕ) (xs : List A) → AllByRecursion P xs → AllByRecursion P (take n xs)
taken P zero xs all = tt
taken P (suc n) [] all = tt
taken P (suc n) (x ∷ xs) all = (all.0, taken P n xs all.1)

-- each entry of a page leads to a row
pub page_shown : RowsOfTrees → (rows : Rows) (dir after limit : ℕ) (es : List EntryRow) → IsRowed rows → es ≡ entries_after rows dir after limit
    → AllByRecursion (LeadsToRow rows) es
page_shown law rows dir after limit es is same =
    subst (AllByRecursion (LeadsToRow rows)) (sym same)
    (taken (LeadsToRow rows) limit (filter (is_after dir after) rows.entries)
    (filtered (LeadsToRow rows) (is_after dir after) rows.entries (law rows is).children))

-- ---- numbers

full_numbered : (fs : List Full) (number : ℕ) (row : NodeRow)
    → option_map (λ (f : Full). f.row) (find (λ f. f.row.node == number) fs) ≡ Some row → row.node ≡ number
full_numbered [] number row is = absurd cc
full_numbered (f ∷ fs) number row is =
    let step : (b : Bool) → eqb f.row.node number ≡ b
    → option_map (λ (x : Full). x.row) (cond b (Some f) (find (λ x. x.row.node == number) fs)) ≡ Some row → row.node ≡ number =
    elim [
      | true ↦ λ here e. (let same : f.row ≡ row = cc e in ap (λ (r : NodeRow). r.node) (sym same) ∙ eqb-true f.row.node number here)
      | false ↦ λ _ e. full_numbered fs number row e
    ] in
    step (eqb f.row.node number) refl is

-- the row at a number has that number
pub row_numbered : (rows : Rows) (number : ℕ) (row : NodeRow) → row_at rows number ≡ Some row → row_at rows row.node ≡ Some row
row_numbered rows number row is = ap (row_at rows) (full_numbered rows.nodes number row is) ∙ is
