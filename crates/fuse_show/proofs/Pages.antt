-- The entries of a directory, page by page.
use Rattle.std.proofs.Common.{◌≡◌, ◌==◌, ◌&&◌, ◌<◌, ◌≤◌, ◌-◌, ℕ, Bool, true, false, cond, eqb, zero, suc, List, [], ◌∷◌, ◌++◌, take, drop}
use Rattle.std.proofs.Common.{Option, Some, None, refl, sym, ap, subst, ◌∙◌, arith, append_assoc, append-nil}
use Rattle.std.specs.Prelude.{filter, nat_lt}
use Rattle.std.specs.Option.{option_map}
use Rattle.std.specs.List.{AllByRecursion, flat_map, slice_get}
use Rattle.std.proofs.lemmas.Bool.{lt-ltb, le-ltb, ltb-true}
use Rattle.std.proofs.lemmas.List.{take-append-drop}
use Rattle.std.proofs.lemmas.Grind.{flat_map-append}
use Rattle.fuse_rows.specs.declared.rows.EntryRow.{EntryRow}
use Rattle.fuse_tree.specs.State.{Apart}
use Rattle.fuse_rows.specs.Rows.{Rows, is_after, entries_after}
use Rattle.fuse_tree.specs.Rowed.{IsRowed}
use Rattle.fuse_tree.specs.RowsOfTrees.{RowsOfTrees}
use Rattle.fuse_show.specs.Sinks.{IsPartOf}
use Rattle.fuse_show.specs.Listing.{line_of_entry, listing}
use Rattle.fuse_show.specs.inner.Pages.{entry_rows_after, lines_after, lines_left, cookie_at, is_higher}
use Rattle.fuse_show.proofs.Trees.{filtered}

-- ---- on lists

filter_all : {A : Type 0} (test : A → Bool) (xs : List A) → AllByRecursion (λ x. test x ≡ true) xs → filter test xs ≡ xs
filter_all test [] all = refl
filter_all {A = A} test (x ∷ xs) all =
    subst (λ (b : Bool). cond b (x ∷ filter test xs) (filter test xs) ≡ x ∷ xs) (sym all.0) (ap (λ (ys : List A). x ∷ ys) (filter_all test xs all.1))

passes : {A : Type 0} (test : A → Bool) (xs : List A) → AllByRecursion (λ x. test x ≡ true) (filter test xs)
passes test [] = tt
passes test (x ∷ xs) =
    let step : (b : Bool) → test x ≡ b → AllByRecursion (λ y. test y ≡ true) (cond b (x ∷ filter test xs) (filter test xs)) =
    elim [
      | true ↦ λ here. (here, passes test xs)
      | false ↦ λ _. passes test xs
    ] in
    step (test x) refl

all_got : {A : Type 0} (P : A → Type 0) (xs : List A) (i : ℕ) (x : A) → AllByRecursion P xs → slice_get xs i ≡ Some x → P x
all_got P [] i x all is = absurd cc
all_got P (y ∷ ys) zero x all is = let same : y ≡ x = cc in subst P same all.0
all_got P (y ∷ ys) (suc i) x all is = all_got P ys i x all.1 is

all_more : {A : Type 0} (P Q : A → Type 0) (xs : List A) → ((x : A) → P x → Q x) → AllByRecursion P xs → AllByRecursion Q xs
all_more P Q [] more all = tt
all_more P Q (x ∷ xs) more all = (more x all.0, all_more P Q xs more all.1)

apart_filtered : {A : Type 0} (R : A → A → Type 0) (test : A → Bool) (xs : List A) → Apart R xs → Apart R (filter test xs)
apart_filtered R test [] apart = tt
apart_filtered R test (x ∷ xs) apart =
    elim (test x) as (λ b. Apart R (cond b (x ∷ filter test xs) (filter test xs))) [
      | true ↦ (filtered (R x) test xs apart.0, apart_filtered R test xs apart.1)
      | false ↦ apart_filtered R test xs apart.1
    ]

-- a page that is not full has all
short_page : {A : Type 0} (xs : List A) (i : ℕ) → slice_get (take (suc i) xs) i ≡ None → take (suc i) xs ≡ xs
short_page [] i is = refl
short_page (x ∷ xs) zero is = absurd cc
short_page {A = A} (x ∷ xs) (suc i) is = ap (λ (ys : List A). x ∷ ys) (short_page xs i is)

full_page : {A : Type 0} (xs : List A) (i : ℕ) (x : A) → slice_get (take (suc i) xs) i ≡ Some x → slice_get xs i ≡ Some x
full_page [] i x is = absurd cc
full_page (y ∷ ys) zero x is = is
full_page (y ∷ ys) (suc i) x is = full_page ys i x is

-- ---- entries that rise

abbrev Rise : EntryRow → EntryRow → Type 0
Rise e later = e.cookie < later.cookie

abbrev above : ℕ → EntryRow → Bool
above cookie e = nat_lt cookie e.cookie

-- the entries above one of them are those after it
above_one : (ys : List EntryRow) (i : ℕ) (x : EntryRow) → Apart Rise ys → slice_get ys i ≡ Some x → filter (above x.cookie) ys ≡ drop (suc i) ys
above_one [] i x rise is = absurd cc
above_one (y ∷ ys) zero x rise is =
    let same : y ≡ x = cc in
    let all : AllByRecursion (λ e. above y.cookie e ≡ true) ys =
    all_more (Rise y) (λ e. above y.cookie e ≡ true) ys (λ e p. lt-ltb y.cookie e.cookie p) rise.0 in
    let rest : filter (above y.cookie) ys ≡ ys = filter_all (above y.cookie) ys all in
    let here : filter (above y.cookie) (y ∷ ys) ≡ ys =
    subst (λ (b : Bool). cond b (y ∷ filter (above y.cookie) ys) (filter (above y.cookie) ys) ≡ ys) (sym (le-ltb y.cookie y.cookie (omega arith))) rest in
    subst (λ (z : EntryRow). filter (above z.cookie) (y ∷ ys) ≡ ys) same here
above_one (y ∷ ys) (suc i) x rise is =
    let later : y.cookie < x.cookie = all_got (Rise y) ys i x rise.0 is in
    subst (λ (b : Bool). cond b (y ∷ filter (above x.cookie) ys) (filter (above x.cookie) ys) ≡ drop (suc i) ys)
    (sym (le-ltb x.cookie y.cookie (omega arith))) (above_one ys i x rise.1 is)

one_after : (e : EntryRow) (near far : List EntryRow) (cookie : ℕ) (d p q : Bool) → filter (above cookie) near ≡ far → above cookie e ≡ q
    → (q ≡ true → p ≡ true) → filter (above cookie) (cond (d && p) (e ∷ near) near) ≡ cond (d && q) (e ∷ far) far
one_after e near far cookie false p q rest is fewer = rest
one_after e near far cookie true true q rest is fewer =
    subst (λ (b : Bool). cond b (e ∷ filter (above cookie) near) (filter (above cookie) near) ≡ cond q (e ∷ far) far) (sym is)
    (ap (λ (ys : List EntryRow). cond q (e ∷ ys) ys) rest)
one_after e near far cookie true false true rest is fewer = let no : false ≡ true = fewer refl in absurd cc
one_after e near far cookie true false false rest is fewer = rest

-- of the entries after a cookie, those above a higher cookie are those after that one
still_after : (es : List EntryRow) (dir after cookie : ℕ) → after ≤ cookie
    → filter (above cookie) (filter (is_after dir after) es) ≡ filter (is_after dir cookie) es
still_after [] dir after cookie less = refl
still_after (e ∷ es) dir after cookie less =
    let rest = still_after es dir after cookie less in
    let fewer : nat_lt cookie e.cookie ≡ true → nat_lt after e.cookie ≡ true =
    λ is. (let far : cookie < e.cookie = ltb-true cookie e.cookie is in lt-ltb after e.cookie (omega arith)) in
    one_after e (filter (is_after dir after) es) (filter (is_after dir cookie) es) cookie (e.dir == dir) (nat_lt after e.cookie) (nat_lt cookie e.cookie)
    rest refl fewer

-- ---- a page

second : (b c : Bool) → (b && c) ≡ true → c ≡ true
second true c is = is
second false c is = absurd cc

-- the entries after a cookie have higher ones
higher_after : (rows : Rows) (dir after i : ℕ) (x : EntryRow) → slice_get (entry_rows_after rows dir after) i ≡ Some x → nat_lt after x.cookie ≡ true
higher_after rows dir after i x there =
    second (x.dir == dir) (nat_lt after x.cookie)
    (all_got (λ e. is_after dir after e ≡ true) (entry_rows_after rows dir after) i x (passes (is_after dir after) rows.entries) there)

-- the entries after the last one of a page are those after the page
after_page : RowsOfTrees → (rows : Rows) (dir after i : ℕ) (x : EntryRow) → IsRowed rows → slice_get (entry_rows_after rows dir after) i ≡ Some x
    → entry_rows_after rows dir x.cookie ≡ drop (suc i) (entry_rows_after rows dir after)
after_page law rows dir after i x is there =
    let higher : after < x.cookie = ltb-true after x.cookie (higher_after rows dir after i x there) in
    sym (still_after rows.entries dir after x.cookie (omega arith))
    ∙ above_one (entry_rows_after rows dir after) i x (apart_filtered Rise (is_after dir after) rows.entries (law rows is).rise) there

abbrev text_of : Rows → List EntryRow → List ℕ
text_of rows es = flat_map (line_of_entry rows) es

-- the lines of a page and those left after it are those left before it
pub page_lines : RowsOfTrees → (rows : Rows) (dir after i : ℕ) (es : List EntryRow) → IsRowed rows → es ≡ entries_after rows dir after (suc i)
    → lines_after rows dir after ≡ flat_map (line_of_entry rows) es ++ lines_left rows dir (cookie_at i es)
page_lines law rows dir after i es is same = step (slice_get es i) refl
  where
    whole : slice_get es i ≡ None → es ≡ entry_rows_after rows dir after
    whole got = same ∙ short_page (entry_rows_after rows dir after) i (subst (λ (ys : List EntryRow). slice_get ys i ≡ None) same got)

    there : (x : EntryRow) → slice_get es i ≡ Some x → entry_rows_after rows dir x.cookie ≡ drop (suc i) (entry_rows_after rows dir after)
    there x got =
        after_page law rows dir after i x is
        (full_page (entry_rows_after rows dir after) i x (subst (λ (ys : List EntryRow). slice_get ys i ≡ Some x) same got))

    step : (o : Option EntryRow) → slice_get es i ≡ o
        → lines_after rows dir after ≡ text_of rows es ++ lines_left rows dir (option_map (λ (e : EntryRow). e.cookie) o)
    step None got = ap (text_of rows) (sym (whole got)) ∙ sym (append-nil (text_of rows es))
    step (Some x) got =
        ap (text_of rows) (sym (take-append-drop (suc i) (entry_rows_after rows dir after)))
        ∙ flat_map-append (line_of_entry rows) (take (suc i) (entry_rows_after rows dir after)) (drop (suc i) (entry_rows_after rows dir after))
        ∙ ap (λ (ys : List EntryRow). text_of rows ys ++ text_of rows (drop (suc i) (entry_rows_after rows dir after))) (sym same)
        ∙ ap (λ (ys : List EntryRow). text_of rows es ++ text_of rows ys) (sym (there x got))

-- a page ends with a higher cookie than those before it
pub page_higher : (rows : Rows) (dir after i : ℕ) (es : List EntryRow) → es ≡ entries_after rows dir after (suc i) → is_higher (cookie_at i es) after ≡ true
page_higher rows dir after i es same = step (slice_get es i) refl
  where
    step : (o : Option EntryRow) → slice_get es i ≡ o → is_higher (option_map (λ (e : EntryRow). e.cookie) o) after ≡ true
    step None got = refl
    step (Some x) got =
        higher_after rows dir after i x
        (full_page (entry_rows_after rows dir after) i x (subst (λ (ys : List EntryRow). slice_get ys i ≡ Some x) same got))

-- ---- pages one after the other

in_after : (es : List EntryRow) (dir : ℕ) → AllByRecursion (λ e. 3 ≤ e.cookie) es → filter (is_after dir 0) es ≡ filter (λ e. e.dir == dir) es
in_after [] dir all = refl
in_after (e ∷ es) dir all =
    let three : 3 ≤ e.cookie = all.0 in
    let higher : nat_lt 0 e.cookie ≡ true = lt-ltb 0 e.cookie (omega arith) in
    let rest = in_after es dir all.1 in
    rw higher (elim (eqb e.dir dir) as
    (λ b. cond (b && true) (e ∷ filter (is_after dir 0) es) (filter (is_after dir 0) es)
    ≡ cond b (e ∷ filter (λ x. x.dir == dir) es) (filter (λ x. x.dir == dir) es)) [
      | true ↦ ap (λ (x : List EntryRow). e ∷ x) rest
      | false ↦ rest
    ])

-- before the first page all is left
pub all_left : RowsOfTrees → (rows : Rows) (dir : ℕ) → IsRowed rows → listing rows dir ≡ lines_after rows dir 0
all_left law rows dir is = ap (flat_map (line_of_entry rows)) (sym (in_after rows.entries dir (law rows is).cookies))

-- a page more
pub pages_more : (text bytes mid ys rest : List ℕ) → text ≡ bytes ++ mid → mid ≡ ys ++ rest → text ≡ (bytes ++ ys) ++ rest
pages_more text bytes mid ys rest p q = p ∙ ap (λ (x : List ℕ). bytes ++ x) q ∙ sym (append_assoc bytes ys rest)

-- a part of a page
pub pages_part : (text bytes mid ys : List ℕ) → text ≡ bytes ++ mid → IsPartOf ys mid → IsPartOf (bytes ++ ys) text
pages_part text bytes mid ys p q = (q.0, pages_more text bytes mid ys q.0 p q.1)

-- nothing is left
pub pages_all : (text bytes : List ℕ) → text ≡ bytes ++ [] → bytes ≡ text
pages_all text bytes p = sym (p ∙ append-nil bytes)

-- how many cookies may come
abbrev pub cookies_left : Option ℕ → ℕ
cookies_left None = 0
cookies_left (Some cookie) = 18446744073709551616 - cookie
