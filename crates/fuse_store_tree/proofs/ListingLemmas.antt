-- The entries after a cookie and the handles of a node, as rows were read.
use Rattle.std.proofs.Common.{◌≡◌, ◌≤◌, ◌<◌, ◌^◌, ◌+◌, ◌&&◌, inl, inr, ℕ, zero, suc, List, [], ◌∷◌, ◌++◌, map, filter, take, length, not, nat_lt, Bool, true}
use Rattle.std.proofs.Common.{false, slice_index_or, refl, sym, ap, subst, pos, arith, ◌∙◌}
use Rattle.std.specs.List.{AllByRecursion}
use Rattle.std.specs.Ordering.{is_eq, is_gt, nat_cmp}
use Rattle.std.proofs.lemmas.Bool.{cases_Bool}
use Rattle.std.proofs.lemmas.Bool.Decides.{nat_tests}
use Rattle.std.proofs.lemmas.List.{take_more}
use Rattle.std.proofs.Math.ListN.{get_or-map}
use Rattle.sqlite.specs.Order.{Row, column}
use Rattle.sqlite.specs.declared.types.Value.TheVariants.{Int, Blob}
use Rattle.fuse_wire.specs.declared.access_mode.AccessMode.TheVariants.{ReadOnly}
use Rattle.fuse_rows.specs.declared.rows.EntryRow.{EntryRow}
use Rattle.fuse_rows.specs.declared.rows.HandleRow.{HandleRow}
use Rattle.fuse_store_tables.specs.Content.{stands_after, is_handle_of, shown_entry}
use Rattle.fuse_rows.specs.Columns.{FitsEntry, FitsHandle}
use Rattle.fuse_store_tree.proofs.Looks.{key_is, key_differs, both_are}

pub nothing : {X : Type 0} (n : ℕ) → ◌≡◌ {A = List X} [] (take n [])
nothing zero = refl
nothing (suc n) = refl

and_no : (a b : Bool) → b ≡ false → (a && b) ≡ false
and_no true b e = e
and_no false b e = refl

not_above : (a k n : ℕ) → a < n → n ≤ k → is_gt (nat_cmp a k) ≡ false
not_above a k n low high = grind (arith, nat_tests)

pub none_in : (dir cookie : ℕ) (es : List EntryRow) → 2 ^ 63 ≤ dir → AllByRecursion FitsEntry es → filter (stands_after dir cookie) es ≡ []
none_in dir cookie [] high all = refl
none_in dir cookie (e ∷ es) high all = rw (key_differs e.dir dir (2 ^ 63) all.0.dir high) (none_in dir cookie es high all.1)

pub none_after : (dir cookie : ℕ) (es : List EntryRow) → 2 ^ 63 ≤ cookie → AllByRecursion FitsEntry es → filter (stands_after dir cookie) es ≡ []
none_after dir cookie [] high all = refl
none_after dir cookie (e ∷ es) high all =
    rw (and_no (is_eq (nat_cmp e.dir dir)) (is_gt (nat_cmp e.cookie cookie)) (not_above e.cookie cookie (2 ^ 63) all.0.cookie high)) (none_after dir cookie es
    high all.1)

pub take_map : {X Y : Type 0} (f : X → Y) (n : ℕ) (xs : List X) → take n (map f xs) ≡ map f (take n xs)
take_map f zero xs = refl
take_map f (suc n) [] = refl
take_map f (suc n) (x ∷ xs) = ap (λ more. f x ∷ more) (take_map f n xs)

in_dir : (dir cookie : ℕ) (es : List EntryRow) → AllByRecursion (λ e. e.dir ≡ dir) (filter (stands_after dir cookie) es)
in_dir dir cookie [] = tt
in_dir dir cookie (e ∷ es) = elim (cases_Bool (stands_after dir cookie e)) [
  | inl here ↦ rw here (key_is e.dir dir (both_are _ _ here).0, in_dir dir cookie es)
  | inr not_here ↦ rw not_here (in_dir dir cookie es)
]

all_taken : {X : Type 0} (P : X → Type 0) (n : ℕ) (xs : List X) → AllByRecursion P xs → AllByRecursion P (take n xs)
all_taken P zero xs all = tt
all_taken P (suc n) [] all = tt
all_taken P (suc n) (x ∷ xs) all = (all.0, all_taken P n xs all.1)

pub taken_in_dir : (dir cookie n : ℕ) (es : List EntryRow) → AllByRecursion (λ e. e.dir ≡ dir) (take n (filter (stands_after dir cookie) es))
taken_in_dir dir cookie n es = all_taken _ n _ (in_dir dir cookie es)

-- ---- handles

pub none_open : (node : ℕ) (hs : List HandleRow) → 2 ^ 63 ≤ node → AllByRecursion FitsHandle hs → filter (is_handle_of node) hs ≡ []
none_open node [] high all = refl
none_open node (h ∷ hs) high all = rw (key_differs h.node node (2 ^ 63) all.0.node high) (none_open node hs high all.1)

of_node : (node : ℕ) (hs : List HandleRow) → AllByRecursion (λ h. h.node ≡ node) (filter (is_handle_of node) hs)
of_node node [] = tt
of_node node (h ∷ hs) = elim (cases_Bool (is_handle_of node h)) [
  | inl here ↦ rw here (key_is h.node node here, of_node node hs)
  | inr not_here ↦ rw not_here (of_node node hs)
]

pub taken_of_node : (node n : ℕ) (hs : List HandleRow) → AllByRecursion (λ h. h.node ≡ node) (take n (filter (is_handle_of node) hs))
taken_of_node node n hs = all_taken _ n _ (of_node node hs)

-- ---- lists that are cut

take_all_of : {X : Type 0} (n : ℕ) (xs : List X) → length (take n xs) < n → take n xs ≡ xs
take_all_of zero xs low = absurd (omega (arith, low))
take_all_of (suc n) [] low = refl
take_all_of (suc n) (x ∷ xs) low = ap (λ l. x ∷ l) (take_all_of n xs (omega (arith, low)))

take_beyond : {X : Type 0} (n m : ℕ) (xs : List X) → length (take n xs) < n → n ≤ m → xs ≡ take m xs
take_beyond n m [] low high = nothing m
take_beyond zero m (x ∷ xs) low high = absurd (omega (arith, low))
take_beyond (suc n) zero (x ∷ xs) low high = absurd (omega (arith, high))
take_beyond (suc n) (suc m) (x ∷ xs) low high = ap (λ l. x ∷ l) (take_beyond n m xs (omega (arith, low)) (omega (arith, high)))

-- a list that wasn't cut is the same up to a higher limit
pub not_cut : {X : Type 0} (most limit count : ℕ) (xs : List X) → most ≤ limit → false ≡ (nat_lt most limit && not (nat_lt count most))
    → count ≡ length (take most xs) → take most xs ≡ take limit xs
not_cut most limit count xs within short is = elim (cases_Bool (nat_lt most limit)) [
  | inl above ↦ let low : length (take most xs) < most = fewer (nat_lt count most) refl above in take_all_of most xs low ∙ take_beyond most limit xs low within
  | inr same ↦ ap (λ n. take n xs) (equal same)
]
  where
    equal : nat_lt most limit ≡ false → most ≡ limit
    equal e = let h : limit ≤ most = grind (arith, nat_tests) in omega (arith, h, within)

    fewer : (b : Bool) → nat_lt count most ≡ b → nat_lt most limit ≡ true → length (take most xs) < most
    fewer true e above = let h : count < most = grind (arith, nat_tests) in omega (arith, h, is)
    fewer false e above = absurd (let f = rw (above, e) at short in cc)

abbrev pub entry_none : EntryRow
entry_none = record { dir = 0; name = []; child = 0; cookie = 0 }

-- the columns of an entry
pub record ShowsEntry (e : EntryRow) (row : Row) : Type 0 where
  pub cookie : column row 0 ≡ Int (pos e.cookie)
  pub name : column row 1 ≡ Blob e.name
  pub child : column row 2 ≡ Int (pos e.child)
  pub long : 2 < length row

pub entry_shown : (e : EntryRow) (row : Row) → row ≡ shown_entry e → ShowsEntry e row
entry_shown e row is = record {
  cookie = ap (λ r. column r 0) is;
  name = ap (λ r. column r 1) is;
  child = ap (λ r. column r 2) is;
  long = subst (λ (r : Row). 2 < length r) (sym is) (omega arith);
}

abbrev pub handle_none : HandleRow
handle_none = record { fh = 0; node = 0; access = ReadOnly }

-- one in the place of a value that isn't there
module _ {X : Type 0} (none : X) where
  pub each_at : (P : X → Type 0) (xs : List X) (i : ℕ) → i < length xs → AllByRecursion P xs → P (slice_index_or xs i none)
  each_at P [] i low all = absurd (omega (arith, low))
  each_at P (x ∷ xs) zero low all = all.0
  each_at P (x ∷ xs) (suc i) low all = each_at P xs i (omega (arith, low)) all.1

  pub more_taken : (xs : List X) (i : ℕ) → i < length xs → take (i + 1) xs ≡ take i xs ++ slice_index_or xs i none ∷ []
  more_taken xs i low = take_more xs i none low

-- rows that show values
module _ {X : Type 0} (show : X → Row) where
  pub row_at_is : (none : X) (rows : List Row) (xs : List X) (i : ℕ) (row : Row) → rows ≡ map show xs → row ≡ slice_index_or rows i (show none)
      → row ≡ show (slice_index_or xs i none)
  row_at_is none rows xs i row is at = at ∙ ap (λ l. slice_index_or l i (show none)) is ∙ get_or-map show xs i none

  pub shown_length : (rows : List Row) (xs : List X) → rows ≡ map show xs → length rows ≡ length xs
  shown_length rows xs is = ap length is ∙ same xs
    where
      same : (ys : List X) → length (map show ys) ≡ length ys
      same [] = refl
      same (y ∷ ys) = ap suc (same ys)

pub any_default : {X : Type 0} (xs : List X) (i : ℕ) (d e : X) → i < length xs → slice_index_or xs i d ≡ slice_index_or xs i e
any_default [] i d e low = absurd (omega (arith, low))
any_default (x ∷ xs) zero d e low = refl
any_default (x ∷ xs) (suc i) d e low = any_default xs i d e (omega (arith, low))
