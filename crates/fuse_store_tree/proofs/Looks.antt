-- Looks, whatever is looked for.
use Rattle.std.specs.declared.cmp.Ordering.{Ordering}
use Rattle.std.proofs.Common.{Less, Equal, Greater, ◌≡◌, ◌≤◌, ◌<◌, ◌^◌, inl, inr, ℕ, List, [], ◌∷◌, Bool, true, false, Some, None, Option, IfSome, Ok}
use Rattle.std.proofs.Common.{Err, Result, OnOk, OnErr, IfOk, IfErr, ◌&&◌, ◌==◌, length, map, not, filter, find, take, refl, arith}
use Rattle.std.specs.List.{AllByRecursion}
use Rattle.std.specs.Ordering.{is_eq, nat_cmp}
use Rattle.std.specs.Option.{option_to_list, is_some}
use Rattle.std.proofs.lemmas.Map.Lookups.{exact_bytes}
use Rattle.sqlite.specs.Order.{Row}
use Rattle.fuse_rows.specs.declared.rows.EntryRow.{EntryRow}
use Rattle.fuse_store_tree.specs.Fits.{IsWhole}
use Rattle.fuse_rows.specs.Columns.{FitsEntry}
use Rattle.fuse_store_tables.specs.Blocks.{Block, block_at, is_at, shown_block}
use Rattle.std.proofs.lemmas.Bool.{cases_Bool}
use Rattle.std.proofs.lemmas.Bool.Decides.{nat_tests}
use Rattle.fuse_store_tables.specs.Content.{has_by, at_by, has_name}

pub key_is : (a k : ℕ) → is_eq (nat_cmp a k) ≡ true → a ≡ k
key_is a k is = grind (arith, nat_tests)

pub key_differs : (a k n : ℕ) → a < n → n ≤ k → is_eq (nat_cmp a k) ≡ false
key_differs a k n low high = grind (arith, nat_tests)

module _ {X : Type 0} (key : X → ℕ) (k : ℕ) where
  -- what is found has the key, and is as each row is
  pub found_is : (P : X → Type 0) (xs : List X) → AllByRecursion P xs → IfSome (at_by key k xs) (λ x. P x × (key x ≡ k))
  found_is P [] all = tt
  found_is P (x ∷ xs) all = elim (cases_Bool (has_by key k x)) [
    | inl here ↦ rw here (all.0, key_is (key x) k here)
    | inr not_here ↦ rw not_here (found_is P xs all.1)
  ]

  -- a number that no row has
  pub none_found : (n : ℕ) (xs : List X) → n ≤ k → AllByRecursion (λ x. key x < n) xs → at_by key k xs ≡ None
  none_found n [] high all = refl
  none_found n (x ∷ xs) high all = rw (key_differs (key x) k n all.0 high) (none_found n xs high all.1)

pub all_map : {X : Type 0} (P Q : X → Type 0) (xs : List X) → ((x : X) → P x → Q x) → AllByRecursion P xs → AllByRecursion Q xs
all_map P Q [] f all = tt
all_map P Q (x ∷ xs) f all = (f x all.0, all_map P Q xs f all.1)

pub map_ok : {X F : Type 0} (r : Result X F) (P Q : X → Type 0) → ((x : X) → P x → Q x) → IfOk r P → IfOk r Q
map_ok (Ok x) P Q f p = f x p
map_ok (Err e) P Q f p = tt

pub map_err : {X F : Type 0} (r : Result X F) (P Q : F → Type 0) → ((x : F) → P x → Q x) → IfErr r P → IfErr r Q
map_err (Ok x) P Q f p = tt
map_err (Err e) P Q f p = f e p

pub drop_first : {X : Type 0} (P Q : X → Type 0) (o : Option X) → IfSome o (λ x. P x × Q x) → IfSome o Q
drop_first P Q None h = tt
drop_first P Q (Some x) h = h.1

pub drop_second : {X : Type 0} (P Q : X → Type 0) (o : Option X) → IfSome o (λ x. P x × Q x) → IfSome o P
drop_second P Q None h = tt
drop_second P Q (Some x) h = h.0

pub first_found : {X : Type 0} (show : X → Row) (p : X → Bool) (xs : List X) → take 1 (map show (filter p xs)) ≡ map show (option_to_list (find p xs))
first_found show p [] = refl
first_found show p (x ∷ xs) = elim (cases_Bool (p x)) [
  | inl here ↦ rw here refl
  | inr not_here ↦ rw not_here (first_found show p xs)
]

equal_is : (o : Ordering) → is_eq o ≡ true → o ≡ Equal
equal_is Less e = absurd cc
equal_is Equal e = refl
equal_is Greater e = absurd cc

pub both_are : (a b : Bool) → (a && b) ≡ true → (a ≡ true) × (b ≡ true)
both_are true true e = (refl, refl)
both_are true false e = absurd cc
both_are false b e = absurd cc

pub name_found : (dir : ℕ) (name : List ℕ) (xs : List EntryRow) → IfSome (find (has_name dir name) xs) (λ e. (e.dir ≡ dir) × (e.name ≡ name))
name_found dir name [] = tt
name_found dir name (x ∷ xs) = elim (cases_Bool (has_name dir name x)) [
  | inl here ↦ let both = both_are _ _ here in rw here (key_is x.dir dir both.0, exact_bytes x.name name (equal_is _ both.1))
  | inr not_here ↦ rw not_here (name_found dir name xs)
]

pub none_named : (dir : ℕ) (name : List ℕ) (xs : List EntryRow) → 2 ^ 63 ≤ dir → AllByRecursion FitsEntry xs → find (has_name dir name) xs ≡ None
none_named dir name [] high fits = refl
none_named dir name (x ∷ xs) high fits = rw (key_differs x.dir dir (2 ^ 63) fits.0.dir high) (none_named dir name xs high fits.1)

pub block_is : (node block : ℕ) (bs : List Block) → AllByRecursion IsWhole bs → IfSome (block_at node block bs) IsWhole
block_is node block [] all = tt
block_is node block (b ∷ bs) all = elim (cases_Bool (is_at node block b)) [
  | inl here ↦ rw here (all.0)
  | inr not_here ↦ rw not_here (block_is node block bs all.1)
]

-- whether a look-up found a block
pub found_at : (rows : List Row) (o : Option Block) → rows ≡ map shown_block (option_to_list o) → not (length rows == 0) ≡ is_some o
found_at rows None is = rw is refl
found_at rows (Some b) is = rw is refl

pub always_err : {X F : Type 0} (r : Result X F) (P : Type 0) → P → OnErr r P
always_err (Ok x) P p = tt
always_err (Err e) P p = p

pub always_ok : {X F : Type 0} (r : Result X F) (P : Type 0) → P → OnOk r P
always_ok (Ok x) P p = p
always_ok (Err e) P p = tt
