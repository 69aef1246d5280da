-- Items one after the other: what is read at once, and what iterators give.
use Rattle.std.proofs.Common.{◌≡◌, ℕ, zero, suc, ◌+◌, ◌-◌, ◌<◌, ◌≤◌, List, [], ◌∷◌, Result, Ok, Err, refl, sym, ap, ◌∙◌, arith}
use Rattle.std.specs.Option.{option_map_or}
use Rattle.std.specs.Result.{result_ok}
use Rattle.guest_frames.specs.declared.fault.GuestFault.{GuestFault}
use Rattle.guest_frames.specs.Reading.{◌>>=◌, items_first}
use Rattle.guest_frames.specs.Borrowed.{items_by}

-- the bytes after what was read
abbrev pub rest_of : {A : Type 0} → Result (A × List ℕ) GuestFault → Result (List ℕ) GuestFault
rest_of read = read >>= λ x. Ok x.1

abbrev pub Reader : Type 0 → Type 0
Reader A = List ℕ → Result (A × List ℕ) GuestFault

rest_step : {A : Type 0} (x : A) (r : Result (List A × List ℕ) GuestFault) → rest_of (r >>= λ xs. Ok (x ∷ xs.0, xs.1)) ≡ rest_of r
rest_step x (Ok xs) = refl
rest_step x (Err e) = refl

-- one more item is passed
pub passes : {A : Type 0} (read : Reader A) (count i : ℕ) (b : List ℕ) (x : A) (after : List ℕ) (total : Result (List ℕ) GuestFault) → i < count
    → read b ≡ Ok (x, after) → rest_of (items_first read (count - i) b) ≡ total → rest_of (items_first read (count - (i + 1)) after) ≡ total
passes read count i b x after total lt is so_far =
    let k : count - i ≡ suc (count - (i + 1)) = omega arith in
    let one : rest_of (items_first read (count - i) b) ≡ rest_of (items_first read (count - (i + 1)) after) =
    rw (k, is) (rest_step x (items_first read (count - (i + 1)) after)) in
    sym one ∙ so_far

rest_err : {A : Type 0} (r : Result (A × List ℕ) GuestFault) (e : GuestFault) → rest_of r ≡ Err e → r ≡ Err e
rest_err (Ok x) e is = absurd cc
rest_err (Err d) e is = cc

-- the next item is wrong
pub stops : {A : Type 0} (read : Reader A) (count i : ℕ) (b : List ℕ) (e : GuestFault) (total : Result (List A × List ℕ) GuestFault) → i < count
    → read b ≡ Err e → rest_of (items_first read (count - i) b) ≡ rest_of total → total ≡ Err e
stops read count i b e total lt is so_far =
    let k : count - i ≡ suc (count - (i + 1)) = omega arith in
    let one : rest_of (items_first read (count - i) b) ≡ Err e = rw (k, is) refl in
    rest_err total e (sym so_far ∙ one)

pub by_none : {A : Type 0} (read : Reader A) (n : ℕ) (b : List ℕ) (e : GuestFault) → read b ≡ Err e → items_by read n b ≡ []
by_none read zero b e is = refl
by_none read (suc n) b e is = rw is refl

pub by_some : {A : Type 0} (read : Reader A) (n : ℕ) (b : List ℕ) (x : A) (rest : List ℕ) → 0 < n → read b ≡ Ok (x, rest)
    → items_by read n b ≡ x ∷ items_by read (n - 1) rest
by_some read n b x rest some is =
    let k : n ≡ suc (n - 1) = omega arith in
    ap (λ (m : ℕ). items_by read m b) k ∙ rw is refl

pub by_zero : {A : Type 0} (read : Reader A) (n : ℕ) (b : List ℕ) → n ≡ 0 → items_by read n b ≡ []
by_zero read n b is = ap (λ (m : ℕ). items_by read m b) is

-- an item, and n more
abbrev one_more : {A : Type 0} → Reader A → ℕ → Result (A × List ℕ) GuestFault → Result (List A × List ℕ) GuestFault
one_more {A} read n r = do
  x ← r
  xs ← items_first read n x.1
  Ok (x.0 ∷ xs.0, xs.1)

-- what iterators give is what was read
item_then : {A : Type 0} (read : Reader A) (n : ℕ) (r : Result (A × List ℕ) GuestFault) (rest : List ℕ)
    → ((b after : List ℕ) → rest_of (items_first read n b) ≡ Ok after → items_first read n b ≡ Ok (items_by read n b, after))
    → rest_of (one_more read n r) ≡ Ok rest → one_more read n r ≡ Ok (option_map_or (λ x. x.0 ∷ items_by read n x.1) (result_ok r) [], rest)
item_then read n (Ok x) rest more is =
    let e = more x.1 rest (sym (rest_step x.0 (items_first read n x.1)) ∙ is) in
    rw e refl
item_then read n (Err e) rest more is = absurd cc

pub items_are : {A : Type 0} (read : Reader A) (n : ℕ) (b : List ℕ) (rest : List ℕ) → rest_of (items_first read n b) ≡ Ok rest
    → items_first read n b ≡ Ok (items_by read n b, rest)
items_are read zero b rest is = cc
items_are read (suc n) b rest is = item_then read n (read b) rest (items_are read n) is

-- all are passed
pub passed : {A : Type 0} (read : Reader A) (count i : ℕ) (rest b : List ℕ) → count ≤ i
    → rest_of (items_first read (count - i) rest) ≡ rest_of (items_first read count b) → items_first read count b ≡ Ok (items_by read count b, rest)
passed read count i rest b done so_far =
    let k : count - i ≡ 0 = omega arith in
    let one : rest_of (items_first read (count - i) rest) ≡ Ok rest = rw k refl in
    items_are read count b rest (sym so_far ∙ one)
