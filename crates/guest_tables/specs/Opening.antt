-- Which rows are those of a guest's store in order (defined by this project).
use Rattle.std.specs.Prelude.{◌≡◌, ◌≤◌, ◌<◌, ◌^◌, ℕ, List, [], ◌∷◌, ⊤, if◌then◌else◌, nat_lt}
use Rattle.std.specs.List.{AllByRecursion}
use Rattle.sqlite.specs.Effect.{Database}
use Rattle.fuse_answer.specs.Said.{FitsAnswer}
use Rattle.fuse_store_tables.specs.Content.{Counter, Kept}
use Rattle.fuse_store_tables.specs.Opening.{AllBelow}
use Rattle.guest_tables.specs.Layout.{guest_version}
use Rattle.guest_tables.specs.Rows.{IsFitPair, AreApart}
use Rattle.guest_tables.specs.Content.{GuestContent, Holds, value_at, agreed_key, minor_key, readahead_key, flags_key, next_lot_key, number_key, version_key, pledged_key}

-- ---- the rows of `meta`

-- the greatest value of the row with this key
abbrev pub greatest_value : ℕ → ℕ
greatest_value key =
    if nat_lt key 8 then 1
    else (if nat_lt key 10 then 4294967295
    else (if nat_lt key 11 then 18446744073709551615
    else (if nat_lt key 12 then 4611686018427387904
    else (if nat_lt key 16 then 9223372036854775807 else 18446744073709551615))))

-- these keys, in this order, each with a value in range
abbrev pub IsMetaOf : List ℕ → List Counter → Type 0
IsMetaOf [] [] = ⊤
IsMetaOf [] (c ∷ cs) = ⊥
IsMetaOf (key ∷ keys) [] = ⊥
IsMetaOf (key ∷ keys) (c ∷ cs) = (c.key ≡ key) × (c.value ≤ greatest_value key) × IsMetaOf keys cs

abbrev pub meta_keys : List ℕ
meta_keys = agreed_key ∷ minor_key ∷ readahead_key ∷ flags_key ∷ next_lot_key ∷ number_key ∷ version_key ∷ pledged_key ∷ []

abbrev pub IsMeta : GuestContent → Type 0
IsMeta c = IsMetaOf meta_keys c.counters

-- each lot that is there is below the next one
abbrev pub LotsAreBelow : GuestContent → Type 0
LotsAreBelow c = AllBelow (λ lot. lot) (value_at next_lot_key c) c.lots

-- the rows of `meta`, and the lots by them
pub record HasMeta (c : GuestContent) : Type 0 where
  pub version : value_at version_key c ≡ guest_version
  pub meta : IsMeta c
  pub lots : LotsAreBelow c

-- ---- the records

-- the id is that of a row, and the answer is one
pub record IsRecord (k : Kept) : Type 0 where
  pub id : k.id < 2 ^ 63
  pub said : FitsAnswer k.said
  pub errno : k.said.errno < 2 ^ 32

abbrev pub AreRecords : List Kept → Type 0
AreRecords = AllByRecursion IsRecord

-- what an opening tests of the rows
pub record IsTested (c : GuestContent) : Type 0 where
  pub meta : HasMeta c
  pub records : AreRecords c.kept

-- ---- all rows

-- in order; a new store is so, and each step of a keeper leaves it so
pub record IsFitContent (c : GuestContent) : Type 0 where
  pub meta : HasMeta c
  pub records : AreRecords c.kept
  pub pairs : AllByRecursion IsFitPair c.pairs
  pub apart : AreApart c.pairs

-- the tables, whatever their rows; the values of `meta` are of 64 bits
pub record IsLaid (c : GuestContent) (d : Database) : Type 0 where
  pub holds : Holds c d
  pub bits : AllByRecursion (λ (x : Counter). x.value < 2 ^ 64) c.counters

-- a guest's store in order
pub record IsStored (c : GuestContent) (d : Database) : Type 0 where
  pub holds : Holds c d
  pub fit : IsFitContent c
