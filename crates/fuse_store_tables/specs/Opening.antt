-- A store before and after its opening (defined by this project).
use Rattle.std.specs.Prelude.{◌≡◌, ◌≤◌, ◌⊎◌, ◌<◌, ◌^◌, ◌+◌, ℕ, zero, suc, List, [], ◌∷◌, map, length, if◌then◌else◌}
use Rattle.std.specs.Prelude.{nat_lt, ⊤, Option, Some, None}
use Rattle.std.specs.List.{AllByRecursion}
use Rattle.std.specs.Option.{is_some}
use Rattle.std.specs.Ordering.{is_eq, nat_cmp}
use Rattle.sqlite.specs.Effect.{Database}
use Rattle.fuse_init.specs.declared.profile.Profile.{Profile}
use Rattle.fuse_init.specs.declared.profile.Profile.TheVariants.{Plain, Everyday}
use Rattle.fuse_init.specs.Profile.{terms}
use Rattle.sqlite.specs.Schema.{Schema}
use Rattle.fuse_store_tables.specs.declared.version.Layout.{Layout}
use Rattle.fuse_store_tables.specs.declared.version.Layout.TheVariants.{Second, Third}
use Rattle.fuse_store_tables.specs.Layout.{with_answers, with_kept, version_of}
use Rattle.fuse_store_tables.specs.Content.{Content, Counter, Answer, Kept, HoldsAs, Holds, stored, value_at, set_counter, with_counter}
use Rattle.fuse_store_tables.specs.Content.{counter_key, node_key, fh_of, cookie_of, at_by}
use Rattle.fuse_store_tables.specs.Migrating.{all_written, in_third}

-- ---- the rows of `meta`

-- the greatest value of the row with this key
abbrev pub greatest_value : Profile → ℕ → ℕ
greatest_value p key =
    if nat_lt key 5 then 2 ^ 62
    else (if nat_lt key 6 then (terms p).node_limit
    else (if nat_lt key 7 then 65536
    else (if nat_lt key 8 then 1
    else (if nat_lt key 10 then 4294967295
    else (if nat_lt key 11 then 9223372036854775807
    else (if nat_lt key 12 then 2 ^ 62
    else (if nat_lt key 15 then 2251799813685247 else 9223372036854775807)))))))

-- so many rows, whose keys follow each other from this one
abbrev pub IsMetaFrom : Profile → ℕ → ℕ → List Counter → Type 0
IsMetaFrom p key zero [] = ⊤
IsMetaFrom p key zero (c ∷ cs) = ⊥
IsMetaFrom p key (suc n) [] = ⊥
IsMetaFrom p key (suc n) (c ∷ cs) = (c.key ≡ key) × (c.value ≤ greatest_value p c.key) × IsMetaFrom p (key + 1) n cs

abbrev pub IsMeta : Profile → ℕ → Content → Type 0
IsMeta p n c = IsMetaFrom p 1 n c.counters

-- only an everyday store has a row of its profile
abbrev pub profile_in : Content → Profile
profile_in c = if is_some (at_by counter_key 12 c.counters) then Everyday else Plain

-- the rows of each version. Version 3 is that of the everyday profile, and has the number of the store.
abbrev pub meta_rows : Layout → Profile → ℕ
meta_rows Second Plain = 11
meta_rows Second Everyday = 14
meta_rows Third p = 15

-- the number of the profile; no more blocks are used than there is room for
abbrev pub HasRoomOf : Profile → Content → Type 0
HasRoomOf Plain c = ⊤
HasRoomOf Everyday c = (value_at 12 c ≡ 2) × (value_at 14 c ≤ value_at 13 c)

abbrev pub MetaOf : Profile → Content → Type 0
MetaOf p c = IsMeta p (meta_rows c.layout p) c × HasRoomOf p c

-- ---- the next numbers

-- the numbers of these rows are below the next one
abbrev pub AllBelow : {X : Type 0} → (X → ℕ) → ℕ → List X → Type 0
AllBelow key next xs = AllByRecursion (λ x. key x < next) xs

-- each number that is there is below its counter
pub record AreAbove (c : Content) : Type 0 where
  pub nodes : AllBelow node_key (value_at 2 c) c.nodes
  pub handles : AllBelow fh_of (value_at 3 c) c.handles
  pub entries : AllBelow cookie_of (value_at 4 c) c.entries

-- and so is each lot, in the later versions
abbrev pub LotsAreBelow : Content → Type 0
LotsAreBelow c = AllBelow (λ lot. lot) (value_at 11 c) c.lots

-- ---- the versions

-- version 1 has neither lots nor records under them, and is of the plain profile
pub record IsOld (c : Content) : Type 0 where
  pub version : value_at 1 c ≡ 1
  pub meta : IsMeta Plain 10 c
  pub above : AreAbove c
  pub errnos : AllByRecursion (λ (a : Answer). a.said.errno < 2 ^ 32) c.answers
  pub few : length c.nodes ≤ 65536
  pub no_lots : c.lots ≡ []
  pub no_kept : c.kept ≡ []

-- version 2 or 3
pub record IsFitContent (c : Content) : Type 0 where
  pub version : value_at 1 c ≡ version_of c.layout
  pub meta : MetaOf (profile_in c) c
  pub above : AreAbove c
  pub lots : LotsAreBelow c
  pub errnos : AllByRecursion (λ (k : Kept). k.said.errno < 2 ^ 32) c.kept
  pub few : length c.nodes ≤ (terms (profile_in c)).node_limit

-- the tables of an earlier schema, with the columns of version 2
abbrev pub HoldsEarlier : Schema → Content → Database → Type 0
HoldsEarlier schema c d = HoldsAs schema (stored c) d × (c.layout ≡ Second)

abbrev pub HoldsFirst : Content → Database → Type 0
HoldsFirst = HoldsEarlier with_answers

pub record IsFirst (c : Content) (d : Database) : Type 0 where
  pub holds : HoldsFirst c d
  pub old : IsOld c

-- a store of version 2 or 3, in order
pub record IsSecond (c : Content) (d : Database) : Type 0 where
  pub holds : Holds c d
  pub fit : IsFitContent c

-- the tables of version 2 without the index
abbrev pub HoldsUnindexed : Content → Database → Type 0
HoldsUnindexed = HoldsEarlier with_kept

pub record IsUnindexed (c : Content) (d : Database) : Type 0 where
  pub holds : HoldsUnindexed c d
  pub fit : IsFitContent c

-- a store of any version; the index of version 2 may be missing
abbrev pub IsStored : Content → Database → Type 0
IsStored c d = (IsFirst c d ⊎ IsSecond c d) ⊎ IsUnindexed c d

-- ---- the profile that is asked for

-- it is the one that is wanted, if one is
abbrev pub IsWanted : Option Profile → Profile → Type 0
IsWanted None p = ⊤
IsWanted (Some wanted) p = p ≡ wanted

-- the blocks that are there have room
abbrev pub HasRoomFor : Content → Type 0
HasRoomFor c = all_written c ≤ value_at 13 c

abbrev pub HasRoomIn : Layout → Profile → Content → Type 0
HasRoomIn Second Everyday c = HasRoomFor c
HasRoomIn Second Plain c = ⊤
HasRoomIn Third p c = ⊤

-- a store of any version; the blocks of an everyday one of version 2, which are counted, have room
pub record IsSound (c : Content) (d : Database) : Type 0 where
  pub stored : IsStored c d
  pub room : HasRoomIn c.layout (profile_in c) c

-- one that is of this profile
abbrev pub IsWantedStore : Option Profile → Content → Database → Type 0
IsWantedStore wanted c d = IsSound c d × IsWanted wanted (profile_in c)

-- ---- the tests of an opening

-- the tables are those of one of the versions, whatever their rows; the index of version 2 may be missing
abbrev pub IsLaid : Content → Database → Type 0
IsLaid c d = (HoldsFirst c d ⊎ Holds c d) ⊎ HoldsUnindexed c d

-- the rows of `meta` are those of one of the versions and of a profile, and its counters are above all numbers that are there
abbrev pub HasFirstMeta : Content → Type 0
HasFirstMeta c = IsMeta Plain 10 c × AreAbove c

abbrev pub HasSecondMeta : Content → Type 0
HasSecondMeta c = MetaOf (profile_in c) c × AreAbove c × LotsAreBelow c

abbrev pub HasMeta : Content → Type 0
HasMeta c = ((value_at 1 c ≡ 1) × HasFirstMeta c) ⊎ ((value_at 1 c ≡ version_of c.layout) × HasSecondMeta c)

-- ---- the migration of an everyday store

-- an everyday store of version 2
pub record IsEverydaySecond (c : Content) : Type 0 where
  pub second : c.layout ≡ Second
  pub everyday : profile_in c ≡ Everyday
  pub meta : MetaOf Everyday c

pub record IsToCount (c : Content) (d : Database) : Type 0 where
  pub store : IsSecond c d
  pub second : c.layout ≡ Second
  pub everyday : profile_in c ≡ Everyday

-- ---- the migration of version 1

-- a record of version 1, under a lot
abbrev pub under : ℕ → Answer → Kept
under lot a = record { id = a.id; lot = lot; said = a.said }

abbrev pub as_version_2 : Content → Content
as_version_2 c = set_counter 1 2 (with_counter 11 1 c)

-- the records are under lot 0, and the next lot is 1
abbrev pub migrated : Content → Content
migrated c = record c { counters = (as_version_2 c).counters; answers = []; lots = 0 ∷ []; kept = map (under 0) c.answers }

-- The index changes no row. The number is for an everyday store of version 2.
abbrev pub opened : Option ℕ → Content → Content
opened number c = if is_eq (nat_cmp (value_at 1 c) 1) then migrated c else in_third c.layout (profile_in c) number c

abbrev pub IsOpened : Option ℕ → Content → Database → Type 0
IsOpened number c = IsSecond (opened number c)
