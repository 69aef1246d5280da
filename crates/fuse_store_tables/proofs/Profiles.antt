-- The profile that the rows of `meta` say.
use Rattle.std.proofs.Common.{◌≡◌, ◌≤◌, ◌<◌, ◌+◌, ℕ, zero, suc, List, [], ◌∷◌, map, length, Bool, true, false, cond, Some, None, Option, refl, sym, ap, subst}
use Rattle.std.proofs.Common.{Result, Ok, Err, IfOk, IfErr, OnOk, IsErrAnd, arith, ◌∙◌}
use Rattle.std.proofs.lemmas.List.{length-map}
use Rattle.std.proofs.lemmas.Bool.Decides.{nat_tests}
use Rattle.std.specs.List.{find}
use Rattle.std.specs.Option.{is_some}
use Rattle.std.specs.Ordering.{is_eq, nat_cmp}
use Rattle.sqlite.specs.Order.{Row}
use Rattle.fuse_keeper.specs.declared.fault.StoreFault.{StoreFault}
use Rattle.fuse_init.specs.declared.profile.Profile.{Profile}
use Rattle.fuse_init.specs.declared.profile.Profile.TheVariants.{Plain, Everyday}
use Rattle.fuse_store_tables.specs.Content.{Content, Counter, counter_key, has_by, at_by, set_by, valued, value_at, set_counter}
use Rattle.fuse_store_tables.specs.Faults.{IsOutside}
use Rattle.fuse_store_tables.specs.declared.version.Layout.{Layout}
use Rattle.fuse_store_tables.specs.declared.version.Layout.TheVariants.{Second, Third}
use Rattle.fuse_store_tables.specs.Opening.{IsMetaFrom, IsMeta, MetaOf, HasRoomOf, meta_rows, profile_in}
use Rattle.fuse_store_tables.specs.inner.Columns.{shown_meta}
use Rattle.fuse_store_tables.specs.inner.Checking.{IsMetaIn, profile_by}
use Rattle.fuse_store_tables.proofs.MetaLemmas.{meta_length}
use Rattle.fuse_store_tables.proofs.CounterValues.{found_at, value_set}

-- ---- a row that is there, and one that isn't

below_key : (a k n key : ℕ) → a ≡ k → k + suc n ≤ key → is_eq (nat_cmp a key) ≡ false
below_key a k n key is above = grind (arith, nat_tests)

pub none_above : (p : Profile) (k n key : ℕ) (cs : List Counter) → IsMetaFrom p k n cs → k + n ≤ key → at_by counter_key key cs ≡ None
none_above p k zero key [] meta above = refl
none_above p k zero key (c ∷ cs) meta above = absurd meta
none_above p k (suc n) key [] meta above = absurd meta
none_above p k (suc n) key (c ∷ cs) meta above =
    ap (λ b. cond b (Some c) (at_by counter_key key cs)) (below_key c.key k n key meta.0 above)
    ∙ none_above p (k + 1) n key cs meta.2 (omega (arith, above))

abbrev told_by : Option Counter → Profile
told_by o = cond (is_some o) Everyday Plain

-- with no more than the rows of a plain store
pub plain_in : (n : ℕ) (c : Content) → n ≤ 11 → IsMeta Plain n c → profile_in c ≡ Plain
plain_in n c few meta = ap told_by (none_above Plain 1 n 12 c.counters meta (omega (arith, few)))

-- with the number of a profile
pub everyday_in : (p : Profile) (n : ℕ) (c : Content) → 11 < n → IsMeta p n c → profile_in c ≡ Everyday
everyday_in p n c many meta = ap told_by (found_at p 1 n 11 c.counters meta many)

told_in : (p : Profile) (c : Content) → IsMeta p (meta_rows Second p) c → profile_in c ≡ p
told_in Plain c meta = plain_in 11 c (omega arith) meta
told_in Everyday c meta = everyday_in Everyday 14 c (omega arith) meta

pub second_meta : (p : Profile) (c : Content) → c.layout ≡ Second → IsMeta p (meta_rows Second p) c → HasRoomOf p c → MetaOf (profile_in c) c
second_meta p c second meta room =
    subst (λ q. MetaOf q c) (sym (told_in p c meta)) (subst (λ l. IsMeta p (meta_rows l p) c) (sym second) meta, room)

pub third_meta : (c : Content) → c.layout ≡ Third → IsMeta Everyday 15 c → HasRoomOf Everyday c → MetaOf (profile_in c) c
third_meta c third meta room =
    subst (λ q. MetaOf q c) (sym (everyday_in Everyday 15 c (omega arith) meta)) (subst (λ l. IsMeta Everyday (meta_rows l Everyday) c) (sym third) meta, room)

pub third_rows : (c : Content) → c.layout ≡ Third → MetaOf (profile_in c) c → IsMeta Everyday 15 c × HasRoomOf Everyday c
third_rows c third meta =
    let all = subst (λ l. IsMeta (profile_in c) (meta_rows l (profile_in c)) c) third meta.0 in
    let is = everyday_in (profile_in c) 15 c (omega arith) all in
    (subst (λ p. IsMeta p 15 c) is all, subst (λ p. HasRoomOf p c) is meta.1)

-- ---- by the number of rows

by_rows : (p : Profile) → profile_by (meta_rows Second p) ≡ p
by_rows Plain = refl
by_rows Everyday = refl

by_layout : (l : Layout) (c : Content) → IsMeta (profile_in c) (meta_rows l (profile_in c)) c → profile_by (meta_rows l (profile_in c)) ≡ profile_in c
by_layout Second c meta = by_rows (profile_in c)
by_layout Third c meta = sym (everyday_in (profile_in c) 15 c (omega arith) meta)

pub counted_by : (rows : List Row) (c : Content) → rows ≡ map shown_meta c.counters → MetaOf (profile_in c) c → profile_by (length rows) ≡ profile_in c
counted_by rows c are meta =
    ap profile_by (ap length are ∙ length-map c.counters shown_meta ∙ meta_length (profile_in c) 1 (meta_rows c.layout (profile_in c)) c.counters meta.0)
    ∙ by_layout c.layout c meta.0

enough : (l : Layout) (p : Profile) → 11 ≤ meta_rows l p
enough Second Plain = omega arith
enough Second Everyday = omega arith
enough Third p = omega arith

less_then : (a b c : ℕ) → a ≤ b → b ≤ c → a ≤ c
less_then a b c low high = omega (arith, low, high)

pub known_in : (rows : List Row) (least : ℕ) (c : Content) → least ≤ 11 → MetaOf (profile_in c) c → rows ≡ map shown_meta c.counters → IsMetaIn rows least c
known_in rows least c low meta are = record {
  profile = profile_in c;
  count = meta_rows c.layout (profile_in c);
  enough = less_then least 11 (meta_rows c.layout (profile_in c)) low (enough c.layout (profile_in c));
  meta = meta.0;
  are = are;
}

-- ---- another value of a row

alike : (b : Bool) (x y : Counter) (o q : Option Counter) → is_some o ≡ is_some q → is_some (cond b (Some x) o) ≡ is_some (cond b (Some y) q)
alike true x y o q same = refl
alike false x y o q same = same

there_set : (key v k : ℕ) (cs : List Counter) → is_some (at_by counter_key k (set_by counter_key key (valued v) cs)) ≡ is_some (at_by counter_key k cs)
there_set key v k [] = refl
there_set key v k (c ∷ cs) = by (has_by counter_key key c) (there_set key v k cs)
  where
    by : (b : Bool) → is_some (at_by counter_key k (set_by counter_key key (valued v) cs)) ≡ is_some (at_by counter_key k cs)
        → is_some (find (has_by counter_key k) (cond b (valued v c) c ∷ set_by counter_key key (valued v) cs)) ≡ is_some (find (has_by counter_key k) (c ∷ cs))
    by true more = alike (has_by counter_key k c) (valued v c) c _ _ more
    by false more = alike (has_by counter_key k c) c c _ _ more

pub profile_set : (key v : ℕ) (c : Content) → profile_in (set_counter key v c) ≡ profile_in c
profile_set key v c = ap (λ b. cond b Everyday Plain) (there_set key v 12 c.counters)

-- a key that says nothing of the room
pub record AreNoRoom (key : ℕ) : Type 0 where
  pub profile : is_eq (nat_cmp key 12) ≡ false
  pub capacity : is_eq (nat_cmp key 13) ≡ false
  pub used : is_eq (nat_cmp key 14) ≡ false

moved_less : (a b x y : ℕ) → x ≡ a → y ≡ b → a ≤ b → x ≤ y
moved_less a b x y one two less = omega (arith, one, two, less)

pub room_set : (p : Profile) (key v : ℕ) → AreNoRoom key → (c : Content) → HasRoomOf p c → HasRoomOf p (set_counter key v c)
room_set Plain key v other c room = tt
room_set Everyday key v other c room = (
  value_set key v 12 other.profile c ∙ room.0,
  moved_less (value_at 14 c) (value_at 13 c) _ _ (value_set key v 14 other.used c) (value_set key v 13 other.capacity c) room.1,
)

-- it is said by the counters alone
pub room_same : (p : Profile) (c d : Content) → c.counters ≡ d.counters → HasRoomOf p c → HasRoomOf p d
room_same Plain c d same room = tt
room_same Everyday c d same room = subst (λ cs. HasRoomOf Everyday (record c { counters = cs })) same room

-- ---- the test of the rows

-- what `?` returns of a value that was not read
pub fault_back : {Y : Type 0} (Known Holds : Content → Type 0) (e : StoreFault) (r : Result Y StoreFault) → IsErrAnd r (λ f. f ≡ e)
    → ((c : Content) → Known c → IsOutside e) → IfErr r (λ f. (c : Content) → Known c → Holds c → IsOutside f)
fault_back Known Holds e (Ok y) same out = absurd same
fault_back Known Holds e (Err f) same out = λ c known holds. subst IsOutside (sym same) (out c known)

abbrev Shows : List Row → Content → Type 0
Shows rows c = rows ≡ map shown_meta c.counters

abbrev pub AreEveryday : ℕ → Content → Type 0
AreEveryday count c = IsMeta Everyday count c × HasRoomOf Everyday c

module _ {Y : Type 0} (rows : List Row) (count : ℕ) (many : 14 ≤ count) (r : Result Y StoreFault)
    (meta : (cs : List Counter) → rows ≡ map shown_meta cs → IsMetaFrom Everyday 1 count cs) where
  fourteen : (c : Content) → Shows rows c → IsMetaIn rows 14 c
  fourteen c are = record { profile = Everyday; count = count; enough = many; meta = meta c.counters are; are = are }

  pub everyday_whole : OnOk r ((c : Content) → IsMetaIn rows 14 c → HasRoomOf Everyday c) → OnOk r ((c : Content) → Shows rows c → AreEveryday count c)
  everyday_whole room = told r room
    where
      told : (r : Result Y StoreFault) → OnOk r ((c : Content) → IsMetaIn rows 14 c → HasRoomOf Everyday c)
          → OnOk r ((c : Content) → Shows rows c → AreEveryday count c)
      told (Ok y) room = λ c are. (meta c.counters are, room c (fourteen c are))
      told (Err f) room = tt

  pub everyday_fault : IfErr r (λ f. (c : Content) → IsMetaIn rows 14 c → HasRoomOf Everyday c → IsOutside f)
      → IfErr r (λ f. (c : Content) → Shows rows c → AreEveryday count c → IsOutside f)
  everyday_fault out = told r out
    where
      told : (r : Result Y StoreFault) → IfErr r (λ f. (c : Content) → IsMetaIn rows 14 c → HasRoomOf Everyday c → IsOutside f)
          → IfErr r (λ f. (c : Content) → Shows rows c → AreEveryday count c → IsOutside f)
      told (Ok y) out = tt
      told (Err f) out = λ c are whole. out c (fourteen c are) whole.1

-- of version 2, where the number of rows says the profile
abbrev IsOfRows : Profile → Content → Type 0
IsOfRows p c = IsMeta p (meta_rows Second p) c × HasRoomOf p c

module _ {Y : Type 0} (rows : List Row) (p : Profile) (by_count : profile_by (length rows) ≡ p) (r : Result Y StoreFault) where
  pub profile_whole : OnOk r ((c : Content) → Shows rows c → IsOfRows p c)
      → OnOk r ((c : Content) → c.layout ≡ Second → Shows rows c → MetaOf (profile_in c) c)
  profile_whole whole = told r whole
    where
      told : (r : Result Y StoreFault) → OnOk r ((c : Content) → Shows rows c → IsOfRows p c)
          → OnOk r ((c : Content) → c.layout ≡ Second → Shows rows c → MetaOf (profile_in c) c)
      told (Ok y) whole = λ c second are. let is = whole c are in second_meta p c second is.0 is.1
      told (Err f) whole = tt

  rows_of : (c : Content) → c.layout ≡ Second → Shows rows c → MetaOf (profile_in c) c → IsOfRows p c
  rows_of c second are meta =
      let is = sym (counted_by rows c are meta) ∙ by_count in (
        subst (λ q. IsMeta q (meta_rows Second q) c) is (subst (λ l. IsMeta (profile_in c) (meta_rows l (profile_in c)) c) second meta.0),
        subst (λ q. HasRoomOf q c) is meta.1,
      )

  pub profile_fault : IfErr r (λ f. (c : Content) → Shows rows c → IsOfRows p c → IsOutside f)
      → IfErr r (λ f. (c : Content) → c.layout ≡ Second → Shows rows c → MetaOf (profile_in c) c → IsOutside f)
  profile_fault out = told r out
    where
      told : (r : Result Y StoreFault) → IfErr r (λ f. (c : Content) → Shows rows c → IsOfRows p c → IsOutside f)
          → IfErr r (λ f. (c : Content) → c.layout ≡ Second → Shows rows c → MetaOf (profile_in c) c → IsOutside f)
      told (Ok y) out = tt
      told (Err f) out = λ c second are meta. out c are (rows_of c second are meta)

-- the rows of a plain store are all of it
pub plain_whole : {Y : Type 0} (rows : List Row) (r : Result Y StoreFault) → OnOk r ((cs : List Counter) → rows ≡ map shown_meta cs → IsMetaFrom Plain 1 11 cs)
    → OnOk r ((c : Content) → Shows rows c → IsOfRows Plain c)
plain_whole rows (Ok y) whole = λ c are. (whole c.counters are, tt)
plain_whole rows (Err f) whole = tt

pub plain_fault : {Y : Type 0} (rows : List Row) (r : Result Y StoreFault)
    → IfErr r (λ f. (cs : List Counter) → rows ≡ map shown_meta cs → IsMetaFrom Plain 1 11 cs → IsOutside f)
    → IfErr r (λ f. (c : Content) → Shows rows c → IsOfRows Plain c → IsOutside f)
plain_fault rows (Ok y) out = tt
plain_fault rows (Err f) out = λ c are meta. out c.counters are meta.0

-- of either version
module _ {Y : Type 0} (rows : List Row) (layout : Layout) (r : Result Y StoreFault) where
  abbrev Whole : Type 0
  Whole = OnOk r ((c : Content) → layout ≡ c.layout → Shows rows c → MetaOf (profile_in c) c)

  abbrev Faulty : Type 0
  Faulty = IfErr r (λ f. (c : Content) → layout ≡ c.layout → Shows rows c → MetaOf (profile_in c) c → IsOutside f)

pub second_whole : {Y : Type 0} (rows : List Row) (layout : Layout) (r : Result Y StoreFault) → layout ≡ Second
    → OnOk r ((c : Content) → c.layout ≡ Second → Shows rows c → MetaOf (profile_in c) c) → Whole rows layout r
second_whole rows layout (Ok y) is whole = λ c same are. whole c (sym same ∙ is) are
second_whole rows layout (Err f) is whole = tt

pub second_fault : {Y : Type 0} (rows : List Row) (layout : Layout) (r : Result Y StoreFault) → layout ≡ Second
    → IfErr r (λ f. (c : Content) → c.layout ≡ Second → Shows rows c → MetaOf (profile_in c) c → IsOutside f) → Faulty rows layout r
second_fault rows layout (Ok y) is out = tt
second_fault rows layout (Err f) is out = λ c same are meta. out c (sym same ∙ is) are meta

pub third_whole : {Y : Type 0} (rows : List Row) (layout : Layout) (r : Result Y StoreFault) → layout ≡ Third
    → OnOk r ((c : Content) → Shows rows c → AreEveryday 15 c) → Whole rows layout r
third_whole rows layout (Ok y) is whole = λ c same are. let all = whole c are in third_meta c (sym same ∙ is) all.0 all.1
third_whole rows layout (Err f) is whole = tt

pub third_fault : {Y : Type 0} (rows : List Row) (layout : Layout) (r : Result Y StoreFault) → layout ≡ Third
    → IfErr r (λ f. (c : Content) → Shows rows c → AreEveryday 15 c → IsOutside f) → Faulty rows layout r
third_fault rows layout (Ok y) is out = tt
third_fault rows layout (Err f) is out = λ c same are meta. out c are (third_rows c (sym same ∙ is) meta)

-- what is said of a content after a look is said of it before it
pub told_before : {E : Type 0} (r : Result Profile E) (Before After : Content → Type 0) → ((c : Content) → Before c → After c)
    → IfOk r (λ p. (c : Content) → After c → p ≡ profile_in c) → IfOk r (λ p. (c : Content) → Before c → p ≡ profile_in c)
told_before (Ok p) Before After on told = λ c at. told c (on c at)
told_before (Err e) Before After on told = tt
