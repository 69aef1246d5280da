-- A store whose written blocks are counted is in order.
use Rattle.std.proofs.Common.{◌≡◌, ◌≤◌, ◌<◌, ◌^◌, ◌+◌, ℕ, List, [], ◌∷◌, map, length, Ok, Err, Result, IfErr, IsErrAnd, refl, sym, ap, subst, arith, ◌∙◌}
use Rattle.std.specs.Prelude.{⊤}
use Rattle.std.specs.List.{sum_by}
use Rattle.std.specs.Result.{IsErr}
use Rattle.std.proofs.lemmas.List.Sums.{sum_by-cons}
use Rattle.sqlite.specs.Order.{Row}
use Rattle.sqlite.specs.Effect.{Database}
use Rattle.fuse_keeper.specs.declared.fault.StoreFault.{StoreFault}
use Rattle.std.proofs.lemmas.List.{length-map}
use Rattle.sqlite.specs.State.{State}
use Rattle.fuse_init.specs.declared.profile.Profile.TheVariants.{Everyday}
use Rattle.fuse_init.specs.Profile.{terms}
use Rattle.fuse_rows.specs.declared.rows.NodeRow.{NodeRow}
use Rattle.fuse_store_tables.specs.declared.version.Layout.TheVariants.{Second}
use Rattle.fuse_store_tables.specs.Blocks.{Block}
use Rattle.fuse_store_tables.specs.Content.{Content, Counter, Holds, node_key, value_at, set_counter, with_counter}
use Rattle.fuse_store_tables.specs.Migrating.{all_written, written_of, with_written, counting_written}
use Rattle.fuse_store_tables.specs.Faults.{IsOutside}
use Rattle.fuse_store_tables.specs.Moves.{InsideAs, Takes}
use Rattle.fuse_store_tables.specs.declared.counted_nodes.Added.{Added}
use Rattle.fuse_store_tables.specs.declared.everyday.Copies.{Copies}
use Rattle.fuse_store_tables.specs.inner.Checking.{IsMetaIn}
use Rattle.fuse_store_tables.specs.inner.Looking.{ReadsIf}
use Rattle.fuse_store_tables.specs.inner.Performing.{IsSure}
use Rattle.fuse_store_tables.specs.inner.Steps.{HoldsIn}
use Rattle.fuse_store_tables.specs.Opening.{IsMeta, IsMetaFrom, MetaOf, meta_rows, HasRoomOf, AllBelow, AreAbove, LotsAreBelow, IsFitContent, IsSecond, IsToCount, IsEverydaySecond, HasRoomFor, greatest_value, profile_in}
use Rattle.fuse_store_tables.specs.inner.Copies.{marked_third, added_of, IsCopyOf, IsRead}
use Rattle.fuse_store_tables.proofs.CounterValues.{value_set, value_put_other, above_set, above_put, lots_set}
use Rattle.fuse_store_tables.proofs.Either.{sub_from, narrowed_if}
use Rattle.fuse_store_tables.proofs.Filling.{added_same}
use Rattle.fuse_store_tables.proofs.WrittenSums.{written_in}
use Rattle.fuse_store_tables.proofs.Lowering.{value_low, set_at_most}
use Rattle.fuse_store_tables.proofs.MetaLemmas.{meta_more, meta_set}
use Rattle.fuse_store_tables.proofs.Profiles.{everyday_in, third_meta, room_same}

-- the rows of `meta` of an everyday store of version 2
everyday_meta : (c : Content) → c.layout ≡ Second → profile_in c ≡ Everyday → MetaOf (profile_in c) c → IsMeta Everyday 14 c × HasRoomOf Everyday c
everyday_meta c second everyday meta =
    let all = subst (λ l. IsMeta (profile_in c) (meta_rows l (profile_in c)) c) second meta.0 in
    (subst (λ p. IsMeta p (meta_rows Second p) c) everyday all, subst (λ p. HasRoomOf p c) everyday meta.1)

counted_version : (used number : ℕ) (c : Content) (cs : List Counter) → IsMetaFrom Everyday 1 14 cs
    → value_at 1 (marked_third used number (record c { counters = cs })) ≡ 3
counted_version used number c [] meta = absurd meta
counted_version used number c (x ∷ cs) meta = started x.key x.value meta.0
  where
    started : (key value : ℕ) → key ≡ 1 → value_at 1 (marked_third used number (record c { counters = record { key = key; value = value } ∷ cs })) ≡ 3
    started key value is = subst (λ k. value_at 1 (marked_third used number (record c { counters = record { key = k; value = value } ∷ cs })) ≡ 3) (sym is) refl

in_range : (w capacity most : ℕ) → w ≤ capacity → capacity ≤ most → w ≤ most
in_range w capacity most room low = omega (arith, room, low)

still_room : (x y w capacity v z : ℕ) → x ≡ v → v ≤ w → w ≤ capacity → y ≡ z → z ≡ capacity → x ≤ y
still_room x y w capacity v z one two three four five = omega (arith, one, two, three, four, five)

small_number : (n : ℕ) → n < 2 ^ 63 → n ≤ 9223372036854775807
small_number n small = omega (arith, small)

below_written : (bs : List Block) (next : ℕ) (ns : List NodeRow) → AllBelow node_key next ns → AllBelow node_key next (map (with_written bs) ns)
below_written bs next [] all = tt
below_written bs next (n ∷ ns) all = (all.0, below_written bs next ns all.1)

abbrev counters_now : ℕ → Content → Content
counters_now number c = marked_third (all_written c) number c

module _ (number : ℕ) (c : Content) (meta : IsMeta Everyday 14 c) (room : HasRoomOf Everyday c) (small : number < 2 ^ 63) (fits : HasRoomFor c) where
  meta_now : IsMeta Everyday 15 (counters_now number c)
  meta_now =
      let w = all_written c in
      let c1 = set_counter 1 3 c in
      meta_more Everyday 1 14 15 number (set_counter 14 w c1).counters refl
      (meta_set Everyday 1 14 14 w c1.counters (meta_set Everyday 1 14 1 3 c.counters meta (omega arith))
      (in_range w (value_at 13 c) _ fits (value_low Everyday 1 14 13 c.counters meta))) (small_number number small)

  room_now : HasRoomOf Everyday (counters_now number c)
  room_now =
      let w = all_written c in
      let c1 = set_counter 1 3 c in
      let c14 = set_counter 14 w c1 in (
        value_put_other 15 number 12 refl c14 ∙ value_set 14 w 12 refl c1 ∙ value_set 1 3 12 refl c ∙ room.0,
        still_room _ _ w (value_at 13 c) (value_at 14 c14) (value_at 13 c14) (value_put_other 15 number 14 refl c14) (set_at_most 14 w c1.counters) fits
            (value_put_other 15 number 13 refl c14) (value_set 14 w 13 refl c1 ∙ value_set 1 3 13 refl c),
      )

pub counted_fit : (number : ℕ) (c : Content) → c.layout ≡ Second → profile_in c ≡ Everyday → number < 2 ^ 63 → HasRoomFor c → IsFitContent c
    → IsFitContent (counting_written number c)
counted_fit number c second everyday small fits fit =
    let both = everyday_meta c second everyday fit.meta in
    let w = all_written c in
    let c1 = set_counter 1 3 c in
    let c14 = set_counter 14 w c1 in
    let k = counting_written number c in
    let now = meta_now number c both.0 both.1 small fits in
    let above = above_put 15 number (record { node = refl; fh = refl; cookie = refl }) c14 (above_set 14 w (record { node = refl; fh = refl; cookie = refl }) c1
    (above_set 1 3 (record { node = refl; fh = refl; cookie = refl }) c fit.above)) in
    record {
      version = counted_version w number c c.counters both.0;
      meta = third_meta k refl now (room_same Everyday (counters_now number c) k refl (room_now number c both.0 both.1 small fits));
      above = record { nodes = below_written c.blocks _ c.nodes above.nodes; handles = above.handles; entries = above.entries };
      lots = subst (λ n. AllBelow (λ lot. lot) n c.lots) (sym (value_put_other 15 number 11 refl c14)) (lots_set 14 w refl c1 (lots_set 1 3 refl c fit.lots));
      errnos = fit.errnos;
      few = subst (λ n. n ≤ (terms (profile_in k)).node_limit) (sym (length-map c.nodes (with_written c.blocks)))
          (subst (λ p. length c.nodes ≤ (terms p).node_limit) (everyday ∙ sym (everyday_in Everyday 15 k (omega arith) now)) fit.few);
    }

-- what is known of an everyday store of version 2
pub everyday_second : (c : Content) → c.layout ≡ Second → profile_in c ≡ Everyday → MetaOf (profile_in c) c → IsEverydaySecond c
everyday_second c second everyday meta = record { second = second; everyday = everyday; meta = subst (λ p. MetaOf p c) everyday meta }

-- ---- what was read of it

abbrev Facts : Content → Type 0
Facts c = IsFitContent c × (c.layout ≡ Second) × (profile_in c ≡ Everyday) × HasRoomFor c

abbrev pub KnownRead : Copies → ℕ → Content → Database → Type 0
KnownRead s used c d = IsRead s used c d × Facts c

held_second : (c : Content) (a : State) → InsideAs (IsToCount c) a → InsideAs (HoldsIn Second c) a
held_second c a at = record { is_open = at.is_open; in_transaction = at.in_transaction; holds = (at.holds.store.holds, at.holds.second) }

known_second : (c : Content) (d : Database) → IsToCount c d → IsEverydaySecond c
known_second c d h = everyday_second c h.second h.everyday h.store.fit.meta

pub reads_known : (s : Copies) (used : ℕ) (a b : State) → ReadsIf (λ _. ⊤) (λ c t. IsCopyOf t c) a b (Ok s)
    → ((c : Content) → IsCopyOf s c → IsEverydaySecond c → (used ≡ all_written c) × HasRoomFor c)
    → Takes {E = StoreFault} IsToCount (KnownRead s used) a b (Ok s)
reads_known s used a b p told = record {
  stays = p.takes.stays;
  within = p.takes.within;
  turns = λ clean c at.
      let held = held_second c a at in
      let on = p.takes.turns clean c held in
      let copy = p.found clean c held tt in
      let all = told c copy (known_second c a.now at.holds) in
      record {
        is_open = on.is_open;
        in_transaction = on.in_transaction;
        holds = ((copy, all.0, on.holds), (at.holds.store.fit, at.holds.second, at.holds.everyday, all.1));
      };
}

pub writes_known : {X E : Type 0} (s : Copies) (used number : ℕ) → number < 2 ^ 63 → (b d : State) (r : Result X E)
    → Takes (IsRead s used) (λ c. Holds (counting_written number c)) b d r → Takes (KnownRead s used) (λ c. IsSecond (counting_written number c)) b d r
writes_known s used number small b d r t =
    narrowed_if (KnownRead s used) (λ c. Holds (counting_written number c)) (λ c. IsSecond (counting_written number c)) b d r
    (sub_from (KnownRead s used) (IsRead s used) (λ c. Holds (counting_written number c)) (λ c e h. h.0) b d r t)
    (λ clean c at on. record {
      is_open = on.is_open;
      in_transaction = on.in_transaction;
      holds = record { holds = on.holds; fit = counted_fit number c at.holds.1.1 at.holds.1.2 small at.holds.1.3 at.holds.1.0 };
    })

-- a read that failed
pub reads_fail : {X Y : Type 0} (Found : Content → X → Type 0) (Q : Content → Database → Type 0) (a b : State) (r : Result X StoreFault) (q : Result Y StoreFault)
    → ReadsIf (λ _. ⊤) Found a b r → IsErr q → Takes IsToCount Q a b q
reads_fail Found Q a b r (Ok y) p is = absurd cc
reads_fail Found Q a b r (Err f) p is = record { stays = p.takes.stays; within = tt; turns = tt }

abbrev pub IsRoomy : Content → Database → Type 0
IsRoomy c d = IsToCount c d × HasRoomFor c

held_roomy : (c : Content) (a : State) → InsideAs (IsRoomy c) a → InsideAs (HoldsIn Second c) a
held_roomy c a at = held_second c a (record { is_open = at.is_open; in_transaction = at.in_transaction; holds = at.holds.0 })

pub reads_sure : {X Y : Type 0} (Found : Content → X → Type 0) (a b : State) (e : StoreFault) (r : Result Y StoreFault) → IsErrAnd r (λ f. f ≡ e)
    → ReadsIf (λ _. ⊤) Found a b (Err e) → IsSure IsRoomy a b r
reads_sure Found a b e (Ok y) same p = absurd same
reads_sure Found a b e (Err f) same p = λ clean at. subst IsOutside (sym same) (p.sure clean at.0 (held_roomy at.0 a at.1) tt)

pub used_sure : {Y : Type 0} (s : Copies) (a b : State) (e : StoreFault) (r : Result Y StoreFault) → IsErrAnd r (λ f. f ≡ e)
    → ReadsIf (λ _. ⊤) (λ c t. IsCopyOf t c) a b (Ok s) → ((c : Content) → IsCopyOf s c → IsEverydaySecond c → HasRoomFor c → IsOutside e)
    → IsSure IsRoomy a b r
used_sure s a b e (Ok y) same p out = absurd same
used_sure s a b e (Err f) same p out = λ clean at.
    subst IsOutside (sym same) (out at.0 (p.found clean at.0 (held_roomy at.0 a at.1) tt) (known_second at.0 a.now at.1.holds.0) at.1.holds.1)

-- ---- the sum of what was read

sums_same : (bs : List Block) (ns : List NodeRow) → sum_by written_in (map (with_written bs) ns) ≡ sum_by (written_of bs) ns
sums_same bs [] = refl
sums_same bs (n ∷ ns) =
    sum_by-cons written_in (with_written bs n) (map (with_written bs) ns) ∙ ap (λ more. written_of bs n + more) (sums_same bs ns)
    ∙ sym (sum_by-cons (written_of bs) n ns)

at_most : (used w capacity most : ℕ) → used ≡ w → used ≤ capacity → capacity ≡ most → w ≤ most
at_most used w capacity most one two three = omega (arith, one, two, three)

not_above : (w capacity most : ℕ) → capacity < w → capacity ≡ most → w ≤ most → ⊥
not_above w capacity most one two three = omega (arith, one, two, three)

fourteen : 13 ≤ 14
fourteen = omega arith

meta_of : (s : Copies) (rows : List Row) → rows ≡ s.counters.items → (c : Content) → IsCopyOf s c → IsEverydaySecond c → IsMetaIn rows 13 c
meta_of s rows are c copy is = record {
  profile = Everyday;
  count = 14;
  enough = fourteen;
  meta = subst (λ l. IsMeta Everyday (meta_rows l Everyday) c) is.second is.meta.0;
  are = are ∙ copy.counters;
}

-- a value that could not be read
pub room_fault : {Y : Type 0} (s : Copies) (rows : List Row) → rows ≡ s.counters.items → (e : StoreFault) (r : Result Y StoreFault) → IsErrAnd r (λ f. f ≡ e)
    → ((c : Content) → IsMetaIn rows 13 c → IsOutside e)
    → IfErr r (λ f. (c : Content) → IsCopyOf s c → IsEverydaySecond c → HasRoomFor c → IsOutside f)
room_fault s rows are e (Ok y) same out = absurd same
room_fault s rows are e (Err f) same out = λ c copy is room. subst IsOutside (sym same) (out c (meta_of s rows are c copy is))

module _ (s : Copies) (rows : List Row) (added : List Added) (are : rows ≡ s.counters.items) (also : added ≡ s.added.items) where
  added_are : (c : Content) → IsCopyOf s c → added ≡ map added_of (map (with_written c.blocks) c.nodes)
  added_are c copy = also ∙ copy.added ∙ added_same c.blocks c.nodes

  pub used_is : (capacity used : ℕ) → ((c : Content) → IsMetaIn rows 13 c → capacity ≡ value_at 13 c) → used ≤ capacity
      → ((ns : List NodeRow) → added ≡ map added_of ns → used ≡ sum_by written_in ns)
      → (c : Content) → IsCopyOf s c → IsEverydaySecond c → (used ≡ all_written c) × HasRoomFor c
  used_is capacity used value low sum c copy is =
      let all = sum (map (with_written c.blocks) c.nodes) (added_are c copy) ∙ sums_same c.blocks c.nodes in
      (all, at_most used (all_written c) capacity (value_at 13 c) all low (value c (meta_of s rows are c copy is)))

  pub no_room : {X : Type 0} (capacity : ℕ) → ((c : Content) → IsMetaIn rows 13 c → capacity ≡ value_at 13 c)
      → ((ns : List NodeRow) → added ≡ map added_of ns → capacity < sum_by written_in ns)
      → (c : Content) → IsCopyOf s c → IsEverydaySecond c → HasRoomFor c → X
  no_room capacity value above c copy is room =
      absurd (not_above (all_written c) capacity (value_at 13 c)
      (subst (λ n. capacity < n) (sums_same c.blocks c.nodes) (above (map (with_written c.blocks) c.nodes) (added_are c copy))) (value c (meta_of s rows are c copy is)) room)
