-- What keeps a store of version 2 or 3 in order.
use Rattle.std.proofs.Common.{◌≡◌, ◌≤◌, ◌<◌, ℕ, suc, List, [], ◌∷◌, filter, length, min, not, Bool, true, false, cond, Ok, Err, Result, refl, sym}
use Rattle.std.proofs.Common.{◌^◌, ◌-◌, ◌++◌, Option, Some, None, subst, arith, ◌∙◌}
use Rattle.std.specs.Prelude.{IfSome}
use Rattle.std.specs.Ordering.{is_eq, nat_cmp}
use Rattle.sqlite.specs.State.{State, Survives}
use Rattle.sqlite.proofs.StateLemmas.{survives_weaker}
use Rattle.fuse_keeper.specs.declared.fault.StoreFault.{StoreFault}
use Rattle.fuse_rows.specs.declared.origin.Origin.{Origin}
use Rattle.fuse_init.specs.declared.profile.Profile.{Profile}
use Rattle.fuse_init.specs.declared.profile.Profile.TheVariants.{Plain, Everyday}
use Rattle.fuse_init.specs.Profile.{terms}
use Rattle.fuse_store_tables.specs.Content.{Content, Holds, LeftAs, node_key, value_at, set_counter, is_unnamed}
use Rattle.fuse_store_tables.specs.Clearing.{cleared, counted_to, lowered, named, unnamed_blocks}
use Rattle.fuse_store_tables.specs.Making.{new_content, first_counters, volume_counters, layout_for, IsVolume}
use Rattle.fuse_store_tables.specs.declared.version.Volume.{Volume}
use Rattle.fuse_store_tables.specs.declared.version.Layout.TheVariants.{Second, Third}
use Rattle.fuse_store_tables.specs.Layout.{version_of}
use Rattle.fuse_store_tables.specs.Moves.{RestsAs, Serves, ServesAs, IsSafe}
use Rattle.fuse_store_tables.specs.Opening.{greatest_value, profile_in, meta_rows, IsMetaFrom, MetaOf, AreAbove, IsFitContent, IsSecond}
use Rattle.fuse_store_tables.proofs.MetaLemmas.{meta_set}
use Rattle.fuse_store_tables.proofs.Lowering.{lowered_low, room_lowered}
use Rattle.fuse_store_tables.proofs.Profiles.{AreNoRoom, profile_set, room_same, room_set}
use Rattle.fuse_store_tables.proofs.CounterValues.{AreOthers, value_set, above_set, lots_set, below_filter}

-- a counter that is neither the version nor above any numbers, and says nothing of the room
pub record IsFree (key : ℕ) : Type 0 where
  pub version : is_eq (nat_cmp key 1) ≡ false
  pub others : AreOthers key
  pub lot : is_eq (nat_cmp key 11) ≡ false
  pub room : AreNoRoom key

abbrev AreFew : Content → Profile → Type 0
AreFew c p = length c.nodes ≤ (terms p).node_limit

-- its other value
pub fit_set : (key v : ℕ) → IsFree key → (c : Content) → v ≤ greatest_value (profile_in c) key → IsFitContent c → IsFitContent (set_counter key v c)
fit_set key v free c low fit =
    let p = profile_in c in
    record {
      version = value_set key v 1 free.version c ∙ fit.version;
      meta = subst (λ q. MetaOf q (set_counter key v c)) (sym (profile_set key v c))
          (meta_set p 1 (meta_rows c.layout p) key v c.counters fit.meta.0 low, room_set p key v free.room c fit.meta.1);
      above = above_set key v free.others c fit.above;
      lots = lots_set key v free.lot c fit.lots;
      errnos = fit.errnos;
      few = subst (AreFew c) (sym (profile_set key v c)) fit.few;
    }

-- ---- the begin of a mount

filter_length : {X : Type 0} (p : X → Bool) (xs : List X) → length (filter p xs) ≤ length xs
filter_length p [] = omega arith
filter_length p (x ∷ xs) = told (filter_length p xs) (p x)
  where
    told : length (filter p xs) ≤ length xs → (b : Bool) → length (cond b (x ∷ filter p xs) (filter p xs)) ≤ suc (length xs)
    told less true = omega (arith, less)
    told less false = omega (arith, less)

few_counted : (n m most : ℕ) → n ≤ m → m ≤ most → min n 9223372036854775807 ≤ most
few_counted n m most less few = omega (arith, less, few)

few_left : (n m most : ℕ) → n ≤ m → m ≤ most → n ≤ most
few_left n m most less few = omega (arith, less, few)

-- the key of another row of `meta`, as a number shows it
abbrev IsOther : ℕ → ℕ → Type 0
IsOther key k = is_eq (nat_cmp key k) ≡ false

free_by : (key : ℕ) → IsOther key 1 → IsOther key 2 → IsOther key 3 → IsOther key 4 → IsOther key 11 → IsOther key 12 → IsOther key 13 → IsOther key 14
    → IsFree key
free_by key one two three four eleven twelve thirteen fourteen = record {
  version = one;
  others = record { node = two; fh = three; cookie = four };
  lot = eleven;
  room = record { profile = twelve; capacity = thirteen; used = fourteen };
}

free_five : IsFree 5
free_five = free_by 5 refl refl refl refl refl refl refl refl

free_six : IsFree 6
free_six = free_by 6 refl refl refl refl refl refl refl refl

free_seven : IsFree 7
free_seven = free_by 7 refl refl refl refl refl refl refl refl

free_eight : IsFree 8
free_eight = free_by 8 refl refl refl refl refl refl refl refl

free_nine : IsFree 9
free_nine = free_by 9 refl refl refl refl refl refl refl refl

free_ten : IsFree 10
free_ten = free_by 10 refl refl refl refl refl refl refl refl

fit_lowered : (c : Content) → IsFitContent c → IsFitContent (lowered c)
fit_lowered c fit =
    let p = profile_in c in
    let left = value_at 14 c - unnamed_blocks c.layout c.nodes in
    record {
      version = value_set 14 left 1 refl c ∙ fit.version;
      meta = subst (λ q. MetaOf q (lowered c)) (sym (profile_set 14 left c))
          (meta_set p 1 (meta_rows c.layout p) 14 left c.counters fit.meta.0 (lowered_low p (meta_rows c.layout p) c fit.meta.0), room_lowered p c fit.meta.1);
      above = above_set 14 left (record { node = refl; fh = refl; cookie = refl }) c fit.above;
      lots = lots_set 14 left refl c fit.lots;
      errnos = fit.errnos;
      few = subst (AreFew c) (sym (profile_set 14 left c)) fit.few;
    }

pub fit_cleared : (c : Content) → IsFitContent c → IsFitContent (cleared c)
fit_cleared c fit =
    let less = filter_length (λ n. not (is_unnamed n)) c.nodes in
    let c6 = set_counter 6 0 (lowered c) in
    let c7 = set_counter 7 0 c6 in
    let c8 = set_counter 8 0 c7 in
    let c9 = set_counter 9 0 c8 in
    let c10 = set_counter 10 0 c9 in
    let six = fit_set 6 0 free_six (lowered c) (omega arith) (fit_lowered c fit) in
    let seven = fit_set 7 0 free_seven c6 (omega arith) six in
    let eight = fit_set 8 0 free_eight c7 (omega arith) seven in
    let nine = fit_set 9 0 free_nine c8 (omega arith) eight in
    let ten = fit_set 10 0 free_ten c9 (omega arith) nine in
    let all = fit_set 5 (counted_to (named c.nodes)) free_five c10 (few_counted (length (named c.nodes)) (length c.nodes) _ less ten.few) ten in
    record {
      version = all.version;
      meta = (all.meta.0, room_same (profile_in (cleared c)) (set_counter 5 (counted_to (named c.nodes)) c10) (cleared c) refl all.meta.1);
      above = record {
        nodes = below_filter node_key (value_at 2 (cleared c)) (λ n. not (is_unnamed n)) c.nodes all.above.nodes;
        handles = tt;
        entries = all.above.entries;
      };
      lots = tt;
      errnos = tt;
      few = few_left (length (named c.nodes)) (length c.nodes) _ less all.few;
    }

-- ---- a new store

one_below_two : 1 < 2
one_below_two = omega arith

first_meta : IsMetaFrom Plain 1 11 (first_counters Second)
first_meta = (
  refl,
  omega arith,
  (
    refl,
    omega arith,
    (
      refl,
      omega arith,
      (
        refl,
        omega arith,
        (
          refl,
          omega arith,
          (refl, omega arith, (refl, omega arith, (refl, omega arith, (refl, omega arith, (refl, omega arith, (refl, omega arith, tt)))))),
        ),
      ),
    ),
  ),
)

-- of an everyday store: the number of its profile, its capacity, no blocks in use, and its own number
volume_meta : (volume : Volume) → IsVolume volume → IsMetaFrom Everyday 1 15 (first_counters Third ++ volume_counters volume)
volume_meta volume is =
    let low = is.capacity in
    let small = is.number in (
      refl,
      omega arith,
      (
        refl,
        omega arith,
        (
          refl,
          omega arith,
          (
            refl,
            omega arith,
            (
              refl,
              omega arith,
              (
                refl,
                omega arith,
                (
                  refl,
                  omega arith,
                  (
                    refl,
                    omega arith,
                    (
                      refl,
                      omega arith,
                      (
                        refl,
                        omega arith,
                        (refl, omega arith, (refl, omega arith, (refl, omega (arith, low), (refl, omega arith, (refl, omega (arith, small), tt))))),
                      ),
                    ),
                  ),
                ),
              ),
            ),
          ),
        ),
      ),
    )

from_zero : (n : ℕ) → 0 ≤ n
from_zero n = omega arith

new_meta : (volume : Option Volume) → IfSome volume IsVolume → (from : Origin) → MetaOf (profile_in (new_content volume from)) (new_content volume from)
new_meta None is from = (first_meta, tt)
new_meta (Some volume) is from = (volume_meta volume is, (refl, from_zero volume.capacity))

new_few : (volume : Option Volume) (from : Origin) → AreFew (new_content volume from) (profile_in (new_content volume from))
new_few None from = omega arith
new_few (Some volume) from = omega arith

new_version : (volume : Option Volume) (from : Origin) → value_at 1 (new_content volume from) ≡ version_of (layout_for volume)
new_version None from = refl
new_version (Some volume) from = refl

new_above : (volume : Option Volume) (from : Origin) → AreAbove (new_content volume from)
new_above None from = record { nodes = (one_below_two, tt); handles = tt; entries = tt }
new_above (Some volume) from = record { nodes = (one_below_two, tt); handles = tt; entries = tt }

pub fit_new : (volume : Option Volume) (from : Origin) → IfSome volume IsVolume → IsFitContent (new_content volume from)
fit_new volume from is = record {
  version = new_version volume from;
  meta = new_meta volume is from;
  above = new_above volume from;
  lots = tt;
  errnos = tt;
  few = new_few volume from;
}

-- a whole transaction, where the content stays in order
module _ (f : Content → Content) (keeps : (c : Content) → IsFitContent c → IsFitContent (f c)) (a b : State) where
  rests_held : (c : Content) (s : State) → RestsAs (IsSecond c) s → RestsAs (Holds c) s
  rests_held c s at = record { is_open = at.is_open; autocommit = at.autocommit; holds = at.holds.holds; committed = at.committed }

  rests_fit : (c : Content) (s : State) → IsFitContent c → RestsAs (Holds c) s → RestsAs (IsSecond c) s
  rests_fit c s fit at = record { is_open = at.is_open; autocommit = at.autocommit; holds = record { holds = at.holds; fit = fit }; committed = at.committed }

  survives_fit : Survives a b (λ db. (c : Content) → RestsAs (Holds c) a → LeftAs (Holds (f c)) db) → Survives a b (λ db. (c : Content) → RestsAs (IsSecond c) a
      → LeftAs (IsSecond (f c)) db)
  survives_fit s = survives_weaker a b _ _ (λ _ db left c at. let it = left c (rests_held c a at) in (
    it.0,
    record { holds = it.1; fit = keeps c at.holds.fit },
    it.2,
  )) s

  pub second_serves : {X E : Type 0} (r : Result X E) → Serves f a b r → ServesAs IsSecond (λ c. IsSecond (f c)) a b r
  second_serves (Ok x) p = record {
    survives = survives_fit p.survives;
    kept = tt;
    done = λ clean c at. rests_fit (f c) b (keeps c at.holds.fit)
        (p.done clean c (rests_held c a at));
  }
  second_serves (Err e) p = record {
    survives = survives_fit p.survives;
    kept = λ clean is_open c at. rests_fit c b at.holds.fit
        (p.kept clean is_open c (rests_held c a at));
    done = tt;
  }

  pub second_safe : {X : Type 0} (r : Result X StoreFault) → IsSafe Holds a b r → IsSafe IsSecond a b r
  second_safe (Ok x) p clean = tt
  second_safe (Err e) p clean = λ c at. p clean c (rests_held c a at)
