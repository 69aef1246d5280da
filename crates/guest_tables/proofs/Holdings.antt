-- What the steps of a keeper make of what the tables hold.
use Rattle.std.proofs.Common.{◌≡◌, ◌<◌, ◌+◌, ◌^◌, ◌==◌, ℕ, List, [], ◌∷◌, Bool, true, false, not, cond, Option, Some, None, Less, Equal, Greater, if◌then◌else◌}
use Rattle.std.proofs.Common.{refl, sym, ap, subst, inl, inr, unwrap_or, option_map, filter, ◌∙◌}
use Rattle.std.specs.List.{list_any}
use Rattle.std.specs.Ordering.{is_eq, nat_cmp, match_ordering}
use Rattle.std.specs.declared.cmp.Ordering.{Ordering}
use Rattle.std.proofs.lemmas.Bool.{cases_Bool}
use Rattle.fuse_init.specs.declared.settings.Settings.{Settings}
use Rattle.fuse_guest.specs.Pairs.{Pairs}
use Rattle.fuse_store_tables.specs.Content.{Counter, Kept, counter_key, kept_key, has_by, at_by, put_by, without_by}
use Rattle.guest_tables.specs.Clearing.{cleared}
use Rattle.guest_tables.specs.Content.{GuestContent, set_counter, value_at, without_kept, with_next_lot}
use Rattle.guest_tables.specs.Holding.{GuestHolding, holding_in, pairs_in}
use Rattle.guest_tables.specs.Opening.{IsMetaOf, IsFitContent, IsRecord, AreRecords, meta_keys}
use Rattle.guest_tables.specs.Settling.{with_settings}
use Rattle.guest_tables.specs.Stepping.{StepsFit, StepsHold, next_holding, settled_holding, cleared_holding}
use Rattle.guest_tables.proofs.Fitting.{fit_new, fit_settings, fit_cleared}
use Rattle.guest_tables.proofs.MetaLemmas.{find_set}
use Rattle.guest_tables.proofs.NextLots.{fit_next, found_set}

-- ---- records

placed : {X : Type 0} (P : X → Type 0) (o : Ordering) (x y z : X) → P x → P y → P z → P (match_ordering o x y z)
placed P Less x y z p q r = p
placed P Equal x y z p q r = q
placed P Greater x y z p q r = r

put_records : (k : Kept) (ks : List Kept) → IsRecord k → AreRecords ks → AreRecords (put_by kept_key k ks)
put_records k [] is all = (is, tt)
put_records k (x ∷ ks) is all =
    placed AreRecords (nat_cmp x.id k.id) (x ∷ put_by kept_key k ks) (k ∷ ks) (k ∷ x ∷ ks) (all.0, put_records k ks is all.1) (is, all.1) (is, all)

filter_records : (q : Kept → Bool) (ks : List Kept) → AreRecords ks → AreRecords (filter q ks)
filter_records q [] all = tt
filter_records q (x ∷ ks) all = told (filter_records q ks all.1) (q x)
  where
    told : AreRecords (filter q ks) → (b : Bool) → AreRecords (cond b (x ∷ filter q ks) (filter q ks))
    told more true = (all.0, more)
    told more false = more

fit_kept : (ks : List Kept) (c : GuestContent) → AreRecords ks → IsFitContent c → IsFitContent (record c { kept = ks })
fit_kept ks c all fit = record {
  meta = record { version = fit.meta.version; meta = fit.meta.meta; lots = fit.meta.lots };
  records = all;
  pairs = fit.pairs;
  apart = fit.apart;
}

fit_gone : (id : ℕ) (c : GuestContent) → IsFitContent c → IsFitContent (without_kept id c)
fit_gone id c fit = fit_kept (without_by kept_key id c.kept) c (filter_records (λ x. not (has_by kept_key id x)) c.kept fit.records) fit

pub steps_fit : StepsFit
steps_fit = record {
  made = fit_new;
  put = λ k c is fit. fit_kept (put_by kept_key k c.kept) c (put_records k c.kept is fit.records) fit;
  gone = fit_gone;
  four = λ first second third last c fit.
      fit_gone last (without_kept third (without_kept second (without_kept first c))) (fit_gone third (without_kept second (without_kept first c))
      (fit_gone second (without_kept first c) (fit_gone first c fit)));
  next = fit_next;
  settled = λ s pledged c fits fit. fit_settings s pledged fits.minor fits.readahead fits.flags fits.pledged c fit;
  cleared = fit_cleared;
}

-- ---- counters

there : (keys : List ℕ) (cs : List Counter) (key : ℕ) → IsMetaOf keys cs → list_any (λ k. is_eq (nat_cmp k key)) keys ≡ true
    → (x : Counter) × (at_by counter_key key cs ≡ Some x)
there [] [] key meta is = absurd cc
there [] (c ∷ cs) key meta is = absurd meta
there (k ∷ keys) [] key meta is = absurd meta
there (k ∷ keys) (c ∷ cs) key meta is = elim (cases_Bool (has_by counter_key key c)) [
  | inl here ↦ (c, rw here refl)
  | inr not_here ↦
      let skips : is_eq (nat_cmp k key) ≡ false = subst (λ n. is_eq (nat_cmp n key) ≡ false) meta.0 not_here in
      let more = there keys cs key meta.2 (rw skips at is) in
      (more.0, rw not_here more.1)
]

record Values : Type 0 where
  agreed : ℕ
  minor : ℕ
  readahead : ℕ
  flags : ℕ
  next : ℕ
  number : ℕ
  pledged : ℕ

abbrev built : Pairs → List Kept → List ℕ → Values → GuestHolding
built pairs kept lots v = record {
  state = record {
    pairs = pairs;
    settings =
        if v.agreed == 0 then None else Some (record { minor = v.minor; max_readahead = v.readahead; flags = record { 0 = v.flags } });
    pledged = v.pledged;
  };
  kept = kept;
  lots = lots;
  next_lot = v.next;
  number = v.number;
}

abbrev values_in : GuestContent → Values
values_in c = record {
  agreed = value_at 7 c;
  minor = value_at 8 c;
  readahead = value_at 9 c;
  flags = value_at 10 c;
  next = value_at 11 c;
  number = value_at 15 c;
  pledged = value_at 17 c;
}

abbrev of : ℕ → ℕ → ℕ → ℕ → ℕ → ℕ → ℕ → Values
of a m r f n k p = record { agreed = a; minor = m; readahead = r; flags = f; next = n; number = k; pledged = p }

abbrev value_in : Option Counter → ℕ
value_in o = unwrap_or (option_map (λ (y : Counter). y.value) o) 0

-- ---- the settings

module _ (agreed minor readahead flags pledged : ℕ) (c : GuestContent) (meta : IsMetaOf meta_keys c.counters) where
  abbrev one : GuestContent
  one = set_counter 7 agreed c

  abbrev two : GuestContent
  two = set_counter 8 minor one

  abbrev three : GuestContent
  three = set_counter 9 readahead two

  abbrev four : GuestContent
  four = set_counter 10 flags three

  abbrev five : GuestContent
  five = set_counter 17 pledged four

  agreed_is : value_at 7 five ≡ agreed
  agreed_is =
      let x = there meta_keys c.counters 7 meta refl in
      ap value_in (find_set 17 pledged 7 refl four.counters ∙ find_set 10 flags 7 refl three.counters ∙ find_set 9 readahead 7 refl two.counters
      ∙ find_set 8 minor 7 refl one.counters ∙ found_set 7 agreed c.counters x.0 x.1)

  minor_is : value_at 8 five ≡ minor
  minor_is =
      let x = there meta_keys c.counters 8 meta refl in
      ap value_in (find_set 17 pledged 8 refl four.counters ∙ find_set 10 flags 8 refl three.counters ∙ find_set 9 readahead 8 refl two.counters
      ∙ found_set 8 minor one.counters x.0 (find_set 7 agreed 8 refl c.counters ∙ x.1))

  readahead_is : value_at 9 five ≡ readahead
  readahead_is =
      let x = there meta_keys c.counters 9 meta refl in
      ap value_in (find_set 17 pledged 9 refl four.counters ∙ find_set 10 flags 9 refl three.counters
      ∙ found_set 9 readahead two.counters x.0 (find_set 8 minor 9 refl one.counters ∙ find_set 7 agreed 9 refl c.counters ∙ x.1))

  flags_are : value_at 10 five ≡ flags
  flags_are =
      let x = there meta_keys c.counters 10 meta refl in
      ap value_in (find_set 17 pledged 10 refl four.counters
      ∙ found_set 10 flags three.counters x.0 (find_set 9 readahead 10 refl two.counters ∙ find_set 8 minor 10 refl one.counters
      ∙ find_set 7 agreed 10 refl c.counters ∙ x.1))

  pledged_is : value_at 17 five ≡ pledged
  pledged_is =
      let x = there meta_keys c.counters 17 meta refl in
      ap value_in (found_set 17 pledged four.counters x.0 (find_set 10 flags 17 refl three.counters ∙ find_set 9 readahead 17 refl two.counters
      ∙ find_set 8 minor 17 refl one.counters ∙ find_set 7 agreed 17 refl c.counters ∙ x.1))

  stays : (k : ℕ) → is_eq (nat_cmp 7 k) ≡ false → is_eq (nat_cmp 8 k) ≡ false → is_eq (nat_cmp 9 k) ≡ false → is_eq (nat_cmp 10 k) ≡ false
      → is_eq (nat_cmp 17 k) ≡ false → value_at k five ≡ value_at k c
  stays k seven eight nine ten seventeen =
      ap value_in (find_set 17 pledged k seventeen four.counters ∙ find_set 10 flags k ten three.counters ∙ find_set 9 readahead k nine two.counters
      ∙ find_set 8 minor k eight one.counters ∙ find_set 7 agreed k seven c.counters)

  values_set : values_in five ≡ of agreed minor readahead flags (value_at 11 c) (value_at 15 c) pledged
  values_set =
      let v = values_in five in
      ap (λ n. of n v.minor v.readahead v.flags v.next v.number v.pledged) agreed_is
      ∙ ap (λ n. of agreed n v.readahead v.flags v.next v.number v.pledged) minor_is
      ∙ ap (λ n. of agreed minor n v.flags v.next v.number v.pledged) readahead_is
      ∙ ap (λ n. of agreed minor readahead n v.next v.number v.pledged) flags_are
      ∙ ap (λ n. of agreed minor readahead flags n v.number v.pledged) (stays 11 refl refl refl refl refl)
      ∙ ap (λ n. of agreed minor readahead flags (value_at 11 c) n v.pledged) (stays 15 refl refl refl refl refl)
      ∙ ap (of agreed minor readahead flags (value_at 11 c) (value_at 15 c)) pledged_is

settled_is : (s : Settings) (pledged : ℕ) (c : GuestContent) → IsFitContent c → holding_in (with_settings s pledged c) ≡ settled_holding s pledged (holding_in c)
settled_is s pledged c fit = ap (built (pairs_in c) c.kept c.lots) (values_set 1 s.minor s.max_readahead s.flags.0 pledged c fit.meta.meta)

cleared_is : (c : GuestContent) → IsFitContent c → holding_in (cleared c) ≡ cleared_holding (holding_in c)
cleared_is c fit = ap (built (pairs_in c) [] []) (values_set 0 0 0 0 0 c fit.meta.meta)

-- ---- the next lot

module _ (c : GuestContent) (meta : IsMetaOf meta_keys c.counters) (n : ℕ) where
  abbrev after : GuestContent
  after = set_counter 11 n c

  next_is : value_at 11 after ≡ n
  next_is = let x = there meta_keys c.counters 11 meta refl in ap value_in (found_set 11 n c.counters x.0 x.1)

  other : (k : ℕ) → is_eq (nat_cmp 11 k) ≡ false → value_at k after ≡ value_at k c
  other k differs = ap value_in (find_set 11 n k differs c.counters)

  values_next : values_in after ≡ of (value_at 7 c) (value_at 8 c) (value_at 9 c) (value_at 10 c) n (value_at 15 c) (value_at 17 c)
  values_next =
      let v = values_in after in
      ap (λ m. of m v.minor v.readahead v.flags v.next v.number v.pledged) (other 7 refl)
      ∙ ap (λ m. of (value_at 7 c) m v.readahead v.flags v.next v.number v.pledged) (other 8 refl)
      ∙ ap (λ m. of (value_at 7 c) (value_at 8 c) m v.flags v.next v.number v.pledged) (other 9 refl)
      ∙ ap (λ m. of (value_at 7 c) (value_at 8 c) (value_at 9 c) m v.next v.number v.pledged) (other 10 refl)
      ∙ ap (λ m. of (value_at 7 c) (value_at 8 c) (value_at 9 c) (value_at 10 c) m v.number v.pledged) next_is
      ∙ ap (λ m. of (value_at 7 c) (value_at 8 c) (value_at 9 c) (value_at 10 c) n m v.pledged) (other 15 refl)
      ∙ ap (of (value_at 7 c) (value_at 8 c) (value_at 9 c) (value_at 10 c) n (value_at 15 c)) (other 17 refl)

next_holds : (c : GuestContent) → IsFitContent c → holding_in (with_next_lot c) ≡ next_holding (holding_in c)
next_holds c fit =
    ap (built (pairs_in c) c.kept (put_by (λ m. m) (value_at 11 c) c.lots)) (values_next c fit.meta.meta (value_at 11 c + 1))

pub steps_hold : StepsHold
steps_hold = record {
  made = λ number. refl;
  put = λ k c. refl;
  gone = λ id c. refl;
  next = next_holds;
  settled = settled_is;
  cleared = cleared_is;
}
