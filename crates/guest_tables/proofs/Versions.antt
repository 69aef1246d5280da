-- The version that is read, and what it says of the tables.
use Rattle.std.proofs.Common.{◌≡◌, ◌<◌, ◌^◌, ℕ, pos, List, [], ◌∷◌, map, Option, Some, None, Ok, Err, Result, IfOk, IfErr, refl, sym, ap, subst, unwrap_or, option_map, ◌∙◌}
use Rattle.std.specs.Int.{w64, cast_signed}
use Rattle.std.specs.Option.{option_to_list}
use Rattle.sqlite.specs.declared.types.Value.TheVariants.{Int}
use Rattle.sqlite.specs.Order.{Row}
use Rattle.sqlite.specs.Effect.{Database}
use Rattle.fuse_keeper.specs.declared.fault.StoreFault.{StoreFault}
use Rattle.fuse_keeper.specs.declared.fault.StoreFault.TheVariants.{Damaged}
use Rattle.fuse_store_tables.specs.Content.{Counter, counter_key, at_by}
use Rattle.fuse_store_tables.specs.Faults.{IsOutside}
use Rattle.fuse_store_tables.specs.Saying.{HasFirst}
use Rattle.guest_tables.specs.Content.{GuestContent, shown_counter, value_at}
use Rattle.guest_tables.specs.Opening.{IsMeta}
use Rattle.guest_tables.specs.Saying.{IsOwn, HasOwn, ReportsVersion, Says}
use Rattle.guest_tables.proofs.MetaLemmas.{AreBits, bits_found, version_row}

module _ (rows : List Row) (R : GuestContent → Type 0) (shows : (c : GuestContent) → R c
    → AreBits c.counters × (rows ≡ map shown_counter (option_to_list (at_by counter_key 16 c.counters)))) where
  pub version_value : (r : Result ℕ StoreFault) → IfOk r (λ n. (x : Counter) → x.value < 2 ^ 64 → rows ≡ shown_counter x ∷ [] → n ≡ x.value)
      → IfOk r (λ n. rows ≡ [] → ⊥) → IfOk r (λ n. (c : GuestContent) → R c → n ≡ value_at 16 c)
  version_value (Err f) value some = tt
  version_value (Ok n) value some = λ c at. let is = shows c at in by c (at_by counter_key 16 c.counters) refl is.0 is.1
    where
      by : (c : GuestContent) (o : Option Counter) → at_by counter_key 16 c.counters ≡ o → AreBits c.counters → rows ≡ map shown_counter (option_to_list o)
          → n ≡ value_at 16 c
      by c None is bits same = absurd (some same)
      by c (Some x) is bits same =
          value x (bits_found 16 c.counters x bits is) same ∙ sym (ap (λ o. unwrap_or (option_map (λ (y : Counter). y.value) o) 0) is)

  pub version_fault : (r : Result ℕ StoreFault) → IfErr r (λ f. (x : Counter) → rows ≡ shown_counter x ∷ [] → IsOutside f)
      → IfErr r (λ f. (c : GuestContent) → R c → IsMeta c → IsOutside f)
  version_fault (Ok n) fault = tt
  version_fault (Err f) fault = λ c at meta.
      let row = version_row c.counters meta in
      fault row.0 ((shows c at).1 ∙ ap (λ o. map shown_counter (option_to_list o)) row.1)

-- ---- the version is 1

own_rows : (rows : List Row) → HasFirst 1 rows → HasOwn rows
own_rows [] first = absurd first
own_rows (row ∷ rows) first = subst IsOwn (sym first) refl

pub reported_damaged : (d : Database) → ReportsVersion d 1 → Says d Damaged
reported_damaged d reports = (reports.0, reports.1, own_rows reports.0 reports.2)
