use Rattle.std.proofs.Common.{◌≡◌, ◌<◌, ℕ, pos, List, [], map, length, arith, ap, subst, sym}
use Rattle.std.proofs.lemmas.Result.{IfOk-weaker, IfErr-weaker}
use Rattle.sqlite.specs.declared.types.Value.TheVariants.{Int}
use Rattle.sqlite.specs.Order.{Row, column}
use Rattle.fuse_store_tables.specs.Faults.{IsOutside}
use Rattle.guest_tables.specs.Content.{GuestContent, shown_counter, value_at}
use Rattle.guest_tables.specs.Opening.{IsMeta}
use Rattle.guest_tables.proofs.NextLots.{fifth, fifth_value, shown_long}
use Rattle.guest_tables.proofs.lots.next_lot_of.Goals as goal

pub returns-in-Some-clause-value : goal.returns-in-Some-clause-value
returns-in-Some-clause-value c =
    let row = c.in-Some.row.now in
    IfOk-weaker c.number_at.result (λ n. column row 0 ≡ Int (pos n))
    (λ n. (k : GuestContent) → IsMeta k → c.args.rows.now ≡ map shown_counter k.counters → n ≡ value_at 11 k)
    (λ n shows k meta same. fifth_value row (value_at 11 k) n (fifth k c.args.rows.now row [] meta same (c.in-Some.ensures.lookup.3.1 [])) shows)
    c.number_at.ensures.value

pub returns-in-Some-clause-fault : goal.returns-in-Some-clause-fault
returns-in-Some-clause-fault c =
    let row = c.in-Some.row.now in
    IfErr-weaker c.number_at.result (λ f. (n : ℕ) → 0 < length row → column row 0 ≡ Int (pos n) → IsOutside f)
    (λ f. (k : GuestContent) → IsMeta k → c.args.rows.now ≡ map shown_counter k.counters → IsOutside f)
    (λ f out k meta same.
    let is = fifth k c.args.rows.now row [] meta same (c.in-Some.ensures.lookup.3.1 []) in
    out (value_at 11 k) (subst (λ (r : Row). 0 < length r) (sym is) (omega arith)) (ap (λ (r : Row). column r 0) is))
    c.number_at.ensures.fault
