use Rattle.std.proofs.Common.{◌≡◌, ◌<◌, ℕ, pos, length, arith}
use Rattle.std.proofs.lemmas.Result.{IfOk-weaker, IfErr-weaker}
use Rattle.sqlite.specs.declared.types.Value.TheVariants.{Int}
use Rattle.sqlite.specs.Order.{column}
use Rattle.fuse_store_tables.specs.Faults.{IsOutside}
use Rattle.guest_tables.specs.Content.{GuestContent, value_at}
use Rattle.guest_tables.specs.inner.Checking.{IsMetaIn}
use Rattle.guest_tables.proofs.NextLots.{lot_column, lot_long, lot_value}
use Rattle.guest_tables.proofs.meta.next_lot_in.Goals as goal

pub returns-clause-value : goal.returns-clause-value
returns-clause-value c =
    let row = c.index-meta-4.result in
    IfOk-weaker c.number_at.result (λ n. column row 1 ≡ Int (pos n)) (λ n. (k : GuestContent) → IsMetaIn c.args.meta.now k → n ≡ value_at 11 k)
    (λ n shows k is. lot_value k c.args.meta.now row row is c.index-meta-4.is n shows) c.number_at.ensures.value

pub returns-clause-fault : goal.returns-clause-fault
returns-clause-fault c =
    let row = c.index-meta-4.result in
    IfErr-weaker c.number_at.result (λ f. (n : ℕ) → 1 < length row → column row 1 ≡ Int (pos n) → IsOutside f)
    (λ f. (k : GuestContent) → IsMetaIn c.args.meta.now k → IsOutside f)
    (λ f out k is. out _ (lot_long k c.args.meta.now row row is c.index-meta-4.is) (lot_column k c.args.meta.now row row is c.index-meta-4.is))
    c.number_at.ensures.fault
