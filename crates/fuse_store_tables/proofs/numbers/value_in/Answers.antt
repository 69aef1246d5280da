use Rattle.std.proofs.Common.{◌≡◌, ◌<◌, ℕ, pos, length, arith}
use Rattle.std.proofs.lemmas.Result.{IfOk-weaker, IfErr-weaker}
use Rattle.sqlite.specs.declared.types.Value.TheVariants.{Int}
use Rattle.sqlite.specs.Order.{column}
use Rattle.fuse_store_tables.specs.Content.{Content, value_at}
use Rattle.fuse_store_tables.specs.Faults.{IsOutside}
use Rattle.fuse_store_tables.specs.inner.Checking.{IsMetaIn}
use Rattle.fuse_store_tables.proofs.NumberRows.{is_there, value_there, is_number}
use Rattle.fuse_store_tables.proofs.numbers.value_in.Goals as goal

pub returns-then-at-meta-clause-fault : goal.returns-then-at-meta-clause-fault
returns-then-at-meta-clause-fault c = λ k is.
    let there = is_there c.args.meta.now c.args.key k c.requires is in
    absurd (omega (arith, there, c.if-at-meta.true))

pub returns-clause-value : goal.returns-clause-value
returns-clause-value c =
    let row = c.index-meta-at.result in
    IfOk-weaker c.number_at.result (λ n. column row 1 ≡ Int (pos n)) (λ n. (k : Content) → IsMetaIn c.args.meta.now c.args.key k → n ≡ value_at c.args.key k)
    (λ n shows k is. value_there c.args.meta.now c.args.key k c.requires is row row n c.index-meta-at.is shows) c.number_at.ensures.value

pub returns-clause-fault : goal.returns-clause-fault
returns-clause-fault c =
    let row = c.index-meta-at.result in
    IfErr-weaker c.number_at.result (λ f. (n : ℕ) → 1 < length row → column row 1 ≡ Int (pos n) → IsOutside f)
    (λ f. (k : Content) → IsMetaIn c.args.meta.now c.args.key k → IsOutside f)
    (λ f out k is. let number = is_number c.args.meta.now c.args.key k c.requires is row row c.index-meta-at.is in out _ number.0 number.1)
    c.number_at.ensures.fault
