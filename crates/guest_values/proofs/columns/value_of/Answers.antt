use Rattle.std.proofs.Common.{◌≡◌, ◌∙◌, ◌-◌, ℕ, ap, subst, arith}
use Rattle.std.specs.Prelude.{Some, min}
use Rattle.fuse_data.specs.declared.extent.TheConstants.{MOST}
use Rattle.guest_values.specs.Values.{IsFitValue, value_blocks}
use Rattle.guest_values.proofs.RowColumns.{none_by, fit_in_two}
use Rattle.guest_values.proofs.columns.value_of.Goals as goal

pub returns-clause-none : goal.returns-clause-none
returns-clause-none c =
    let blocks = c.count_blocks-blocks.ensures in
    let count : min (value_blocks c.args.len) MOST ≡ c.min.result = omega (arith, c.min.ensures, blocks) in
    let rest = c.second_in-second.ensures.count ∙ c.saturating_sub.ensures ∙ ap (λ (n : ℕ). n - MOST) blocks in
    none_by _ _ c.fit-2.result (λ unfit v fit has. unfit (subst
    (λ (n : ℕ). IsFitValue (record { len = c.args.len; first = record { place = c.args.place; count = n; sum = c.args.sum }; second = Some c.second_in-second.result })) count
    (fit_in_two c.numbers_read.ensures v c.second_in-second.result c.args.rest.now c.args.place c.args.len c.args.sum c.second_in-second.ensures.bytes
    c.second_in-second.ensures.low rest fit has))) c.fit-2.ensures.none
