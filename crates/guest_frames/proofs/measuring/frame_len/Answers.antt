use Rattle.std.proofs.Common.{◌≤◌, map, length, sym, ◌∙◌, arith}
use Rattle.std.proofs.lemmas.Bool.{eqb-false}
use Rattle.std.proofs.lemmas.List.{length-map}
use Rattle.guest_frames.specs.Encoding.{value_content, pair_content}
use Rattle.guest_frames.proofs.Measures.{values_some, values_none, none_of_more, pairs_some, pairs_none}
use Rattle.guest_frames.proofs.measuring.frame_len.Goals as goal

pub returns-else-values-clause-some : goal.returns-else-values-clause-some
returns-else-values-clause-some c =
    let vs = map value_content c.in-Values.values.now in
    let len = length-map c.in-Values.values.now value_content in
    let some : 1 ≤ length vs = omega (arith, len, eqb-false (length c.in-Values.values.now) 0 (sym c.if-is_empty.ensures)) in
    rw c.in-Values.is (values_some c.layouts_stand.ensures vs c.values_len.result some (omega (arith, len, c.if-values.false)) c.values_len.ensures)

pub returns-else-values-clause-none : goal.returns-else-values-clause-none
returns-else-values-clause-none c =
    rw c.in-Values.is (values_none c.layouts_stand.ensures (map value_content c.in-Values.values.now) c.values_len.result c.values_len.ensures)

pub returns-then-none_of_more-clause-none : goal.returns-then-none_of_more-clause-none
returns-then-none_of_more-clause-none c =
    rw c.in-Pairs.is
    (none_of_more (map pair_content c.in-Pairs.pairs.now) c.in-Pairs.more (sym c.none_of_more.ensures ∙ c.if-none_of_more.true))

pub returns-else-none_of_more-clause-some : goal.returns-else-none_of_more-clause-some
returns-else-none_of_more-clause-some c =
    rw c.in-Pairs.is
    (pairs_some c.layouts_stand.ensures (map pair_content c.in-Pairs.pairs.now) c.in-Pairs.more c.pairs_len.result
    (sym c.none_of_more.ensures ∙ c.if-none_of_more.false) c.pairs_len.ensures)

pub returns-else-none_of_more-clause-none : goal.returns-else-none_of_more-clause-none
returns-else-none_of_more-clause-none c =
    rw c.in-Pairs.is (pairs_none c.layouts_stand.ensures (map pair_content c.in-Pairs.pairs.now) c.in-Pairs.more c.pairs_len.result c.pairs_len.ensures)
