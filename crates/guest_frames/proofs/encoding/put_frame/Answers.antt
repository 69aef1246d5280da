use Rattle.std.proofs.Common.{map, arith}
use Rattle.std.specs.Prelude.{IfSome}
use Rattle.std.proofs.lemmas.List.{length-map}
use Rattle.guest_frames.specs.Encoding.{value_content, pair_content}
use Rattle.guest_frames.specs.Frames.{IsValue, IsPair}
use Rattle.guest_frames.proofs.Measures.{all_map, few_pairs}
use Rattle.guest_frames.proofs.encoding.put_frame.Goals as goal

pub put_values-requires-clause-each : goal.put_values-requires-clause-each
put_values-requires-clause-each c =
    let limited = rw c.in-Values.is at c.requires.limited in all_map value_content (λ v. IfSome v IsValue) c.in-Values.values.now limited.0.each

pub put_pairs-requires-clause-few : goal.put_pairs-requires-clause-few
put_pairs-requires-clause-few c =
    let limited = rw c.in-Pairs.is at c.requires.limited in
    let few = few_pairs c.layouts_stand.ensures (map pair_content c.in-Pairs.pairs.now) c.in-Pairs.more limited in
    omega (arith, few, length-map c.in-Pairs.pairs.now pair_content)

pub put_pairs-requires-clause-each : goal.put_pairs-requires-clause-each
put_pairs-requires-clause-each c =
    let limited = rw c.in-Pairs.is at c.requires.limited in all_map pair_content IsPair c.in-Pairs.pairs.now limited.0.each
