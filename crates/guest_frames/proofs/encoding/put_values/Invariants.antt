use Rattle.std.proofs.Common.{◌≡◌, ◌++◌, ℕ, List, drop, map}
use Rattle.guest_frames.specs.Encoding.{value_content}
use Rattle.guest_frames.specs.Frames.{value_parts, items_bytes}
use Rattle.guest_frames.proofs.encoding.put_values.Given as goal

abbrev pub invariant-loop-value : goal.invariant-loop-value
invariant-loop-value l = record {
  rest : l.out.items ++ items_bytes value_parts (map value_content (drop l.value-index l.values)) ≡ l.initial.out.items ++ items_bytes value_parts (map value_content l.values);
  more : (more : List ℕ) × (l.out.items ≡ l.initial.out.items ++ more);
}
