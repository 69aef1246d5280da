use Rattle.std.proofs.Common.{◌≡◌, ◌++◌, ℕ, List, drop, map}
use Rattle.guest_frames.specs.Encoding.{pair_content}
use Rattle.guest_frames.specs.Frames.{pair_parts, items_bytes}
use Rattle.guest_frames.proofs.encoding.put_pairs.Given as goal

abbrev pub invariant-loop-pair : goal.invariant-loop-pair
invariant-loop-pair l = record {
  rest : l.out.items ++ items_bytes pair_parts (map pair_content (drop l.pair-index l.pairs)) ≡ l.initial.out.items ++ items_bytes pair_parts (map pair_content l.pairs);
  more : (more : List ℕ) × (l.out.items ≡ l.initial.out.items ++ more);
}
