use Rattle.std.proofs.Common.{◌≡◌, drop, map}
use Rattle.guest_frames.specs.Encoding.{value_content}
use Rattle.guest_frames.specs.inner.Writers.{value_room, measured}
use Rattle.guest_frames.proofs.measuring.values_len.Given as goal

abbrev pub invariant-loop-value : goal.invariant-loop-value
invariant-loop-value l = measured value_room l.len (map value_content (drop l.value-index l.values)) ≡ measured value_room 16 (map value_content l.values)
