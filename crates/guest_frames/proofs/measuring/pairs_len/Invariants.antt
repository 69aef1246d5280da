use Rattle.std.proofs.Common.{◌≡◌, drop, map}
use Rattle.guest_frames.specs.Encoding.{pair_content}
use Rattle.guest_frames.specs.inner.Writers.{pair_room, measured}
use Rattle.guest_frames.proofs.measuring.pairs_len.Given as goal

abbrev pub invariant-loop-pair : goal.invariant-loop-pair
invariant-loop-pair l = measured pair_room l.len (map pair_content (drop l.pair-index l.pairs)) ≡ measured pair_room 16 (map pair_content l.pairs)
