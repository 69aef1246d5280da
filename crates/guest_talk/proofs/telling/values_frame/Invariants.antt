use Rattle.std.proofs.Common.{◌≡◌, map, take}
use Rattle.guest_frames.specs.Encoding.{value_content}
use Rattle.guest_talk.specs.Showing.{owned_value}
use Rattle.guest_talk.proofs.telling.values_frame.Given as goal

abbrev pub invariant-loop-value : goal.invariant-loop-value
invariant-loop-value l = map value_content l.views.items ≡ map owned_value (take l.value-index l.values)
