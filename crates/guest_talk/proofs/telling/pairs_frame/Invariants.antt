use Rattle.std.proofs.Common.{◌≡◌, map, take}
use Rattle.guest_frames.specs.Encoding.{pair_content}
use Rattle.guest_talk.specs.Showing.{owned_content}
use Rattle.guest_talk.proofs.telling.pairs_frame.Given as goal

abbrev pub invariant-loop-pair : goal.invariant-loop-pair
invariant-loop-pair l = map pair_content l.views.items ≡ map owned_content (take l.pair-index l.page.pairs.items)
