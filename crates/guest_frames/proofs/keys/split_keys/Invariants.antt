use Rattle.std.proofs.Common.{◌≡◌, ◌-◌}
use Rattle.guest_frames.specs.declared.guest_kind.GuestKind.TheVariants.{Get}
use Rattle.guest_frames.specs.Reading.{items_first, key_first}
use Rattle.guest_frames.proofs.Items.{rest_of}
use Rattle.guest_frames.proofs.keys.split_keys.Given as goal

abbrev pub invariant-loop : goal.invariant-loop
invariant-loop l = rest_of (items_first (key_first Get) (l.count - l.counter) l.rest) ≡ rest_of (items_first (key_first Get) l.count l.bytes)
