use Rattle.std.proofs.Common.{refl, sym, ◌∙◌}
use Rattle.guest_frames.specs.Seeable.{unseeable}
use Rattle.guest_frames.proofs.Sets.{goes_past, stops_at, ends_with_none}
use Rattle.guest_frames.proofs.seeable.unseeable.Goals as goal

pub loop-opcode-init : goal.loop-opcode-init
unfolding unseeable
loop-opcode-init c = refl

pub returns-then-is_unseeable : goal.returns-then-is_unseeable
returns-then-is_unseeable c =
    stops_at c.loop-opcode.opcode 64 c.loop-opcode.rest (unseeable c.args.set) c.loop-opcode-test.true (sym c.is_unseeable.ensures ∙ c.if-is_unseeable.true)
    c.loop-opcode.invariant

pub loop-opcode-preserved : goal.loop-opcode-preserved
loop-opcode-preserved c =
    goes_past c.loop-opcode.opcode 64 c.loop-opcode.rest (unseeable c.args.set) c.loop-opcode-test.true (sym c.is_unseeable.ensures ∙ c.if-is_unseeable.false)
    c.loop-opcode.invariant

pub returns : goal.returns
returns c = ends_with_none c.loop-opcode.opcode 64 c.loop-opcode.rest (unseeable c.args.set) c.loop-opcode-test.false c.loop-opcode.invariant
