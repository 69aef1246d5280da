use Rattle.std.proofs.Common.{refl, sym, ◌∙◌}
use Rattle.fuse_guest.specs.Service.{is_broken, first_broken}
use Rattle.fuse_guest.proofs.Places.{goes_past, stops_at, ends_with_none}
use Rattle.fuse_guest.proofs.service.first_broken.Goals as goal

pub loop-opcode-init : goal.loop-opcode-init
loop-opcode-init c = refl

pub returns-then-is_broken : goal.returns-then-is_broken
returns-then-is_broken c =
    stops_at (is_broken c.args.pledged c.args.ready.now) c.loop-opcode.opcode 64 (first_broken c.args.pledged c.args.ready.now) c.loop-opcode-test.true
    (sym c.is_broken.ensures ∙ c.if-is_broken.true) c.loop-opcode.invariant

pub loop-opcode-preserved : goal.loop-opcode-preserved
loop-opcode-preserved c =
    goes_past (is_broken c.args.pledged c.args.ready.now) c.loop-opcode.opcode 64 (first_broken c.args.pledged c.args.ready.now) c.loop-opcode-test.true
    (sym c.is_broken.ensures ∙ c.if-is_broken.false) c.loop-opcode.invariant

pub returns : goal.returns
returns c =
    ends_with_none (is_broken c.args.pledged c.args.ready.now) c.loop-opcode.opcode 64 (first_broken c.args.pledged c.args.ready.now)
    c.loop-opcode-test.false c.loop-opcode.invariant
