use Rattle.std.proofs.Common.{◌∙◌, ap, arith}
use Rattle.fuse_request.specs.Act.{Asked}
use Rattle.fuse_request.specs.AskedSize.{size_asked}
use Rattle.fuse_request.specs.Places.{asked_at}
use Rattle.fuse_sim.proofs.kernel.asks.Goals as goal

pub unreachable-requires : goal.unreachable-requires
unreachable-requires c = c.in-Err.ensures.only (asked_at c.args.message.now) c.requires.spells

pub u32_at-requires : goal.u32_at-requires
u32_at-requires c =
    let long = (c.spelled_at.ensures _ _ c.requires.spells).long in
    omega arith

pub returns-clause-opcode : goal.returns-clause-opcode
returns-clause-opcode c = c.u32_at.ensures ∙ (c.spelled_at.ensures (asked_at c.args.message.now) c.args.message.now c.requires.spells).opcode

pub returns-clause-size : goal.returns-clause-size
returns-clause-size c = c.size_asked.ensures ∙ ap (λ (r : Asked). size_asked r.act) c.in-Ok.ensures.placed
