use Rattle.std.proofs.Common.{length, arith}
use Rattle.fuse_data.specs.State.{state_of}
use Rattle.guest_values.specs.Values.{value_blocks}
use Rattle.guest_values.proofs.Writes.{one_put, one_fails, same_space}
use Rattle.guest_values.proofs.writing.write_one.Goals as goal

pub returns-in-Ok-clause-put : goal.returns-in-Ok-clause-put
returns-in-Ok-clause-put g c =
    one_put c.args.len c.args.blocks.now c.in-Ok.first (state_of g.D.Disk c.args.file.now) (state_of g.D.Disk c.write_piece.new.file) c.requires.large c.requires.size
    c.in-Ok.ensures.written

pub returns-in-Err-clause-same : goal.returns-in-Err-clause-same
returns-in-Err-clause-same g c = λ other. same_space (state_of g.D.Disk c.args.file.now).gaps (state_of g.D.Disk c.write_piece.new.file).gaps c.in-Err.ensures.failed

pub returns-in-Err-clause-cause : goal.returns-in-Err-clause-cause
returns-in-Err-clause-cause g c =
    let s = state_of g.D.Disk c.args.file.now in
    let blocks = value_blocks c.args.len in
    one_fails s.is_usable s.gaps (length c.args.blocks.now) blocks c.in-Err.fault
    (blocks, omega (arith, c.requires.large.0), omega (arith, c.requires.size, c.requires.few), c.requires.size) c.requires.size c.in-Err.ensures.cause
