use Rattle.std.proofs.Common.{length, arith}
use Rattle.fuse_data.specs.State.{state_of}
use Rattle.guest_values.specs.Values.{value_blocks}
use Rattle.guest_values.proofs.Keeping.{keeps_then}
use Rattle.guest_values.proofs.Writes.{two_put, back_keeps, back_to_same, front_fails, rest_fails, same_space}
use Rattle.guest_values.proofs.writing.write_two.Goals as goal

pub returns-in-Err-clause-same : goal.returns-in-Err-clause-same
returns-in-Err-clause-same g c = λ other. same_space (state_of g.D.Disk c.args.file.now).gaps (state_of g.D.Disk c.write_piece.new.file).gaps c.in-Err.ensures.failed

pub returns-in-Err-clause-cause : goal.returns-in-Err-clause-cause
returns-in-Err-clause-cause g c =
    let s = state_of g.D.Disk c.args.file.now in
    front_fails s.is_usable s.gaps (length c.args.front.now) (value_blocks c.args.len) c.in-Err.fault c.requires.more c.requires.full c.in-Err.ensures.cause

pub returns-in-Ok-write_rest-clause-keeps : goal.returns-in-Ok-write_rest-clause-keeps
returns-in-Ok-write_rest-clause-keeps g c =
    keeps_then (state_of g.D.Disk c.args.file.now) (state_of g.D.Disk c.write_piece.new.file) (state_of g.D.Disk c.write_rest.new.file)
    c.write_piece.ensures.keeps c.in-Ok-write_rest.ensures.keeps

pub returns-in-Ok-write_rest-clause-put : goal.returns-in-Ok-write_rest-clause-put
returns-in-Ok-write_rest-clause-put g c =
    two_put c.args.len c.args.front.now c.args.rest.now c.in-Ok.first c.in-Ok-write_rest.second
    (state_of g.D.Disk c.args.file.now) (state_of g.D.Disk c.write_piece.new.file) (state_of g.D.Disk c.write_rest.new.file)
    c.requires.large c.requires.full c.requires.size c.in-Ok.ensures.written c.in-Ok-write_rest.ensures.written c.in-Ok-write_rest.ensures.keeps

pub returns-in-Err-write_rest-clause-keeps : goal.returns-in-Err-write_rest-clause-keeps
returns-in-Err-write_rest-clause-keeps g c =
    back_keeps c.args.front.now c.in-Ok.first
    (state_of g.D.Disk c.args.file.now) (state_of g.D.Disk c.write_piece.new.file) (state_of g.D.Disk c.write_rest.new.file)
    c.in-Err-write_rest.fault c.write_piece.ensures.keeps c.in-Ok.ensures.written c.in-Err-write_rest.ensures.failed

pub returns-in-Err-write_rest-clause-same : goal.returns-in-Err-write_rest-clause-same
returns-in-Err-write_rest-clause-same g c =
    back_to_same c.args.front.now c.in-Ok.first
    (state_of g.D.Disk c.args.file.now) (state_of g.D.Disk c.write_piece.new.file) (state_of g.D.Disk c.write_rest.new.file)
    c.in-Err-write_rest.fault c.in-Ok.ensures.written c.in-Err-write_rest.ensures.failed

pub returns-in-Err-write_rest-clause-cause : goal.returns-in-Err-write_rest-clause-cause
returns-in-Err-write_rest-clause-cause g c =
    let large = c.requires.large in
    rest_fails c.args.front.now c.in-Ok.first (state_of g.D.Disk c.args.file.now) (state_of g.D.Disk c.write_piece.new.file)
    (length c.args.rest.now) (value_blocks c.args.len) c.in-Err-write_rest.fault c.in-Ok.ensures.written c.requires.full c.write_piece.ensures.keeps.usable
    c.requires.more (omega (arith, large.1)) (omega (arith, c.requires.full, c.requires.size)) c.in-Err-write_rest.ensures.cause
