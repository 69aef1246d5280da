use Rattle.std.proofs.Common.{length, refl, ◌∙◌}
use Rattle.fuse_data.specs.State.{state_of}
use Rattle.guest_values.proofs.Keeping.{keeps_same}
use Rattle.guest_values.proofs.Writes.{memory_fails, put_bytes}
use Rattle.guest_values.proofs.writing.write_value.Goals as goal

pub returns-in-Err-clause-keeps : goal.returns-in-Err-clause-keeps
returns-in-Err-clause-keeps g c = keeps_same (state_of g.D.Disk c.args.file.now)

pub returns-in-Err-clause-same : goal.returns-in-Err-clause-same
returns-in-Err-clause-same g c = λ other. absurd (other c.in-Err.ensures.cause)

pub returns-in-Err-clause-cause : goal.returns-in-Err-clause-cause
returns-in-Err-clause-cause g c = memory_fails _ _ _ c.in-Err.fault c.in-Err.ensures.cause

pub returns-in-Ok-write_blocks-clause-bytes : goal.returns-in-Ok-write_blocks-clause-bytes
returns-in-Ok-write_blocks-clause-bytes g c =
    put_bytes (length c.args.bytes.now) c.args.bytes.now _ c.as_slice.result.now c.in-Ok-write_blocks.value (state_of g.D.Disk c.args.file.now) (state_of g.D.Disk c.write_blocks.new.file)
    refl (c.as_slice.ensures.value ∙ c.in-Ok.ensures.padded) c.in-Ok-write_blocks.ensures.put

pub returns-in-Ok-write_blocks-clause-zeros : goal.returns-in-Ok-write_blocks-clause-zeros
returns-in-Ok-write_blocks-clause-zeros g c = c.in-Ok-write_blocks.ensures.put.same ∙ c.as_slice.ensures.value ∙ c.in-Ok.ensures.padded
