use Rattle.std.proofs.Common.{refl, sym, ◌∙◌}
use Rattle.fuse_request.proofs.Laid.{bytes_laid}
use Rattle.fuse_request.proofs.bodies.write_of.Goals as goal

pub returns : goal.returns
returns c =
    let payload = c.split_at.result.1.now in
    let count = sym c.if-size-payload.false ∙ c.u32_at-size.ensures in
    let laid = bytes_laid payload _ c.split_at.ensures.back in (
      refl,
      tt,
      (
        c.u64_at-fh.ensures,
        (
          c.u64_at-offset.ensures,
          (count, (c.u32_at-write_flags.ensures, (c.u64_at-lock_owner.ensures, (c.u32_at-flags.ensures, (c.if-body-lt-WRITE_IN.false, laid))))),
        ),
      ),
    )
