use Rattle.std.proofs.Common.{◌≡◌, ◌*◌, ◌/◌, length, drop, refl, arith}
use Rattle.fuse_wire.specs.Bytes.{number_of}
use Rattle.fuse_request.proofs.Laid.{bytes_laid}
use Rattle.fuse_request.proofs.bodies.batch_forget_of.Goals as goal

pub returns : goal.returns
returns c =
    let items = c.split_at.result.1.now in
    let counted = c.if-count-items.false in
    let whole : length items ≡ 16 * (length items / 16) = omega (arith, counted) in
    let count : length items / 16 ≡ number_of 4 (drop 0 c.args.body.now) = omega (arith, counted, c.u32_at-count.ensures) in
    (refl, whole, (count, (c.if-body-lt-BATCH_FORGET_IN.false, bytes_laid items _ c.split_at.ensures.back)))
