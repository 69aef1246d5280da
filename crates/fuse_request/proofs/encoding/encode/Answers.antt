use Rattle.std.proofs.Common.{refl, arith}
use Rattle.fuse_request.specs.Act.{asked}
use Rattle.fuse_request.specs.inner.Writing.{HasNumbers}
use Rattle.fuse_request.specs.Canon.{canon}
use Rattle.fuse_request.proofs.Canons.{spelled_again, well}
use Rattle.fuse_request.proofs.Acts.{Laws}
use Rattle.fuse_request.proofs.Heads.{no_fault, is_at}
use Rattle.fuse_request.proofs.encoding.encode.Goals as goal

pub returns-then-len-clause-too_long : goal.returns-then-len-clause-too_long
returns-then-len-clause-too_long c = (λ _. omega (arith, c.message_len-len.ensures.len, c.if-len.true), λ _. refl)

pub returns-then-is_err-clause-too_long : goal.returns-then-is_err-clause-too_long
returns-then-is_err-clause-too_long c = (λ is. absurd cc, λ long. absurd (omega (arith, long, c.message_len-len.ensures.len, c.if-len.false)))

pub returns-clause-too_long : goal.returns-clause-too_long
returns-clause-too_long c = (λ is. absurd cc, λ long. absurd (omega (arith, long, c.message_len-len.ensures.len, c.if-len.false)))

pub returns-clause-spelled : goal.returns-clause-spelled
returns-clause-spelled c =
    let v = asked c.args.request.now in
    spelled_again c.layouts_stand.ensures v c.requires (well c.put_message.result (HasNumbers v) c.is_err.result c.put_message.ensures.fits
    c.is_err.ensures.value c.if-is_err.false)

pub returns-clause-decoded : goal.returns-clause-decoded
returns-clause-decoded c =
    let v = asked c.args.request.now in
    let s = spelled_again c.layouts_stand.ensures v c.requires (well c.put_message.result (HasNumbers v) c.is_err.result c.put_message.ensures.fits
    c.is_err.ensures.value c.if-is_err.false) in
    let laws : Laws = (c.layouts_stand.ensures, c.names_end.ensures) in
    (no_fault laws v (canon v) s, is_at laws v (canon v) s)
