use Rattle.std.proofs.Common.{refl}
use Rattle.fuse_request.proofs.Laid.{short_init_placed, init_placed}
use Rattle.fuse_request.proofs.bodies.init_of.Goals as goal

pub returns-then-body-eq-COMPAT_INIT_IN : goal.returns-then-body-eq-COMPAT_INIT_IN
returns-then-body-eq-COMPAT_INIT_IN c = rw c.init_with.ensures (refl, tt, short_init_placed c.args.body.now c.if-body-eq-COMPAT_INIT_IN.true)

pub returns : goal.returns
returns c =
    let flags2 = c.u32_at-flags2.result in
    rw c.init_with-2.ensures (refl, tt, init_placed c.args.body.now flags2 c.if-body-ne-INIT_IN.false c.u32_at-flags2.ensures)
