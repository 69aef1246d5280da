use Rattle.std.proofs.Common.{refl, subst, [], ◌∷◌}
use Rattle.fuse_wire.specs.Layout.{Lays, text}
use Rattle.fuse_request.proofs.bodies.mknod_of.Goals as goal

pub returns : goal.returns
returns c =
    let laid = subst (Lays (text c.in_ok-name.name.now ∷ [])) c.split_at.ensures.back c.in_ok-name.ensures in
    (refl, tt, (c.u32_at-mode.ensures, (c.u32_at-rdev.ensures, (c.u32_at-umask.ensures, (c.if-body-lt-MKNOD_IN.false, laid)))))
