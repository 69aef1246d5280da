use Rattle.std.proofs.Common.{refl, subst, [], ◌∷◌}
use Rattle.fuse_wire.specs.Layout.{Lays, text}
use Rattle.fuse_request.proofs.further.getxattr_of.Goals as goal

pub returns : goal.returns
returns c =
    let laid = subst (Lays (text c.in_ok-name.name.now ∷ [])) c.split_at.ensures.back c.in_ok-name.ensures in
    (refl, (c.u32_at-size.ensures, (c.if-body-lt-GETXATTR_IN.false, laid)))
