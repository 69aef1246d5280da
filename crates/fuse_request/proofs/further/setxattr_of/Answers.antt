use Rattle.std.proofs.Common.{refl, subst, [], ◌∷◌, ◌∙◌}
use Rattle.fuse_wire.specs.Layout.{Lays, text, bytes}
use Rattle.fuse_request.proofs.further.setxattr_of.Goals as goal

pub returns : goal.returns
returns c =
    let value = c.in_ok-named.ensures in
    let laid = subst (Lays (text c.in_ok-named.named.0.now ∷ bytes c.in_ok-named.named.1.now ∷ [])) c.split_at.ensures.back value.1 in
    (refl, (value.0 ∙ c.u32_at-size.ensures, (c.u32_at-flags.ensures, (c.if-body-lt-SETXATTR_IN.false, laid))))
