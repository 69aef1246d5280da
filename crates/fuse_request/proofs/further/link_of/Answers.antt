use Rattle.std.proofs.Common.{refl, subst, [], ◌∷◌}
use Rattle.fuse_wire.specs.Layout.{Lays, text}
use Rattle.fuse_request.proofs.further.link_of.Goals as goal

pub returns : goal.returns
returns c =
    let laid = subst (Lays (text c.in_ok-name.name.now ∷ [])) c.split_at.ensures.back c.in_ok-name.ensures in
    (refl, (c.u64_at-oldnodeid.ensures, (c.if-body-lt-LINK_IN.false, laid)))
