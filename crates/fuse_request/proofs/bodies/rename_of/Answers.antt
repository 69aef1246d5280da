use Rattle.std.proofs.Common.{refl, subst, [], ◌∷◌}
use Rattle.fuse_wire.specs.Layout.{Lays, text}
use Rattle.fuse_request.proofs.bodies.rename_of.Goals as goal

pub returns : goal.returns
returns c =
    let laid = subst (Lays (text c.in_ok-names.names.0.now ∷ text c.in_ok-names.names.1.now ∷ [])) c.split_at.ensures.back c.in_ok-names.ensures in
    (refl, tt, (c.u64_at-new_dir.ensures, (c.if-body-lt-RENAME_IN.false, laid)))
