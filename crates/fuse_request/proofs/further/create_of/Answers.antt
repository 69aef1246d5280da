use Rattle.std.proofs.Common.{refl, subst, [], ◌∷◌}
use Rattle.fuse_wire.specs.Layout.{Lays, text}
use Rattle.fuse_request.proofs.further.create_of.Goals as goal

pub returns : goal.returns
returns c =
    let laid = subst (Lays (text c.in_ok-name.name.now ∷ [])) c.split_at.ensures.back c.in_ok-name.ensures in
    (refl, (c.u32_at-flags.ensures, (c.u32_at-mode.ensures, (c.u32_at-umask.ensures, (c.u32_at-open_flags.ensures, (c.if-body-lt-CREATE_IN.false, laid))))))
