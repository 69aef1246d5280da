-- That a session works on what it was given (defined by this project).
use Rattle.std.specs.Prelude.{◌≡◌}
use Rattle.fuse_session.specs.declared.session.Session.{Session}

-- the references of a session stay
abbrev pub SameLoans : {K P C : Type 0} → Session K P C → Session K P C → Type 0
SameLoans old new = (new.keeper.ghost_name ≡ old.keeper.ghost_name) × (new.port.ghost_name ≡ old.port.ghost_name)
    × (new.clock.ghost_name ≡ old.clock.ghost_name) × (new.pending.ghost_name ≡ old.pending.ghost_name)
