use Rattle.std.proofs.Common.{◌≡◌, Bool, true, false, refl}
use Rattle.std.specs.Prelude.{not, ◌&&◌, ◌||◌}
use Rattle.std.proofs.lemmas.List.Elements.{All-map, All-weaker}
use Rattle.fuse_wire.specs.Opcodes.{silent}
use Rattle.fuse_request.specs.Opcodes.{Service, in_profile, profile_alone}
use Rattle.fuse_request.specs.Act.{Act, opcode_of, IsPerformedFor}
use Rattle.fuse_keeper.specs.Group.{entry_of, HasId, IsPerformed}
use Rattle.store_tests.proofs.groups.ask_all.Goals as goal

widened : (s v p : Bool) → (not s && (false || p)) ≡ true → (not s && (v || p)) ≡ true
widened true v p h = absurd cc
widened false true p h = refl
widened false false p h = h

-- what is performed where no others are served is performed by every file system
performed_by_any : (V : Service) (a : Act) → IsPerformedFor profile_alone a → IsPerformedFor V a
performed_by_any V a h = widened (silent (opcode_of a)) (V.serves (opcode_of a)) (in_profile (opcode_of a)) h

pub perform-requires-clause-named : goal.perform-requires-clause-named
perform-requires-clause-named g c = All-map HasId entry_of c.args.group.now c.requires.ids

pub perform-requires-clause-performed : goal.perform-requires-clause-performed
perform-requires-clause-performed g c =
    All-map (IsPerformed (g.K.Keeper.told c.args.keeper.now).service) entry_of c.args.group.now
    (All-weaker (λ p. IsPerformedFor profile_alone (entry_of p).asked.act) (λ p. IsPerformed (g.K.Keeper.told c.args.keeper.now).service (entry_of p))
    (λ p h. performed_by_any (g.K.Keeper.told c.args.keeper.now).service (entry_of p).asked.act h) c.args.group.now c.requires.performed)
