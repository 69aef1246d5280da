use Rattle.std.proofs.Common.{refl}
use Rattle.fuse_request.specs.Opcodes.{profile_alone}
use Rattle.fuse_request.proofs.class.classify.Goals as goal

pub returns-clause-class : goal.returns-clause-class
returns-clause-class c = c.classify_for.ensures.class profile_alone refl refl

pub returns-clause-spells : goal.returns-clause-spells
returns-clause-spells c = c.classify_for.ensures.spells profile_alone refl refl
