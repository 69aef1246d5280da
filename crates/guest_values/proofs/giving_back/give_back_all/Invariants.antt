use Rattle.std.proofs.Common.{take}
use Rattle.fuse_data.specs.State.{state_of}
use Rattle.guest_values.specs.State.{GivesBack}
use Rattle.guest_values.proofs.giving_back.give_back_all.Given as goal

abbrev pub invariant-loop-piece : goal.invariant-loop-piece
invariant-loop-piece g l = GivesBack (take l.piece-index l.pieces) l.all (state_of g.D.Disk l.fn.file) (state_of g.D.Disk l.file)
