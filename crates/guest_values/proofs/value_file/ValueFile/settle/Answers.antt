use Rattle.std.proofs.Common.{subst}
use Rattle.fuse_data.specs.State.{state_of}
use Rattle.guest_values.specs.State.{GivesBack}
use Rattle.guest_values.proofs.Lasting.{rests_freed}
use Rattle.guest_values.proofs.value_file.ValueFile.settle.Goals as goal

pub returns-clause-rests : goal.returns-clause-rests
returns-clause-rests g c = λ committed now h safe.
    rests_freed c.args.self.now.gone.items now c.clear.new.self.items c.clear-2.new.self.items c.give_back_all-all.result
    (state_of g.D.Disk c.args.self.now.file) (state_of g.D.Disk c.give_back_all-all.new.file)
    (subst (λ gs. GivesBack gs c.give_back_all-all.result (state_of g.D.Disk c.args.self.now.file) (state_of g.D.Disk c.give_back_all-all.new.file)) c.as_slice.ensures.value c.give_back_all-all.ensures)
    h.gone_apart c.clear.ensures.items c.clear-2.ensures.items h.current safe
