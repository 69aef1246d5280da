use Rattle.std.proofs.Common.{◌∙◌, sym}
use Rattle.fuse_data.specs.State.{state_of}
use Rattle.guest_values.proofs.GivingBack.{gives_more}
use Rattle.guest_values.proofs.Results.{no_true}
use Rattle.guest_values.proofs.giving_back.give_back_all.Goals.{then-all, else-all}
use Rattle.guest_values.proofs.giving_back.give_back_all.Goals as goal

pub loop-piece-preserved : goal.loop-piece-preserved
loop-piece-preserved g c =
    gives_more c.args.pieces.now c.loop-piece.piece-index (record { place = 0; count = 0; sum = 0 }) c.loop-piece.all c.give_back-freed.result c.if-all.all
    (state_of g.D.Disk c.args.file.now) (state_of g.D.Disk c.loop-piece.file) (state_of g.D.Disk c.give_back-freed.new.file) c.loop-piece-test.true
    (λ is. elim c.if-all.branch [
      | then-all w ↦ (w.if-all.true, sym w.all-is ∙ is)
      | else-all w ↦ absurd (no_true (sym w.if-all.false ∙ sym w.all-is ∙ is))
    ]) c.loop-piece.invariant c.give_back-freed.ensures
