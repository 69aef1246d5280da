use Rattle.guest_values.proofs.Writes.{went_back, stayed}
use Rattle.guest_values.proofs.writing.write_rest.Goals as goal

pub returns-in-Ok-give_back-clause-failed : goal.returns-in-Ok-give_back-clause-failed
returns-in-Ok-give_back-clause-failed g c =
    went_back g.D.Disk c.args.file.now c.write_piece.new.file c.give_back.new.self c.args.first c.in-Err.fault c.write_piece.ensures.keeps c.in-Err.ensures.failed
    c.give_back.ensures.disk c.in-Ok-give_back.ensures.freed

pub returns-in-Err-give_back-clause-failed : goal.returns-in-Err-give_back-clause-failed
returns-in-Err-give_back-clause-failed g c =
    stayed g.D.Disk c.args.file.now c.write_piece.new.file c.give_back.new.self c.args.first c.write_piece.ensures.keeps c.in-Err.ensures.failed
    c.give_back.ensures.disk c.in-Err-give_back.ensures.failed
