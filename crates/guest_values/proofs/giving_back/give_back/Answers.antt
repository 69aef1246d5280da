use Rattle.guest_values.proofs.GivingBack.{gives_one, gives_none}
use Rattle.guest_values.proofs.giving_back.give_back.Goals as goal

pub returns-in-Ok : goal.returns-in-Ok
returns-in-Ok g c = gives_one g.D.Disk c.args.file.now c.give_back.new.self c.args.piece c.give_back.ensures.disk c.in-Ok.ensures.freed

pub returns-in-Err : goal.returns-in-Err
returns-in-Err g c = gives_none g.D.Disk c.args.file.now c.give_back.new.self c.args.piece c.give_back.ensures.disk c.in-Err.ensures.failed
