use Rattle.sqlite.specs.Held.{state}
use Rattle.guest_store.proofs.Tables.{record_step}
use Rattle.guest_store.proofs.request.record.Goals as goal

pub returns-in-Ok : goal.returns-in-Ok
returns-in-Ok g c = λ t.
    record_step g.G.Guested.GUEST (record { id = c.args.id; lot = c.args.lot; said = c.args.answer.now }) (state g.S.Store c.args.conn.now)
    (state g.S.Store c.insert_kept.new.conn) t tt (record { id = c.requires.id; said = c.requires.fits; errno = c.law_of_errno.ensures }) c.in-Ok.ensures.made
