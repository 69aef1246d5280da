use Rattle.sqlite.specs.Held.{state}
use Rattle.fuse_store_tree.proofs.Records.{recorded}
use Rattle.fuse_store_tree.proofs.request.record.Goals as goal

pub returns-in-Ok-clause-turned : goal.returns-in-Ok-clause-turned
returns-in-Ok-clause-turned g c =
    λ file. recorded file c.args.id c.args.lot c.args.answer.now (state g.S.Store c.args.conn.now) (state g.S.Store c.insert_kept.new.conn) _ c.requires.id
    c.requires.fits c.law_of_errno.ensures
    c.in-Ok.ensures.made

pub returns-in-Err-clause-fails : goal.returns-in-Err-clause-fails
returns-in-Err-clause-fails g c = c.in-Err.ensures.made.stays
