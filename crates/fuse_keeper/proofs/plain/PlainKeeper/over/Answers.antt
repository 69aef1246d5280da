use Rattle.fuse_keeper.specs.Plain.{mapped}
use Rattle.fuse_keeper.proofs.Keeping.{starts, none_mapped}
use Rattle.fuse_keeper.proofs.plain.PlainKeeper.over.Goals as goal

pub returns-clause-stands : goal.returns-clause-stands
returns-clause-stands g c = λ s good is.
    starts g.F.FileSystem.model (g.F.FileSystem.held c.args.rows) (mapped c.new.result) s good is (none_mapped c.new.result c.new.ensures.empty)
