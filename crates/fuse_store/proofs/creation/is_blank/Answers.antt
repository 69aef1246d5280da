use Rattle.std.proofs.Common.{sym, ◌∙◌}
use Rattle.sqlite.specs.Held.{state}
use Rattle.fuse_store.proofs.Blank.{unstored}
use Rattle.fuse_store.proofs.creation.is_blank.Goals as goal

pub returns-then-is_autocommit-clause-none : goal.returns-then-is_autocommit-clause-none
returns-then-is_autocommit-clause-none g c = λ is.
    unstored (state g.S.Store c.args.conn.now) c.schema.ensures.live (c.is_autocommit.ensures.settled c.if-is_autocommit.true)
    (sym c.schema.ensures.value ∙ c.is_empty.ensures.0 is)
