use Rattle.std.proofs.Common.{ap, not, refl, sym, ◌∙◌}
use Rattle.sqlite.specs.Held.{state}
use Rattle.fuse_store.specs.inner.Leaving.{rests_was}
use Rattle.fuse_store.proofs.setup.law_of_rest.Goals as goal

pub returns-clause-settled : goal.returns-clause-settled
returns-clause-settled g c = λ outside. c.is_autocommit.ensures.settled (c.is_autocommit.ensures.value ∙ ap not outside)

pub returns-clause-rests : goal.returns-clause-rests
returns-clause-rests g c = λ file z was.
    let a = state g.S.Store c.args.conn.now in
    rests_was file z a c.schema.ensures.live (c.is_autocommit.ensures.settled (c.is_autocommit.ensures.value ∙ ap not was.1)) was
