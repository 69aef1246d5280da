use Rattle.std.proofs.Common.{sym, ap, arith, ◌∙◌}
use Rattle.std.proofs.lemmas.List.{drop_all}
use Rattle.fuse_session.specs.Memory.{first_outcome}
use Rattle.fuse_session.proofs.Pieces.{outcome_at}
use Rattle.fuse_session.proofs.memory.MemoryPort.next_outcome.Goals as goal

pub returns-then-self-len-clause-first : goal.returns-then-self-len-clause-first
returns-then-self-len-clause-first c = c.index-outcome.ensures ∙ outcome_at c.args.self.now.outcomes.items c.args.self.now.answered _
    (omega (arith, c.if-self-len.true, c.len.ensures))

pub returns-clause-first : goal.returns-clause-first
returns-clause-first c = ap first_outcome (sym (drop_all c.args.self.now.answered c.args.self.now.outcomes.items
    (omega (arith, c.if-self-len.false, c.len.ensures))))
