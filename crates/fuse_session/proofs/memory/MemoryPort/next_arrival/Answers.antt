use Rattle.std.proofs.Common.{sym, ap, arith, ◌∙◌}
use Rattle.std.proofs.lemmas.List.{drop_all}
use Rattle.fuse_session.specs.Memory.{first_arrival}
use Rattle.fuse_session.proofs.Pieces.{arrival_at}
use Rattle.fuse_session.proofs.memory.MemoryPort.next_arrival.Goals as goal

pub returns-then-self-len-clause-first : goal.returns-then-self-len-clause-first
returns-then-self-len-clause-first c = c.index-arrival.ensures ∙ arrival_at c.args.self.now.arrivals.items c.args.self.now.arrived _
    (omega (arith, c.if-self-len.true, c.len.ensures))

pub returns-clause-first : goal.returns-clause-first
returns-clause-first c = ap first_arrival (sym (drop_all c.args.self.now.arrived c.args.self.now.arrivals.items
    (omega (arith, c.if-self-len.false, c.len.ensures))))
