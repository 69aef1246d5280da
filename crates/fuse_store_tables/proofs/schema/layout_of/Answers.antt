use Rattle.std.proofs.Common.{inl, inr, sym, ◌∙◌}
use Rattle.sqlite.specs.Held.{state}
use Rattle.fuse_store_tables.proofs.Layouts.{told_third, told_second}
use Rattle.fuse_store_tables.proofs.schema.layout_of.Goals as goal

pub returns-then-len-eq9-clause-laid : goal.returns-then-len-eq9-clause-laid
returns-then-len-eq9-clause-laid g c = λ k laid.
    told_third c.schema.result.now (state g.S.Store c.args.conn.now).now c.len.result c.schema.ensures.value c.len.ensures c.if-len-eq9.true k laid

pub returns-then-len-eq9-clause-value : goal.returns-then-len-eq9-clause-value
returns-then-len-eq9-clause-value g c = λ k held. returns-then-len-eq9-clause-laid g c k (inl (inr held))

pub returns-else-len-eq9-clause-laid : goal.returns-else-len-eq9-clause-laid
returns-else-len-eq9-clause-laid g c = λ k laid.
    told_second c.schema.result.now (state g.S.Store c.args.conn.now).now c.len.result c.schema.ensures.value c.len.ensures c.if-len-eq9.false k laid

pub returns-else-len-eq9-clause-value : goal.returns-else-len-eq9-clause-value
returns-else-len-eq9-clause-value g c = λ k held. returns-else-len-eq9-clause-laid g c k (inl (inr held))
