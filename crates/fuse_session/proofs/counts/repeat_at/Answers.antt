use Rattle.std.proofs.Common.{◌∙◌, ap, sym}
use Rattle.fuse_keeper.specs.declared.keeper.Done.{Done}
use Rattle.fuse_session.proofs.Counted.{repeat_here, repeat_none}
use Rattle.fuse_session.proofs.counts.repeat_at.Goals as goal

pub returns-then-next-dones : goal.returns-then-next-dones
returns-then-next-dones c = ap (λ (d : Done). d.repeated) (sym c.index-dones-next.is)
    ∙ repeat_here c.args.dones.now c.args.next c.index-dones-next.result c.if-next-dones.true c.index-dones-next.is

pub returns-else-next-dones : goal.returns-else-next-dones
returns-else-next-dones c = repeat_none c.args.dones.now c.args.next c.if-next-dones.false
