use Rattle.std.proofs.Common.{inl, inr}
use Rattle.fuse_session.proofs.Counted.{used_kept, used_seen, used_none}
use Rattle.fuse_session.proofs.counts.used_after.Goals as goal

pub returns-then-next-dones-clause-left : goal.returns-then-next-dones-clause-left
returns-then-next-dones-clause-left c = elim c.in-Kept.is [
  | inl kept ↦ used_kept c.args.class c.args.dones.now c.args.next (cc kept) c.if-next-dones.true
  | inr seen ↦ used_seen c.args.class c.args.dones.now c.args.next (cc seen) c.if-next-dones.true
]

pub returns-else-next-dones-clause-left : goal.returns-else-next-dones-clause-left
returns-else-next-dones-clause-left c = used_none c.args.class c.args.dones.now c.args.next c.if-next-dones.false
