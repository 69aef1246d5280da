use Rattle.std.proofs.Common.{◌≡◌, Ok, length, take}
use Rattle.fuse_keeper.specs.Group.{entries_of}
use Rattle.guest_store.specs.Keeping.{store_of}
use Rattle.guest_store.specs.Repeats.{AllAgain}
use Rattle.guest_store.specs.inner.Stepping.{Steps}
use Rattle.guest_store.proofs.GroupSteps.{taking_all}
use Rattle.guest_store.proofs.group.take_all.Given as goal

abbrev pub invariant-loop-one : goal.invariant-loop-one
invariant-loop-one g l = record {
  count : length l.dones.items ≡ l.one-index;
  steps : Steps g.G.Guested.GUEST (taking_all g.G.Guested.GUEST l.deaths l.lot (entries_of (take l.one-index l.group)))
      (store_of g.S.Store g.R.Read.remaining g.W.Write.contents l.fn.store) (store_of g.S.Store g.R.Read.remaining g.W.Write.contents l.store) (Ok l.dones.items);
  silent : AllAgain l.dones.items → (store_of g.S.Store g.R.Read.remaining g.W.Write.contents l.store).talk.events
      ≡ (store_of g.S.Store g.R.Read.remaining g.W.Write.contents l.fn.store).talk.events;
}
