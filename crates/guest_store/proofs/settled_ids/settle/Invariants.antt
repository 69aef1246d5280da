use Rattle.std.proofs.Common.{◌-◌, ◌≡◌, ◌≤◌, Ok, length, take}
use Rattle.std.specs.Prelude.{⊤}
use Rattle.sqlite.specs.Held.{state}
use Rattle.fuse_keeper.specs.Group.{ids_of}
use Rattle.guest_talk.specs.TalkState.{TalkState}
use Rattle.guest_store.specs.Group.{without_settled}
use Rattle.guest_store.specs.inner.Stepping.{Steps, making, with_talk}
use Rattle.guest_store.proofs.settled_ids.settle.Given as goal

abbrev pub invariant-rest : goal.invariant-rest
invariant-rest g l = record {
  ids : l.ids ≡ l.fn.ids;
  done : l.done ≤ length l.fn.ids;
  steps : (t : TalkState) → Steps {A = Unit {0}} g.G.Guested.GUEST (making g.G.Guested.GUEST (without_settled (ids_of (take l.done l.fn.ids))) (λ y r. ⊤))
      (with_talk (state g.S.Store l.fn.conn) t) (with_talk (state g.S.Store l.conn) t) (Ok tt);
}

abbrev pub decreases-rest : goal.decreases-rest
decreases-rest g l = length l.fn.ids - l.done
