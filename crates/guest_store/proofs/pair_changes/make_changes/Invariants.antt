use Rattle.std.proofs.Common.{◌≡◌, Ok}
use Rattle.std.specs.List.{AllByRecursion}
use Rattle.sqlite.specs.Held.{state}
use Rattle.guest_frames.specs.Borrowed.{changes_left}
use Rattle.guest_frames.specs.Frames.{IsChange}
use Rattle.fuse_guest.specs.Pairs.{Pairs, changed_pairs}
use Rattle.guest_talk.specs.TalkState.{TalkState}
use Rattle.guest_store.specs.inner.Changing.{changing}
use Rattle.guest_store.specs.inner.Stepping.{Steps, with_talk}
use Rattle.guest_store.proofs.pair_changes.make_changes.Given as goal

-- the changes that are left are within the limits, and over those that were made they make all of them
abbrev pub invariant-loop-change : goal.invariant-loop-change
invariant-loop-change g l = record {
  next : (goal.iterator-loop-change g).can_next l.change-iterator;
  finite : (goal.iterator-loop-change g).is_finite l.change-iterator;
  right : AllByRecursion IsChange (changes_left l.change-iterator);
  done : (f : Pairs → Pairs) × ((ps : Pairs) → changed_pairs (changes_left l.change-iterator) (f ps) ≡ changed_pairs (changes_left l.fn.changes) ps)
      × ((t : TalkState) → Steps {A = Unit {0}} g.G.Guested.GUEST (changing g.G.Guested.GUEST f) (with_talk (state g.S.Store l.fn.conn) t)
      (with_talk (state g.S.Store l.conn) t) (Ok tt));
}
