use Rattle.std.proofs.Common.{◌≡◌, ◌++◌, ◌-◌, length, map}
use Rattle.guest_frames.specs.Borrowed.{keys_left}
use Rattle.guest_frames.specs.Limits.{max_reply_len}
use Rattle.fuse_guest.specs.Pairs.{Pairs, value_for}
use Rattle.fuse_guest.specs.Telling.{told_head, told_of, value_size}
use Rattle.guest_talk.specs.Showing.{ShownBy, owned_value}
use Rattle.guest_talk.proofs.Told.{rest_told}
use Rattle.guest_talk.proofs.telling.values_of.Given as goal

abbrev pub invariant-loop-key : goal.invariant-loop-key
invariant-loop-key g l = record {
  told : (ps : Pairs) → ShownBy g.P.PairSource.shows g.P.PairSource.is_honest l.fn.pairs l.pairs ps
      → told_of value_size (map (value_for ps) (keys_left l.fn.keys))
      ≡ map owned_value l.values.items ++ rest_told (length l.values.items) l.room (map (value_for ps) (keys_left l.key-iterator));
  begins : length l.values.items ≡ 0 → l.room ≡ max_reply_len - told_head;
  looks : g.P.PairSource.looks l.fn.pairs l.pairs;
}
