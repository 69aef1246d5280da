use Rattle.fuse_guest.proofs.Ordered as ordered
use Rattle.fuse_guest.proofs.Values as values
use Rattle.fuse_guest.proofs.laws.pairs_are_a_map.Goals as goal

pub returns : goal.returns
returns c = record {
  put_one = values.put_one;
  put_others = values.put_others;
  delete_one = values.delete_one;
  delete_others = values.delete_others;
  clear_these = values.clear_these;
  clear_others = values.clear_others;
  stay = ordered.changed_are;
  same = ordered.same_pairs;
}
