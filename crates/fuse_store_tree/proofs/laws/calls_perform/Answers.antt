use Rattle.fuse_tree.specs.TheTree.{tree_of}
use Rattle.fuse_store_tree.proofs.Took.{Below, others_stay}
use Rattle.fuse_store_tree.proofs.Settled.{call_tree, call_good, call_seen, call_performed, call_taken}
use Rattle.fuse_store_tree.proofs.Under.{records_under}
use Rattle.fuse_store_tree.proofs.laws.calls_perform.Goals as goal

pub returns : goal.returns
returns g c =
    let p = g.P.Profiled.PROFILE in
    let b : Below p = record { tree_kept = c.tree_kept.ensures; rows_tell = c.rows_tell_state.ensures; grow = c.groups_grow.ensures } in
    let V = (tree_of p).service in
    record {
      tree = call_tree b V;
      good = call_good b V;
      group = call_performed b;
      acts = call_taken b;
      others = others_stay V;
      lots = records_under V;
      seen = call_seen V;
    }
