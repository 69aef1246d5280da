use Rattle.std.proofs.Common.{suc, refl, arith, add-one}
use Rattle.sqlite.specs.Held.{state}
use Rattle.fuse_store_tables.proofs.CountedRows.{Knows, AddedTo, added_more, added_fails, added_memory, all_added}
use Rattle.fuse_store_tables.proofs.SecondReads.{no_look}
use Rattle.fuse_store_tables.proofs.counted_nodes.read_all_added.Goals as goal

pub nodes-init : goal.nodes-init
nodes-init g c = (refl, omega arith, no_look (Knows c.args.nodes.now) (AddedTo c.new-all.result.items 0) (state g.S.Store c.args.conn.now) 0 (λ k known. c.new-all.ensures.items))

pub nodes-preserved : goal.nodes-preserved
nodes-preserved g c = (
  refl,
  omega (arith, c.nodes-test.true),
  rw add-one (added_more c.args.nodes.now c.nodes.at c.index-nodes-at.result c.nodes-test.true c.index-nodes-at.is c.nodes.all.items c.push.new.self.items
      c.in-Ok.added c.in-Ok-push.ensures.items (state g.S.Store c.args.conn.now) (state g.S.Store c.nodes.conn) (state g.S.Store c.read_added.new.conn) c.nodes.at
      (suc c.nodes.at) c.nodes.invariant.2 c.in-Ok.ensures),
)

pub returns-in-Err : goal.returns-in-Err
returns-in-Err g c =
    added_fails c.args.nodes.now c.nodes.at c.index-nodes-at.result c.nodes-test.true c.index-nodes-at.is _ c.nodes.all.items c.in-Err.fault
    (state g.S.Store c.args.conn.now) (state g.S.Store c.nodes.conn) (state g.S.Store c.read_added.new.conn) c.nodes.at c.nodes.invariant.2 c.in-Err.ensures

pub returns-in-Err-push : goal.returns-in-Err-push
returns-in-Err-push g c =
    added_memory c.args.nodes.now c.nodes.at c.index-nodes-at.result c.nodes-test.true c.index-nodes-at.is _ c.nodes.all.items c.in-Ok.added
    (state g.S.Store c.args.conn.now) (state g.S.Store c.nodes.conn) (state g.S.Store c.read_added.new.conn) c.nodes.at c.nodes.invariant.2 c.in-Ok.ensures

pub returns : goal.returns
returns g c =
    all_added c.args.nodes.now c.nodes.at c.nodes.all.items c.nodes-test.false (λ v. v.items) c.nodes.all refl (state g.S.Store c.args.conn.now)
    (state g.S.Store c.nodes.conn) c.nodes.at c.nodes.invariant.2
