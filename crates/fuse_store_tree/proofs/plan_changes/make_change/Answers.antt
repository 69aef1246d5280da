use Rattle.sqlite.specs.Held.{state}
use Rattle.fuse_rows.specs.declared.rows.Change.TheVariants as changes
use Rattle.fuse_store_tree.specs.inner.Knowing.{known_after}
use Rattle.fuse_store_tree.specs.inner.Writing.{with_change}
use Rattle.fuse_store_tree.proofs.Overs.{made_any, made_knowing}
use Rattle.fuse_store_tree.proofs.plan_changes.make_change.Goals as goal

pub returns-in-Node-clause-changed : goal.returns-in-Node-clause-changed
returns-in-Node-clause-changed g c =
    rw c.in-Node.is (made_any c.put_node.result (g.C.Contents.file c.args.contents.now) c.args.known (changes.Node c.in-Node.row) (state g.S.Store c.args.conn.now)
    (state g.S.Store c.put_node.new.conn) c.put_node.ensures.changed)

pub returns-in-NodeGone-clause-changed : goal.returns-in-NodeGone-clause-changed
returns-in-NodeGone-clause-changed g c =
    rw c.in-NodeGone.is (made_any c.remove_node.result (g.C.Contents.file c.args.contents.now) c.args.known (changes.NodeGone c.in-NodeGone.node) (state g.S.Store c.args.conn.now)
    (state g.S.Store c.remove_node.new.conn) c.remove_node.ensures.changed)

pub returns-in-Entry-clause-changed : goal.returns-in-Entry-clause-changed
returns-in-Entry-clause-changed g c =
    rw c.in-Entry.is (made_any c.add_entry.result (g.C.Contents.file c.args.contents.now) c.args.known (changes.Entry c.in-Entry.entry) (state g.S.Store c.args.conn.now)
    (state g.S.Store c.add_entry.new.conn) c.add_entry.ensures.changed)

pub returns-in-EntryGone-clause-changed : goal.returns-in-EntryGone-clause-changed
returns-in-EntryGone-clause-changed g c =
    rw c.in-EntryGone.is (made_any c.remove_entry.result (g.C.Contents.file c.args.contents.now) c.args.known (changes.EntryGone c.in-EntryGone.cookie) (state g.S.Store c.args.conn.now)
    (state g.S.Store c.remove_entry.new.conn) c.remove_entry.ensures.changed)

pub returns-in-Handle-clause-changed : goal.returns-in-Handle-clause-changed
returns-in-Handle-clause-changed g c =
    rw c.in-Handle.is (made_any c.add_handle.result (g.C.Contents.file c.args.contents.now) c.args.known (changes.Handle c.in-Handle.handle) (state g.S.Store c.args.conn.now)
    (state g.S.Store c.add_handle.new.conn) c.add_handle.ensures.changed)

pub returns-in-HandleGone-clause-changed : goal.returns-in-HandleGone-clause-changed
returns-in-HandleGone-clause-changed g c =
    rw c.in-HandleGone.is (made_any c.remove_handle.result (g.C.Contents.file c.args.contents.now) c.args.known (changes.HandleGone c.in-HandleGone.fh) (state g.S.Store c.args.conn.now)
    (state g.S.Store c.remove_handle.new.conn) c.remove_handle.ensures.changed)

pub returns-in-Settings-clause-changed : goal.returns-in-Settings-clause-changed
returns-in-Settings-clause-changed g c =
    rw c.in-Settings.is (made_any c.set_settings.result (g.C.Contents.file c.args.contents.now) c.args.known (changes.Settings c.in-Settings.settings) (state g.S.Store c.args.conn.now)
    (state g.S.Store c.set_settings.new.conn) c.set_settings.ensures.changed)

pub returns-in-Counters-clause-changed : goal.returns-in-Counters-clause-changed
returns-in-Counters-clause-changed g c =
    let change = changes.Counters c.in-Counters.counters in
    rw c.in-Counters.is (made_knowing c.set_counters.result (g.C.Contents.file c.args.contents.now) c.args.known (known_after c.args.known change)
    (with_change change) (state g.S.Store c.args.conn.now) (state g.S.Store c.set_counters.new.conn) c.set_counters.ensures.changed)
