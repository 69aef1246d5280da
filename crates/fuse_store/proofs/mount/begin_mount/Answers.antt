use Rattle.sqlite.specs.Held.{state}
use Rattle.fuse_store_tables.specs.Content.{Holds}
use Rattle.fuse_store_tables.specs.Clearing.{cleared}
use Rattle.fuse_store_tree.specs.Holding.{HeldFor}
use Rattle.fuse_store.specs.Mounting.{cleared_for}
use Rattle.fuse_store.proofs.Retelling.{served_so, safe_so}
use Rattle.fuse_store.proofs.Mounted.{mounted, lists_left}
use Rattle.fuse_store.proofs.mount.begin_mount.Goals as goal

pub returns-clause-serves : goal.returns-clause-serves
returns-clause-serves g c = λ file.
    served_so Holds (λ k. Holds (cleared k)) (HeldFor file) (λ y. HeldFor file (cleared_for y)) (mounted c.clearing.ensures c.rows_in_order.ensures file)
    (state g.S.Store c.args.conn.now) (state g.S.Store c.begin_mount.new.conn) c.begin_mount.result c.begin_mount.ensures.serves

pub returns-clause-fault : goal.returns-clause-fault
returns-clause-fault g c = λ file.
    safe_so Holds (λ k. Holds (cleared k)) (HeldFor file) (λ y. HeldFor file (cleared_for y)) (mounted c.clearing.ensures c.rows_in_order.ensures file)
    (state g.S.Store c.args.conn.now) (state g.S.Store c.begin_mount.new.conn) c.begin_mount.result c.begin_mount.ensures.fault

pub returns-clause-open : goal.returns-clause-open
returns-clause-open g c = c.begin_mount.ensures.open

pub returns-clause-undone : goal.returns-clause-undone
returns-clause-undone g c = c.begin_mount.ensures.undone

pub returns-clause-rows : goal.returns-clause-rows
returns-clause-rows g c = c.begin_mount.ensures.serves

pub returns-clause-once : goal.returns-clause-once
returns-clause-once g c = c.begin_mount.ensures.once

pub returns-clause-lists : goal.returns-clause-lists
returns-clause-lists g c =
    lists_left (state g.S.Store c.args.conn.now) (state g.S.Store c.begin_mount.new.conn) c.begin_mount.result c.begin_mount.ensures.serves
