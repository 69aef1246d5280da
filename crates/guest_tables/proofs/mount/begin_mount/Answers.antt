use Rattle.std.proofs.Common.{Ok, Err}
use Rattle.sqlite.specs.Held.{state}
use Rattle.fuse_keeper.specs.declared.fault.StoreFault.{StoreFault}
use Rattle.guest_tables.specs.Content.{Holds}
use Rattle.guest_tables.specs.Clearing.{cleared}
use Rattle.guest_tables.specs.Moves.{Serves}
use Rattle.guest_tables.proofs.any_schema.Joining.{served, undone}
use Rattle.guest_tables.proofs.Fitting.{fit_cleared, stored_serves}
use Rattle.fuse_store_tables.specs.inner.Transaction.{open_undone}
use Rattle.guest_tables.proofs.any_schema.Alone.{undone_kept, once_undone}
use Rattle.guest_tables.proofs.mount.begin_mount.Goals as goal

pub returns-in-Ok-clause-fit : goal.returns-in-Ok-clause-fit
returns-in-Ok-clause-fit g c =
    let all : Serves {E = StoreFault} cleared (state g.S.Store c.args.conn.now) (state g.S.Store c.transact.new.conn) (Ok tt) =
    served Holds (λ k. Holds (cleared k)) _ _ _ _ c.in-Ok.ensures.performs in
    stored_serves cleared fit_cleared _ _ (Ok tt) all

pub returns-in-Err-clause-fit : goal.returns-in-Err-clause-fit
returns-in-Err-clause-fit g c =
    stored_serves cleared fit_cleared (state g.S.Store c.args.conn.now) (state g.S.Store c.undo.new.conn) (Err c.into.result)
    (undone Holds (λ k. Holds (cleared k)) _ _ _ _ _ c.in-Err.ensures.performs c.undo.ensures)

pub returns-in-Err-clause-open : goal.returns-in-Err-clause-open
returns-in-Err-clause-open g c =
    open_undone (state g.S.Store c.args.conn.now) (state g.S.Store c.transact.new.conn) (state g.S.Store c.undo.new.conn) _ c.into.result
    c.in-Err.ensures.open c.undo.ensures

pub returns-in-Ok-clause-ended : goal.returns-in-Ok-clause-ended
returns-in-Ok-clause-ended g c = λ clean. c.in-Ok.ensures.ended clean

pub returns-in-Err-clause-ended : goal.returns-in-Err-clause-ended
returns-in-Err-clause-ended g c = λ clean. c.undo.ensures.autocommit clean

pub returns-in-Err-clause-undone : goal.returns-in-Err-clause-undone
returns-in-Err-clause-undone g c = λ clean is_open.
    undone_kept (state g.S.Store c.args.conn.now) (state g.S.Store c.transact.new.conn) (state g.S.Store c.undo.new.conn) c.in-Err.ensures.keeps c.undo.ensures
    clean is_open

pub returns-in-Err-clause-once : goal.returns-in-Err-clause-once
returns-in-Err-clause-once g c =
    once_undone (state g.S.Store c.args.conn.now) (state g.S.Store c.transact.new.conn) (state g.S.Store c.undo.new.conn) c.in-Err.error c.into.result
    c.in-Err.ensures.once c.undo.ensures
