use Rattle.sqlite.specs.Held.{state}
use Rattle.fuse_store_tables.specs.Content.{set_counter}
use Rattle.fuse_store_tables.specs.inner.Steps.{without_handles}
use Rattle.fuse_store_tables.proofs.Joining.{makes_then}
use Rattle.fuse_store_tables.proofs.Within.{within_then, within_failed}
use Rattle.fuse_store_tables.proofs.mount.clear_handles.Goals as goal

pub returns-clause-made : goal.returns-clause-made
returns-clause-made g c =
    makes_then without_handles (set_counter 6 0) (state g.S.Store c.args.conn.now) (state g.S.Store c.delete_all_handles.new.conn)
    (state g.S.Store c.write_counter.new.conn) _ c.write_counter.result
    c.in_ok-delete_all_handles.ensures.made c.write_counter.ensures.made

pub returns-in_err-delete_all_handles-clause-within : goal.returns-in_err-delete_all_handles-clause-within
returns-in_err-delete_all_handles-clause-within g c = within_failed _ _ _ _ c.in_err-delete_all_handles.ensures.within c.from_residual.ensures.0

pub returns-clause-within : goal.returns-clause-within
returns-clause-within g c = within_then _ _ _ _ _ c.in_ok-delete_all_handles.ensures.within c.write_counter.ensures.within
