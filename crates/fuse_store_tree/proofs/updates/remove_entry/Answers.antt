use Rattle.sqlite.specs.Held.{state}
use Rattle.fuse_store_tree.proofs.Steps.{made}
use Rattle.fuse_store_tree.proofs.Turning.{clean_file, changed_in}
use Rattle.fuse_store_tree.proofs.RowChanges.{entry_goes}
use Rattle.fuse_store_tree.proofs.updates.remove_entry.Goals as goal

pub returns-in-Ok-clause-changed : goal.returns-in-Ok-clause-changed
returns-in-Ok-clause-changed g c = λ file. changed_in file _ (state g.S.Store c.args.conn.now) (state g.S.Store c.delete_entry.new.conn) (made (clean_file file) _ _ (state g.S.Store c.args.conn.now) (state g.S.Store c.delete_entry.new.conn) _
    (λ s. entry_goes c.args.cookie s file) c.in-Ok.ensures)

pub returns-in-Err-clause-fails : goal.returns-in-Err-clause-fails
returns-in-Err-clause-fails g c = c.in-Err.ensures.stays
