use Rattle.sqlite.specs.Held.{state}
use Rattle.fuse_store_tree.proofs.Steps.{made}
use Rattle.fuse_store_tree.proofs.Turning.{clean_file, changed_in}
use Rattle.fuse_store_tree.proofs.RowChanges.{settings_change}
use Rattle.fuse_store_tree.proofs.updates.set_settings.Goals as goal

pub returns-in-Ok-clause-changed : goal.returns-in-Ok-clause-changed
returns-in-Ok-clause-changed g c = λ file. changed_in file _ (state g.S.Store c.args.conn.now) (state g.S.Store c.set_agreed.new.conn) (made (clean_file file) _ _ (state g.S.Store c.args.conn.now) (state g.S.Store c.set_agreed.new.conn) _ (λ s. settings_change c.args.v
    (record { minor = c.narrow.ensures; readahead = c.narrow-2.ensures; flags = c.requires }) s file) c.in-Ok.ensures)

pub returns-in-Err-clause-fails : goal.returns-in-Err-clause-fails
returns-in-Err-clause-fails g c = c.in-Err.ensures.stays
