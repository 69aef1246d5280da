use Rattle.sqlite.specs.Held.{state}
use Rattle.fuse_store_tree.proofs.Steps.{made}
use Rattle.fuse_store_tree.proofs.Turning.{clean_file, changed_in}
use Rattle.fuse_store_tree.proofs.RowChanges.{entry_comes}
use Rattle.fuse_store_tree.proofs.updates.add_entry.Goals as goal

pub returns-in-Ok-clause-changed : goal.returns-in-Ok-clause-changed
returns-in-Ok-clause-changed g c = λ file. changed_in file _ (state g.S.Store c.args.conn.now) (state g.S.Store c.insert_entry.new.conn) (made (clean_file file) _ _ (state g.S.Store c.args.conn.now) (state g.S.Store c.insert_entry.new.conn) _
    (λ s. entry_comes c.args.row.now c.requires s file) c.in-Ok.ensures.made)

pub returns-in-Err-clause-fails : goal.returns-in-Err-clause-fails
returns-in-Err-clause-fails g c = c.in-Err.ensures.made.stays
