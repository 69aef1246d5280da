use Rattle.sqlite.specs.Held.{state}
use Rattle.fuse_rows.specs.declared.rows.Change.TheVariants as changes
use Rattle.fuse_store_tree.specs.inner.Knowing.{counters_written, known_after}
use Rattle.fuse_store_tree.proofs.KnownSteps.{changed_where, known_over}
use Rattle.fuse_store_tree.specs.inner.Writing.{with_change}
use Rattle.fuse_store_tree.proofs.Turning.{clean_file}
use Rattle.fuse_store_tree.proofs.MovedCounters.{written_change}
use Rattle.fuse_store_tree.proofs.updates.set_counters.Goals as goal

pub returns-in-Ok-clause-changed : goal.returns-in-Ok-clause-changed
returns-in-Ok-clause-changed g c =
    λ file. known_over file c.args.known (known_after c.args.known (changes.Counters c.args.n.now)) (with_change (changes.Counters c.args.n.now))
    (state g.S.Store c.args.conn.now) (state g.S.Store c.write_counters.new.conn) (changed_where (clean_file file) c.args.known (changes.Counters c.args.n.now) (counters_written c.args.known c.args.n.now) (state g.S.Store c.args.conn.now)
    (state g.S.Store c.write_counters.new.conn) _ (λ s. written_change c.args.known c.args.n.now s file) c.in-Ok.ensures)

pub returns-in-Err-clause-fails : goal.returns-in-Err-clause-fails
returns-in-Err-clause-fails g c = c.in-Err.ensures.stays
