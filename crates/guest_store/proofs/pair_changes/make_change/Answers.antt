use Rattle.sqlite.specs.Held.{state}
use Rattle.guest_frames.specs.Borrowed.{change_content}
use Rattle.fuse_guest.specs.Pairs.{pairs_after}
use Rattle.guest_tables.specs.PairSteps.{with_pairs_by}
use Rattle.guest_store.specs.inner.Changing.{changing}
use Rattle.guest_store.proofs.Stepping.{table_ok}
use Rattle.guest_store.proofs.Tables.{statement_err}
use Rattle.std.proofs.Common.{refl}
use Rattle.guest_store.proofs.pair_changes.make_change.Goals as goal

pub returns-in-Ok : goal.returns-in-Ok
returns-in-Ok g c = λ t.
    table_ok g.G.Guested.GUEST (with_pairs_by (λ ps. pairs_after ps (change_content c.args.change.now)))
    (changing g.G.Guested.GUEST (λ ps. pairs_after ps (change_content c.args.change.now)))
    (state g.S.Store c.args.conn.now) (state g.S.Store c.write_change.new.conn) t tt c.in-Ok.ensures (λ n y. refl) (λ y right. right) (λ y. tt) (λ y. refl)

pub returns-in-Err : goal.returns-in-Err
returns-in-Err g c = λ t.
    statement_err g.G.Guested.GUEST (changing g.G.Guested.GUEST (λ ps. pairs_after ps (change_content c.args.change.now)))
    (state g.S.Store c.args.conn.now) (state g.S.Store c.write_change.new.conn) t c.in-Err.error c.from.result c.from.ensures c.in-Err.ensures.stays
