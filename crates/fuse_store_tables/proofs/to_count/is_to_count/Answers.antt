use Rattle.std.proofs.Common.{refl, subst, true}
use Rattle.sqlite.specs.Held.{state}
use Rattle.fuse_store_tables.specs.ToCount.{IsOfSecond}
use Rattle.fuse_store_tables.proofs.ProfileRows.{no_store, outside_by, same_read}
use Rattle.fuse_store_tables.proofs.to_count.is_to_count.Goals as goal

pub returns-in_err-rows-clause-absent : goal.returns-in_err-rows-clause-absent
returns-in_err-rows-clause-absent g c = λ none. no_store (state g.S.Store c.args.conn.now).now.schema (subst IsOfSecond c.schema.ensures.value (c.if-not-is_of_second.ensures.0 refl)) none

pub returns-clause-absent : goal.returns-clause-absent
returns-clause-absent g c = λ none. no_store (state g.S.Store c.args.conn.now).now.schema (subst IsOfSecond c.schema.ensures.value (c.if-not-is_of_second.ensures.0 refl)) none

pub returns-clause-same : goal.returns-clause-same
returns-clause-same g c =
    same_read (state g.S.Store c.args.conn.now) (state g.S.Store c.select_profile.new.conn) c.in_ok-rows.rows (g.met.S.Store.settled c.args.conn.now.store)
    (g.met.S.Store.stays c.select_profile.new.conn.store) c.in_ok-rows.ensures.reads c.in_ok-rows.ensures.open c.in_ok-rows.ensures.was
    (outside_by (state g.S.Store c.args.conn.now).in_transaction true c.if-not-is_autocommit.ensures.value refl)
