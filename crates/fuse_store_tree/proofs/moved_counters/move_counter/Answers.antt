use Rattle.std.proofs.Common.{Bool, cond, sym, subst}
use Rattle.sqlite.specs.Held.{state}
use Rattle.fuse_store_tables.specs.Content.{counter_key, set_by, valued}
use Rattle.fuse_store_tables.specs.Moves.{Makes}
use Rattle.fuse_store_tree.proofs.MovedCounters.{differs}
use Rattle.fuse_store_tree.proofs.moved_counters.move_counter.Goals as goal

pub returns : goal.returns
returns g c =
    subst (λ (b : Bool). Makes (λ k. record k { counters = cond b k.counters (set_by counter_key c.args.key (valued c.args.new) k.counters) })
    (state g.S.Store c.args.conn.now) (state g.S.Store c.update_counter.new.conn) c.update_counter.result)
    (sym (differs c.args.old c.args.new c.if-old-new.false)) c.update_counter.ensures
