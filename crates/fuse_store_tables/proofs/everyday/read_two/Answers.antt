use Rattle.std.proofs.Common.{◌≡◌, map, Ok, Err}
use Rattle.std.specs.Prelude.{⊤}
use Rattle.sqlite.specs.Held.{state}
use Rattle.fuse_store_tables.specs.inner.Copies.{copy_row, rows_in}
use Rattle.fuse_store_tables.proofs.SecondReads.{looks_then, looks_told, looks_fail}
use Rattle.fuse_store_tables.proofs.everyday.read_two.Goals as goal

pub returns-in_err-some : goal.returns-in_err-some
returns-in_err-some g c =
    looks_fail (λ _. ⊤) (λ k rows. rows.items ≡ map (copy_row c.args.first) (rows_in c.args.first k)) _ (state g.S.Store c.args.conn.now)
    (state g.S.Store c.select_all.new.conn) _ c.from_residual.result c.from_residual.ensures.1 c.in_err-some.ensures

pub returns-in_err-others : goal.returns-in_err-others
returns-in_err-others g c =
    looks_fail (λ _. ⊤) _ _ (state g.S.Store c.args.conn.now) (state g.S.Store c.select_all-2.new.conn) _ c.from_residual-in_err-others.result
    c.from_residual-in_err-others.ensures.1
    (looks_then (λ _. ⊤) (λ _. ⊤) (λ k rows. rows.items ≡ map (copy_row c.args.first) (rows_in c.args.first k))
    (λ k rows. rows.items ≡ map (copy_row c.args.second) (rows_in c.args.second k)) (state g.S.Store c.args.conn.now) (state g.S.Store c.select_all.new.conn)
    (state g.S.Store c.select_all-2.new.conn) c.in_ok-some.some (Err _) c.in_ok-some.ensures (λ k known found. tt) c.in_err-others.ensures)

pub returns : goal.returns
returns g c =
    looks_told (λ _. ⊤) _ _ (state g.S.Store c.args.conn.now) (state g.S.Store c.select_all-2.new.conn) _ _ (λ k known found. found)
    (looks_then (λ _. ⊤) (λ _. ⊤) (λ k rows. rows.items ≡ map (copy_row c.args.first) (rows_in c.args.first k))
    (λ k rows. rows.items ≡ map (copy_row c.args.second) (rows_in c.args.second k)) (state g.S.Store c.args.conn.now) (state g.S.Store c.select_all.new.conn)
    (state g.S.Store c.select_all-2.new.conn) c.in_ok-some.some (Ok _) c.in_ok-some.ensures (λ k known found. tt) c.in_ok-others.ensures)
