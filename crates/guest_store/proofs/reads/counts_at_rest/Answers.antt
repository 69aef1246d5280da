use Rattle.std.proofs.Common.{◌≡◌, ℕ, length, refl}
use Rattle.sqlite.specs.Held.{state}
use Rattle.fuse_keeper.specs.declared.keeper.StoreCounts.{StoreCounts}
use Rattle.guest_store.specs.StoreState.{HeldOf}
use Rattle.guest_store.specs.inner.Transacting.{Counted}
use Rattle.guest_store.proofs.Rests.{look_first_fails, look_then, look_then_fails}
use Rattle.guest_store.proofs.reads.counts_at_rest.Goals as goal

pub returns-in-Err : goal.returns-in-Err
returns-in-Err g c = λ t.
    let G = g.G.Guested.GUEST in
    look_first_fails G (λ y (n : ℕ). n ≡ length y.state.pairs) (λ y (x : StoreCounts). Counted G y x) (state g.S.Store c.args.conn.now)
    (state g.S.Store c.pairs_at_rest.new.conn) t c.in-Err.fault (c.in-Err.ensures t)

pub returns-in-Err-records_at_rest : goal.returns-in-Err-records_at_rest
returns-in-Err-records_at_rest g c = λ t.
    let G = g.G.Guested.GUEST in
    look_then_fails G (λ y (n : ℕ). n ≡ length y.state.pairs) (λ y (n : ℕ). n ≡ length y.kept) (λ y (x : StoreCounts). Counted G y x) (state g.S.Store c.args.conn.now)
    (state g.S.Store c.pairs_at_rest.new.conn) (state g.S.Store c.records_at_rest.new.conn) t c.in-Ok.nodes (c.in-Ok.ensures t) c.in-Err-records_at_rest.fault
    (c.in-Err-records_at_rest.ensures t)

pub returns-in-Ok-lots_at_rest : goal.returns-in-Ok-lots_at_rest
returns-in-Ok-lots_at_rest g c = λ t.
    let G = g.G.Guested.GUEST in
    let a = state g.S.Store c.args.conn.now in
    let b = state g.S.Store c.pairs_at_rest.new.conn in
    let d = state g.S.Store c.records_at_rest.new.conn in
    let e = state g.S.Store c.lots_at_rest.new.conn in
    let both : HeldOf G → ℕ × ℕ → Type 0 = λ y z. (z.0 ≡ length y.state.pairs) × (z.1 ≡ length y.kept) in
    let two = look_then G (λ y (n : ℕ). n ≡ length y.state.pairs) (λ y (n : ℕ). n ≡ length y.kept) both a b d t c.in-Ok.nodes (c.in-Ok.ensures t)
    c.in-Ok-records_at_rest.records (c.in-Ok.nodes, c.in-Ok-records_at_rest.records) (c.in-Ok-records_at_rest.ensures t) (λ w p q. (p, q)) in
    look_then G both (λ y (n : ℕ). n ≡ length y.lots) (λ y (x : StoreCounts). Counted G y x) a d e t (c.in-Ok.nodes, c.in-Ok-records_at_rest.records) two
    c.in-Ok-lots_at_rest.lots (record { nodes = c.in-Ok.nodes; handles = 0; records = c.in-Ok-records_at_rest.records; lots = c.in-Ok-lots_at_rest.lots })
    (c.in-Ok-lots_at_rest.ensures t) (λ w p q. record { nodes = p.0; handles = refl; records = p.1; lots = q })

pub returns-in-Err-lots_at_rest : goal.returns-in-Err-lots_at_rest
returns-in-Err-lots_at_rest g c = λ t.
    let G = g.G.Guested.GUEST in
    let a = state g.S.Store c.args.conn.now in
    let b = state g.S.Store c.pairs_at_rest.new.conn in
    let d = state g.S.Store c.records_at_rest.new.conn in
    let e = state g.S.Store c.lots_at_rest.new.conn in
    let both : HeldOf G → ℕ × ℕ → Type 0 = λ y z. (z.0 ≡ length y.state.pairs) × (z.1 ≡ length y.kept) in
    let two = look_then G (λ y (n : ℕ). n ≡ length y.state.pairs) (λ y (n : ℕ). n ≡ length y.kept) both a b d t c.in-Ok.nodes (c.in-Ok.ensures t)
    c.in-Ok-records_at_rest.records (c.in-Ok.nodes, c.in-Ok-records_at_rest.records) (c.in-Ok-records_at_rest.ensures t) (λ w p q. (p, q)) in
    look_then_fails G both (λ y (n : ℕ). n ≡ length y.lots) (λ y (x : StoreCounts). Counted G y x) a d e t (c.in-Ok.nodes, c.in-Ok-records_at_rest.records) two
    c.in-Err-lots_at_rest.fault (c.in-Err-lots_at_rest.ensures t)
