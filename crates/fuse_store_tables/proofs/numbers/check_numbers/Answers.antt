use Rattle.std.proofs.Common.{◌≤◌, ℕ, List, Ok, Err, Result, arith}
use Rattle.sqlite.specs.Held.{state}
use Rattle.sqlite.specs.Order.{Row}
use Rattle.sqlite.specs.State.{State}
use Rattle.fuse_keeper.specs.declared.fault.StoreFault.{StoreFault}
use Rattle.fuse_store_tables.specs.Content.{Content, node_key, fh_of, cookie_of, value_at}
use Rattle.fuse_store_tables.specs.Opening.{AllBelow, AreAbove}
use Rattle.fuse_store_tables.specs.inner.Checking.{ChecksIf, IsMetaIn}
use Rattle.fuse_store_tables.proofs.Checks.{checks_then, checks_as, checks_failed, fewer}
use Rattle.fuse_store_tables.proofs.numbers.check_numbers.Goals as goal

abbrev Nodes : Content → Type 0
Nodes c = AllBelow node_key (value_at 2 c) c.nodes

abbrev Handles : Content → Type 0
Handles c = AllBelow fh_of (value_at 3 c) c.handles

abbrev Entries : Content → Type 0
Entries c = AllBelow cookie_of (value_at 4 c) c.entries

module _ (meta : List Row) where
  abbrev Known : Content → Type 0
  Known = IsMetaIn meta 4

  known_of : {X : Type 0} (least : ℕ) → least ≤ 4 → (P : Content → Type 0) (a b : State) (r : Result X StoreFault) → ChecksIf (IsMetaIn meta least) P a b r
      → ChecksIf Known P a b r
  known_of least low P a b r p = checks_as (IsMetaIn meta least) Known P P a b r (λ k is. (fewer meta 4 least k low is, (λ h. h), (λ h. h))) p

  both : {X Y : Type 0} (a b d : State) (x : X) (r : Result Y StoreFault) → ChecksIf (IsMetaIn meta 2) Nodes a b (Ok x) → ChecksIf (IsMetaIn meta 3) Handles b d r
      → ChecksIf Known (λ k. Nodes k × Handles k) a d r
  both a b d x r p q =
      checks_then Known Known Nodes Handles a b d x r (known_of 2 (omega arith) Nodes a b (Ok x) p) (λ clean k at known is. known)
      (known_of 3 (omega arith) Handles b d r q)

pub returns-in_err-check_nodes : goal.returns-in_err-check_nodes
returns-in_err-check_nodes g c =
    checks_failed (IsMetaIn c.args.meta.now 2) (Known c.args.meta.now) Nodes AreAbove (state g.S.Store c.args.conn.now) (state g.S.Store c.check_nodes.new.conn) _
    c.from_residual.result c.from_residual.ensures.1 (λ k is above. (fewer c.args.meta.now 4 2 k (omega arith) is, above.nodes)) c.in_err-check_nodes.ensures

pub returns-in_err-check_handles : goal.returns-in_err-check_handles
returns-in_err-check_handles g c =
    let a = state g.S.Store c.args.conn.now in
    let b = state g.S.Store c.check_nodes.new.conn in
    let d = state g.S.Store c.check_handles.new.conn in
    checks_failed (Known c.args.meta.now) (Known c.args.meta.now) (λ k. Nodes k × Handles k) AreAbove a d _ c.from_residual-in_err-check_handles.result
    c.from_residual-in_err-check_handles.ensures.1 (λ k is above. (is, (above.nodes, above.handles)))
    (both c.args.meta.now a b d _ (Err _) c.in_ok-check_nodes.ensures c.in_err-check_handles.ensures)

pub returns : goal.returns
returns g c =
    let a = state g.S.Store c.args.conn.now in
    let b = state g.S.Store c.check_nodes.new.conn in
    let d = state g.S.Store c.check_handles.new.conn in
    let e = state g.S.Store c.check_entries.new.conn in
    let Known4 = Known c.args.meta.now in
    checks_as Known4 Known4 (λ k. (Nodes k × Handles k) × Entries k) AreAbove a e c.check_entries.result
    (λ k is. (is, (λ h. record { nodes = h.0.0; handles = h.0.1; entries = h.1 }), (λ above. ((above.nodes, above.handles), above.entries))))
    (checks_then Known4 Known4 (λ k. Nodes k × Handles k) Entries a d e _ c.check_entries.result
    (both c.args.meta.now a b d _ (Ok _) c.in_ok-check_nodes.ensures c.in_ok-check_handles.ensures) (λ clean k at is h. is) c.check_entries.ensures)
