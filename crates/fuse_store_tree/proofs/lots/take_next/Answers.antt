use Rattle.std.proofs.Common.{◌∙◌}
use Rattle.sqlite.specs.Held.{state}
use Rattle.fuse_store_tree.proofs.Turning.{looked_for, turned_keeps}
use Rattle.fuse_store_tree.proofs.Records.{lot_taken}
use Rattle.std.proofs.Common.{◌≤◌, [], refl, sym, subst, length, arith}
use Rattle.fuse_store_tables.specs.Content.{Counter}
use Rattle.std.proofs.Common.{List}
use Rattle.fuse_store_tree.proofs.Turning.{content_in}
use Rattle.fuse_store_tree.proofs.Records.{lot_is}
use Rattle.fuse_store_tree.proofs.lots.take_next.Goals as goal

pub returns-in-Ok-add_lot-clause-turned : goal.returns-in-Ok-add_lot-clause-turned
returns-in-Ok-add_lot-clause-turned g c =
    λ file. lot_taken file c.in-Ok-next_lot_of.lot (state g.S.Store c.args.conn.now) (state g.S.Store c.select_counters.new.conn) (state g.S.Store c.add_lot.new.conn)
    _ c.if-lot-ge-END.false c.in-Ok.ensures.looks
    (λ clean k at. c.in-Ok-next_lot_of.ensures.value k.counters (c.as_slice.ensures.value ∙ c.in-Ok.ensures.found clean k at)) c.in-Ok-add_lot.ensures

pub returns-clause-fails : goal.returns-clause-fails
returns-clause-fails g c =
    let a = state g.S.Store c.args.conn.now in
    let b = state g.S.Store c.select_counters.new.conn in
    let d = state g.S.Store c.add_lot.new.conn in
    turned_keeps [] (λ y. y) a b d (looked_for [] a b c.in-Ok.ensures.looks) c.in-Err-add_lot.ensures.stays

pub returns-in-Err-next_lot_of-clause-fault : goal.returns-in-Err-next_lot_of-clause-fault
returns-in-Err-next_lot_of-clause-fault g c file clean y at left =
    let a = state g.S.Store c.args.conn.now in
    let k = at.holds.held.0 in
    let eleven : 11 ≤ length k.counters = subst (λ (cs : List Counter). 11 ≤ length cs) (sym at.holds.held.2.counters) (omega arith) in
    c.in-Err-next_lot_of.ensures.fault k.counters (c.as_slice.ensures.value ∙ c.in-Ok.ensures.found clean k (content_in file y a at)) eleven

pub returns-then-lot-ge-END-clause-fault : goal.returns-then-lot-ge-END-clause-fault
returns-then-lot-ge-END-clause-fault g c file clean y at left =
    let a = state g.S.Store c.args.conn.now in
    let same = lot_is file c.in-Ok-next_lot_of.lot a (λ k inside. c.in-Ok-next_lot_of.ensures.value k.counters
    (c.as_slice.ensures.value ∙ c.in-Ok.ensures.found clean k inside)) y at in
    let low = left refl in
    absurd (omega (arith, same, low, c.if-lot-ge-END.true))
