use Rattle.std.proofs.Common.{◌≡◌, ◌+◌, ap, arith}
use Rattle.sqlite.specs.Held.{state}
use Rattle.fuse_store_tables.specs.inner.Following.{earlier}
use Rattle.fuse_store_tree.specs.inner.Laws.{looked_then, looked_clean}
use Rattle.fuse_store_tree.specs.inner.Reading.{counted_between}
use Rattle.fuse_store_tree.proofs.BlocksCounted.{counted_more}
use Rattle.fuse_store_tree.proofs.block_counts.count_to_end.Goals as goal

pub returns-in-Ok-count_one-clause-looks : goal.returns-in-Ok-count_one-clause-looks
returns-in-Ok-count_one-clause-looks g c =
    looked_then (state g.S.Store c.args.conn.now) (state g.S.Store c.count_all-2.new.conn) (state g.S.Store c.count_one.new.conn) c.in-Ok.ensures.looks
    c.in-Ok-count_one.ensures.looks

pub returns-in-Ok-count_one-clause-value : goal.returns-in-Ok-count_one-clause-value
returns-in-Ok-count_one-clause-value g c clean file k at sound =
    let mid = looked_clean (state g.S.Store c.count_all-2.new.conn) (state g.S.Store c.count_one.new.conn) c.in-Ok-count_one.ensures.looks clean in
    let most = c.requires.to in
    let test = c.if-to-lt-END.false in
    let low = c.if-from-to.false in
    let e : c.args.to ≡ 9223372036854775807 + 1 = omega (arith, most, test) in
    let below = c.in-Ok.ensures.value mid file k at sound in
    let last = c.in-Ok-count_one.ensures.value clean file k (c.in-Ok.ensures.looks.same mid k at) sound in
    let more = counted_more file k c.args.node c.args.from 9223372036854775807 (omega (arith, low, most)) in
    let all = ap (counted_between file k c.args.node c.args.from) e in
    omega (arith, below, last, more, all)

pub returns-in-Err-count_one-clause-fault : goal.returns-in-Err-count_one-clause-fault
returns-in-Err-count_one-clause-fault g c clean file k at sound =
    let b = state g.S.Store c.count_all-2.new.conn in
    let d = state g.S.Store c.count_one.new.conn in
    c.in-Err-count_one.ensures.fault clean file k (c.in-Ok.ensures.looks.same (earlier b d _ c.in-Err-count_one.ensures.fails.survives clean) k at) sound
