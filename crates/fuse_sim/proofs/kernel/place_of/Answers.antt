use Rattle.std.proofs.Common.{ℕ, List, length, drop, ap, ◌∙◌, arith}
use Rattle.fuse_wire.specs.Bytes.{number_of}
use Rattle.fuse_sim.proofs.Pendings.{owed_at, passed, stands_there}
use Rattle.fuse_sim.proofs.kernel.place_of.Goals as goal

pub u64_at-requires : goal.u64_at-requires
u64_at-requires c =
    let long = (c.spelled_at.ensures _ _ (owed_at c.args.pending.now c.loop-place.place c.index-pending-place.result c.loop-place-test.true
    c.requires).spells).long in
    let same = ap length (c.as_slice.ensures.value ∙ ap (λ x. x.items) c.index-pending-place.is) in
    omega arith

pub returns-then-u64_at-unique : goal.returns-then-u64_at-unique
returns-then-u64_at-unique c =
    let n = c.u64_at.ensures ∙ ap (λ (x : List ℕ). number_of 8 (drop 8 x)) (c.as_slice.ensures.value ∙ ap (λ x. x.items) c.index-pending-place.is) in
    stands_there c.args.pending.now c.args.unique c.loop-place.place c.u64_at.result c.index-pending-place.result c.loop-place-test.true c.loop-place.invariant
    n c.if-u64_at-unique.true

pub loop-place-preserved : goal.loop-place-preserved
loop-place-preserved c =
    let n = c.u64_at.ensures ∙ ap (λ (x : List ℕ). number_of 8 (drop 8 x)) (c.as_slice.ensures.value ∙ ap (λ x. x.items) c.index-pending-place.is) in
    passed c.args.pending.now c.args.unique c.loop-place.place c.u64_at.result c.index-pending-place.result c.loop-place-test.true c.loop-place.invariant n
    c.if-u64_at-unique.false
