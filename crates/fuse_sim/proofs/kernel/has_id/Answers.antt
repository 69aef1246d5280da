use Rattle.std.proofs.Common.{◌==◌, ℕ, List, length, drop, sym, ap, ◌∙◌, arith}
use Rattle.fuse_wire.specs.Bytes.{number_of}
use Rattle.fuse_wire.specs.Ids.{id_of}
use Rattle.fuse_sim.proofs.Pendings.{owed_at, id_passed, id_here}
use Rattle.fuse_sim.proofs.kernel.has_id.Goals as goal

pub u64_at-requires : goal.u64_at-requires
u64_at-requires c =
    let long = (c.spelled_at.ensures _ _ (owed_at c.args.pending.now c.loop-message.message-index c.message-item.result c.loop-message-test.true
    c.requires).spells).long in
    let same = ap length (c.as_slice.ensures.value ∙ ap (λ x. x.items) c.message-item.is) in
    omega arith

pub loop-message-preserved : goal.loop-message-preserved
loop-message-preserved c =
    let test = ap (λ (n : ℕ). n == c.args.id.0) (sym (c.of.ensures
    ∙ ap id_of (c.u64_at.ensures ∙ ap (λ (x : List ℕ). number_of 8 (drop 8 x)) c.as_slice.ensures.value))) ∙ sym c.eq.ensures ∙ c.if-eq.false in
    id_passed c.args.pending.now c.loop-message.message-index c.args.id.0 c.message-item.result c.loop-message-test.true c.message-item.is
    c.loop-message.invariant test

pub returns-then-eq : goal.returns-then-eq
returns-then-eq c =
    let test = ap (λ (n : ℕ). n == c.args.id.0) (sym (c.of.ensures
    ∙ ap id_of (c.u64_at.ensures ∙ ap (λ (x : List ℕ). number_of 8 (drop 8 x)) c.as_slice.ensures.value))) ∙ sym c.eq.ensures ∙ c.if-eq.true in
    sym (id_here c.args.pending.now c.loop-message.message-index c.args.id.0 c.message-item.result c.loop-message-test.true c.message-item.is test)
