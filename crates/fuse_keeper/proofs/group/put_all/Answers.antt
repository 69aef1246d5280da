use Rattle.std.proofs.Common.{◌≡◌, ◌+◌, ◌∙◌, sym, ap, arith, Some, vec_len}
use Rattle.fuse_keeper.specs.Plain.{mapped}
use Rattle.fuse_keeper.specs.inner.Overlay.{over}
use Rattle.fuse_keeper.proofs.Overlays.{put_step, value_by}
use Rattle.fuse_keeper.proofs.group.put_all.Goals as goal

pub loop-record-preserved-in-Some : goal.loop-record-preserved-in-Some
loop-record-preserved-in-Some c =
    let shorter : vec_len c.pop.new.self + 1 ≡ vec_len c.loop-record.added = c.in-Some.ensures.cases in
    let updates = rw c.unwrap.ensures at c.insert-placed.ensures.updates in
    record {
      room = omega (arith, shorter, c.insert-placed.ensures.spare, c.loop-record.invariant.room);
      same = λ i. put_step c.pop.new.self.items c.in-Some.record (mapped c.loop-record.records) (mapped c.insert-placed.new.self) i
          (value_by c.in-Some.record.id i (Some c.in-Some.record.answer) (mapped c.loop-record.records i) (mapped c.insert-placed.new.self i) (updates.0 i))
          ∙ ap (λ l. over l (mapped c.loop-record.records) i) (sym c.in-Some.ensures.items) ∙ c.loop-record.invariant.same i;
    }

pub loop-record-preserved : goal.loop-record-preserved
loop-record-preserved c =
    let shorter : vec_len c.pop.new.self + 1 ≡ vec_len c.loop-record.added = c.in-Some.ensures.cases in
    let updates = rw c.unwrap.ensures at c.insert-placed.ensures.updates in
    record {
      room = omega (arith, shorter, c.insert-placed.ensures.spare, c.loop-record.invariant.room);
      same = λ i. put_step c.pop.new.self.items c.in-Some.record (mapped c.loop-record.records) (mapped c.insert-placed.new.self) i
          (value_by c.in-Some.record.id i (Some c.in-Some.record.answer) (mapped c.loop-record.records i) (mapped c.insert-placed.new.self i) (updates.0 i))
          ∙ ap (λ l. over l (mapped c.loop-record.records) i) (sym c.in-Some.ensures.items) ∙ c.loop-record.invariant.same i;
    }
