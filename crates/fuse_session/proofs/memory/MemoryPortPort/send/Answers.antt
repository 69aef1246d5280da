use Rattle.std.proofs.Common.{rules, arith, ◌≡◌, length, sym, ◌∙◌}
use Rattle.std.proofs.lemmas.Grind.{common_steps}
use Rattle.fuse_session.specs.Memory.{first_outcome, outcomes_left, kept_by}
use Rattle.fuse_session.proofs.Rooms.{refused, answers_failed, answers_no_room}
use Rattle.fuse_session.proofs.memory.MemoryPortPort.send.Goals.{in-Take, in-Gone, in-Failed}
use Rattle.fuse_session.proofs.memory.MemoryPortPort.send.Goals.{then-eq-via-then-eq, then-eq-via-else-eq+then-is_err}
use Rattle.fuse_session.proofs.memory.MemoryPortPort.send.Goals as goal

pub returns-then-eq-clause-answers : goal.returns-then-eq-clause-answers
returns-then-eq-clause-answers c =
    let p = c.args.self.now in
    let q = c.next_outcome-outcome.new.self in
    let kept : length c.match-outcome.taken.now ≡ kept_by c.match-outcome.outcome (length c.args.bytes.now) = elim c.match-outcome.branch [
      | in-Take w ↦ grind (arith, common_steps, w.taken-is, w.outcome-is, w.min.ensures)
      | in-Gone w ↦ grind (arith, common_steps, w.taken-is, w.outcome-is, w.in-Gone.is)
      | in-Failed w ↦ grind (arith, common_steps, w.taken-is, w.outcome-is, w.in-Failed.is)
    ] in
    let o = first_outcome (outcomes_left p) in
    let same : c.match-outcome.outcome ≡ o = elim c.match-outcome.branch [
      | in-Take w ↦ w.outcome-is ∙ sym w.in-Take.is ∙ c.next_outcome-outcome.ensures.first
      | in-Gone w ↦ w.outcome-is ∙ c.next_outcome-outcome.ensures.first
      | in-Failed w ↦ w.outcome-is ∙ c.next_outcome-outcome.ensures.first
    ] in
    elim c.then-eq.branch [
      | then-eq-via-then-eq w ↦ answers_failed p o c.match-outcome.outcome (length c.args.bytes.now) (search rules) same
      | then-eq-via-else-eq+then-is_err w ↦ answers_no_room p q o c.match-outcome.outcome (length c.args.bytes.now) _
          c.next_outcome-outcome.ensures.sent same kept
          (refused w.reserve.result _ w.reserve.ensures.full (sym w.is_err.ensures.value ∙ w.if-is_err.true))
    ]
