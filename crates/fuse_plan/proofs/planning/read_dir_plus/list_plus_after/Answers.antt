use Rattle.std.proofs.Common.{◌≡◌, ◌≤◌, ◌<◌, ◌+◌, List, length, map, sym, ap, ◌∙◌, arith}
use Rattle.std.specs.List.{sum_by}
use Rattle.std.proofs.lemmas.Bool.{eqb-false}
use Rattle.std.proofs.lemmas.List.{length-map}
use Rattle.fuse_answer.specs.PlusEntries.{PlusEntry, plus_of, plus_len}
use Rattle.fuse_plan.specs.inner.PlanPlus.{plan_plus_prefix}
use Rattle.fuse_plan.proofs.Cuts.{same_plus}
use Rattle.fuse_plan.proofs.planning.read_dir_plus.list_plus_after.Goals as goal
use Rattle.fuse_plan.proofs.planning.read_dir_plus.list_plus_after.Goals.{else-count-eq0-via-then-count-eq0+else-is_empty, else-count-eq0-via-else-count-eq0}

pub returns-clause-plan : goal.returns-clause-plan
returns-clause-plan c = λ shown.
    let first = map plus_of c.args.dirents.items in
    let count : length first ≡ length c.args.dirents.items = length-map c.args.dirents.items plus_of in
    let len = c.args.dirents.ok in
    let some : 0 < length first + c.count_fitting-count.result =
    elim c.else-count-eq0.branch [
      | else-count-eq0-via-then-count-eq0+else-is_empty w ↦ (let some = eqb-false c.args.dirents.len 0 (sym w.if-is_empty.ensures) in omega
          (arith, some, len, count))
      | else-count-eq0-via-else-count-eq0 w ↦ (let some = w.if-count-eq0.false in omega (arith, some))
    ] in
    let second = c.in_ok-push_plus.ensures in
    let room : c.args.size ≤ sum_by plus_len first + c.saturating_sub-room.result =
    omega (arith, c.saturating_sub-room.ensures, c.len.ensures, c.requires.dots, len, count) in (
      c.in_ok-list_plus_prefix.ensures ∙ ap (λ (es : List PlusEntry). plan_plus_prefix es c.args.size) (ap (map plus_of) c.as_slice.ensures.value ∙ second.entries)
          ∙ same_plus c.args.valid first c.args.children.now c.args.size c.saturating_sub-room.result c.count_fitting-count.result room some c.count_fitting-count.ensures,
      tt,
    )
