use Rattle.std.proofs.Common.{◌≡◌, ◌≤◌, ◌<◌, ◌+◌, List, length, map, sym, ap, ◌∙◌, arith}
use Rattle.std.specs.List.{sum_by}
use Rattle.std.proofs.lemmas.Bool.{eqb-false}
use Rattle.std.proofs.lemmas.List.{length-map}
use Rattle.fuse_answer.specs.Entries.{DirectoryEntry, directory_entry_of, packed_len}
use Rattle.fuse_plan.specs.inner.PlanListing.{plan_prefix}
use Rattle.fuse_plan.proofs.Cuts.{same_told}
use Rattle.fuse_plan.proofs.planning.read_dir.list_after.Goals as goal
use Rattle.fuse_plan.proofs.planning.read_dir.list_after.Goals.{else-count-eq0-via-then-count-eq0+else-is_empty, else-count-eq0-via-else-count-eq0}

pub returns-clause-plan : goal.returns-clause-plan
returns-clause-plan c = λ shown.
    let first = map directory_entry_of c.args.dirents.items in
    let count : length first ≡ length c.args.dirents.items = length-map c.args.dirents.items directory_entry_of in
    let len = c.args.dirents.ok in
    let some : 0 < length first + c.count_fitting-count.result =
    elim c.else-count-eq0.branch [
      | else-count-eq0-via-then-count-eq0+else-is_empty w ↦ (let some = eqb-false c.args.dirents.len 0 (sym w.if-is_empty.ensures) in omega
          (arith, some, len, count))
      | else-count-eq0-via-else-count-eq0 w ↦ (let some = w.if-count-eq0.false in omega (arith, some))
    ] in
    let second = c.in_ok-push_entries.ensures in
    let room : c.args.size ≤ sum_by packed_len first + c.saturating_sub.result =
    omega (arith, c.saturating_sub.ensures, c.len.ensures, c.requires.dots, len, count) in (
      c.in_ok-list_prefix.ensures ∙ ap (λ (es : List DirectoryEntry). plan_prefix es c.args.size) (ap (map directory_entry_of) c.as_slice.ensures.value ∙ second.entries)
          ∙ same_told first c.args.children.now c.args.size c.saturating_sub.result c.count_fitting-count.result room some c.count_fitting-count.ensures,
      tt,
    )
