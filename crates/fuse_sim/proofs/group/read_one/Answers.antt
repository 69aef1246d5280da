use Rattle.std.proofs.Common.{◌≡◌, inl, inr, ap, sym, ◌∙◌}
use Rattle.fuse_request.specs.Classes.{class_for}
use Rattle.fuse_keeper.specs.Group.{IsPerformed, entry_of}
use Rattle.fuse_sim.proofs.Gathered.{kept_performed, seen_performed, only_one}
use Rattle.fuse_sim.proofs.group.read_one.Goals as goal

pub returns-in-Ok-clause-kept : goal.returns-in-Ok-clause-kept
returns-in-Ok-clause-kept g c =
    let V = g.service in
    let r = c.in-Ok.request in
    let bytes = c.as_slice.result.now in
    let class : class_for V bytes ≡ c.args.class = ap (class_for V) c.as_slice.ensures ∙ sym c.requires.1 in
    only_one (IsPerformed V) (entry_of (r, c.args.event.now.moment)) (elim c.in-Kept.is [
      | inl kept ↦ kept_performed V r (c.in-Ok.ensures.kept V (class ∙ kept))
      | inr seen ↦ seen_performed V r (c.in-Ok.ensures.seen V (class ∙ seen))
    ])
