use Rattle.std.proofs.Common.{ap, ◌∙◌}
use Rattle.std.specs.List.{splice}
use Rattle.fuse_rows.proofs.Joined.{vec_gave}
use Rattle.fuse_rows.proofs.chunks.replace.Goals as goal

pub returns-clause-ok : goal.returns-clause-ok
returns-clause-ok c =
    let gave = c.in_ok-splice.ensures.items in
    gave.4 ∙ ap (splice c.args.chunks.now.items c.args.from c.args.to) (vec_gave gave.0 c.args.fresh.items gave.1 gave.2.0 (gave.2.1 ∙ c.args.fresh.ok.0) gave.3)
