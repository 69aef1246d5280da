use Rattle.std.proofs.Common.{◌∙◌, ◌==◌, Bool, ap, not, filter, rules}
use Rattle.std.proofs.lemmas.Fn.{filter_same}
use Rattle.fuse_lists.specs.inner.NumbersOnce.{are_distinct}
use Rattle.fuse_rows.specs.declared.rows.Full.{Full}
use Rattle.fuse_lists.proofs.Placed.{once_kept}
use Rattle.fuse_lists.proofs.plain.nodes.NodeList.remove.Goals as goal

pub invariant_of-self : goal.invariant_of-self
invariant_of-self c =
    let stays : Full → Bool = λ f. not (f.row.node == c.args.number) in
    let e = filter_same _ stays _ (λ x b f' k. search rules) _ _ c.retain.ensures.filtered in
    ap are_distinct e ∙ once_kept stays c.self.inside.nodes.items c.self.invariant

pub returns : goal.returns
returns c =
    let stays : Full → Bool = λ f. not (f.row.node == c.args.number) in
    filter_same _ stays _ (λ x b f' k. search rules) _ _ c.retain.ensures.filtered ∙ ap (filter stays) c.self.view_is
