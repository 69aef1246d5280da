use Rattle.std.proofs.Common.{◌∙◌, ap, filter, rules}
use Rattle.std.proofs.lemmas.Fn.{filter_same}
use Rattle.fuse_lists.specs.inner.NumbersOnce.{are_distinct}
use Rattle.fuse_tree.specs.Clearing.{is_named_row}
use Rattle.fuse_lists.proofs.Placed.{once_kept}
use Rattle.fuse_lists.proofs.plain.nodes.NodeList.keep_named.Goals as goal

pub invariant_of-self : goal.invariant_of-self
invariant_of-self c =
    let e = filter_same _ is_named_row _ (λ x b f' k. search rules) _ _ c.retain.ensures.filtered in
    ap are_distinct e ∙ once_kept is_named_row c.self.inside.nodes.items c.self.invariant

pub returns : goal.returns
returns c = filter_same _ is_named_row _ (λ x b f' k. search rules) _ _ c.retain.ensures.filtered ∙ ap (filter is_named_row) c.self.view_is
