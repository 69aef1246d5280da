use Rattle.std.proofs.Common.{sym, ◌∙◌}
use Rattle.fuse_store_tables.specs.Content.{has_by, node_key}
use Rattle.fuse_store_tree.proofs.ListedPieces.{found_any}
use Rattle.fuse_store_tree.proofs.piece_lists.can_list.Goals as goal

pub returns-in-Ok-clause-value : goal.returns-in-Ok-clause-value
returns-in-Ok-clause-value g c clean is k at fits = record {
  third = sym (c.layout_of.ensures.value k at.holds) ∙ c.in-Third.is;
  there = found_any (has_by node_key c.args.node) k.nodes c.in-Ok.found (c.in-Ok.ensures.value clean k at fits) (sym c.is_some.ensures ∙ is);
}
