use Rattle.fuse_store_tables.specs.Content.{without_blocks_from, without_pieces}
use Rattle.fuse_store_tables.proofs.Joining.{makes_then}
use Rattle.fuse_store_tables.proofs.Within.{within_then, within_failed}
use Rattle.fuse_store_tables.proofs.mount.remove_contents.Goals as goal

pub returns-clause-made : goal.returns-clause-made
returns-clause-made g c =
    makes_then (without_blocks_from c.args.node 0) (without_pieces c.args.node) _ _ _ _ _ c.in_ok-remove_blocks_from.ensures.made c.remove_pieces.ensures.made

pub returns-in_err-remove_blocks_from-clause-within : goal.returns-in_err-remove_blocks_from-clause-within
returns-in_err-remove_blocks_from-clause-within g c = within_failed _ _ _ _ c.in_err-remove_blocks_from.ensures.within c.from_residual.ensures.0

pub returns-clause-within : goal.returns-clause-within
returns-clause-within g c = within_then _ _ _ _ _ c.in_ok-remove_blocks_from.ensures.within c.remove_pieces.ensures.within
