use Rattle.std.proofs.Common.{◌-◌, ◌∙◌}
use Rattle.std.specs.Option.{is_some}
use Rattle.fuse_store_tables.specs.Blocks.{block_at}
use Rattle.fuse_store_tree.proofs.StretchesCounted.{no_more}
use Rattle.fuse_store_tree.proofs.block_counts.count_rows.Goals as goal

pub returns-in-Ok-clause-value : goal.returns-in-Ok-clause-value
returns-in-Ok-clause-value g c clean k at =
    c.min.ensures
    ∙ no_more (λ n. is_some (block_at c.args.node n k.blocks)) c.args.from (c.args.end - c.args.from) c.in-Ok.count (c.in-Ok.ensures.numbers clean k at)
