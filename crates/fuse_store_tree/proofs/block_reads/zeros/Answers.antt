use Rattle.std.proofs.Common.{◌∙◌}
use Rattle.fuse_rows.specs.Bounds.{block_bytes}
use Rattle.fuse_store_tree.proofs.Ranges.{filled}
use Rattle.fuse_store_tree.proofs.block_reads.zeros.Goals as goal

pub returns-clause-value : goal.returns-clause-value
returns-clause-value c = c.in_ok-resize.ensures.items ∙ filled block_bytes c.new-zeros.result.items _ c.new-zeros.ensures.items c.new-zeros.ensures.len
