use Rattle.std.proofs.Common.{◌∙◌, filter, length}
use Rattle.sqlite.specs.Held.{state}
use Rattle.fuse_store_tables.specs.Moves.{Inside}
use Rattle.fuse_store_tables.specs.Ranges.{is_between}
use Rattle.fuse_store_tables.proofs.LooksTold.{look_told, look_untold, look_failed}
use Rattle.fuse_store_tables.proofs.NumberedBlocks.{told_numbers}
use Rattle.fuse_store_tables.proofs.RecordCounts.{told_value, told_fault}
use Rattle.fuse_store_tables.proofs.block_ranges.count_blocks.Goals as goal

pub returns-clause-looks : goal.returns-clause-looks
returns-clause-looks g c =
    look_told (state g.S.Store c.args.conn.now) (state g.S.Store c.select_count.new.conn) c.in_ok-rows.rows c.the_count.result c.in_ok-rows.ensures.looks

pub returns-clause-fails : goal.returns-clause-fails
returns-clause-fails g c =
    look_untold (state g.S.Store c.args.conn.now) (state g.S.Store c.select_count.new.conn) c.in_ok-rows.rows c.the_count.result c.in_ok-rows.ensures.looks

pub returns-clause-value : goal.returns-clause-value
returns-clause-value g c clean =
    told_value c.the_count.result c.as_slice.result.now (λ k. Inside k (state g.S.Store c.args.conn.now))
    (λ k. length (filter (is_between c.args.node c.args.from c.args.to) k.blocks))
    (λ k at. c.as_slice.ensures.value ∙ c.in_ok-rows.ensures.found clean k at) c.the_count.ensures.value

pub returns-clause-numbers : goal.returns-clause-numbers
returns-clause-numbers g c clean =
    told_numbers c.args.node c.args.from c.args.to (state g.S.Store c.args.conn.now) c.the_count.result
    (told_value c.the_count.result c.as_slice.result.now (λ k. Inside k (state g.S.Store c.args.conn.now))
    (λ k. length (filter (is_between c.args.node c.args.from c.args.to) k.blocks))
    (λ k at. c.as_slice.ensures.value ∙ c.in_ok-rows.ensures.found clean k at) c.the_count.ensures.value)

pub returns-clause-fault : goal.returns-clause-fault
returns-clause-fault g c clean =
    told_fault c.the_count.result c.as_slice.result.now (λ k. Inside k (state g.S.Store c.args.conn.now))
    (λ k. length (filter (is_between c.args.node c.args.from c.args.to) k.blocks))
    (λ k at. c.as_slice.ensures.value ∙ c.in_ok-rows.ensures.found clean k at) c.the_count.ensures.fault

pub returns-in_err-rows-clause-fails : goal.returns-in_err-rows-clause-fails
returns-in_err-rows-clause-fails g c =
    look_failed (state g.S.Store c.args.conn.now) (state g.S.Store c.select_count.new.conn) _ c.from_residual.result c.in_err-rows.ensures.looks
