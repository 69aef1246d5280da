use Rattle.std.proofs.Common.{◌≡◌, [], ◌∷◌, filter, sum_by, ◌∙◌}
use Rattle.sqlite.specs.Held.{state}
use Rattle.fuse_store_tables.specs.Content.{HoldsIn}
use Rattle.fuse_store_tables.specs.Moves.{InsideAs}
use Rattle.fuse_store_tables.specs.Pieces.{begins_between}
use Rattle.fuse_store_tables.specs.declared.version.Layout.TheVariants.{Third}
use Rattle.fuse_store_tables.proofs.LooksTold.{takes_told, number_told, number_untold}
use Rattle.fuse_store_tables.proofs.piece_reads.sum_in_third.Goals as goal

pub returns-clause-looks : goal.returns-clause-looks
returns-clause-looks g c =
    takes_told (HoldsIn Third) (HoldsIn Third) (state g.S.Store c.args.conn.now) (state g.S.Store c.select_sum.new.conn) c.in_ok-rows.rows c.the_number.result
    c.in_ok-rows.ensures.looks

pub returns-clause-value : goal.returns-clause-value
returns-clause-value g c clean =
    number_told c.the_number.result c.as_slice.result.now (λ k. InsideAs (HoldsIn Third k) (state g.S.Store c.args.conn.now))
    (λ k. sum_by (λ p. p.count) (filter (begins_between c.args.node c.args.from c.args.to) k.pieces))
    (λ k at. c.as_slice.ensures.value ∙ c.in_ok-rows.ensures.found clean k at) c.the_number.ensures.value

pub returns-clause-fault : goal.returns-clause-fault
returns-clause-fault g c clean =
    number_untold c.the_number.result c.as_slice.result.now (λ k. InsideAs (HoldsIn Third k) (state g.S.Store c.args.conn.now))
    (λ k. sum_by (λ p. p.count) (filter (begins_between c.args.node c.args.from c.args.to) k.pieces))
    (λ k at. c.as_slice.ensures.value ∙ c.in_ok-rows.ensures.found clean k at) c.the_number.ensures.fault
