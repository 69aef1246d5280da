use Rattle.std.proofs.Common.{◌≡◌, filter, sum_by, sym, ◌∙◌}
use Rattle.sqlite.specs.Held.{state}
use Rattle.fuse_store_tables.specs.Faults.{IsOutside}
use Rattle.fuse_store_tables.specs.Pieces.{begins_between}
use Rattle.fuse_store_tables.specs.declared.version.Layout.TheVariants.{Third}
use Rattle.fuse_store_tables.proofs.Laid.{known_looks}
use Rattle.fuse_store_tables.proofs.LooksTold.{failed_as, faults_held, found_held, looked_as, looked_still, none_held}
use Rattle.fuse_store_tables.proofs.PieceSums.{none_summed}
use Rattle.fuse_store_tables.proofs.piece_reads.count_piece_blocks.Goals as goal

pub returns-in-Second-clause-looks : goal.returns-in-Second-clause-looks
returns-in-Second-clause-looks g c = looked_still (state g.S.Store c.args.conn.now)

pub returns-in-Second-clause-value : goal.returns-in-Second-clause-value
returns-in-Second-clause-value g c clean k at =
    none_summed _ (none_held (begins_between c.args.node c.args.from c.args.to) k (sym (c.layout_of.ensures.value k at.holds) ∙ c.in-Second.is))

pub returns-in-Third-clause-looks : goal.returns-in-Third-clause-looks
returns-in-Third-clause-looks g c =
    looked_as (state g.S.Store c.args.conn.now) (state g.S.Store c.sum_in_third.new.conn) c.sum_in_third.result
    (known_looks Third (state g.S.Store c.args.conn.now) (state g.S.Store c.sum_in_third.new.conn) c.sum_in_third.result
    (λ k held. sym c.in-Third.is ∙ c.layout_of.ensures.value k held) c.sum_in_third.ensures.looks)

pub returns-in-Third-clause-fails : goal.returns-in-Third-clause-fails
returns-in-Third-clause-fails g c =
    failed_as (state g.S.Store c.args.conn.now) (state g.S.Store c.sum_in_third.new.conn) c.sum_in_third.result
    (known_looks Third (state g.S.Store c.args.conn.now) (state g.S.Store c.sum_in_third.new.conn) c.sum_in_third.result
    (λ k held. sym c.in-Third.is ∙ c.layout_of.ensures.value k held) c.sum_in_third.ensures.looks)

pub returns-in-Third-clause-value : goal.returns-in-Third-clause-value
returns-in-Third-clause-value g c clean =
    found_held (λ ps n. n ≡ sum_by (λ p. p.count) (filter (begins_between c.args.node c.args.from c.args.to) ps)) (state g.S.Store c.args.conn.now)
    c.sum_in_third.result (λ k held. sym c.in-Third.is ∙ c.layout_of.ensures.value k held) (c.sum_in_third.ensures.value clean)

pub returns-in-Third-clause-fault : goal.returns-in-Third-clause-fault
returns-in-Third-clause-fault g c clean =
    faults_held (state g.S.Store c.args.conn.now) c.sum_in_third.result (λ k held. sym c.in-Third.is ∙ c.layout_of.ensures.value k held)
    (c.sum_in_third.ensures.fault clean)
