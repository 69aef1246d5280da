use Rattle.std.proofs.Common.{filter, sym, ◌∙◌}
use Rattle.sqlite.specs.Held.{state}
use Rattle.fuse_store_tables.specs.Ranges.{ShowsLast, begins_by}
use Rattle.fuse_store_tables.specs.declared.version.Layout.TheVariants.{Third}
use Rattle.fuse_store_tables.proofs.Laid.{known_looks}
use Rattle.fuse_store_tables.proofs.LooksTold.{failed_as, found_held, looked_as, looked_still, none_held}
use Rattle.fuse_store_tables.proofs.piece_reads.select_piece_before.Goals as goal

pub returns-in-Second-clause-looks : goal.returns-in-Second-clause-looks
returns-in-Second-clause-looks g c = looked_still (state g.S.Store c.args.conn.now)

pub returns-in-Second-clause-found : goal.returns-in-Second-clause-found
returns-in-Second-clause-found g c clean k at =
    none_held (begins_by c.args.node c.args.block) k (sym (c.layout_of.ensures.value k at.holds) ∙ c.in-Second.is)

pub returns-in-Third-clause-looks : goal.returns-in-Third-clause-looks
returns-in-Third-clause-looks g c =
    looked_as (state g.S.Store c.args.conn.now) (state g.S.Store c.last_in_third.new.conn) c.last_in_third.result
    (known_looks Third (state g.S.Store c.args.conn.now) (state g.S.Store c.last_in_third.new.conn) c.last_in_third.result
    (λ k held. sym c.in-Third.is ∙ c.layout_of.ensures.value k held) c.last_in_third.ensures.looks)

pub returns-in-Third-clause-fails : goal.returns-in-Third-clause-fails
returns-in-Third-clause-fails g c =
    failed_as (state g.S.Store c.args.conn.now) (state g.S.Store c.last_in_third.new.conn) c.last_in_third.result
    (known_looks Third (state g.S.Store c.args.conn.now) (state g.S.Store c.last_in_third.new.conn) c.last_in_third.result
    (λ k held. sym c.in-Third.is ∙ c.layout_of.ensures.value k held) c.last_in_third.ensures.looks)

pub returns-in-Third-clause-found : goal.returns-in-Third-clause-found
returns-in-Third-clause-found g c clean =
    found_held (λ ps. ShowsLast (filter (begins_by c.args.node c.args.block) ps)) (state g.S.Store c.args.conn.now) c.last_in_third.result
    (λ k held. sym c.in-Third.is ∙ c.layout_of.ensures.value k held) (c.last_in_third.ensures.found clean)
