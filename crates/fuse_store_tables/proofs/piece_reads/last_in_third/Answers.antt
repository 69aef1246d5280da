use Rattle.std.proofs.Common.{◌<◌, filter, subst, sym}
use Rattle.sqlite.specs.Held.{state}
use Rattle.fuse_store_tables.specs.Content.{HoldsIn}
use Rattle.fuse_store_tables.specs.Ranges.{begins_by}
use Rattle.fuse_store_tables.specs.declared.version.Layout.TheVariants.{Third}
use Rattle.fuse_store_tables.proofs.LastPieces.{last_popped}
use Rattle.fuse_store_tables.proofs.LooksTold.{takes_told}
use Rattle.fuse_store_tables.proofs.piece_reads.last_in_third.Goals as goal

pub returns-clause-looks : goal.returns-clause-looks
returns-clause-looks g c =
    takes_told (HoldsIn Third) (HoldsIn Third) (state g.S.Store c.args.conn.now) (state g.S.Store c.select_before.new.conn) c.in_ok-rows.rows _
    c.in_ok-rows.ensures.looks

pub returns-clause-found : goal.returns-clause-found
returns-clause-found g c clean k at =
    last_popped (filter (begins_by c.args.node c.args.block) k.pieces) c.in_ok-rows.rows.items _ c.pop.result (c.in_ok-rows.ensures.found clean k at)
    c.pop.ensures.items (λ some. c.pop.ensures.variant.1 (subst (λ n. 0 < n) (sym c.in_ok-rows.rows.ok.0) some))
