use Rattle.std.proofs.Common.{◌≡◌, map, ◌∙◌}
use Rattle.sqlite.specs.Held.{state}
use Rattle.fuse_store_tables.specs.Content.{Holds}
use Rattle.fuse_store_tables.specs.Clearing.{unnamed_numbers}
use Rattle.fuse_store_tables.specs.inner.Columns.{number_of_row, shown_number}
use Rattle.fuse_store_tables.specs.inner.Steps.{without_contents_of, without_unnamed_contents}
use Rattle.fuse_store_tables.proofs.ContentsOf.{unnamed_contents}
use Rattle.fuse_store_tables.proofs.Joining.{makes_as_too, sure_after, told_of}
use Rattle.fuse_store_tables.proofs.Within.{within_then, within_failed}
use Rattle.fuse_store_tables.proofs.mount.clear_contents.Goals as goal

pub returns-clause-made : goal.returns-clause-made
returns-clause-made g c =
    makes_as_too (without_contents_of (map number_of_row c.as_slice.result.now)) without_unnamed_contents (state g.S.Store c.args.conn.now)
    (state g.S.Store c.select_unnamed.new.conn) (state g.S.Store c.delete_contents_of.new.conn) _
    c.delete_contents_of.result c.in_ok-nodes.ensures.made (λ k clean at. unnamed_contents c.as_slice.result.now k (c.as_slice.ensures.value
    ∙ c.in_ok-nodes.ensures.found clean k at)) c.delete_contents_of.ensures.made

pub returns-clause-fault : goal.returns-clause-fault
returns-clause-fault g c =
    sure_after Holds (state g.S.Store c.args.conn.now) (state g.S.Store c.select_unnamed.new.conn) (state g.S.Store c.delete_contents_of.new.conn)
    c.delete_contents_of.result c.delete_contents_of.ensures.made.stays.survives
    (λ clean k at. told_of (λ ns. c.as_slice.result.now ≡ map shown_number ns) c.delete_contents_of.result c.delete_contents_of.ensures.fault
    (unnamed_numbers k.nodes) (c.as_slice.ensures.value ∙ c.in_ok-nodes.ensures.found clean k at))

pub returns-in_err-nodes-clause-within : goal.returns-in_err-nodes-clause-within
returns-in_err-nodes-clause-within g c = within_failed _ _ _ _ c.in_err-nodes.ensures.within c.from_residual.ensures.0

pub returns-clause-within : goal.returns-clause-within
returns-clause-within g c = within_then _ _ _ _ _ c.in_ok-nodes.ensures.within c.delete_contents_of.ensures.within
