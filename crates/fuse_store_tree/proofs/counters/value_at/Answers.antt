use Rattle.std.proofs.Common.{◌≡◌, ◌<◌, ap, sym, subst, ◌∙◌, length, slice_index_or, arith}
use Rattle.sqlite.specs.Order.{Row}
use Rattle.std.proofs.Math.ListN.{get_or-map}
use Rattle.sqlite.specs.Order.{column}
use Rattle.fuse_store_tables.specs.Content.{shown_counter}
use Rattle.fuse_store_tree.specs.Store.{counter}
use Rattle.fuse_store_tree.specs.inner.Reading.{value_of}
use Rattle.fuse_store_tree.proofs.Looks.{map_err}
use Rattle.fuse_store_tree.proofs.counters.value_at.Goals as goal

pub returns-in-Some-clause-fault : goal.returns-in-Some-clause-fault
returns-in-Some-clause-fault c =
    map_err c.number_at.result _ _
    (λ f told cs is low.
    let shown : c.in-Some.row.now ≡ shown_counter (slice_index_or cs c.args.at (counter 0 0)) =
    c.in-Some.ensures.lookup.3.1 (shown_counter (counter 0 0))
    ∙ ap (λ l. slice_index_or l c.args.at (shown_counter (counter 0 0))) is
    ∙ get_or-map shown_counter cs c.args.at (counter 0 0) in
    told (value_of cs c.args.at) (subst (λ (r : Row). 0 < length r) (sym shown) (omega arith)) (ap (λ r. column r 0) shown))
    c.number_at.ensures.fault
