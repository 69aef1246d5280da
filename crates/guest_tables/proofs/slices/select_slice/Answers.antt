use Rattle.sqlite.specs.Held.{state}
use Rattle.guest_tables.proofs.PairScans.{slice_makes, slice_shows}
use Rattle.guest_tables.proofs.slices.select_slice.Goals as goal

pub returns-clause-looks : goal.returns-clause-looks
returns-clause-looks g c =
    slice_makes (λ rows. rows.items) c.args.keys_alone c.args.at.now.is_bounded c.args.downwards c.args.at.now.from.items c.args.at.now.to.items c.args.limit
    (state g.S.Store c.args.conn.now) (state g.S.Store c.query_all.new.self) c.query_all.result
    (rw (c.slice_values-values.ensures, c.slice_text-text.ensures, c.as_slice.ensures.value, c.as_slice-2.ensures.value) at c.query_all.ensures.ok)
    (rw (c.slice_values-values.ensures, c.slice_text-text.ensures, c.as_slice.ensures.value, c.as_slice-2.ensures.value) at c.query_all.ensures.err)
    (rw (c.slice_values-values.ensures, c.slice_text-text.ensures, c.as_slice.ensures.value, c.as_slice-2.ensures.value) at c.query_all.ensures.survives)

pub returns-clause-found : goal.returns-clause-found
returns-clause-found g c =
    slice_shows (λ rows. rows.items) c.args.keys_alone c.args.at.now.is_bounded c.args.downwards c.args.at.now.from.items c.args.at.now.to.items c.args.limit
    (state g.S.Store c.args.conn.now) (state g.S.Store c.query_all.new.self) c.query_all.result
    (rw (c.slice_values-values.ensures, c.slice_text-text.ensures, c.as_slice.ensures.value, c.as_slice-2.ensures.value) at c.query_all.ensures.ok)
