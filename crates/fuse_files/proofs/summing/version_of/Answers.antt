use Rattle.std.proofs.Common.{sym, ap, subst, ◌∙◌}
use Rattle.sqlite.specs.Held.{state}
use Rattle.fuse_store_tables.specs.Layout.{version_of}
use Rattle.fuse_store.specs.inner.Leaving.{rests_was}
use Rattle.fuse_files.proofs.Summed.{is_first, is_later, has_lots, rests_now}
use Rattle.fuse_files.proofs.summing.version_of.Goals as goal

pub returns-then-is_none : goal.returns-then-is_none
returns-then-is_none g c = λ file z was.
    let s = state g.S.Store c.args.conn.now in
    let now = rests_was file z s c.schema.ensures.live (c.is_autocommit.ensures.settled (rests_now _ _ c.is_autocommit.ensures.value was.1)) was in
    is_first file z s.now now.holds (has_lots _ _ _ _ c.table_named.ensures c.schema.ensures.value c.if-is_none.ensures)

pub returns-in-Second : goal.returns-in-Second
returns-in-Second g c = λ file z was.
    let s = state g.S.Store c.args.conn.now in
    let now = rests_was file z s c.schema.ensures.live (c.is_autocommit.ensures.settled (rests_now _ _ c.is_autocommit.ensures.value was.1)) was in
    sym (ap version_of c.in-Second.is) ∙ is_later file z s.now c.layout_of.result now.holds (has_lots _ _ _ _ c.table_named.ensures c.schema.ensures.value c.if-is_none.ensures) c.layout_of.ensures.laid

pub returns-in-Third : goal.returns-in-Third
returns-in-Third g c = λ file z was.
    let s = state g.S.Store c.args.conn.now in
    let now = rests_was file z s c.schema.ensures.live (c.is_autocommit.ensures.settled (rests_now _ _ c.is_autocommit.ensures.value was.1)) was in
    sym (ap version_of c.in-Third.is) ∙ is_later file z s.now c.layout_of.result now.holds (has_lots _ _ _ _ c.table_named.ensures c.schema.ensures.value c.if-is_none.ensures) c.layout_of.ensures.laid
