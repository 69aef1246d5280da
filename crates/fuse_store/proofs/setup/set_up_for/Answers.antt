use Rattle.std.proofs.Common.{[], codes, inl, refl, ap, ◌∙◌}
use Rattle.sqlite.specs.Held.{state}
use Rattle.sqlite.proofs.StateLemmas.{survives_weaker}
use Rattle.sqlite.specs.Schema.{Schema}
use Rattle.sqlite_schema.specs.Names.{table_named}
use Rattle.fuse_store_tables.specs.Moves.{RestsAs}
use Rattle.fuse_store_tables.specs.Opening.{IsStored, IsOpened, IsWantedStore}
use Rattle.fuse_store.specs.Opening.{SecondEveryday, StoredFor, OpenedFor, WasOver, ReadyFor, WantedFor, IsReady, IsWantedOf}
use Rattle.fuse_store.proofs.Retelling.{served_undone, safe_undone, done_so, kept_back, curried, sure_so}
use Rattle.fuse_store.proofs.MadeNew.{no_transaction, in_one}
use Rattle.fuse_store.specs.inner.Leaving.{rests_was}
use Rattle.fuse_store.proofs.Reopening.{lists_counted, profile_so, ready_rests, stored_read, wanted_read, sure_wanted, has_meta, no_none, meta_whole, left_here, back_here, once_here}
use Rattle.fuse_store_tree.specs.inner.Laws.{still_survives}
use Rattle.fuse_store.proofs.setup.set_up_for.Goals as goal

-- ---- without `meta`

pub returns-then-is_none-clause-kept : goal.returns-then-is_none-clause-kept
returns-then-is_none-clause-kept g c = λ file clean is_open z was.
    rests_was file z (state g.S.Store c.args.conn.now) c.schema.ensures.live (c.if-not-is_autocommit.ensures.settled refl) was

pub returns-then-is_none-clause-fault : goal.returns-then-is_none-clause-fault
returns-then-is_none-clause-fault g c = λ file clean z at.
    no_none c.table_named.result 0
    (c.table_named.ensures ∙ ap (λ (s : Schema). table_named s (codes "meta")) c.schema.ensures.value
    ∙ has_meta file z (state g.S.Store c.args.conn.now).now at.holds.0.0) c.if-is_none.ensures

pub returns-then-is_none-clause-sure : goal.returns-then-is_none-clause-sure
returns-then-is_none-clause-sure g c = λ clean file z was ready is.
    let a = state g.S.Store c.args.conn.now in
    let at = rests_was file z a c.schema.ensures.live (c.if-not-is_autocommit.ensures.settled refl) was in
    returns-then-is_none-clause-fault g c file clean z
    (record { is_open = at.is_open; autocommit = at.autocommit; holds = ((at.holds, ready), is); committed = at.committed })

pub returns-then-is_none-clause-alone : goal.returns-then-is_none-clause-alone
returns-then-is_none-clause-alone g c = λ outside other. left_here (state g.S.Store c.args.conn.now) outside (c.if-not-is_autocommit.ensures.settled refl)

pub returns-then-is_none-clause-refused : goal.returns-then-is_none-clause-refused
returns-then-is_none-clause-refused g c = λ refused.
    let a = state g.S.Store c.args.conn.now in
    left_here a (no_transaction a.in_transaction c.if-not-is_autocommit.ensures.value) (c.if-not-is_autocommit.ensures.settled refl)

-- ---- with it

pub returns-clause-rows : goal.returns-clause-rows
returns-clause-rows g c = c.set_up.ensures.serves

pub returns-clause-alone : goal.returns-clause-alone
returns-clause-alone g c = λ outside other. c.set_up.ensures.alone other

pub returns-clause-refused : goal.returns-clause-refused
returns-clause-refused g c = c.set_up.ensures.refused

pub returns-clause-ended : goal.returns-clause-ended
returns-clause-ended g c = λ clean outside. c.set_up.ensures.ended clean

pub returns-clause-serves : goal.returns-clause-serves
returns-clause-serves g c = λ file.
    served_undone IsStored (IsOpened c.args.number) (ReadyFor c.args.number file) (OpenedFor file)
    (stored_read c.rows_in_order.ensures c.blocks_are_apart.ensures c.args.number file) (state g.S.Store c.args.conn.now)
    (state g.S.Store c.set_up.new.conn) c.set_up.result c.set_up.ensures.serves c.set_up.ensures.ended c.set_up.ensures.undone

pub returns-clause-fault : goal.returns-clause-fault
returns-clause-fault g c = λ file.
    safe_undone (IsWantedStore c.args.wanted) (IsOpened c.args.number) (WantedFor c.args.wanted c.args.number file) (OpenedFor file)
    (wanted_read c.rows_in_order.ensures c.blocks_are_apart.ensures c.args.wanted c.args.number file)
    (state g.S.Store c.args.conn.now) (state g.S.Store c.set_up.new.conn) c.set_up.result c.set_up.ensures.fault

pub returns-clause-ok : goal.returns-clause-ok
returns-clause-ok g c = λ clean file.
    let a = state g.S.Store c.args.conn.now in
    let b = state g.S.Store c.set_up.new.conn in
    curried (λ z. WasOver file z a) (IsReady c.args.number file) (λ z. RestsAs (OpenedFor file z) b) c.set_up.result
    (done_so (ReadyFor c.args.number file) (OpenedFor file) (λ z. WasOver file z a × IsReady c.args.number file z) a b
    (λ z was. ready_rests file z a c.args.number (rests_was file z a c.schema.ensures.live (c.if-not-is_autocommit.ensures.settled refl) was.0) was.1)
    c.set_up.result (returns-clause-serves g c file) clean)

pub returns-clause-kept : goal.returns-clause-kept
returns-clause-kept g c = λ file.
    let a = state g.S.Store c.args.conn.now in
    kept_back (StoredFor file) (λ z. WasOver file z a) a (state g.S.Store c.set_up.new.conn)
    (λ z was. rests_was file z a c.schema.ensures.live (c.if-not-is_autocommit.ensures.settled refl) was) c.set_up.ensures.ended c.set_up.result c.set_up.ensures.undone

pub returns-clause-crash : goal.returns-clause-crash
returns-clause-crash g c =
    let a = state g.S.Store c.args.conn.now in
    survives_weaker a (state g.S.Store c.set_up.new.conn) _ _ (λ _ db left file z was ready.
    let at = rests_was file z a c.schema.ensures.live (c.if-not-is_autocommit.ensures.settled refl) was in
    let w = stored_read c.rows_in_order.ensures c.blocks_are_apart.ensures c.args.number file z a.now (at.holds, ready) in
    let it = left w.content (record { is_open = at.is_open; autocommit = at.autocommit; holds = w.holds; committed = at.committed }) in
    (it.0, w.made it.0 it.1, it.2)) c.set_up.ensures.serves.survives

pub returns-clause-sure : goal.returns-clause-sure
returns-clause-sure g c = λ clean file.
    let a = state g.S.Store c.args.conn.now in
    sure_wanted c.args.wanted c.args.number file a c.set_up.result
    (sure_so (WantedFor c.args.wanted c.args.number file) (OpenedFor file)
    (λ z. (WasOver file z a × IsReady c.args.number file z) × IsWantedOf c.args.wanted z) a (state g.S.Store c.set_up.new.conn)
    (λ z was.
    let at = ready_rests file z a c.args.number (rests_was file z a c.schema.ensures.live (c.if-not-is_autocommit.ensures.settled refl) was.0.0) was.0.1 in
    record { is_open = at.is_open; autocommit = at.autocommit; holds = (at.holds, was.1); committed = at.committed }) c.set_up.result
    (returns-clause-fault g c file) clean)

pub returns-clause-whole : goal.returns-clause-whole
returns-clause-whole g c =
    meta_whole (state g.S.Store c.args.conn.now) (state g.S.Store c.set_up.new.conn) c.set_up.result c.if-not-is_autocommit.ensures.value
    (c.if-not-is_autocommit.ensures.settled refl) c.set_up.ensures.was c.set_up.ensures.whole c.set_up.ensures.profile

pub returns-clause-profile : goal.returns-clause-profile
returns-clause-profile g c = λ clean file.
    let a = state g.S.Store c.args.conn.now in
    profile_so file a (state g.S.Store c.set_up.new.conn) c.set_up.result
    (λ z was. rests_was file z a c.schema.ensures.live (c.if-not-is_autocommit.ensures.settled refl) was) c.set_up.ensures.profile clean

pub returns-clause-none : goal.returns-clause-none
returns-clause-none g c =
    let a = state g.S.Store c.args.conn.now in
    lists_counted c.rows_in_order.ensures c.blocks_are_apart.ensures c.args.number (λ k. k) (λ k none. none) a (state g.S.Store c.set_up.new.conn) c.set_up.result
    (λ y was. rests_was [] (SecondEveryday y) a c.schema.ensures.live (c.if-not-is_autocommit.ensures.settled refl) was) c.set_up.ensures.serves

-- ---- whatever the database is

pub returns-then-not-is_autocommit-clause-undone : goal.returns-then-not-is_autocommit-clause-undone
returns-then-not-is_autocommit-clause-undone g c = λ outside.
    in_one (state g.S.Store c.args.conn.now).in_transaction c.if-not-is_autocommit.ensures.value outside

pub returns-then-not-is_autocommit-clause-once : goal.returns-then-not-is_autocommit-clause-once
returns-then-not-is_autocommit-clause-once g c = once_here (state g.S.Store c.args.conn.now) _

pub returns-then-is_none-clause-undone : goal.returns-then-is_none-clause-undone
returns-then-is_none-clause-undone g c = λ outside. back_here (state g.S.Store c.args.conn.now) (c.if-not-is_autocommit.ensures.settled refl)

pub returns-then-is_none-clause-once : goal.returns-then-is_none-clause-once
returns-then-is_none-clause-once g c = once_here (state g.S.Store c.args.conn.now) _

pub returns-clause-undone : goal.returns-clause-undone
returns-clause-undone g c = λ outside. c.set_up.ensures.undone

pub returns-clause-once : goal.returns-clause-once
returns-clause-once g c = c.set_up.ensures.once

-- ---- what was made ready

pub returns-then-not-is_autocommit-clause-left_of : goal.returns-then-not-is_autocommit-clause-left_of
returns-then-not-is_autocommit-clause-left_of g c = inl (refl, still_survives (state g.S.Store c.args.conn.now) _)

pub returns-then-is_none-clause-left_of : goal.returns-then-is_none-clause-left_of
returns-then-is_none-clause-left_of g c = inl (refl, still_survives (state g.S.Store c.args.conn.now) _)

pub returns-clause-left_of : goal.returns-clause-left_of
returns-clause-left_of g c = c.set_up.ensures.left_of

pub returns-clause-made : goal.returns-clause-made
returns-clause-made g c = c.set_up.ensures.made
