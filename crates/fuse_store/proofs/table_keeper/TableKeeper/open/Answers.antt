use Rattle.std.proofs.Common.{None, Some, false, subst, sym, ◌∙◌}
use Rattle.sqlite.specs.Held.{state}
use Rattle.sqlite.specs.declared.error.Error.TheVariants.{InvalidQuery}
use Rattle.fuse_init.specs.declared.profile.Profile.{Profile}
use Rattle.fuse_store_tables.specs.Saying.{IsToMigrate}
use Rattle.fuse_tree.specs.Rowed.{rowed}
use Rattle.fuse_store_tree.specs.Store.{records_of}
use Rattle.fuse_store_tree.specs.StoreState.{IsHonest, store_in}
use Rattle.fuse_store.specs.Opening.{OpenRefused, opened_for}
use Rattle.fuse_store.specs.TableKeeper.{parts_state}
use Rattle.fuse_store.specs.TableState.{state_for}
use Rattle.fuse_store.proofs.Serving.{holds_at, firm, knowing_so}
use Rattle.fuse_store.proofs.Grouping.{its_own}
use Rattle.fuse_store.proofs.Reopening.{not_busy}
use Rattle.fuse_store.proofs.Restarting.{honest_parts, refused_here}
use Rattle.fuse_store.proofs.table_keeper.TableKeeper.open.Goals as goal

pub returns-in-Ok-clause-held : goal.returns-in-Ok-clause-held
returns-in-Ok-clause-held g c = λ clean z was.
    knowing_so c.in-Ok.opened.look.known None (opened_for z) (store_in g.S.Store g.D.Disk c.in-Ok.opened.look.conn c.in-Ok.opened.look.contents.file) (λ knows. tt)
    (c.in-Ok.ensures.opens.held clean z was)

pub returns-in-Ok-clause-profile : goal.returns-in-Ok-clause-profile
returns-in-Ok-clause-profile g c = λ clean z was. c.in-Ok.ensures.opens.profile clean z was ∙ c.in-Ok.ensures.wanted ∙ c.PROFILE-profile.ensures

pub returns-in-Ok-clause-whole : goal.returns-in-Ok-clause-whole
returns-in-Ok-clause-whole g c = λ clean content at.
    let so = c.in-Ok.ensures.opens.whole clean content at in
    record { whole = so.whole; profile = so.profile ∙ c.in-Ok.ensures.wanted ∙ c.PROFILE-profile.ensures }

pub returns-in-Ok-clause-tabled : goal.returns-in-Ok-clause-tabled
returns-in-Ok-clause-tabled g c = c.in-Ok.ensures.opens.tabled

pub returns-in-Ok-clause-was : goal.returns-in-Ok-clause-was
returns-in-Ok-clause-was g c = c.in-Ok.ensures.opens.was

pub returns-in-Ok-clause-holds : goal.returns-in-Ok-clause-holds
returns-in-Ok-clause-holds g c = λ clean z was.
    holds_at c.one_holding.ensures c.in-Ok.opened.look.known (store_in g.S.Store g.D.Disk c.in-Ok.opened.look.conn c.in-Ok.opened.look.contents.file) (opened_for z)
    (rowed (opened_for z).tree) (records_of (opened_for z).kept) (returns-in-Ok-clause-profile g c clean z was) (c.in-Ok.ensures.opens.held clean z was)
    (its_own (opened_for z))

pub returns-in-Ok-clause-lots : goal.returns-in-Ok-clause-lots
returns-in-Ok-clause-lots g c = λ clean z was.
    let b = store_in g.S.Store g.D.Disk c.in-Ok.opened.look.conn c.in-Ok.opened.look.contents.file in
    c.lots_are_read.ensures.same None b.contents.seen (opened_for z) b.tables.now (c.in-Ok.ensures.opens.held clean z was).rests.holds.0

pub returns-in-Ok-clause-honest : goal.returns-in-Ok-clause-honest
returns-in-Ok-clause-honest g c = λ clean.
    honest_parts g.S.Store g.D.Disk g.P.Profiled.PROFILE c.args.parts.conn c.args.parts.disk
    (λ plain. c.is_refused.ensures.other c.if-is_refused.false (not_busy (state g.S.Store c.args.parts.conn).in_transaction c.in-Ok.ensures.busy)
    (λ none. c.in-Ok.ensures.absent (not_busy (state g.S.Store c.args.parts.conn).in_transaction c.in-Ok.ensures.busy) none) (c.PROFILE-profile.ensures ∙ plain))
    (subst (λ (q : Profile). IsHonest (state_for q (parts_state g.S.Store g.D.Disk c.args.parts))) (c.in-Ok.ensures.wanted ∙ c.PROFILE-profile.ensures)
    (c.in-Ok.ensures.opens.honest clean))

pub returns-in-Ok-clause-firm : goal.returns-in-Ok-clause-firm
returns-in-Ok-clause-firm g c = λ clean.
    firm g.P.Profiled.PROFILE c.one_holding.ensures c.in-Ok.opened.look.known
    (store_in g.S.Store g.D.Disk c.in-Ok.opened.look.conn c.in-Ok.opened.look.contents.file) None false
    (g.met.S.Store.settled c.in-Ok.opened.look.conn.store)

pub returns-in-Ok-clause-absent : goal.returns-in-Ok-clause-absent
returns-in-Ok-clause-absent g c = λ settled none. absurd (c.in-Ok.ensures.absent settled none)

pub returns-in-Ok-clause-medium : goal.returns-in-Ok-clause-medium
returns-in-Ok-clause-medium g c = record { honest = (λ honest. honest, λ clean. clean); memory = (λ memory. memory, λ memory. memory) }

pub returns-in-Ok-clause-rows : goal.returns-in-Ok-clause-rows
returns-in-Ok-clause-rows g c = c.in-Ok.ensures.rows

pub returns-in-Ok-clause-busy : goal.returns-in-Ok-clause-busy
returns-in-Ok-clause-busy g c = λ busy. absurd (c.in-Ok.ensures.busy busy)

pub returns-in-Err-clause-refused : goal.returns-in-Err-clause-refused
returns-in-Err-clause-refused g c =
    subst (λ (q : Profile). OpenRefused (Some q) (parts_state g.S.Store g.D.Disk c.args.parts) (parts_state g.S.Store g.D.Disk c.in-Err.left.1) c.in-Err.left.0)
    c.PROFILE-profile.ensures c.in-Err.ensures.refused

pub returns-then-is_refused-clause-refused : goal.returns-then-is_refused-clause-refused
returns-then-is_refused-clause-refused g c =
    refused_here opened_for IsToMigrate (Some g.P.Profiled.PROFILE) (parts_state g.S.Store g.D.Disk c.args.parts) InvalidQuery
    (c.is_refused.ensures.outside c.if-is_refused.true) (c.is_refused.ensures.settled c.if-is_refused.true) (c.is_refused.ensures.live c.if-is_refused.true)

pub returns-then-is_refused-clause-absent : goal.returns-then-is_refused-clause-absent
returns-then-is_refused-clause-absent g c = λ still none. absurd (c.is_refused.ensures.there c.if-is_refused.true none)
