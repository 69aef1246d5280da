use Rattle.std.proofs.Common.{None, false, subst}
use Rattle.fuse_init.specs.declared.profile.Profile.{Profile}
use Rattle.fuse_init.specs.declared.profile.Profile.TheVariants as profiles
use Rattle.fuse_tree.specs.Rowed.{rowed}
use Rattle.fuse_store_tree.specs.Store.{records_of}
use Rattle.fuse_store_tree.specs.StoreState.{store_in}
use Rattle.fuse_store.specs.Mounting.{cleared_for}
use Rattle.fuse_store.specs.Opening.{opened_for}
use Rattle.fuse_store.specs.Starting.{begun_for}
use Rattle.fuse_store.specs.TableKeeper.{parts_state}
use Rattle.fuse_store.specs.inner.Opened.{Opens}
use Rattle.fuse_store.proofs.Serving.{holds_at, firm}
use Rattle.fuse_store.proofs.Grouping.{its_own}
use Rattle.fuse_store.proofs.Beginning.{begun_after, clears_all}
use Rattle.fuse_store.proofs.store_keeper.StoreKeeper.open_begun.Goals as goal

-- ---- plain

pub returns-in-Plain-clause-profile : goal.returns-in-Plain-clause-profile
returns-in-Plain-clause-profile g c = (subst (λ (p : Profile). Opens p begun_for c.in-Ok.opened.look.known (parts_state g.S.Store g.D.Disk c.args.parts) (store_in g.S.Store g.D.Disk c.in-Ok.opened.look.conn c.in-Ok.opened.look.contents.file)) c.in-Plain.is
    c.in-Ok.ensures.opens).profile

pub returns-in-Plain-clause-was : goal.returns-in-Plain-clause-was
returns-in-Plain-clause-was g c = (subst (λ (p : Profile). Opens p begun_for c.in-Ok.opened.look.known (parts_state g.S.Store g.D.Disk c.args.parts) (store_in g.S.Store g.D.Disk c.in-Ok.opened.look.conn c.in-Ok.opened.look.contents.file)) c.in-Plain.is
    c.in-Ok.ensures.opens).was

pub returns-in-Plain-clause-honest : goal.returns-in-Plain-clause-honest
returns-in-Plain-clause-honest g c = (subst (λ (p : Profile). Opens p begun_for c.in-Ok.opened.look.known (parts_state g.S.Store g.D.Disk c.args.parts) (store_in g.S.Store g.D.Disk c.in-Ok.opened.look.conn c.in-Ok.opened.look.contents.file)) c.in-Plain.is
    c.in-Ok.ensures.opens).honest

pub returns-in-Plain-clause-whole : goal.returns-in-Plain-clause-whole
returns-in-Plain-clause-whole g c = (subst (λ (p : Profile). Opens p begun_for c.in-Ok.opened.look.known (parts_state g.S.Store g.D.Disk c.args.parts) (store_in g.S.Store g.D.Disk c.in-Ok.opened.look.conn c.in-Ok.opened.look.contents.file)) c.in-Plain.is
    c.in-Ok.ensures.opens).whole

pub returns-in-Plain-clause-tabled : goal.returns-in-Plain-clause-tabled
returns-in-Plain-clause-tabled g c = (subst (λ (p : Profile). Opens p begun_for c.in-Ok.opened.look.known (parts_state g.S.Store g.D.Disk c.args.parts) (store_in g.S.Store g.D.Disk c.in-Ok.opened.look.conn c.in-Ok.opened.look.contents.file)) c.in-Plain.is
    c.in-Ok.ensures.opens).tabled

pub returns-in-Plain-clause-holds : goal.returns-in-Plain-clause-holds
returns-in-Plain-clause-holds g c = λ clean z was.
    holds_at c.one_holding.ensures c.in-Ok.opened.look.known (store_in g.S.Store g.D.Disk c.in-Ok.opened.look.conn c.in-Ok.opened.look.contents.file) (begun_for z)
    (rowed (begun_for z).tree) (records_of (begun_for z).kept) (returns-in-Plain-clause-profile g c clean z was)
    ((subst (λ (p : Profile). Opens p begun_for c.in-Ok.opened.look.known (parts_state g.S.Store g.D.Disk c.args.parts) (store_in g.S.Store g.D.Disk c.in-Ok.opened.look.conn c.in-Ok.opened.look.contents.file)) c.in-Plain.is
    c.in-Ok.ensures.opens).held clean z was) (its_own (begun_for z))

pub returns-in-Plain-clause-begins : goal.returns-in-Plain-clause-begins
returns-in-Plain-clause-begins g c = λ clean z was s h t stands.
    begun_after profiles.Plain c.rows_tell_state.ensures c.tree_is_sound.ensures.clears cleared_for clears_all c.one_holding.ensures c.in-Ok.opened.look.known
    (store_in g.S.Store g.D.Disk c.in-Ok.opened.look.conn c.in-Ok.opened.look.contents.file) (opened_for z) ((subst (λ (p : Profile). Opens p begun_for c.in-Ok.opened.look.known (parts_state g.S.Store g.D.Disk c.args.parts) (store_in g.S.Store g.D.Disk c.in-Ok.opened.look.conn c.in-Ok.opened.look.contents.file)) c.in-Plain.is
    c.in-Ok.ensures.opens).held clean z was) s h t stands None false

pub returns-in-Plain-clause-lots : goal.returns-in-Plain-clause-lots
returns-in-Plain-clause-lots g c = λ clean z was.
    let b = store_in g.S.Store g.D.Disk c.in-Ok.opened.look.conn c.in-Ok.opened.look.contents.file in
    c.lots_are_read.ensures.same None b.contents.seen (begun_for z) b.tables.now ((subst (λ (p : Profile). Opens p begun_for c.in-Ok.opened.look.known (parts_state g.S.Store g.D.Disk c.args.parts) (store_in g.S.Store g.D.Disk c.in-Ok.opened.look.conn c.in-Ok.opened.look.contents.file)) c.in-Plain.is
    c.in-Ok.ensures.opens).held clean z was).rests.holds.0

pub returns-in-Plain-clause-firm : goal.returns-in-Plain-clause-firm
returns-in-Plain-clause-firm g c = λ clean.
    firm profiles.Plain c.one_holding.ensures c.in-Ok.opened.look.known (store_in g.S.Store g.D.Disk c.in-Ok.opened.look.conn c.in-Ok.opened.look.contents.file) None false
    (g.met.S.Store.settled c.in-Ok.opened.look.conn.store)

pub returns-in-Plain-clause-medium : goal.returns-in-Plain-clause-medium
returns-in-Plain-clause-medium g c = record { honest = (λ honest. honest, λ clean. clean); memory = (λ memory. memory, λ memory. memory) }

pub returns-in-Plain-clause-rows : goal.returns-in-Plain-clause-rows
returns-in-Plain-clause-rows g c = c.in-Ok.ensures.rows

pub returns-in-Plain-clause-absent : goal.returns-in-Plain-clause-absent
returns-in-Plain-clause-absent g c = λ settled none. absurd (c.in-Ok.ensures.absent settled none)

pub returns-in-Plain-clause-busy : goal.returns-in-Plain-clause-busy
returns-in-Plain-clause-busy g c = λ busy. absurd (c.in-Ok.ensures.busy busy)

-- ---- everyday

pub returns-in-Everyday-clause-profile : goal.returns-in-Everyday-clause-profile
returns-in-Everyday-clause-profile g c = (subst (λ (p : Profile). Opens p begun_for c.in-Ok.opened.look.known (parts_state g.S.Store g.D.Disk c.args.parts) (store_in g.S.Store g.D.Disk c.in-Ok.opened.look.conn c.in-Ok.opened.look.contents.file)) c.in-Everyday.is
    c.in-Ok.ensures.opens).profile

pub returns-in-Everyday-clause-was : goal.returns-in-Everyday-clause-was
returns-in-Everyday-clause-was g c = (subst (λ (p : Profile). Opens p begun_for c.in-Ok.opened.look.known (parts_state g.S.Store g.D.Disk c.args.parts) (store_in g.S.Store g.D.Disk c.in-Ok.opened.look.conn c.in-Ok.opened.look.contents.file)) c.in-Everyday.is
    c.in-Ok.ensures.opens).was

pub returns-in-Everyday-clause-honest : goal.returns-in-Everyday-clause-honest
returns-in-Everyday-clause-honest g c = (subst (λ (p : Profile). Opens p begun_for c.in-Ok.opened.look.known (parts_state g.S.Store g.D.Disk c.args.parts) (store_in g.S.Store g.D.Disk c.in-Ok.opened.look.conn c.in-Ok.opened.look.contents.file)) c.in-Everyday.is
    c.in-Ok.ensures.opens).honest

pub returns-in-Everyday-clause-whole : goal.returns-in-Everyday-clause-whole
returns-in-Everyday-clause-whole g c = (subst (λ (p : Profile). Opens p begun_for c.in-Ok.opened.look.known (parts_state g.S.Store g.D.Disk c.args.parts) (store_in g.S.Store g.D.Disk c.in-Ok.opened.look.conn c.in-Ok.opened.look.contents.file)) c.in-Everyday.is
    c.in-Ok.ensures.opens).whole

pub returns-in-Everyday-clause-tabled : goal.returns-in-Everyday-clause-tabled
returns-in-Everyday-clause-tabled g c = (subst (λ (p : Profile). Opens p begun_for c.in-Ok.opened.look.known (parts_state g.S.Store g.D.Disk c.args.parts) (store_in g.S.Store g.D.Disk c.in-Ok.opened.look.conn c.in-Ok.opened.look.contents.file)) c.in-Everyday.is
    c.in-Ok.ensures.opens).tabled

pub returns-in-Everyday-clause-holds : goal.returns-in-Everyday-clause-holds
returns-in-Everyday-clause-holds g c = λ clean z was.
    holds_at c.one_holding.ensures c.in-Ok.opened.look.known (store_in g.S.Store g.D.Disk c.in-Ok.opened.look.conn c.in-Ok.opened.look.contents.file) (begun_for z)
    (rowed (begun_for z).tree) (records_of (begun_for z).kept) (returns-in-Everyday-clause-profile g c clean z was)
    ((subst (λ (p : Profile). Opens p begun_for c.in-Ok.opened.look.known (parts_state g.S.Store g.D.Disk c.args.parts) (store_in g.S.Store g.D.Disk c.in-Ok.opened.look.conn c.in-Ok.opened.look.contents.file)) c.in-Everyday.is
    c.in-Ok.ensures.opens).held clean z was) (its_own (begun_for z))

pub returns-in-Everyday-clause-begins : goal.returns-in-Everyday-clause-begins
returns-in-Everyday-clause-begins g c = λ clean z was s h t stands.
    begun_after profiles.Everyday c.rows_tell_state.ensures c.tree_is_sound-2.ensures.clears cleared_for clears_all c.one_holding.ensures c.in-Ok.opened.look.known
    (store_in g.S.Store g.D.Disk c.in-Ok.opened.look.conn c.in-Ok.opened.look.contents.file) (opened_for z) ((subst (λ (p : Profile). Opens p begun_for c.in-Ok.opened.look.known (parts_state g.S.Store g.D.Disk c.args.parts) (store_in g.S.Store g.D.Disk c.in-Ok.opened.look.conn c.in-Ok.opened.look.contents.file)) c.in-Everyday.is
    c.in-Ok.ensures.opens).held clean z was) s h t stands None false

pub returns-in-Everyday-clause-lots : goal.returns-in-Everyday-clause-lots
returns-in-Everyday-clause-lots g c = λ clean z was.
    let b = store_in g.S.Store g.D.Disk c.in-Ok.opened.look.conn c.in-Ok.opened.look.contents.file in
    c.lots_are_read.ensures.same None b.contents.seen (begun_for z) b.tables.now ((subst (λ (p : Profile). Opens p begun_for c.in-Ok.opened.look.known (parts_state g.S.Store g.D.Disk c.args.parts) (store_in g.S.Store g.D.Disk c.in-Ok.opened.look.conn c.in-Ok.opened.look.contents.file)) c.in-Everyday.is
    c.in-Ok.ensures.opens).held clean z was).rests.holds.0

pub returns-in-Everyday-clause-firm : goal.returns-in-Everyday-clause-firm
returns-in-Everyday-clause-firm g c = λ clean.
    firm profiles.Everyday c.one_holding.ensures c.in-Ok.opened.look.known (store_in g.S.Store g.D.Disk c.in-Ok.opened.look.conn c.in-Ok.opened.look.contents.file) None false
    (g.met.S.Store.settled c.in-Ok.opened.look.conn.store)

pub returns-in-Everyday-clause-medium : goal.returns-in-Everyday-clause-medium
returns-in-Everyday-clause-medium g c = record { honest = (λ honest. honest, λ clean. clean); memory = (λ memory. memory, λ memory. memory) }

pub returns-in-Everyday-clause-rows : goal.returns-in-Everyday-clause-rows
returns-in-Everyday-clause-rows g c = c.in-Ok.ensures.rows

pub returns-in-Everyday-clause-absent : goal.returns-in-Everyday-clause-absent
returns-in-Everyday-clause-absent g c = λ settled none. absurd (c.in-Ok.ensures.absent settled none)

pub returns-in-Everyday-clause-busy : goal.returns-in-Everyday-clause-busy
returns-in-Everyday-clause-busy g c = λ busy. absurd (c.in-Ok.ensures.busy busy)

-- ---- nothing was opened

pub returns-in-Err-clause-busy : goal.returns-in-Err-clause-busy
returns-in-Err-clause-busy g c = c.in-Err.ensures.busy

pub returns-in-Err-clause-refused : goal.returns-in-Err-clause-refused
returns-in-Err-clause-refused g c = c.in-Err.ensures.refused
