use Rattle.std.proofs.Common.{Ok, Err, subst}
use Rattle.std.proofs.lemmas.Bool.Decides.{not_from_Decides}
use Rattle.sqlite.specs.Held.{state}
use Rattle.fuse_keeper.specs.declared.fault.StoreFault.TheVariants.{Version, Damaged}
use Rattle.fuse_store_tables.specs.inner.Following.{then_as}
use Rattle.guest_tables.proofs.any_schema.Alone.{reads_told, reads_failed, reads_then}
use Rattle.guest_tables.proofs.any_schema.Within.{within_then, within_failed, within_told}
use Rattle.guest_tables.specs.Opening.{IsLaid, IsStored}
use Rattle.guest_tables.specs.Saying.{ReportsVersion}
use Rattle.guest_tables.proofs.OpenLemmas.{stored_stays, fails_so, found_not, sure_back, says_back, sure_version, sure_tables, sure_checked, tested, says_checked, tabled_checked}
use Rattle.guest_tables.proofs.Versions.{reported_damaged}
use Rattle.guest_tables.proofs.opening.work.Goals as goal

-- ---- the version could not be read

pub returns-in_err-version-clause-kept : goal.returns-in_err-version-clause-kept
returns-in_err-version-clause-kept g c =
    fails_so IsStored (state g.S.Store c.args.conn.now) (state g.S.Store c.find_version.new.conn) _ c.from_residual.result
    (stored_stays (state g.S.Store c.args.conn.now) (state g.S.Store c.find_version.new.conn) (Err _) c.in_err-version.ensures.laid c.in_err-version.ensures.reads) c.from_residual.ensures.0

pub returns-in_err-version-clause-fault : goal.returns-in_err-version-clause-fault
returns-in_err-version-clause-fault g c =
    sure_back (state g.S.Store c.args.conn.now) (state g.S.Store c.find_version.new.conn) _ c.from_residual.result c.from_residual.ensures.1 c.in_err-version.ensures.fault

pub returns-in_err-version-clause-says : goal.returns-in_err-version-clause-says
returns-in_err-version-clause-says g c = λ clean. says_back _ _ c.from_residual.result c.from_residual.ensures.1 (c.in_err-version.ensures.says clean)

pub returns-in_err-version-clause-reads : goal.returns-in_err-version-clause-reads
returns-in_err-version-clause-reads g c = reads_failed (state g.S.Store c.args.conn.now) (state g.S.Store c.find_version.new.conn) _ c.from_residual.result c.from_residual.ensures.0 c.in_err-version.ensures.reads

pub returns-in_err-version-clause-within : goal.returns-in_err-version-clause-within
returns-in_err-version-clause-within g c = within_failed (state g.S.Store c.args.conn.now) (state g.S.Store c.find_version.new.conn) _ c.from_residual.result c.in_err-version.ensures.within c.from_residual.ensures.0

-- ---- another version

pub returns-then-version-ne1-clause-kept : goal.returns-then-version-ne1-clause-kept
returns-then-version-ne1-clause-kept g c =
    found_not IsStored (state g.S.Store c.args.conn.now) (state g.S.Store c.find_version.new.conn) c.in_ok-version.version (Version c.in_ok-version.version)
    (stored_stays (state g.S.Store c.args.conn.now) (state g.S.Store c.find_version.new.conn) (Ok _) c.in_ok-version.ensures.laid c.in_ok-version.ensures.reads)

pub returns-then-version-ne1-clause-fault : goal.returns-then-version-ne1-clause-fault
returns-then-version-ne1-clause-fault g c =
    sure_version (state g.S.Store c.args.conn.now) (state g.S.Store c.find_version.new.conn) c.in_ok-version.version c.in_ok-version.ensures.laid c.in_ok-version.ensures.value c.if-version-ne1.true

pub returns-then-version-ne1-clause-says : goal.returns-then-version-ne1-clause-says
returns-then-version-ne1-clause-says g c = λ clean. (c.if-version-ne1.true, c.in_ok-version.ensures.reports clean)

pub returns-then-version-ne1-clause-reads : goal.returns-then-version-ne1-clause-reads
returns-then-version-ne1-clause-reads g c = reads_told (state g.S.Store c.args.conn.now) (state g.S.Store c.find_version.new.conn) _ _ c.in_ok-version.ensures.reads

pub returns-then-version-ne1-clause-within : goal.returns-then-version-ne1-clause-within
returns-then-version-ne1-clause-within g c = within_told (state g.S.Store c.args.conn.now) (state g.S.Store c.find_version.new.conn) _ _ c.in_ok-version.ensures.within

-- ---- other tables

pub returns-then-not-guest-clause-kept : goal.returns-then-not-guest-clause-kept
returns-then-not-guest-clause-kept g c =
    found_not IsStored (state g.S.Store c.args.conn.now) (state g.S.Store c.find_version.new.conn) c.in_ok-version.version Damaged (stored_stays (state g.S.Store c.args.conn.now) (state g.S.Store c.find_version.new.conn) (Ok _) c.in_ok-version.ensures.laid c.in_ok-version.ensures.reads)

pub returns-then-not-guest-clause-fault : goal.returns-then-not-guest-clause-fault
returns-then-not-guest-clause-fault g c =
    sure_tables (state g.S.Store c.args.conn.now) (state g.S.Store c.find_version.new.conn) c.in_ok-version.version c.in_ok-version.ensures.laid c.in_ok-version.ensures.value c.schema.result.now c.schema.ensures.value
    (not_from_Decides c.is_guest-guest.result c.is_guest-guest.ensures c.if-not-guest.true)

pub returns-then-not-guest-clause-says : goal.returns-then-not-guest-clause-says
returns-then-not-guest-clause-says g c = λ clean.
    reported_damaged _ (subst (ReportsVersion (state g.S.Store c.args.conn.now).now) c.if-version-ne1.false (c.in_ok-version.ensures.reports clean))

pub returns-then-not-guest-clause-reads : goal.returns-then-not-guest-clause-reads
returns-then-not-guest-clause-reads g c = reads_told (state g.S.Store c.args.conn.now) (state g.S.Store c.find_version.new.conn) _ _ c.in_ok-version.ensures.reads

pub returns-then-not-guest-clause-within : goal.returns-then-not-guest-clause-within
returns-then-not-guest-clause-within g c = within_told (state g.S.Store c.args.conn.now) (state g.S.Store c.find_version.new.conn) _ _ c.in_ok-version.ensures.within

-- ---- the rows are tested

pub returns-clause-kept : goal.returns-clause-kept
returns-clause-kept g c =
    let a = state g.S.Store c.args.conn.now in
    let b = state g.S.Store c.find_version.new.conn in
    let d = state g.S.Store c.check.new.conn in
    stored_stays a d c.check.result (then_as IsLaid IsLaid IsLaid a b d _ c.check.result c.in_ok-version.ensures.laid c.check.ensures.looks)
    (reads_then a b d _ c.check.result c.in_ok-version.ensures.reads c.check.ensures.reads)

pub returns-clause-fault : goal.returns-clause-fault
returns-clause-fault g c =
    sure_checked (state g.S.Store c.args.conn.now) (state g.S.Store c.find_version.new.conn) c.in_ok-version.version c.in_ok-version.ensures.laid c.in_ok-version.ensures.value c.if-version-ne1.false
    (state g.S.Store c.check.new.conn) c.check.result c.check.ensures

pub returns-clause-says : goal.returns-clause-says
returns-clause-says g c =
    says_checked (state g.S.Store c.args.conn.now) (state g.S.Store c.find_version.new.conn) c.in_ok-version.version c.in_ok-version.ensures.laid c.in_ok-version.ensures.value c.if-version-ne1.false
    (state g.S.Store c.check.new.conn) c.check.result c.check.ensures c.in_ok-version.ensures.reports

pub returns-clause-whole : goal.returns-clause-whole
returns-clause-whole g c =
    tested (state g.S.Store c.args.conn.now) (state g.S.Store c.find_version.new.conn) c.in_ok-version.version c.in_ok-version.ensures.laid c.in_ok-version.ensures.value c.if-version-ne1.false
    (state g.S.Store c.check.new.conn) c.check.result c.check.ensures

pub returns-clause-tabled : goal.returns-clause-tabled
returns-clause-tabled g c =
    tabled_checked (state g.S.Store c.args.conn.now) (state g.S.Store c.find_version.new.conn) c.in_ok-version.version c.in_ok-version.ensures.laid c.in_ok-version.ensures.value c.if-version-ne1.false
    (state g.S.Store c.check.new.conn) c.check.result c.check.ensures c.in_ok-version.ensures.reports c.schema.result.now c.schema.ensures.value
    (c.is_guest-guest.ensures.0 c.if-not-guest.false)

pub returns-clause-reads : goal.returns-clause-reads
returns-clause-reads g c =
    reads_then (state g.S.Store c.args.conn.now) (state g.S.Store c.find_version.new.conn) (state g.S.Store c.check.new.conn) _ c.check.result c.in_ok-version.ensures.reads c.check.ensures.reads

pub returns-clause-within : goal.returns-clause-within
returns-clause-within g c =
    within_then (state g.S.Store c.args.conn.now) (state g.S.Store c.find_version.new.conn) (state g.S.Store c.check.new.conn) _ c.check.result c.in_ok-version.ensures.within c.check.ensures.within
