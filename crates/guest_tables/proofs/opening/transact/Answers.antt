use Rattle.sqlite.specs.Held.{state}
use Rattle.std.proofs.Common.{subst, sym}
use Rattle.fuse_store_tables.specs.inner.Following.{earlier}
use Rattle.guest_tables.specs.Opening.{IsStored, IsLaid}
use Rattle.guest_tables.specs.Saying.{IsTabled, Says}
use Rattle.fuse_store_tables.specs.Moves.{RestsAs}
use Rattle.fuse_store_tables.specs.inner.Performing.{TransactsAs}
use Rattle.guest_tables.proofs.any_schema.Alone.{commits_then, begins_nothing, failed_same, committed_same, outside_err}
use Rattle.guest_tables.proofs.any_schema.Joining.{failed_first, failed_inside, failed_commit, committed, on_err}
use Rattle.guest_tables.proofs.opening.transact.Goals as goal

pub returns-in_err-begin-clause-performs : goal.returns-in_err-begin-clause-performs
returns-in_err-begin-clause-performs g c =
    on_err (TransactsAs IsStored IsStored (state g.S.Store c.args.conn.now) (state g.S.Store c.begin.new.conn)) c.from_residual.result c.from_residual.ensures.0
    (λ e. failed_first IsStored IsStored _ _ _ e c.in_err-begin.ensures)

pub returns-in-Err-clause-performs : goal.returns-in-Err-clause-performs
returns-in-Err-clause-performs g c =
    failed_inside IsStored IsStored IsStored _ _ _ _ _ c.in-Err.fault c.in_ok-begin.ensures c.in-Err.ensures.kept

pub returns-in_err-commit-in-Ok-clause-performs : goal.returns-in_err-commit-in-Ok-clause-performs
returns-in_err-commit-in-Ok-clause-performs g c =
    on_err (TransactsAs IsStored IsStored (state g.S.Store c.args.conn.now) (state g.S.Store c.commit.new.conn)) c.from_residual-in_err-commit-in-Ok.result
    c.from_residual-in_err-commit-in-Ok.ensures.0
    (λ e. failed_commit IsStored IsStored _ _ _ _ _ _ _ e c.in_ok-begin.ensures c.in-Ok.ensures.kept c.in_err-commit-in-Ok.ensures)

pub returns-in_ok-commit-in-Ok-clause-performs : goal.returns-in_ok-commit-in-Ok-clause-performs
returns-in_ok-commit-in-Ok-clause-performs g c = committed IsStored IsStored _ _ _ _ _ _ _ _ c.in_ok-begin.ensures c.in-Ok.ensures.kept c.in_ok-commit-in-Ok.ensures

pub returns-in_ok-commit-in-Ok-clause-tabled : goal.returns-in_ok-commit-in-Ok-clause-tabled
returns-in_ok-commit-in-Ok-clause-tabled g c = λ clean.
    let b = state g.S.Store c.begin.new.conn in
    let d = state g.S.Store c.work.new.conn in
    let late = earlier d (state g.S.Store c.commit.new.conn) _ c.in_ok-commit-in-Ok.ensures.survives clean in
    let mid = earlier b d _ c.in-Ok.ensures.kept.stays.survives late in
    subst IsTabled (c.in_ok-begin.ensures.begun mid).2 (c.in-Ok.ensures.tabled late)

pub returns-in-Err-clause-alone : goal.returns-in-Err-clause-alone
returns-in-Err-clause-alone g c =
    let a = state g.S.Store c.args.conn.now in
    let b = state g.S.Store c.begin.new.conn in
    let d = state g.S.Store c.work.new.conn in
    commits_then a b d (begins_nothing a b _ c.in_ok-begin.ensures)
    c.in-Err.ensures.reads.commits

pub returns-in_err-begin-clause-alone : goal.returns-in_err-begin-clause-alone
returns-in_err-begin-clause-alone g c = begins_nothing _ _ _ c.in_err-begin.ensures

pub returns-in_err-commit-in-Ok-clause-alone : goal.returns-in_err-commit-in-Ok-clause-alone
returns-in_err-commit-in-Ok-clause-alone g c =
    let a = state g.S.Store c.args.conn.now in
    let b = state g.S.Store c.begin.new.conn in
    let d = state g.S.Store c.work.new.conn in
    failed_same a b d (state g.S.Store c.commit.new.conn) _ _ (g.met.S.Store.stays c.args.conn.now.store) c.law_of_rest.ensures c.in_ok-begin.ensures
    c.in-Ok.ensures.reads
    _ c.in_err-commit-in-Ok.ensures

pub returns-in_ok-commit-in-Ok-clause-alone : goal.returns-in_ok-commit-in-Ok-clause-alone
returns-in_ok-commit-in-Ok-clause-alone g c =
    let a = state g.S.Store c.args.conn.now in
    let b = state g.S.Store c.begin.new.conn in
    let d = state g.S.Store c.work.new.conn in
    committed_same a b d (state g.S.Store c.commit.new.conn) _ _ (g.met.S.Store.stays c.args.conn.now.store) c.law_of_rest.ensures c.in_ok-begin.ensures
    c.in-Ok.ensures.reads
    _ c.in_ok-commit-in-Ok.ensures

pub returns-in_ok-commit-in-Ok-clause-ended : goal.returns-in_ok-commit-in-Ok-clause-ended
returns-in_ok-commit-in-Ok-clause-ended g c = λ clean. let on = c.in_ok-commit-in-Ok.ensures.ended clean in (on.1, sym on.3)

pub returns-in_err-commit-in-Ok-clause-fault : goal.returns-in_err-commit-in-Ok-clause-fault
returns-in_err-commit-in-Ok-clause-fault g c = λ clean.
    outside_err (λ k. RestsAs (IsStored k) (state g.S.Store c.args.conn.now)) _ c.from_residual-in_err-commit-in-Ok.result c.from_residual-in_err-commit-in-Ok.ensures.1

pub returns-in-Err-clause-says : goal.returns-in-Err-clause-says
returns-in-Err-clause-says g c = λ clean.
    let b = state g.S.Store c.begin.new.conn in
    let d = state g.S.Store c.work.new.conn in
    subst (λ db. Says db c.in-Err.fault) (c.in_ok-begin.ensures.begun (earlier b d _ c.in-Err.ensures.kept.stays.survives clean)).2 (c.in-Err.ensures.says clean)

pub returns-in-Err-clause-fault : goal.returns-in-Err-clause-fault
returns-in-Err-clause-fault g c = λ clean k at.
    let mid = earlier (state g.S.Store c.begin.new.conn) (state g.S.Store c.work.new.conn) _ c.in-Err.ensures.kept.stays.survives clean in
    let on = c.in_ok-begin.ensures.begun mid in
    c.in-Err.ensures.fault clean (k, record { is_open = on.0; in_transaction = on.1; holds = subst (IsStored k) (sym on.2) at.holds })

pub returns-in_ok-commit-in-Ok-clause-whole : goal.returns-in_ok-commit-in-Ok-clause-whole
returns-in_ok-commit-in-Ok-clause-whole g c = λ clean k at.
    let b = state g.S.Store c.begin.new.conn in
    let d = state g.S.Store c.work.new.conn in
    let late = earlier d (state g.S.Store c.commit.new.conn) _ c.in_ok-commit-in-Ok.ensures.survives clean in
    let on = c.in_ok-begin.ensures.begun (earlier b d _ c.in-Ok.ensures.kept.stays.survives late) in
    c.in-Ok.ensures.whole late k (record { is_open = on.0; in_transaction = on.1; holds = subst (IsLaid k) (sym on.2) at.holds })
