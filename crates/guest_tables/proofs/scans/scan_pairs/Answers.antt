use Rattle.std.proofs.Common.{refl, subst, Ok, Err}
use Rattle.sqlite.specs.Held.{state}
use Rattle.guest_frames.specs.Borrowed.{scan_content}
use Rattle.guest_tables.specs.Holding.{pairs_in}
use Rattle.guest_tables.specs.inner.Walks.{IsAtOrOver}
use Rattle.guest_tables.proofs.PairJoins.{made_none, made_then, made_told, look_failed}
use Rattle.guest_tables.proofs.PairLoops.{one_page}
use Rattle.guest_tables.proofs.PairWalks.{shows_scan}
use Rattle.guest_tables.proofs.scans.scan_pairs.Goals as goal

pub pages-init : goal.pages-init
pages-init g c = (refl, made_none (state g.S.Store c.args.conn.now), (λ clean k at. c.in_ok-walk.ensures (pairs_in k)))

pub pages-preserved : goal.pages-preserved
pages-preserved g c =
    let s = scan_content c.args.scan.now in
    let from = state g.S.Store c.args.conn.now in
    let mid = state g.S.Store c.pages.conn in
    let now = state g.S.Store c.next_page.new.conn in (
      refl,
      made_told from now c.in_ok-on.on (Ok tt) (made_then from mid now tt (Ok c.in_ok-on.on) c.pages.invariant.1 c.in_ok-on.ensures.looks),
      one_page s from mid now c.pages.walk c.next_page.new.walk c.pages.on c.in_ok-on.on c.pages.invariant.1 c.in_ok-on.ensures.looks c.pages.invariant.2
          c.pages-test.true c.in_ok-on.ensures.step,
    )

pub returns-clause-shown : goal.returns-clause-shown
returns-clause-shown g c clean k at =
    let s = scan_content c.args.scan.now in
    shows_scan s (pairs_in k) c.pages.walk (record { pairs = c.pages.walk.held.pairs; more = c.pages.walk.held.more }) refl refl
    (subst (IsAtOrOver s (pairs_in k) c.pages.walk) c.pages-test.false (c.pages.invariant.2 clean k at))

pub returns-in_err-on-clause-fails : goal.returns-in_err-on-clause-fails
returns-in_err-on-clause-fails g c =
    look_failed (state g.S.Store c.args.conn.now) (state g.S.Store c.next_page.new.conn) _ c.from_residual-in_err-on.result
    (made_then (state g.S.Store c.args.conn.now) (state g.S.Store c.pages.conn) (state g.S.Store c.next_page.new.conn) tt (Err _) c.pages.invariant.1
    c.in_err-on.ensures.looks)
