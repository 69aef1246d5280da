use Rattle.std.proofs.Common.{◌∙◌}
use Rattle.sqlite.specs.Held.{state}
use Rattle.guest_frames.specs.Borrowed.{scan_content}
use Rattle.guest_tables.specs.Holding.{pairs_in}
use Rattle.guest_tables.specs.Moves.{Inside}
use Rattle.guest_tables.specs.inner.Walks.{IsPage, GoesOn}
use Rattle.guest_tables.proofs.PairJoins.{made_told, made_failed, when_there, unless_there}
use Rattle.guest_tables.proofs.scans.next_page.Goals as goal

pub returns-clause-looks : goal.returns-clause-looks
returns-clause-looks g c =
    made_told (state g.S.Store c.args.conn.now) (state g.S.Store c.select_slice.new.conn) c.in_ok-rows.rows c.take_page.result c.in_ok-rows.ensures.looks

pub returns-clause-step : goal.returns-clause-step
returns-clause-step g c clean =
    when_there (λ k. Inside k (state g.S.Store c.args.conn.now))
    (λ k. IsPage (scan_content c.args.scan.now) c.page_len-len.result k c.args.walk.now c.as_slice.result.now)
    (λ k on. GoesOn (scan_content c.args.scan.now) (pairs_in k) c.args.walk.now c.take_page.new.walk on) c.take_page.result
    (λ k at. c.as_slice.ensures.value ∙ c.in_ok-rows.ensures.found clean k at) c.take_page.ensures.step

pub returns-clause-fault : goal.returns-clause-fault
returns-clause-fault g c clean =
    unless_there (λ k. Inside k (state g.S.Store c.args.conn.now))
    (λ k. IsPage (scan_content c.args.scan.now) c.page_len-len.result k c.args.walk.now c.as_slice.result.now) c.take_page.result
    (λ k at. c.as_slice.ensures.value ∙ c.in_ok-rows.ensures.found clean k at) c.take_page.ensures.fault

pub returns-in_err-rows-clause-looks : goal.returns-in_err-rows-clause-looks
returns-in_err-rows-clause-looks g c =
    made_failed (state g.S.Store c.args.conn.now) (state g.S.Store c.select_slice.new.conn) _ c.from_residual.result c.from_residual.ensures.0
    c.in_err-rows.ensures.looks
