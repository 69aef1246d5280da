use Rattle.std.proofs.Common.{take, length, true, false, refl, ap, arith, ◌∙◌}
use Rattle.std.proofs.lemmas.List.{length-map}
use Rattle.guest_frames.specs.Borrowed.{scan_content}
use Rattle.guest_tables.specs.Holding.{pairs_in}
use Rattle.guest_tables.specs.declared.scans.Walk.{Walk}
use Rattle.guest_tables.specs.inner.Slices.{left_at, shown_pair}
use Rattle.guest_tables.proofs.PairWalks.{stops, ends, goes}
use Rattle.guest_tables.proofs.PairColumns.{retold}
use Rattle.guest_tables.proofs.PairsOfRows.{pairs_rise}
use Rattle.guest_tables.proofs.scans.take_page.Goals as goal

pub returns-then-not-branch-clause-step : goal.returns-then-not-branch-clause-step
returns-then-not-branch-clause-step c k is at =
    let held = c.take_rows.new.held in
    let new : Walk = record { at = c.args.walk.now.at; held = record { pairs = held.pairs; room = held.room; more = true } } in
    stops (scan_content c.args.scan.now) (pairs_in k) (pairs_rise k.pairs) c.args.walk.now new c.args.len
    (retold _ c.args.scan.now.limit _ c.args.walk.now.held held new.held _ _ c.from-limit.ensures c.if-not-branch.true refl refl
    (c.in_ok-take_rows.ensures.takes (take c.args.len (left_at c.args.scan.now.downwards c.args.walk.now.at (pairs_in k))) is))
    refl at

pub returns-then-rows-len-clause-step : goal.returns-then-rows-len-clause-step
returns-then-rows-len-clause-step c k is at =
    let held = c.take_rows.new.held in
    let page = take c.args.len (left_at c.args.scan.now.downwards c.args.walk.now.at (pairs_in k)) in
    let new : Walk = record { at = c.args.walk.now.at; held = record { pairs = held.pairs; room = held.room; more = false } } in
    ends (scan_content c.args.scan.now) (pairs_in k) (pairs_rise k.pairs) c.args.walk.now new c.args.len
    (retold _ c.args.scan.now.limit _ c.args.walk.now.held held new.held _ _ c.from-limit.ensures c.if-not-branch.false refl refl
    (c.in_ok-take_rows.ensures.takes page is))
    (omega (arith, c.if-rows-len.true, ap length is, length-map page (shown_pair c.args.scan.now.keys_alone)))
    refl at

pub returns-clause-step : goal.returns-clause-step
returns-clause-step c k is at =
    let held = c.take_rows.new.held in
    let page = take c.args.len (left_at c.args.scan.now.downwards c.args.walk.now.at (pairs_in k)) in
    let new : Walk = record { at = c.move_after.new.at; held = record { pairs = held.pairs; room = held.room; more = held.more } } in
    goes (scan_content c.args.scan.now) (pairs_in k) (pairs_rise k.pairs) c.args.walk.now new c.args.len
    (retold _ c.args.scan.now.limit _ c.args.walk.now.held held new.held _ _ c.from-limit.ensures c.if-not-branch.false refl refl
    (c.in_ok-take_rows.ensures.takes page is))
    (omega (arith, c.requires, c.if-rows-len.false, ap length is, length-map page (shown_pair c.args.scan.now.keys_alone)))
    (λ front last are. c.in_ok-move_after.ensures front last (c.as_slice-pairs.ensures.value ∙ are))
    at
