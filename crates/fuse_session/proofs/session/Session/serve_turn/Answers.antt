use Rattle.std.proofs.Common.{◌<◌, ◌∙◌, ℕ, true, false, List, [], ◌∷◌, ◌^◌, ap, arith, length, sym, subst, All}
use Rattle.fuse_request.specs.Stream.{IsMessage, joined}
use Rattle.fuse_session.specs.Port.{IsYoung}
use Rattle.fuse_session.specs.Starts.{KeptRecords}
use Rattle.fuse_session.specs.declared.port.Received.{Received as Receipt}
use Rattle.fuse_session.specs.Transcript.{Received}
use Rattle.fuse_session.specs.Deeds.{Did}
use Rattle.fuse_session.specs.inner.Turn.{OneTurn, GroupedSome, muted, waits}
use Rattle.fuse_session.proofs.Doing.{turn_none, turn_hears, one_heard, then_did, just_heard, just_more}
use Rattle.fuse_session.proofs.Sharing.{processed_just, broken_just, by_just, unheard_just}
use Rattle.fuse_keeper.specs.Group.{ids_of}
use Rattle.fuse_session.specs.inner.Counting.{IsBelow}
use Rattle.fuse_session.specs.Counting.{none_counted}
use Rattle.fuse_session.specs.inner.Moves.{FailedBy}
use Rattle.fuse_session.specs.Ended.{ended_store, IsIntact}
use Rattle.fuse_keeper.specs.Model.{serving}
use Rattle.fuse_keeper.specs.KeeperState.{of_service}
use Rattle.fuse_session.specs.Passage.{passage}
use Rattle.fuse_session.specs.Serving.{Whole, Broken, goes_on}
use Rattle.fuse_session.specs.Grouping.{groups_of}
use Rattle.fuse_session.specs.inner.Finishing.{ended_at, ended_port}
use Rattle.fuse_session.proofs.Counted.{below_more}
use Rattle.fuse_session.proofs.Handing.{holds_under}
use Rattle.fuse_session.proofs.Growing.{life_heard, whole_heard, heard_messages}
use Rattle.fuse_session.proofs.Sessions.{came_by, life_unheard, ends_unheard, unheard_store, fault_ends, fault_not_turns, fault_counts, life_worked, ends_finished}
use Rattle.fuse_session.proofs.Sessions.{finished_store, finished_counts, unheard_counts, none_below}
use Rattle.fuse_session.proofs.session.Session.serve_turn.Goals as goal

-- ---- nothing was received

pub returns-in-Err-clause-err : goal.returns-in-Err-clause-err
returns-in-Err-clause-err g c =
    let keeper = c.args.self.now.keeper.now in
    let k = of_service g.service (g.K.Keeper.told keeper) in
    let e = c.in-Err.ended in
    let clock = c.args.self.now.clock.now in
    let became = g.P.Port.became c.args.self.now.port.now c.receive_messages.new.port in
    let one = came_by e became _ _ c.args.framer.now c.in-Err.ensures.err in
    let just = unheard_just e became _ _ c.args.framer.now c.in-Err.ensures.err in
    let deeds = one_heard one.result one.received in
    let alone = λ (result : Receipt) (bytes : List ℕ) (once : by_just one (Received result bytes ∷ [])). just_heard result one.result bytes one.received once in
    let by = unheard_store e became _ _ c.args.framer.now c.in-Err.ensures.err in
    record {
      deeds = deeds;
      done = turn_none (g.C.Clock.gave clock clock) (g.K.Keeper.performed keeper keeper) g.P.Port.became c.args.self.now.port.now c.receive_messages.new.port
          one.result one.received g.service c.args.framer.now.bytes ((g.met.C.Clock.logged).none clock) ((g.met.K.Keeper.log).none keeper) one.once;
      life = life_unheard (serving g.service g.K.Keeper.model) (c.still_stands.ensures g.service) k _ (by_just one) _ _ (ids_of c.args.self.now.pending.now.items) c.args.framer.now e by.0 alone just
          c.in-Err.ensures.hearing;
      counts = none_counted;
      below = none_below (2 ^ 20);
      ends = ends_unheard (serving g.service g.K.Keeper.model) k _ (by_just one) _ _ (ids_of c.args.self.now.pending.now.items) c.args.framer.now e 0 alone c.requires.1.1.1.1.1.1.1.1.0
          just c.in-Err.ensures.hearing;
      told_are = unheard_counts e became _ _ c.args.framer.now _ none_counted c.in-Err.ensures.err c.counts_of-counts.ensures;
      at_most = λ _ _ (before : KeptRecords) h. holds_under (serving g.service g.K.Keeper.model) before k _ h;
      firm = λ _ _ firm. firm;
      failed = by.1;
      store = c.requires.1.1.1.1.0 ∙ sym by.0;
      not_turns = by.2;
    }

-- ---- the messages that wait are processed

pub serve_messages-requires : goal.serve_messages-requires
serve_messages-requires g c = λ κs lives.
    let took = c.in-Ok.ensures.ok.took in
    let messages = subst (All IsMessage) (sym c.as_slice-slice.ensures.value) took.each in
    let young : IsYoung (g.P.Port.told c.receive_messages.new.port) = record {
      receives = omega (arith, c.in-Ok.ensures.hearing.receives, c.requires.1.1.1.1.1.1.0);
      failures = omega (arith, c.in-Ok.ensures.ok.came.failures, c.requires.1.1.1.1.1.0.failures);
    } in
    let short : length c.as_slice-slice.result.now < 2 ^ 60 = omega (
      arith,
      ap length c.as_slice-slice.ensures.value,
      took.few,
      took.at,
      c.in-Ok.ensures.fed,
      c.requires.1.1.1.1.1.1.1.1.1.1,
    ) in (
      lives.0,
      (lives.1.0, (lives.1.1, (c.requires.1.1.1.0, (messages, (c.requires.1.1.1.1.0, (young, (c.requires.1.1.1.1.1.1.1.0, short))))))),
    )

pub finish-requires-clause-place : goal.finish-requires-clause-place
finish-requires-clause-place g c =
    let took = c.in-Ok.ensures.ok.took in
    omega (arith, ap (λ x. length (joined x)) c.as_slice-slice.ensures.value, took.at, c.in-Ok.ensures.fed, c.requires.1.1.1.1.1.1.1.1.1.1, c.fed.ensures, c.held.ensures)

pub returns-in-Err-serve_messages-clause-err : goal.returns-in-Err-serve_messages-clause-err
returns-in-Err-serve_messages-clause-err g c =
    let k = of_service g.service (g.K.Keeper.told c.args.self.now.keeper.now) in
    let k' = of_service g.service (g.K.Keeper.told c.serve_messages.new.self.keeper.now) in
    let s = c.in-Err-serve_messages.ensures in
    let p = g.P.Port.told c.args.self.now.port.now in
    let q = g.P.Port.told c.receive_messages.new.port in
    let r = g.P.Port.told c.serve_messages.new.self.port.now in
    let e = c.ended_of.ensures.is in
    let pass = passage k k' q r (Did (g.C.Clock.gave c.args.self.now.clock.now c.serve_messages.new.self.clock.now)
    (GroupedSome g.service c.as_slice-slice.result.now (g.K.Keeper.performed c.args.self.now.keeper.now c.serve_messages.new.self.keeper.now))
    (g.P.Port.became c.receive_messages.new.port c.serve_messages.new.self.port.now)) in
    let broken = subst (λ x. Broken (muted pass) (ids_of c.args.self.now.pending.now.items) c.as_slice-slice.result.now x) (sym e) s.err in
    let heard = c.in-Ok.ensures.ok in
    let came = heard.came in
    let asked = broken.work.done.done.asked in
    let turn = turn_hears (g.C.Clock.gave c.args.self.now.clock.now c.serve_messages.new.self.clock.now)
    (g.K.Keeper.performed c.args.self.now.keeper.now c.serve_messages.new.self.keeper.now) g.P.Port.became g.met.P.Port.path c.args.self.now.port.now
    c.receive_messages.new.port c.serve_messages.new.self.port.now came.result heard.received broken.work.deeds
    g.service c.args.framer.now.bytes c.as_slice-slice.result.now asked.0 false
    (heard_messages _ c.args.framer.now c.receive_messages.new.framer _ _ _ heard c.as_slice-slice.ensures.value) (λ isnt. absurd (cc isnt)) came.once came.gave
    (record {
      done = record { moments = broken.work.done.done.moments; asked = asked.1; events = broken.work.done.done.events };
      slices = broken.work.done.slices;
      events = broken.work.done.events;
    }) in
    record {
      deeds = then_did (one_heard came.result c.in-Ok.ensures.ok.received) broken.work.deeds;
      done = turn.0;
      life = life_heard (serving g.service g.K.Keeper.model) (c.histories_grow.ensures g.service) k k' s.honest
          _ _ (g.P.Port.became c.args.self.now.port.now c.receive_messages.new.port) _ _ _ (ids_of c.args.self.now.pending.now.items)
          c.args.framer.now c.receive_messages.new.framer c.in-Ok.waiting.messages.items c.as_slice-slice.result.now c.in-Ok.waiting.fault _
          c.in-Ok.ensures.ok (λ b two. just_more (one_heard came.result c.in-Ok.ensures.ok.received) broken.work.deeds b _ two turn.1)
          c.in-Ok.ensures.hearing c.as_slice-slice.ensures.value
          (broken_just (serving g.service g.K.Keeper.model) _ _ _ _ _ _ _ _ broken) s.quiet;
      counts = none_counted;
      below = none_below (2 ^ 20);
      ends = fault_ends (serving g.service g.K.Keeper.model) _ _ _ c.ended_of.result _ c.ended_of.ensures.fault
          (s.quiet.receive_failures ∙ c.in-Ok.ensures.ok.came.receive_failures);
      told_are = fault_counts c.ended_of.result p r none_counted c.ended_of.ensures.fault
          (s.quiet.receive_failures ∙ c.in-Ok.ensures.ok.came.receive_failures);
      at_most = λ confirms intact (before : KeptRecords) h. s.at_most (c.in-Ok.ensures.hearing.confirms ∙ confirms) (subst (IsIntact k') e intact) before h;
      failed = subst (λ x. FailedBy (ended_port x) p.failures r.failures) (sym e)
          (subst (λ n. FailedBy (ended_port (ended_at c.in-Err-serve_messages.fault)) n r.failures) c.in-Ok.ensures.ok.came.failures s.failed);
      firm = λ isnt. s.firm_still (ap ended_store (sym e) ∙ isnt);
      store = s.store ∙ ap ended_store (sym e);
      not_turns = fault_not_turns c.ended_of.result c.ended_of.ensures.fault;
    }

-- ---- all of them are

pub returns-in-Ok-finish-clause-ok : goal.returns-in-Ok-finish-clause-ok
returns-in-Ok-finish-clause-ok g c =
    let k = of_service g.service (g.K.Keeper.told c.args.self.now.keeper.now) in
    let k' = of_service g.service (g.K.Keeper.told c.serve_messages.new.self.keeper.now) in
    let s = c.in-Ok-serve_messages.ensures in
    let progress = c.in-Ok-serve_messages.progress in
    let fin = c.in-Ok-finish.ensures.ok in
    let heard = c.in-Ok.ensures.ok in
    let took = heard.took in
    let short = c.requires.1.1.1.1.1.1.1.1.0.short in
    let room = c.requires.1.1.1.1.1.1.1.1.1.0 in
    record {
      whole = subst (Whole (passage k k' (g.P.Port.told c.args.self.now.port.now) (g.P.Port.told c.serve_messages.new.self.port.now)
          (OneTurn g.service c.args.framer.now.bytes true (Did (g.C.Clock.gave c.args.self.now.clock.now c.serve_messages.new.self.clock.now)
          (g.K.Keeper.performed c.args.self.now.keeper.now c.serve_messages.new.self.keeper.now)
          (g.P.Port.became c.args.self.now.port.now c.serve_messages.new.self.port.now))))
          (waits (ids_of c.args.self.now.pending.now.items) c.args.framer.now)
          (waits (ids_of c.serve_messages.new.self.pending.now.items) c.receive_messages.new.framer)) (sym fin.0)
          (whole_heard (serving g.service g.K.Keeper.model) (c.histories_grow.ensures g.service) k k' s.honest _ _ (g.P.Port.became c.args.self.now.port.now c.receive_messages.new.port) _ _ _
          (ids_of c.args.self.now.pending.now.items) (ids_of c.serve_messages.new.self.pending.now.items) c.args.framer.now c.receive_messages.new.framer
          c.in-Ok.waiting.messages.items c.as_slice-slice.result.now c.in-Ok.waiting.fault
          progress heard (λ b two. turn_hears (g.C.Clock.gave c.args.self.now.clock.now c.serve_messages.new.self.clock.now)
          (g.K.Keeper.performed c.args.self.now.keeper.now c.serve_messages.new.self.keeper.now) g.P.Port.became g.met.P.Port.path c.args.self.now.port.now
          c.receive_messages.new.port c.serve_messages.new.self.port.now heard.came.result heard.received b
          g.service c.args.framer.now.bytes c.as_slice-slice.result.now _ true
          (heard_messages _ c.args.framer.now c.receive_messages.new.framer _ _ _ heard c.as_slice-slice.ensures.value)
          (λ _. ap (groups_of g.service) (s.ok.all (ap goes_on fin.1))) heard.came.once heard.came.gave two)
          c.in-Ok.ensures.hearing c.as_slice-slice.ensures.value fin.1 s.ok s.quiet);
      below = subst (λ x. IsBelow x (2 ^ 20)) (sym fin.0) (below_more progress.counts (length c.as_slice-slice.result.now) (2 ^ 20)
          (omega (arith, ap length c.as_slice-slice.ensures.value, took.few, took.at, c.in-Ok.ensures.fed, short, room)) s.below);
      going = s.going;
      firm = s.firm;
      more = λ confirms honest (before : KeptRecords) h. s.more (c.in-Ok.ensures.hearing.confirms ∙ confirms) honest before h;
      failures = s.failures ∙ heard.came.failures;
      receive_failures = s.quiet.receive_failures ∙ heard.came.receive_failures;
      not_ended = record { ends = s.quiet.ends ∙ heard.came.ends; has_ended = s.quiet.has_ended ∙ heard.came.has_ended };
    }

pub returns-in-Ok-finish-clause-opened : goal.returns-in-Ok-finish-clause-opened
returns-in-Ok-finish-clause-opened g c = c.in-Ok.ensures.ok.took.opened c.in-Ok-finish.ensures.ok.2

-- ---- up to the end of the session

pub returns-clause-err : goal.returns-clause-err
returns-clause-err g c =
    let k = of_service g.service (g.K.Keeper.told c.args.self.now.keeper.now) in
    let k' = of_service g.service (g.K.Keeper.told c.serve_messages.new.self.keeper.now) in
    let s = c.in-Ok-serve_messages.ensures in
    let progress = c.in-Ok-serve_messages.progress in
    let fin = c.in-Err-finish.ensures.err in
    let e = c.in-Err-finish.served.ended in
    let heard = c.in-Ok.ensures.ok in
    let took = heard.took in
    let short = c.requires.1.1.1.1.1.1.1.1.0.short in
    let room = c.requires.1.1.1.1.1.1.1.1.1.0 in
    let by = finished_store e _ _ _ fin.1 in
    let work = s.ok.turned.work in
    let turn = turn_hears (g.C.Clock.gave c.args.self.now.clock.now c.serve_messages.new.self.clock.now)
    (g.K.Keeper.performed c.args.self.now.keeper.now c.serve_messages.new.self.keeper.now) g.P.Port.became g.met.P.Port.path c.args.self.now.port.now
    c.receive_messages.new.port c.serve_messages.new.self.port.now heard.came.result heard.received work.deeds
    g.service c.args.framer.now.bytes c.as_slice-slice.result.now _ false
    (heard_messages _ c.args.framer.now c.receive_messages.new.framer _ _ _ heard c.as_slice-slice.ensures.value) (λ isnt. absurd (cc isnt))
    heard.came.once heard.came.gave work.done in
    let just = processed_just (serving g.service g.K.Keeper.model) _ _ _ _ _ _ _ _ _ s.ok in
    record {
      deeds = then_did (one_heard heard.came.result heard.received) work.deeds;
      done = turn.0;
      life = life_worked (serving g.service g.K.Keeper.model) (c.histories_grow.ensures g.service) (c.still_stands.ensures g.service) k k' s.honest _ _ (g.P.Port.became c.args.self.now.port.now c.receive_messages.new.port) _ _ _
          (ids_of c.args.self.now.pending.now.items) (ids_of c.serve_messages.new.self.pending.now.items)
          c.args.framer.now c.receive_messages.new.framer c.in-Ok.waiting.messages.items c.as_slice-slice.result.now c.in-Ok.waiting.fault progress
          e by.0 heard (λ b two. just_more (one_heard heard.came.result heard.received) work.deeds b _ two turn.1)
          c.in-Ok.ensures.hearing c.as_slice-slice.ensures.value just s.quiet s.firm;
      counts = progress.counts;
      below = below_more progress.counts (length c.as_slice-slice.result.now) (2 ^ 20)
          (omega (arith, ap length c.as_slice-slice.ensures.value, took.few, took.at, c.in-Ok.ensures.fed, short, room)) s.below;
      ends = ends_finished (serving g.service g.K.Keeper.model) (c.histories_grow.ensures g.service) k k' s.honest _ _ (g.P.Port.became c.args.self.now.port.now c.receive_messages.new.port) _ _ _
          (ids_of c.args.self.now.pending.now.items) (ids_of c.serve_messages.new.self.pending.now.items)
          c.args.framer.now c.receive_messages.new.framer c.in-Ok.waiting.messages.items c.as_slice-slice.result.now c.in-Ok.waiting.fault _
          progress 0 e fin.1 heard (λ b two. just_more (one_heard heard.came.result heard.received) work.deeds b _ two turn.1)
          c.in-Ok.ensures.hearing c.as_slice-slice.ensures.value (omega (arith, c.fed.ensures, c.held.ensures)) just s.quiet;
      told_are = finished_counts e _ _ _ c.in-Err-finish.served.counts progress.counts fin.1 _ fin.0;
      at_most = λ confirms is (before : KeptRecords) h. holds_under (serving g.service g.K.Keeper.model) before k' _ (s.more (c.in-Ok.ensures.hearing.confirms ∙ confirms) is.honest
          before h);
      failed = subst (λ b. FailedBy b (g.P.Port.told c.args.self.now.port.now).failures (g.P.Port.told c.serve_messages.new.self.port.now).failures)
          (sym by.1) (s.failures ∙ heard.came.failures);
      firm = λ _. s.firm;
      store = s.going ∙ sym by.0;
      not_turns = by.2;
    }
