use Rattle.std.proofs.Common.{◌∙◌, ◌≡◌, List, ◌++◌, ◌+◌, ◌-◌, ◌*◌, ◌^◌, [], ap, arith, length, refl, sym, subst}
use Rattle.fuse_keeper.specs.Model.{serving}
use Rattle.fuse_keeper.specs.Stands.{Records}
use Rattle.fuse_keeper.specs.KeeperState.{of_service}
use Rattle.fuse_keeper.specs.Group.{ids_of}
use Rattle.fuse_request.specs.Framing.{fed_of}
use Rattle.fuse_session.specs.declared.ended.Ended.TheVariants.{Memory, Turns}
use Rattle.fuse_session.specs.Counting.{plus, none_counted}
use Rattle.fuse_session.specs.Deeds.{Deeds}
use Rattle.fuse_session.specs.Serving.{nothing_waits}
use Rattle.fuse_session.specs.Starts.{KeptRecords}
use Rattle.fuse_session.specs.inner.Counting.{IsBelow}
use Rattle.fuse_session.specs.inner.Finishing.{ended_port}
use Rattle.fuse_session.specs.inner.Moves.{HandsOn, FailedBy}
use Rattle.fuse_session.proofs.Counted.{plus_below, below_more}
use Rattle.fuse_session.proofs.Handing.{holds_under, hands_start}
use Rattle.fuse_session.proofs.Waiting.{ready_new, room_still}
use Rattle.fuse_session.proofs.Growing.{whole_life, life_more}
use Rattle.fuse_session.proofs.Sessions.{whole_start, whole_step, ends_more, life_none, failed_both, counts_more, counts_below, failed_since}
use Rattle.fuse_session.proofs.Prompting.{first_none, first_more, stops_none, stops_more, caught_whole}
use Rattle.fuse_session.proofs.Sharing.{whole_just}
use Rattle.std.proofs.lemmas.List.{append-nil}
use Rattle.fuse_request.specs.Act.{Asked}
use Rattle.fuse_session.specs.Grouping.{groups_asked}
use Rattle.fuse_session.proofs.Grouping.{groups_more}
use Rattle.fuse_session.proofs.Transcripts.{each_gave}
use Rattle.fuse_session.proofs.Doing.{no_deeds, then_did, did_none, did_more}
use Rattle.fuse_session.proofs.session.serve_turns.Goals as goal

pub returns-in_default-clause-session : goal.returns-in_default-clause-session
returns-in_default-clause-session g c =
    let M = serving g.service g.K.Keeper.model in
    let k = of_service g.service (g.K.Keeper.told c.args.keeper.now) in
    let none = did_none g.C.Clock.gave g.K.Keeper.performed g.P.Port.became g.met.C.Clock.logged g.met.K.Keeper.log g.met.P.Port.path
    c.args.clock.now c.args.keeper.now c.args.port.now in
    record {
      deeds = no_deeds;
      done = none;
      ends = record { counts = none_counted; ends = tt; told_are = refl };
      life = life_none M (c.still_stands.ensures g.service) k (λ d. d ≡ no_deeds) (g.P.Port.told c.args.port.now) nothing_waits Memory refl refl;
      prompt = record { first = first_none M _ _ _; stops = stops_none };
      groups = ([], refl);
      lots = λ _ _ rows (records : Records) held rowed.
          holds_under M (record { records = records; lots = k.lots }) k [] (hands_start M k [] rows records held rowed);
      receives = omega arith;
      failed = failed_both Memory _ _ refl;
      store = c.requires.1.1.1.1.0;
      firm = λ _ _ firm. firm;
      honest = λ is. is;
      medium = λ is. is;
      service = refl;
      may = λ honest f may. may;
    }

pub loop-turn-init : goal.loop-turn-init
loop-turn-init g c = record {
  whole = whole_start (serving g.service g.K.Keeper.model) (of_service g.service (g.K.Keeper.told c.args.keeper.now)) _ (g.P.Port.told c.args.port.now)
      (ids_of c.new-pending.result.items) c.new-framer.result
      (record {
        done = (did_none g.C.Clock.gave g.K.Keeper.performed g.P.Port.became g.met.C.Clock.logged g.met.K.Keeper.log g.met.P.Port.path
            c.args.clock.now c.args.keeper.now c.args.port.now);
        first = first_none (serving g.service g.K.Keeper.model) _ _ _;
        stops = stops_none;
        groups = refl;
      })
      (ap ids_of c.new-pending.ensures.items) c.new-framer.ensures;
  ready = ready_new c.new-framer.result c.new-framer.ensures;
  below = record {
    messages = omega arith;
    kept = omega arith;
    repeated = omega arith;
    seen = omega arith;
    bare = omega arith;
    silent =
        omega arith;
    interrupts = omega arith;
  };
  few = omega (arith, ap length c.new-pending.ensures.items);
  going = c.requires.1.1.1.1.0;
  firm = λ _ firm. firm;
  more = λ _ _ (before : KeptRecords) h. subst (λ xs. HandsOn before (of_service g.service (g.K.Keeper.told c.args.keeper.now)) (ids_of xs)) (sym c.new-pending.ensures.items) h;
  receives = omega arith;
  failures = refl;
  receive_failures = refl;
  not_ended = record { ends = refl; has_ended = refl };
  confirms = refl;
  fed = omega (arith, ap fed_of c.new-framer.ensures);
  room = omega (arith, c.in-Ok.ensures.len, c.in-Ok.buffer.ok.0);
  honest = λ is. is;
  may = λ honest f may. may;
  medium = λ is. is;
  serves = c.requires.1.1.1.0;
  unopened = (g.met.K.Keeper.counted).none c.args.keeper.now;
}

pub loop-turn-preserved : goal.loop-turn-preserved
loop-turn-preserved g c =
    let inv = c.loop-turn.invariant in
    let e = c.in-Ok-one_turn.ensures in
    let t = e.ok in
    let k' = c.one_turn.new.keeper in
    let gave = each_gave _ _ inv.whole.turned.work.deeds.events
    (g.met.P.Port.tells c.args.port.now c.loop-turn.port inv.whole.turned.work.deeds.events inv.whole.turned.work.done.0.done.events)
    inv.not_ended.ends inv.receive_failures in
    record {
      whole = whole_step (serving g.service g.K.Keeper.model) (c.histories_grow.ensures g.service) c.cut_joins.ensures (of_service g.service (g.K.Keeper.told c.args.keeper.now))
          (of_service g.service (g.K.Keeper.told c.loop-turn.keeper)) (of_service g.service (g.K.Keeper.told k')) _
          _ _ _ _ _ nothing_waits _ _ c.loop-turn.counts c.in-Ok-one_turn.more c.sum_of-counts.result
          c.sum_of-counts.ensures inv.whole t.whole e.honest (λ b two. record {
            done = did_more g.C.Clock.gave g.K.Keeper.performed g.P.Port.became g.met.C.Clock.logged g.met.K.Keeper.log g.met.P.Port.path
                c.args.clock.now c.loop-turn.clock c.one_turn.new.clock c.args.keeper.now c.loop-turn.keeper c.one_turn.new.keeper
                c.args.port.now c.loop-turn.port c.one_turn.new.port inv.whole.turned.work.deeds b inv.whole.turned.work.done.0.done two.done;
            first = first_more (serving g.service g.K.Keeper.model) (of_service g.service (g.K.Keeper.told c.args.keeper.now)) (of_service g.service (g.K.Keeper.told c.loop-turn.keeper)) (of_service g.service (g.K.Keeper.told c.one_turn.new.keeper)) _ _ _ _
                inv.whole.turned.work.deeds b e.honest (caught_whole (serving g.service g.K.Keeper.model) _ _ _ _ _ _ _ inv.whole inv.ready.good gave) inv.whole.turned.work.done.0.first two;
            stops = stops_more g.service _ _ _ inv.whole.turned.work.deeds b gave two;
            groups = groups_more c.cut_joins.ensures g.service inv.whole.turned.work.deeds b _ _ _ _ inv.whole.turned.work.done.1 inv.whole.rest_is
                inv.whole.turned.work.done.0.groups two
                ∙ ap (λ (l : List (List Asked)). groups_asked (inv.whole.turned.work.deeds.asked ++ b.asked) ++ l) (two.none_later refl)
                ∙ append-nil (groups_asked (inv.whole.turned.work.deeds.asked ++ b.asked));
          });
      ready = e.opened;
      below = subst (λ x. IsBelow x ((c.loop-turn.turn + 1) * 2 ^ 20)) (sym c.sum_of-counts.ensures)
          (below_more _ (c.loop-turn.turn * 2 ^ 20 + 2 ^ 20) _ (omega arith) (plus_below c.loop-turn.counts c.in-Ok-one_turn.more (c.loop-turn.turn * 2 ^ 20)
          (2 ^ 20) inv.below t.below));
      few = e.few;
      going = t.going;
      firm = λ honest firm. t.firm honest (inv.firm (e.honest honest) firm);
      more = λ confirms honest (before : KeptRecords) h. t.more (inv.confirms ∙ confirms) honest before (inv.more confirms (e.honest honest) before h);
      receives = omega (arith, e.receives, inv.receives);
      failures = t.failures ∙ inv.failures;
      receive_failures = t.receive_failures ∙ inv.receive_failures;
      not_ended = record { ends = t.not_ended.ends ∙ inv.not_ended.ends; has_ended = t.not_ended.has_ended ∙ inv.not_ended.has_ended };
      confirms = e.confirms ∙ inv.confirms;
      fed = omega (arith, e.fed, inv.fed, inv.room);
      room = room_still c.loop-turn.buffer.len c.one_turn.new.buffer _ (omega (arith, e.buffer, inv.room)) (omega (arith, c.loop-turn.buffer.ok.0, inv.room));
      honest = λ honest. inv.honest (e.honest honest);
      may = λ honest f may. inv.may (e.honest honest) f (e.may honest f may);
      medium = λ is. e.medium (inv.medium is);
      serves = e.stays;
      unopened = (g.met.K.Keeper.counted).then c.args.keeper.now c.loop-turn.keeper k' 0 0 inv.unopened e.unopened;
    }

pub sum_of-counts-requires-clause-b : goal.sum_of-counts-requires-clause-b
sum_of-counts-requires-clause-b g c = below_more c.in-Ok-one_turn.more (2 ^ 20) (2 ^ 63 - 1) (omega arith) c.in-Ok-one_turn.ensures.ok.below

pub sum_with-sum-requires-clause-more : goal.sum_with-sum-requires-clause-more
sum_with-sum-requires-clause-more g c =
    let t = c.in-Err.ensures.err in
    counts_below c.in-Err.served.ended _ t.counts (2 ^ 63 - 1) c.in-Err.served.counts (below_more t.counts (2 ^ 20) (2 ^ 63 - 1) (omega arith) t.below) t.told_are

pub returns-in-Err-clause-session : goal.returns-in-Err-clause-session
returns-in-Err-clause-session g c =
    let M = serving g.service g.K.Keeper.model in
    let inv = c.loop-turn.invariant in
    let e = c.in-Err.ensures in
    let t = e.err in
    let ended = c.in-Err.served.ended in
    let k = of_service g.service (g.K.Keeper.told c.args.keeper.now) in
    let m = of_service g.service (g.K.Keeper.told c.loop-turn.keeper) in
    let k' = of_service g.service (g.K.Keeper.told c.one_turn.new.keeper) in
    let p = g.P.Port.told c.args.port.now in
    let r = g.P.Port.told c.one_turn.new.port in
    let before = inv.whole.turned.work.deeds in
    let onward = λ (b : Deeds) (two : b ≡ t.deeds). ap (then_did before) two in
    let gave = each_gave _ _ inv.whole.turned.work.deeds.events
    (g.met.P.Port.tells c.args.port.now c.loop-turn.port inv.whole.turned.work.deeds.events inv.whole.turned.work.done.0.done.events)
    inv.not_ended.ends inv.receive_failures in
    record {
      deeds = then_did before t.deeds;
      done = did_more g.C.Clock.gave g.K.Keeper.performed g.P.Port.became g.met.C.Clock.logged g.met.K.Keeper.log g.met.P.Port.path
          c.args.clock.now c.loop-turn.clock c.one_turn.new.clock c.args.keeper.now c.loop-turn.keeper c.one_turn.new.keeper
          c.args.port.now c.loop-turn.port c.one_turn.new.port before t.deeds inv.whole.turned.work.done.0.done t.done.done;
      ends = record {
        counts = plus c.loop-turn.counts t.counts;
        ends = ends_more M (c.histories_grow.ensures g.service) c.cut_joins.ensures k m k' _ _ _ _ _ _ nothing_waits _ 0 c.args.turns ended c.loop-turn.counts t.counts
            inv.whole t.ends t.not_turns inv.receive_failures inv.not_ended e.honest onward;
        told_are = counts_more ended _ _ c.loop-turn.counts t.counts c.in-Err.served.counts c.sum_with-sum.result
            (failed_since p (g.P.Port.told c.loop-turn.port) r inv.receive_failures) t.told_are c.sum_with-sum.ensures;
      };
      life = life_more M (c.histories_grow.ensures g.service) c.cut_joins.ensures k m k' _ _ _ _ _ _ nothing_waits _ c.loop-turn.counts ended inv.whole t.life
          inv.may e.honest inv.firm onward;
      prompt = record {
        first = first_more M k m k' _ _ _ _ before t.deeds e.honest (caught_whole M _ _ _ _ _ _ _ inv.whole inv.ready.good gave)
            inv.whole.turned.work.done.0.first t.done;
        stops = stops_more M.service _ _ _ before t.deeds gave t.done;
      };
      groups = (
        t.done.later,
        groups_more c.cut_joins.ensures M.service before t.deeds _ _ _ _ inv.whole.turned.work.done.1 inv.whole.rest_is inv.whole.turned.work.done.0.groups t.done,
      );
      lots = λ confirms intact rows (records : Records) held rowed.
          let before : KeptRecords = record { records = records; lots = k.lots } in
          t.at_most (inv.confirms ∙ confirms) intact before
          (inv.more confirms (e.honest intact.honest) before (hands_start M k [] rows records held rowed));
      receives = omega (arith, e.receives, inv.receives, c.loop-turn-test.true);
      failed = failed_both ended _ _ (subst (λ n. FailedBy (ended_port ended) n r.failures) inv.failures t.failed);
      store = t.store;
      firm = λ isnt honest firm. t.firm isnt honest (inv.firm (e.honest honest) firm);
      honest = λ honest. inv.honest (e.honest honest);
      medium = λ is. e.medium (inv.medium is);
      service = e.stays ∙ sym c.requires.1.1.1.0;
      may = λ honest f may. inv.may (e.honest honest) f (e.may honest f may);
    }

pub returns-clause-session : goal.returns-clause-session
returns-clause-session g c =
    let M = serving g.service g.K.Keeper.model in
    let inv = c.loop-turn.invariant in
    let k = of_service g.service (g.K.Keeper.told c.args.keeper.now) in
    let k' = of_service g.service (g.K.Keeper.told c.loop-turn.keeper) in
    let whole = whole_just M _ _ _ _ _ _ _ _ inv.whole in
    let work = inv.whole.turned.work in
    record {
      deeds = work.deeds;
      done = work.done.0.done;
      ends = record {
        counts = c.loop-turn.counts;
        ends = (
          omega (arith, inv.receives, c.loop-turn.invariant.receives, c.loop-turn-test.false),
          inv.not_ended,
          record { after = _; whole = whole; so = (inv.ready.none, inv.ready.good) },
        );
        told_are = refl;
      };
      life = whole_life M (c.still_stands.ensures g.service) k k' _ _ _ nothing_waits _ c.loop-turn.counts Turns refl whole inv.firm;
      prompt = record { first = work.done.0.first; stops = work.done.0.stops };
      groups = ([], work.done.0.groups ∙ sym (append-nil (groups_asked work.deeds.asked)));
      lots = λ confirms intact rows (records : Records) held rowed.
          let before : KeptRecords = record { records = records; lots = k.lots } in
          holds_under M before k' (ids_of c.loop-turn.pending.items) (inv.more confirms intact.honest before (hands_start M k [] rows records held rowed));
      receives = omega (arith, inv.receives);
      failed = failed_both Turns _ _ inv.failures;
      store = inv.going;
      firm = λ _. inv.firm;
      honest = inv.honest;
      medium = inv.medium;
      service = inv.serves ∙ sym c.requires.1.1.1.0;
      may = inv.may;
    }

pub returns-in-Err-clause-unopened : goal.returns-in-Err-clause-unopened
returns-in-Err-clause-unopened g c = (g.met.K.Keeper.counted).then c.args.keeper.now c.loop-turn.keeper c.one_turn.new.keeper 0 0 c.loop-turn.invariant.unopened
    c.in-Err.ensures.unopened

pub returns-clause-unopened : goal.returns-clause-unopened
returns-clause-unopened g c = c.loop-turn.invariant.unopened
