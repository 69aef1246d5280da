use Rattle.std.proofs.Common.{◌≡◌, ◌++◌, ◌^◌, All, inl, sym, ap, subst, refl, ◌∙◌, take, drop, length, arith, []}
use Rattle.fuse_session.specs.Grouping.{groups_of}
use Rattle.fuse_session.specs.inner.Turn.{Grouped, GroupedSome}
use Rattle.fuse_session.proofs.Grouping.{grouped_one}
use Rattle.std.proofs.lemmas.List.{length-map}
use Rattle.fuse_wire.specs.declared.id.Id.{Id}
use Rattle.fuse_keeper.specs.History.{ids_in, kept_of}
use Rattle.fuse_keeper.specs.Model.{serving}
use Rattle.fuse_keeper.specs.KeeperState.{of_service, StandsFor}
use Rattle.fuse_session.specs.Starts.{KeptRecords}
use Rattle.fuse_keeper.specs.Group.{ids_of, entries_of, handed_to}
use Rattle.fuse_session.specs.inner.Group.{classes_in}
use Rattle.fuse_session.proofs.Replies.{replied_none}
use Rattle.fuse_session.proofs.Looking.{looked_none}
use Rattle.fuse_session.proofs.Groups.{broken_none, broken_store, broken_sent, turned, firm_leaves, stuck_zero, starts_zero}
use Rattle.fuse_request.specs.Stream.{IsMessage}
use Rattle.fuse_session.proofs.Gathering.{are_enough, gathers_to, first_messages, first_few}
use Rattle.fuse_session.proofs.Handing.{hands_group, holds_under, pending_short, under_kept, performs_all, leaves_all, left_few, hands_on}
use Rattle.fuse_session.proofs.Handing.{few_left, kept_few, gives, leaves_for}
use Rattle.fuse_session.proofs.session.Session.serve_group.Goals as goal

pub returns-in_default-clause-err : goal.returns-in_default-clause-err
returns-in_default-clause-err g c =
    let k = c.args.self.now.keeper.now in
    let port = c.args.self.now.port.now in
    let p = g.P.Port.told port in
    let given = c.in_default.ensures.logged in
    broken_none (serving g.service g.K.Keeper.model) (of_service g.service (g.K.Keeper.told k)) (of_service g.service (g.K.Keeper.told k)) _ p p (ids_of c.args.self.now.pending.now.items) c.args.messages.now _ refl
    (record { moments = given.0; asked = []; events = [] })
    (record {
      done = record {
        moments = given.1;
        asked = (groups_of g.service c.args.messages.now, ((g.met.K.Keeper.log).none k, refl));
        events = (g.met.P.Port.path).none port;
      };
      slices = [];
      events = refl;
    }) refl refl (replied_none p)
    (looked_none (serving g.service g.K.Keeper.model) (of_service g.service (g.K.Keeper.told k)) _) (λ rows records held. held) (λ firm s h t so. firm_leaves (serving g.service g.K.Keeper.model) (c.still_stands.ensures g.service) (of_service g.service (g.K.Keeper.told k)) s h t firm so)

pub returns-in_default-clause-at_most : goal.returns-in_default-clause-at_most
returns-in_default-clause-at_most g c = λ intact (before : KeptRecords) h.
    holds_under (serving g.service g.K.Keeper.model) before (of_service g.service (g.K.Keeper.told c.args.self.now.keeper.now)) (ids_of c.args.self.now.pending.now.items) h

pub returns-in-Err-clause-at_most : goal.returns-in-Err-clause-at_most
returns-in-Err-clause-at_most g c = λ intact (before : KeptRecords) h.
    let called = c.in-Err.ensures.called in
    let clean = intact.clean refl in
    under_kept (serving g.service g.K.Keeper.model) before (of_service g.service (g.K.Keeper.told c.args.self.now.keeper.now)) (of_service g.service (g.K.Keeper.told c.perform_group.new.keeper))
    (ids_of c.args.self.now.pending.now.items) (called.err clean) (called.err_lots clean) h

pub returns-in-Err-clause-err : goal.returns-in-Err-clause-err
returns-in-Err-clause-err g c =
    let old = g.K.Keeper.told c.args.self.now.keeper.now in
    let new = g.K.Keeper.told c.perform_group.new.keeper in
    let k = of_service g.service old in
    let k' = of_service g.service new in
    let group = c.in-Ok.gathered in
    let gave = g.C.Clock.gave c.args.self.now.clock.now c.gather.new.clock in
    let len : c.len-count.result ≡ length group.classes.items = omega (arith, c.len-count.ensures, group.classes.ok) in
    let pending = ids_of c.args.self.now.pending.now.items in
    let kept = kept_of g.service (entries_of c.as_slice-group.result.now) in
    let called = c.in-Err.ensures.called in
    let sound = g.met.K.Keeper.sound c.perform_group.new.keeper in
    let same = gives g.K.Keeper.model g.service old new c.requires.1.1.1.0 called.service sound in
    broken_store (serving g.service g.K.Keeper.model) c.seen_by_class.ensures k k' gave (GroupedSome g.service c.args.messages.now
    (g.K.Keeper.performed c.args.self.now.keeper.now c.perform_group.new.keeper)) _
    (g.P.Port.told c.args.self.now.port.now) pending c.args.messages.now c.len-count.result group.taken.items group.ends
    c.as_slice-group.result.now _
    (gathers_to g.service gave c.args.messages.now (length group.classes.items) c.len-count.result group.taken.items group.ends len c.in-Ok.ensures.gathers)
    c.as_slice-group.ensures.value (
      groups_of g.service (drop c.len-count.result c.args.messages.now),
      (
        c.perform_group.ensures.asked,
        grouped_one g.service c.args.messages.now (length group.classes.items) c.len-count.result group.taken.items c.as_slice-group.result.now
            (handed_to kept pending) len c.as_slice-group.ensures.value c.in-Ok.ensures.groups,
      ),
    ) ((g.met.P.Port.path).none c.args.self.now.port.now)
    called.err (λ clean s h t so. called.fault clean s h t (subst (λ V. StandsFor (of_service V old) s h t) (same (sound.clean_is_honest clean)) so))
    (λ honest. leaves_all (serving g.service g.K.Keeper.model) k k' pending kept (entries_of c.as_slice-group.result.now)
    (leaves_for g.K.Keeper.model g.service old new (handed_to kept pending) (entries_of c.as_slice-group.result.now) (same honest)
    c.perform_group.ensures.crash))
    (λ none. let l = c.in-Err.ensures.looked none in record {
      same = λ intact. l.called.err (intact.clean refl);
      lots = λ intact. l.called.err_lots (intact.clean refl);
      whole = λ _. l.whole;
      crash = λ _. l.crash;
    })

pub send_answers-requires : goal.send_answers-requires
send_answers-requires g c = λ κs lives.
    let group = c.in-Ok.gathered in
    let gave = g.C.Clock.gave c.args.self.now.clock.now c.gather.new.clock in
    let len : c.len-count.result ≡ length group.classes.items = omega (arith, c.len-count.ensures, group.classes.ok) in
    let classes = c.as_slice-classes.ensures.value ∙ c.in-Ok.ensures.classes ∙ ap (λ n. classes_in g.service (take n c.args.messages.now)) (sym len) in
    let enough = are_enough g.service gave (take c.len-count.result c.args.messages.now) group.taken.items group.ends _ c.as_slice-group.result.now
    c.in-Ok-perform_group.dones.items c.as_slice-answered.result.now
    (gathers_to g.service gave c.args.messages.now (length group.classes.items) c.len-count.result group.taken.items group.ends len c.in-Ok.ensures.gathers)
    refl c.as_slice-group.ensures.value c.in-Ok-perform_group.ensures.count c.as_slice-answered.ensures.value in
    let messages : All IsMessage (take c.len-count.result c.args.messages.now) = first_messages c.len-count.result c.args.messages.now c.requires.1.1.1.1.0 in
    (lives, (messages, (classes, (enough, c.requires.1.1.1.1.1.1.0))))

pub count_all-requires : goal.count_all-requires
count_all-requires g c =
    let len : c.len-count.result ≡ length c.in-Ok.gathered.classes.items = omega (arith, c.len-count.ensures, c.in-Ok.gathered.classes.ok) in
    let classes = c.as_slice-classes.ensures.value ∙ c.in-Ok.ensures.classes ∙ ap (λ n. classes_in g.service (take n c.args.messages.now)) (sym len) in
    let messages = first_messages c.len-count.result c.args.messages.now c.requires.1.1.1.1.0 in
    let few = first_few c.len-count.result c.args.messages.now (2 ^ 60) c.requires.1.1.1.1.1.1.1.1 in
    (messages, (classes, few))

pub returns-in-Ok-send_answers-clause-zero : goal.returns-in-Ok-send_answers-clause-zero
returns-in-Ok-send_answers-clause-zero g c = λ is.
    let len : c.len-count.result ≡ length c.in-Ok.gathered.classes.items = omega (arith, c.len-count.ensures, c.in-Ok.gathered.classes.ok) in
    let stuck = c.is_stuck.ensures.stuck (stuck_zero _ _ (sym c.next_of.ensures ∙ is)) in
    starts_zero c.args.messages.now c.len-count.result stuck.0 stuck.1 (c.in-Ok.ensures.stuck (sym len ∙ stuck.0))

pub returns-in-Ok-send_answers-clause-ok : goal.returns-in-Ok-send_answers-clause-ok
returns-in-Ok-send_answers-clause-ok g c =
    let M = serving g.service g.K.Keeper.model in
    let k = of_service g.service (g.K.Keeper.told c.args.self.now.keeper.now) in
    let k' = of_service g.service (g.K.Keeper.told c.perform_group.new.keeper) in
    let group = c.in-Ok.gathered in
    let gave = g.C.Clock.gave c.args.self.now.clock.now c.gather.new.clock in
    let len : c.len-count.result ≡ length group.classes.items = omega (arith, c.len-count.ensures, group.classes.ok) in
    let es = entries_of c.as_slice-group.result.now in
    let kept = kept_of g.service es in
    let pending = ids_of c.args.self.now.pending.now.items in
    let left = ids_of c.perform_group.new.pending.items in
    let done = c.in-Ok-perform_group.ensures in
    let few = left_few M.service c.args.self.now.pending.now.items left group.taken.items c.as_slice-group.result.now
    c.as_slice-group.ensures.value
    c.in-Ok.ensures.few c.requires.1.1.1.1.1.1.1.0 done.pending in
    turned M (c.histories_grow.ensures g.service) (c.kept_groups_grow.ensures g.service) (c.still_stands.ensures g.service) c.seen_by_class.ensures k k' gave (Grouped g.service c.args.messages.now
    (groups_of g.service (drop c.len-count.result c.args.messages.now)) (g.K.Keeper.performed c.args.self.now.keeper.now c.perform_group.new.keeper))
    (g.P.Port.became c.args.self.now.port.now c.send_answers.new.port) (g.P.Port.told c.args.self.now.port.now) _ pending left _ c.args.messages.now
    c.len-count.result group.taken.items group.ends c.as_slice-group.result.now (take c.len-count.result c.args.messages.now)
    c.in-Ok-perform_group.dones.items c.as_slice-answered.result.now c.is_stuck.result c.next_of.result c.count_all.result
    (gathers_to g.service gave c.args.messages.now (length group.classes.items) c.len-count.result group.taken.items group.ends len c.in-Ok.ensures.gathers)
    c.as_slice-group.ensures.value (
      c.perform_group.ensures.asked,
      grouped_one g.service c.args.messages.now (length group.classes.items) c.len-count.result group.taken.items c.as_slice-group.result.now
          (handed_to kept pending) len c.as_slice-group.ensures.value c.in-Ok.ensures.groups,
    ) done.pending refl (performs_all M k k' pending kept es c.in-Ok-perform_group.dones.items done.ok)
    (λ honest u un have. few_left M k k' u pending left kept es refl done.pending (omega (arith, few)) (done.others honest) un have)
    (pending_short c.seen_by_class.ensures M.service gave (g.P.Port.became c.args.self.now.port.now c.send_answers.new.port)
    (g.P.Port.told c.args.self.now.port.now) _ left _
    (take c.len-count.result c.args.messages.now) group.taken.items group.ends c.as_slice-group.result.now
    (take c.len-count.result c.args.messages.now) _
    (gathers_to g.service gave c.args.messages.now
    (length group.classes.items) c.len-count.result group.taken.items group.ends len c.in-Ok.ensures.gathers)
    c.as_slice-group.ensures.value refl c.in-Ok-send_answers.ensures.ok few) done.acts
    c.in-Ok-send_answers.ensures.ok c.as_slice-answered.ensures.value c.next_of.ensures c.count_all.ensures.tallied
    (λ none. let l = done.looked none in record { same = l.same; lots = l.lots; whole = λ _. l.whole; crash = λ _. l.crash })

pub returns-in-Ok-send_answers-clause-more : goal.returns-in-Ok-send_answers-clause-more
returns-in-Ok-send_answers-clause-more g c = λ confirms honest (before : KeptRecords) h.
    let M = serving g.service g.K.Keeper.model in
    let k = of_service g.service (g.K.Keeper.told c.args.self.now.keeper.now) in
    let k' = of_service g.service (g.K.Keeper.told c.perform_group.new.keeper) in
    let group = c.in-Ok.gathered in
    let gave = g.C.Clock.gave c.args.self.now.clock.now c.gather.new.clock in
    let len : c.len-count.result ≡ length group.classes.items = omega (arith, c.len-count.ensures, group.classes.ok) in
    let es = entries_of c.as_slice-group.result.now in
    let kept = kept_of g.service es in
    let pending = ids_of c.args.self.now.pending.now.items in
    let left = ids_of c.perform_group.new.pending.items in
    let done = c.in-Ok-perform_group.ensures in
    let few = left_few M.service c.args.self.now.pending.now.items left group.taken.items c.as_slice-group.result.now
    c.as_slice-group.ensures.value
    c.in-Ok.ensures.few c.requires.1.1.1.1.1.1.1.0 done.pending in
    hands_group M c.seen_by_class.ensures before k' gave (g.P.Port.became c.args.self.now.port.now c.send_answers.new.port) (g.P.Port.told c.args.self.now.port.now) _ left _ (take c.len-count.result c.args.messages.now)
    group.taken.items group.ends c.as_slice-group.result.now (take c.len-count.result c.args.messages.now) _
    (gathers_to g.service gave c.args.messages.now (length group.classes.items) c.len-count.result group.taken.items group.ends len c.in-Ok.ensures.gathers)
    c.as_slice-group.ensures.value refl confirms c.in-Ok-send_answers.ensures.ok
    (hands_on M before k k' pending left kept es refl done.pending
    (kept_few M.service c.in-Ok.gathered.taken.items c.as_slice-group.result.now c.as_slice-group.ensures.value c.in-Ok.ensures.few)
    (done.others honest) (done.lots honest)
    (λ none. let l = done.looked none in (l.same honest, l.lots honest)) h)

pub returns-clause-err : goal.returns-clause-err
returns-clause-err g c =
    let M = serving g.service g.K.Keeper.model in
    let k = of_service g.service (g.K.Keeper.told c.args.self.now.keeper.now) in
    let k' = of_service g.service (g.K.Keeper.told c.perform_group.new.keeper) in
    let group = c.in-Ok.gathered in
    let gave = g.C.Clock.gave c.args.self.now.clock.now c.gather.new.clock in
    let len : c.len-count.result ≡ length group.classes.items = omega (arith, c.len-count.ensures, group.classes.ok) in
    let es = entries_of c.as_slice-group.result.now in
    let kept = kept_of g.service es in
    let pending = ids_of c.args.self.now.pending.now.items in
    let left = ids_of c.perform_group.new.pending.items in
    let done = c.in-Ok-perform_group.ensures in
    let few = left_few M.service c.args.self.now.pending.now.items left group.taken.items c.as_slice-group.result.now
    c.as_slice-group.ensures.value
    c.in-Ok.ensures.few c.requires.1.1.1.1.1.1.1.0 done.pending in
    broken_sent M (c.histories_grow.ensures g.service) (c.kept_groups_grow.ensures g.service) (c.still_stands.ensures g.service) c.seen_by_class.ensures k k' gave (GroupedSome g.service c.args.messages.now
    (g.K.Keeper.performed c.args.self.now.keeper.now c.perform_group.new.keeper))
    (g.P.Port.became c.args.self.now.port.now c.send_answers.new.port) (g.P.Port.told c.args.self.now.port.now) _ pending left c.args.messages.now
    c.len-count.result group.taken.items group.ends c.as_slice-group.result.now (take c.len-count.result c.args.messages.now)
    c.in-Ok-perform_group.dones.items c.as_slice-answered.result.now _
    (gathers_to g.service gave c.args.messages.now (length group.classes.items) c.len-count.result group.taken.items group.ends len c.in-Ok.ensures.gathers)
    c.as_slice-group.ensures.value (
      groups_of g.service (drop c.len-count.result c.args.messages.now),
      (
        c.perform_group.ensures.asked,
        grouped_one g.service c.args.messages.now (length group.classes.items) c.len-count.result group.taken.items c.as_slice-group.result.now
            (handed_to kept pending) len c.as_slice-group.ensures.value c.in-Ok.ensures.groups,
      ),
    ) refl
    (performs_all M k k' pending kept es c.in-Ok-perform_group.dones.items done.ok) (λ honest firm. done.firm honest (inl firm))
    (λ honest u un have. few_left M k k' u pending left kept es refl done.pending (omega (arith, few)) (done.others honest) un have)
    few done.acts c.as_slice-answered.ensures.value c.in-Err-send_answers.ensures.err
    (λ none. let l = done.looked none in record { same = l.same; lots = l.lots; whole = λ _. l.whole; crash = λ _. l.crash })

pub returns-clause-at_most : goal.returns-clause-at_most
returns-clause-at_most g c = λ intact (before : KeptRecords) h.
    let M = serving g.service g.K.Keeper.model in
    let k = of_service g.service (g.K.Keeper.told c.args.self.now.keeper.now) in
    let k' = of_service g.service (g.K.Keeper.told c.perform_group.new.keeper) in
    let es = entries_of c.as_slice-group.result.now in
    let kept = kept_of g.service es in
    let pending = ids_of c.args.self.now.pending.now.items in
    let left = ids_of c.perform_group.new.pending.items in
    let done = c.in-Ok-perform_group.ensures in
    let honest = intact.honest in
    holds_under M before k' (left ++ ids_in kept)
    (hands_on M before k k' pending left kept es refl done.pending
    (kept_few M.service c.in-Ok.gathered.taken.items c.as_slice-group.result.now c.as_slice-group.ensures.value c.in-Ok.ensures.few)
    (done.others honest) (done.lots honest)
    (λ none. let l = done.looked none in (l.same honest, l.lots honest)) h)

pub returns-in-Ok-send_answers-clause-firm : goal.returns-in-Ok-send_answers-clause-firm
returns-in-Ok-send_answers-clause-firm g c = λ honest firm. c.in-Ok-perform_group.ensures.firm honest (inl firm)

pub returns-in-Ok-send_answers-clause-few : goal.returns-in-Ok-send_answers-clause-few
returns-in-Ok-send_answers-clause-few g c =
    let V = g.service in
    let group = c.in-Ok.gathered in
    let gave = g.C.Clock.gave c.args.self.now.clock.now c.gather.new.clock in
    let len : c.len-count.result ≡ length group.classes.items = omega (arith, c.len-count.ensures, group.classes.ok) in
    let es = entries_of c.as_slice-group.result.now in
    let kept = kept_of V es in
    let done = c.in-Ok-perform_group.ensures in
    let left = ids_of c.perform_group.new.pending.items in
    let few = left_few V c.args.self.now.pending.now.items left group.taken.items c.as_slice-group.result.now c.as_slice-group.ensures.value
    c.in-Ok.ensures.few c.requires.1.1.1.1.1.1.1.0 done.pending in
    let short = pending_short c.seen_by_class.ensures V gave (g.P.Port.became c.args.self.now.port.now c.send_answers.new.port)
    (g.P.Port.told c.args.self.now.port.now) _ left _
    (take c.len-count.result c.args.messages.now) group.taken.items group.ends c.as_slice-group.result.now
    (take c.len-count.result c.args.messages.now) _
    (gathers_to V gave c.args.messages.now (length group.classes.items) c.len-count.result group.taken.items group.ends len
    c.in-Ok.ensures.gathers)
    c.as_slice-group.ensures.value refl c.in-Ok-send_answers.ensures.ok few in
    omega (arith, short, length-map c.send_answers.new.pending.items (λ (x : Id). x.0))

pub returns-in-Err-clause-stays : goal.returns-in-Err-clause-stays
returns-in-Err-clause-stays g c = c.in-Err.ensures.called.service ∙ c.requires.1.1.1.0

pub returns-in-Ok-send_answers-clause-stays : goal.returns-in-Ok-send_answers-clause-stays
returns-in-Ok-send_answers-clause-stays g c = c.in-Ok-perform_group.ensures.called.service ∙ c.requires.1.1.1.0

pub returns-clause-stays : goal.returns-clause-stays
returns-clause-stays g c = c.in-Ok-perform_group.ensures.called.service ∙ c.requires.1.1.1.0
