use Rattle.std.proofs.Common.{◌∙◌, ◌+◌, ◌-◌, ◌^◌, take, drop, length, arith, refl, sym, subst}
use Rattle.fuse_keeper.specs.Group.{ids_of}
use Rattle.fuse_session.specs.Starts.{KeptRecords}
use Rattle.fuse_session.specs.Deeds.{Did}
use Rattle.fuse_session.specs.Grouping.{groups_of}
use Rattle.fuse_session.specs.inner.Turn.{Mute, Grouped}
use Rattle.fuse_session.proofs.Doing.{mute_none}
use Rattle.fuse_session.proofs.Grouping.{mute_grouped, mute_some, left_is}
use Rattle.fuse_session.specs.inner.Counting.{IsBelow}
use Rattle.fuse_keeper.specs.Model.{serving}
use Rattle.fuse_keeper.specs.KeeperState.{of_service}
use Rattle.fuse_session.specs.Passage.{passage}
use Rattle.fuse_session.specs.Serving.{TookTurn, goes_on, lasts}
use Rattle.fuse_session.proofs.Bytes.{quiet_none, quiet_more}
use Rattle.fuse_session.proofs.Counted.{plus_below, below_more}
use Rattle.fuse_session.proofs.Turns.{turned_none, group_more, group_broken, worked_part, worked_all, lasts_on, within_parts, is_over, isnt_over}
use Rattle.fuse_session.proofs.session.Session.serve_messages.Goals as goal

pub loop-at-init : goal.loop-at-init
loop-at-init g c = record {
  within = omega arith;
  turned = turned_none (serving g.service g.K.Keeper.model) _ _ (g.P.Port.told c.args.self.now.port.now) (ids_of c.args.self.now.pending.now.items) (mute_none _ (record {
    moments = (g.met.C.Clock.logged).none c.args.self.now.clock.now;
    asked = ((g.met.K.Keeper.log).none c.args.self.now.keeper.now, refl);
    events = (g.met.P.Port.path).none c.args.self.now.port.now;
  }));
  loans = (refl, refl, refl, refl);
  below = record {
    messages = omega arith;
    kept = omega arith;
    repeated = omega arith;
    seen = omega arith;
    bare = omega arith;
    silent =
        omega arith;
    interrupts = omega arith;
  };
  few = c.requires.1.1.1.1.1.1.1.0;
  going = c.requires.1.1.1.1.1.0;
  firm = λ _ firm. firm;
  more = λ _ _ (before : KeptRecords) h. h;
  failures = refl;
  honest = λ is. is;
  serves = c.requires.1.1.1.0;
  unopened = (g.met.K.Keeper.counted).none c.args.self.now.keeper.now;
  quiet = quiet_none (g.P.Port.told c.args.self.now.port.now);
  may = λ honest f may. may;
  medium = λ is. is;
}

pub returns-in-Err-clause-err : goal.returns-in-Err-clause-err
returns-in-Err-clause-err g c =
    let inv = c.loop-at.invariant in
    group_broken (serving g.service g.K.Keeper.model) (c.histories_grow.ensures g.service) (of_service g.service (g.K.Keeper.told c.args.self.now.keeper.now)) (of_service g.service (g.K.Keeper.told c.loop-at.self.keeper.now))
    (of_service g.service (g.K.Keeper.told c.serve_group.new.self.keeper.now)) _ _
    _ _ _ _ _ _ c.args.messages.now _ c.loop-at.at _ _
    refl inv.turned c.in-Err.ensures.err inv.may c.in-Err.ensures.honest inv.firm
    (λ b two. mute_some g.C.Clock.gave g.K.Keeper.performed g.P.Port.became g.met.C.Clock.logged g.met.K.Keeper.log g.met.P.Port.path
    c.args.self.now.clock.now c.loop-at.self.clock.now c.serve_group.new.self.clock.now
    c.args.self.now.keeper.now c.loop-at.self.keeper.now c.serve_group.new.self.keeper.now
    c.args.self.now.port.now c.loop-at.self.port.now c.serve_group.new.self.port.now inv.turned.work.deeds b
    g.service c.args.messages.now c.loop-at.at inv.turned.work.done two)

pub sum_of-sum-requires-clause-a : goal.sum_of-sum-requires-clause-a
sum_of-sum-requires-clause-a g c = below_more c.loop-at.counts c.loop-at.at (2 ^ 63 - 1) (omega (arith, c.loop-at.invariant.within, c.requires.1.1.1.1.1.1.1.1))
    c.loop-at.invariant.below

pub sum_of-sum-requires-clause-b : goal.sum_of-sum-requires-clause-b
sum_of-sum-requires-clause-b g c =
    below_more c.in-Ok.progress.counts c.in-Ok.progress.count (2 ^ 63 - 1)
    (omega (arith, within_parts c.args.messages.now c.loop-at.at c.in-Ok.progress.count c.loop-at.invariant.within c.in-Ok.ensures.within, c.requires.1.1.1.1.1.1.1.1))
    c.in-Ok.ensures.below

pub returns-then-over-clause-ok : goal.returns-then-over-clause-ok
returns-then-over-clause-ok g c =
    let ms = c.args.messages.now in
    let i = c.loop-at.at in
    let n = c.in-Ok.progress.count in
    let inv = c.loop-at.invariant in
    worked_part (serving g.service g.K.Keeper.model) _ (ids_of c.args.self.now.pending.now.items)
    (ids_of c.serve_group.new.self.pending.now.items) ms (take (length ms - i) (drop i ms)) i n c.in-Ok.progress.next c.sum_of-sum.result
    refl (is_over (goes_on c.in-Ok.progress.next) (sym c.is_over-over.ensures ∙ c.if-over.true)) c.in-Ok.ensures.zero
    (group_more (serving g.service g.K.Keeper.model) (c.histories_grow.ensures g.service) (of_service g.service (g.K.Keeper.told c.args.self.now.keeper.now)) (of_service g.service (g.K.Keeper.told c.loop-at.self.keeper.now))
    (of_service g.service (g.K.Keeper.told c.serve_group.new.self.keeper.now)) _ _
    _ _ _ _ _ _ _ ms (take (length ms - i) (drop i ms)) i n
    (lasts c.in-Ok.progress.next) c.loop-at.counts c.in-Ok.progress.counts c.sum_of-sum.result
    refl c.sum_of-sum.ensures inv.turned c.in-Ok.ensures.ok c.in-Ok.ensures.honest
    (λ b two. mute_grouped g.C.Clock.gave g.K.Keeper.performed g.P.Port.became g.met.C.Clock.logged g.met.K.Keeper.log g.met.P.Port.path
    c.args.self.now.clock.now c.loop-at.self.clock.now c.serve_group.new.self.clock.now
    c.args.self.now.keeper.now c.loop-at.self.keeper.now c.serve_group.new.self.keeper.now
    c.args.self.now.port.now c.loop-at.self.port.now c.serve_group.new.self.port.now inv.turned.work.deeds b
    g.service ms i _ (groups_of g.service (drop (i + n) ms)) (left_is g.service ms i n) inv.turned.work.done two))

pub loop-at-preserved : goal.loop-at-preserved
loop-at-preserved g c =
    let ms = c.args.messages.now in
    let i = c.loop-at.at in
    let n = c.in-Ok.progress.count in
    let inv = c.loop-at.invariant in
    let on = isnt_over (goes_on c.in-Ok.progress.next) (sym c.is_over-over.ensures ∙ c.if-over.false) in
    let k' = c.serve_group.new.self.keeper.now in
    record {
      within = within_parts ms i n inv.within c.in-Ok.ensures.within;
      turned = subst (λ b. TookTurn (passage (of_service g.service (g.K.Keeper.told c.args.self.now.keeper.now)) (of_service g.service (g.K.Keeper.told k'))
          (g.P.Port.told c.args.self.now.port.now) (g.P.Port.told c.serve_group.new.self.port.now)
          (Mute (Did (g.C.Clock.gave c.args.self.now.clock.now c.serve_group.new.self.clock.now)
          (Grouped g.service ms (groups_of g.service (drop (i + n) ms)) (g.K.Keeper.performed c.args.self.now.keeper.now k'))
          (g.P.Port.became c.args.self.now.port.now c.serve_group.new.self.port.now))))
          (ids_of c.args.self.now.pending.now.items) (ids_of c.serve_group.new.self.pending.now.items) (take (i + n) ms) b c.sum_of-sum.result) (lasts_on c.in-Ok.progress.next on)
          (group_more (serving g.service g.K.Keeper.model) (c.histories_grow.ensures g.service) (of_service g.service (g.K.Keeper.told c.args.self.now.keeper.now)) (of_service g.service (g.K.Keeper.told c.loop-at.self.keeper.now)) (of_service g.service (g.K.Keeper.told k'))
          _ _
          _ _ _ _ _ _ _ ms (take (length ms - i) (drop i ms)) i n
          (lasts c.in-Ok.progress.next) c.loop-at.counts c.in-Ok.progress.counts c.sum_of-sum.result
          refl c.sum_of-sum.ensures inv.turned c.in-Ok.ensures.ok c.in-Ok.ensures.honest
          (λ b two. mute_grouped g.C.Clock.gave g.K.Keeper.performed g.P.Port.became g.met.C.Clock.logged g.met.K.Keeper.log g.met.P.Port.path
          c.args.self.now.clock.now c.loop-at.self.clock.now c.serve_group.new.self.clock.now
          c.args.self.now.keeper.now c.loop-at.self.keeper.now c.serve_group.new.self.keeper.now
          c.args.self.now.port.now c.loop-at.self.port.now c.serve_group.new.self.port.now inv.turned.work.deeds b
          g.service ms i _ (groups_of g.service (drop (i + n) ms)) (left_is g.service ms i n) inv.turned.work.done two));
      loans = (c.in-Ok.ensures.loans.0 ∙ inv.loans.0, c.in-Ok.ensures.loans.1 ∙ inv.loans.1, c.in-Ok.ensures.loans.2 ∙ inv.loans.2, c.in-Ok.ensures.loans.3 ∙ inv.loans.3);
      below = subst (λ x. IsBelow x (i + n)) (sym c.sum_of-sum.ensures) (plus_below c.loop-at.counts c.in-Ok.progress.counts i n inv.below c.in-Ok.ensures.below);
      few = c.in-Ok.ensures.few;
      going = c.in-Ok.ensures.going;
      firm = λ honest firm. c.in-Ok.ensures.firm honest (inv.firm (c.in-Ok.ensures.honest honest) firm);
      more = λ confirms honest (before : KeptRecords) h. c.in-Ok.ensures.more (inv.quiet.confirms ∙ confirms) honest before
          (inv.more confirms (c.in-Ok.ensures.honest honest) before h);
      failures = c.in-Ok.ensures.failures ∙ inv.failures;
      honest = λ honest. inv.honest (c.in-Ok.ensures.honest honest);
      serves = c.in-Ok.ensures.stays;
      unopened = (g.met.K.Keeper.counted).then c.args.self.now.keeper.now c.loop-at.self.keeper.now k' 0 0 inv.unopened c.in-Ok.ensures.unopened;
      quiet = quiet_more (g.P.Port.told c.args.self.now.port.now) (g.P.Port.told c.loop-at.self.port.now) (g.P.Port.told c.serve_group.new.self.port.now) inv.quiet c.in-Ok.ensures.quiet;
      may = λ honest f may. inv.may (c.in-Ok.ensures.honest honest) f (c.in-Ok.ensures.may honest f may);
      medium = λ is. c.in-Ok.ensures.medium (inv.medium is);
    }

pub returns-clause-ok : goal.returns-clause-ok
returns-clause-ok g c =
    let inv = c.loop-at.invariant in
    worked_all (serving g.service g.K.Keeper.model) _ (ids_of c.args.self.now.pending.now.items) (ids_of c.loop-at.self.pending.now.items) c.args.messages.now c.loop-at.at
    c.loop-at.counts c.loop-at-test.false inv.turned

pub returns-in-Err-clause-unopened : goal.returns-in-Err-clause-unopened
returns-in-Err-clause-unopened g c = (g.met.K.Keeper.counted).then c.args.self.now.keeper.now c.loop-at.self.keeper.now c.serve_group.new.self.keeper.now 0 0 c.loop-at.invariant.unopened
    c.in-Err.ensures.unopened

pub returns-then-over-clause-unopened : goal.returns-then-over-clause-unopened
returns-then-over-clause-unopened g c = (g.met.K.Keeper.counted).then c.args.self.now.keeper.now c.loop-at.self.keeper.now c.serve_group.new.self.keeper.now 0 0
    c.loop-at.invariant.unopened c.in-Ok.ensures.unopened

pub returns-clause-unopened : goal.returns-clause-unopened
returns-clause-unopened g c = c.loop-at.invariant.unopened

pub returns-in-Err-clause-medium : goal.returns-in-Err-clause-medium
returns-in-Err-clause-medium g c = λ is. c.in-Err.ensures.medium (c.loop-at.invariant.medium is)

pub returns-in-Err-clause-may : goal.returns-in-Err-clause-may
returns-in-Err-clause-may g c = λ honest f may. c.loop-at.invariant.may (c.in-Err.ensures.honest honest) f (c.in-Err.ensures.may honest f may)

pub returns-then-over-clause-medium : goal.returns-then-over-clause-medium
returns-then-over-clause-medium g c = λ is. c.in-Ok.ensures.medium (c.loop-at.invariant.medium is)

pub returns-then-over-clause-may : goal.returns-then-over-clause-may
returns-then-over-clause-may g c = λ honest f may. c.loop-at.invariant.may (c.in-Ok.ensures.honest honest) f (c.in-Ok.ensures.may honest f may)

pub returns-then-over-clause-more : goal.returns-then-over-clause-more
returns-then-over-clause-more g c = λ confirms honest (before : KeptRecords) h.
    let inv = c.loop-at.invariant in
    c.in-Ok.ensures.more (inv.quiet.confirms ∙ confirms) honest before (inv.more confirms (c.in-Ok.ensures.honest honest) before h)

pub returns-clause-medium : goal.returns-clause-medium
returns-clause-medium g c = c.loop-at.invariant.medium

pub returns-in-Err-clause-at_most : goal.returns-in-Err-clause-at_most
returns-in-Err-clause-at_most g c = λ confirms intact (before : KeptRecords) h.
    let inv = c.loop-at.invariant in
    c.in-Err.ensures.at_most intact before (inv.more confirms (c.in-Err.ensures.honest intact.honest) before h)

pub returns-then-over-clause-firm : goal.returns-then-over-clause-firm
returns-then-over-clause-firm g c = λ honest firm. c.in-Ok.ensures.firm honest (c.loop-at.invariant.firm (c.in-Ok.ensures.honest honest) firm)
