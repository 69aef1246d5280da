use Rattle.std.proofs.Common.{◌≡◌, sym, subst, rules, ap, arith, ◌∙◌, ◌+◌, ◌++◌, All, length, length-append, take, drop, true, false, ◌∷◌, []}
use Rattle.fuse_session.specs.Grouping.{asked_in, groups_of, one_group}
use Rattle.fuse_session.proofs.Grouping.{groups_next, groups_some, groups_none, groups_destroy, groups_full, groups_zero, groups_end, full_stuck, zero_stuck}
use Rattle.std.proofs.lemmas.List.Elements.{All-nil}
use Rattle.fuse_request.specs.Classes.{class_for}
use Rattle.fuse_keeper.specs.Group.{HasId, IsPerformed, entries_of}
use Rattle.fuse_session.specs.inner.Group.{Gathers, classes_in}
use Rattle.fuse_session.proofs.Gathering.{none_yet_gathered, gathers_none, gathers_some, named_some, kept_some, classes_more, destroys_is}
use Rattle.fuse_session.proofs.gather.gather.Goals as goal
use Rattle.fuse_session.proofs.gather.gather.Goals.{in-Some+in_ok-push-2+else-ends, in_default}
use Rattle.fuse_session.proofs.gather.gather.Goals.{then-len-ge-MAX_GROUP-via-then-len-ge-MAX_GROUP, then-len-ge-MAX_GROUP-via-else-len-ge-MAX_GROUP+then-has_zero_unique}

pub loop-message-init : goal.loop-message-init
loop-message-init g c = record {
  count = ap length c.new-classes.ensures.items;
  classes = c.new-classes.ensures.items;
  gathers = none_yet_gathered g.service (g.C.Clock.gave c.args.clock.now c.args.clock.now) c.new-taken.result.items ((g.met.C.Clock.logged).none c.args.clock.now)
      c.new-taken.ensures.items;
  few = omega (arith, ap length c.new-taken.ensures.items);
  named = subst (All HasId) (sym (ap entries_of c.new-taken.ensures.items)) (All-nil HasId);
  kept = subst (All (IsPerformed g.service)) (sym (ap entries_of c.new-taken.ensures.items)) (All-nil (IsPerformed g.service));
  groups = ap (λ l. groups_next g.service (asked_in (entries_of l)) c.args.messages.now) (sym c.new-taken.ensures.items);
}

pub returns-then-ends-clause-gathers : goal.returns-then-ends-clause-gathers
returns-then-ends-clause-gathers g c =
    let some = c.in-Some.ensures.entry in
    subst (λ n. Gathers g.service (g.C.Clock.gave c.args.clock.now c.read_one.new.clock) (take n c.args.messages.now) c.push-in-Some.new.self.items
    c.is_kept_destroy-ends.result)
    (omega (
      arith,
      ap length c.in_ok-push.ensures.items,
      length-append c.loop-message.classes.items
          (c.classify-class.result ∷ []),
      c.loop-message.invariant.count,
    ))
    (gathers_some g.service (g.C.Clock.gave c.args.clock.now c.loop-message.clock) (g.C.Clock.gave c.loop-message.clock c.read_one.new.clock)
    (g.C.Clock.gave c.args.clock.now c.read_one.new.clock) ((g.met.C.Clock.logged).onward c.args.clock.now c.loop-message.clock c.read_one.new.clock)
    c.args.messages.now c.loop-message.message-index c.message-item.result c.as_slice-bytes.result.now c.loop-message.taken.items
    c.push-in-Some.new.self.items c.in-Some.one some.0 c.is_kept_destroy-ends.result
    c.loop-message-test.true c.message-item.is c.as_slice-bytes.ensures c.loop-message.invariant.gathers
    (sym c.if-has_zero_unique.ensures) some.1 c.in_ok-push-2.ensures.items
    (destroys_is g.service c.as_slice-bytes.result.now c.classify-class.result c.is_kept_destroy-ends.result
    (c.classify-class.ensures ∙ ap (λ V. class_for V c.as_slice-bytes.result.now) c.requires.1.1.0) c.is_kept_destroy-ends.ensures) some.2)

pub returns-then-ends-clause-named : goal.returns-then-ends-clause-named
returns-then-ends-clause-named g c =
    let some = c.in-Some.ensures.entry in
    named_some g.service c.as_slice-bytes.result.now c.loop-message.taken.items c.push-in-Some.new.self.items c.in-Some.one some.0 c.loop-message.invariant.named
    (sym c.if-has_zero_unique.ensures) some.1 c.in_ok-push-2.ensures.items

pub returns-then-ends-clause-kept : goal.returns-then-ends-clause-kept
returns-then-ends-clause-kept g c = kept_some g.service c.loop-message.taken.items c.push-in-Some.new.self.items c.in-Some.one c.loop-message.invariant.kept
    c.in-Some.ensures.kept c.in_ok-push-2.ensures.items

pub loop-message-preserved : goal.loop-message-preserved
loop-message-preserved g c = elim c.match-read_one.branch [
  | in-Some+in_ok-push-2+else-ends w ↦
      let some = w.in-Some.ensures.entry in
      let pushed = ap (λ v. v.items) w.taken-is ∙ w.in_ok-push-2.ensures.items in
      let isnt = destroys_is g.service c.as_slice-bytes.result.now c.classify-class.result false (c.classify-class.ensures ∙ ap (λ V. class_for V c.as_slice-bytes.result.now) c.requires.1.1.0)
      w.if-ends.ensures in
      record {
        count = omega (
          arith,
          ap length c.in_ok-push.ensures.items,
          length-append c.loop-message.classes.items
              (c.classify-class.result ∷ []),
          c.loop-message.invariant.count,
        );
        classes = classes_more g.service c.args.messages.now c.loop-message.message-index c.message-item.result c.as_slice-bytes.result.now c.loop-message.classes.items
            c.push.new.self.items
            c.classify-class.result c.loop-message-test.true c.message-item.is c.as_slice-bytes.ensures c.loop-message.invariant.classes
            (c.classify-class.ensures ∙ ap (λ V. class_for V c.as_slice-bytes.result.now) c.requires.1.1.0) c.in_ok-push.ensures.items;
        gathers = gathers_some g.service (g.C.Clock.gave c.args.clock.now c.loop-message.clock) (g.C.Clock.gave c.loop-message.clock c.read_one.new.clock)
            (g.C.Clock.gave c.args.clock.now c.read_one.new.clock) ((g.met.C.Clock.logged).onward c.args.clock.now c.loop-message.clock c.read_one.new.clock)
            c.args.messages.now c.loop-message.message-index c.message-item.result c.as_slice-bytes.result.now c.loop-message.taken.items
            c.match-read_one.taken.items w.in-Some.one some.0 false
            c.loop-message-test.true c.message-item.is c.as_slice-bytes.ensures c.loop-message.invariant.gathers
            (sym c.if-has_zero_unique.ensures) some.1 pushed isnt some.2;
        few = omega (
          arith,
          ap length pushed,
          length-append c.loop-message.taken.items (w.in-Some.one ∷ []),
          c.len.ensures,
          c.loop-message.taken.ok.0,
          c.if-len-ge-MAX_GROUP.false,
        );
        named = named_some g.service c.as_slice-bytes.result.now c.loop-message.taken.items c.match-read_one.taken.items w.in-Some.one some.0
            c.loop-message.invariant.named (sym c.if-has_zero_unique.ensures) some.1 pushed;
        kept = kept_some g.service c.loop-message.taken.items c.match-read_one.taken.items w.in-Some.one c.loop-message.invariant.kept w.in-Some.ensures.kept pushed;
        groups = groups_some g.service c.args.messages.now c.loop-message.message-index c.message-item.result c.as_slice-bytes.result.now
            c.loop-message.taken.items c.match-read_one.taken.items w.in-Some.one some.0 c.loop-message-test.true c.message-item.is c.as_slice-bytes.ensures
            (omega (arith, c.len.ensures, c.loop-message.taken.ok.0, c.if-len-ge-MAX_GROUP.false)) (sym c.if-has_zero_unique.ensures) some.1 pushed
            (sym isnt) c.loop-message.invariant.groups;
      }
  | in_default w ↦
      let none = w.in_default.ensures.entry in
      let same = ap (λ v. v.items) w.taken-is in
      record {
        count = omega (
          arith,
          ap length c.in_ok-push.ensures.items,
          length-append c.loop-message.classes.items
              (c.classify-class.result ∷ []),
          c.loop-message.invariant.count,
        );
        classes = classes_more g.service c.args.messages.now c.loop-message.message-index c.message-item.result c.as_slice-bytes.result.now c.loop-message.classes.items
            c.push.new.self.items
            c.classify-class.result c.loop-message-test.true c.message-item.is c.as_slice-bytes.ensures c.loop-message.invariant.classes
            (c.classify-class.ensures ∙ ap (λ V. class_for V c.as_slice-bytes.result.now) c.requires.1.1.0) c.in_ok-push.ensures.items;
        gathers = subst (λ xs. Gathers g.service (g.C.Clock.gave c.args.clock.now c.read_one.new.clock) (take (c.loop-message.message-index + 1) c.args.messages.now) xs
            false) (sym same) (gathers_none g.service (g.C.Clock.gave c.args.clock.now c.loop-message.clock) (g.C.Clock.gave c.loop-message.clock c.read_one.new.clock)
            (g.C.Clock.gave c.args.clock.now c.read_one.new.clock) ((g.met.C.Clock.logged).onward c.args.clock.now c.loop-message.clock c.read_one.new.clock)
            c.args.messages.now c.loop-message.message-index c.message-item.result c.as_slice-bytes.result.now c.loop-message.taken.items none.0
            c.loop-message-test.true c.message-item.is c.as_slice-bytes.ensures c.loop-message.invariant.gathers
            (sym c.if-has_zero_unique.ensures) none.1 none.2);
        few = omega (arith, ap length same, c.loop-message.invariant.few);
        named = subst (λ xs. All HasId (entries_of xs)) (sym same) c.loop-message.invariant.named;
        kept = subst (λ xs. All (IsPerformed g.service) (entries_of xs)) (sym same) c.loop-message.invariant.kept;
        groups = subst (λ xs. groups_of g.service c.args.messages.now ≡ groups_next g.service (asked_in (entries_of xs))
            (drop (c.loop-message.message-index + 1) c.args.messages.now)) (sym same)
            (groups_none g.service c.args.messages.now c.loop-message.message-index c.message-item.result c.as_slice-bytes.result.now
            c.loop-message.taken.items none.0 c.loop-message-test.true c.message-item.is c.as_slice-bytes.ensures
            (omega (arith, c.len.ensures, c.loop-message.taken.ok.0, c.if-len-ge-MAX_GROUP.false)) (sym c.if-has_zero_unique.ensures) none.1
            c.loop-message.invariant.groups);
      }
]

pub returns-in_err-push-2-clause-logged : goal.returns-in_err-push-2-clause-logged
returns-in_err-push-2-clause-logged g c = (
  _,
  (g.met.C.Clock.logged).onward c.args.clock.now c.loop-message.clock c.read_one.new.clock _ _ c.loop-message.invariant.gathers.moments
      c.in-Some.ensures.entry.2,
)

pub returns-then-ends-clause-logged : goal.returns-then-ends-clause-logged
returns-then-ends-clause-logged g c = (
  _,
  (g.met.C.Clock.logged).onward c.args.clock.now c.loop-message.clock c.read_one.new.clock _ _ c.loop-message.invariant.gathers.moments
      c.in-Some.ensures.entry.2,
)

pub returns-in_err-push-clause-logged : goal.returns-in_err-push-clause-logged
returns-in_err-push-clause-logged g c = (_, c.loop-message.invariant.gathers.moments)

pub returns-then-ends-clause-classes : goal.returns-then-ends-clause-classes
returns-then-ends-clause-classes g c =
    subst (λ n. c.push.new.self.items ≡ classes_in g.service (take n c.args.messages.now))
    (omega (
      arith,
      ap length c.in_ok-push.ensures.items,
      length-append c.loop-message.classes.items
          (c.classify-class.result ∷ []),
      c.loop-message.invariant.count,
    ))
    (classes_more g.service c.args.messages.now c.loop-message.message-index c.message-item.result c.as_slice-bytes.result.now c.loop-message.classes.items
    c.push.new.self.items
    c.classify-class.result c.loop-message-test.true c.message-item.is c.as_slice-bytes.ensures c.loop-message.invariant.classes (c.classify-class.ensures ∙ ap (λ V. class_for V c.as_slice-bytes.result.now) c.requires.1.1.0)
    c.in_ok-push.ensures.items)

pub returns-then-len-ge-MAX_GROUP-clause-stuck : goal.returns-then-len-ge-MAX_GROUP-clause-stuck
returns-then-len-ge-MAX_GROUP-clause-stuck g c = λ none.
    let first = sym c.loop-message.invariant.count ∙ none in
    elim c.then-len-ge-MAX_GROUP.branch [
      | then-len-ge-MAX_GROUP-via-then-len-ge-MAX_GROUP w ↦ absurd (full_stuck g.service
          (g.C.Clock.gave c.args.clock.now c.loop-message.clock) c.args.messages.now c.loop-message.message-index c.loop-message.taken.items first
          c.loop-message.invariant.gathers (omega (arith, c.len.ensures, c.loop-message.taken.ok.0, w.if-len-ge-MAX_GROUP.true)))
      | then-len-ge-MAX_GROUP-via-else-len-ge-MAX_GROUP+then-has_zero_unique w ↦ zero_stuck c.args.messages.now c.loop-message.message-index
          c.message-item.result c.as_slice-bytes.result.now c.message-item.is c.as_slice-bytes.ensures (sym w.if-has_zero_unique.ensures) first
    ]

pub returns-then-len-ge-MAX_GROUP-clause-groups : goal.returns-then-len-ge-MAX_GROUP-clause-groups
returns-then-len-ge-MAX_GROUP-clause-groups g c =
    subst (λ n. groups_of g.service c.args.messages.now ≡ one_group (asked_in (entries_of c.loop-message.taken.items))
    ++ groups_of g.service (drop n c.args.messages.now)) (sym c.loop-message.invariant.count)
    (elim c.then-len-ge-MAX_GROUP.branch [
      | then-len-ge-MAX_GROUP-via-then-len-ge-MAX_GROUP w ↦ groups_full g.service c.args.messages.now c.loop-message.message-index
          c.loop-message.taken.items (omega (arith, c.len.ensures, c.loop-message.taken.ok.0, w.if-len-ge-MAX_GROUP.true)) c.loop-message.invariant.groups
      | then-len-ge-MAX_GROUP-via-else-len-ge-MAX_GROUP+then-has_zero_unique w ↦ groups_zero g.service c.args.messages.now
          c.loop-message.message-index c.message-item.result c.as_slice-bytes.result.now c.loop-message.taken.items c.loop-message-test.true
          c.message-item.is c.as_slice-bytes.ensures (omega (arith, c.len.ensures, c.loop-message.taken.ok.0, w.if-len-ge-MAX_GROUP.false))
          (sym w.if-has_zero_unique.ensures) c.loop-message.invariant.groups
    ])

pub returns-then-ends-clause-groups : goal.returns-then-ends-clause-groups
returns-then-ends-clause-groups g c =
    let some = c.in-Some.ensures.entry in
    subst (λ n. groups_of g.service c.args.messages.now ≡ one_group (asked_in (entries_of c.push-in-Some.new.self.items))
    ++ groups_of g.service (drop n c.args.messages.now))
    (omega (
      arith,
      ap length c.in_ok-push.ensures.items,
      length-append c.loop-message.classes.items
          (c.classify-class.result ∷ []),
      c.loop-message.invariant.count,
    ))
    (groups_destroy g.service c.args.messages.now c.loop-message.message-index c.message-item.result c.as_slice-bytes.result.now
    c.loop-message.taken.items c.push-in-Some.new.self.items c.in-Some.one some.0 c.loop-message-test.true c.message-item.is c.as_slice-bytes.ensures
    (omega (arith, c.len.ensures, c.loop-message.taken.ok.0, c.if-len-ge-MAX_GROUP.false)) (sym c.if-has_zero_unique.ensures) some.1
    c.in_ok-push-2.ensures.items
    (sym (destroys_is g.service c.as_slice-bytes.result.now c.classify-class.result true (c.classify-class.ensures ∙ ap (λ V. class_for V c.as_slice-bytes.result.now) c.requires.1.1.0)
    c.if-ends.ensures))
    c.loop-message.invariant.groups)

pub returns-clause-groups : goal.returns-clause-groups
returns-clause-groups g c =
    subst (λ n. groups_of g.service c.args.messages.now ≡ one_group (asked_in (entries_of c.loop-message.taken.items))
    ++ groups_of g.service (drop n c.args.messages.now)) (sym c.loop-message.invariant.count)
    (groups_end g.service c.args.messages.now c.loop-message.message-index c.loop-message.taken.items
    (omega (arith, c.loop-message-test.false)) c.loop-message.invariant.groups)

pub read_one-requires : goal.read_one-requires
read_one-requires g c =
    let class = c.classify-class.ensures ∙ ap (λ V. class_for V c.as_slice-bytes.result.now) c.requires.1.1.0 in
    search rules
