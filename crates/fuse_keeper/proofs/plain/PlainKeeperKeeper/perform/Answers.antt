use Rattle.std.proofs.Common.{◌≡◌, ◌∙◌, ℕ, refl, sym, ap, subst, inl, inr}
use Rattle.fuse_keeper.specs.History.{kept_of}
use Rattle.fuse_keeper.specs.Group.{ids_of, entries_of}
use Rattle.fuse_keeper.specs.Model.{IsOfGoodState}
use Rattle.fuse_keeper.specs.Stands.{KeeperContent, without}
use Rattle.fuse_keeper.specs.Plain.{mapped}
use Rattle.fuse_keeper.proofs.Overlays.{without-same}
use Rattle.fuse_keeper.proofs.InARow.{named_taken, led_same, seen_taken}
use Rattle.fuse_keeper.proofs.Keeping.{left_new, left_old, rowed_where, keeps_same, or-true, or-false, no_lot, lots_stay}
use Rattle.fuse_keeper.proofs.plain.PlainKeeperKeeper.perform.Goals as goal

pub returns-in-Ok-clause-others : goal.returns-in-Ok-clause-others
returns-in-Ok-clause-others g c = λ honest rows records held rowed. record {
  rows = g.F.FileSystem.held c.perform_group.new.self.rows;
  records = mapped c.perform_group.new.self.records;
  held = (refl, λ i. refl);
  rowed = c.in-Ok.ensures.rowed (subst (IsOfGoodState g.F.FileSystem.model) held.0 rowed);
  others = λ i isnt. c.in-Ok.ensures.others i isnt ∙ without-same (ids_of c.args.settled.now) (mapped c.args.self.now.records) records i (sym (held.1 i));
}

pub returns-in-Ok-clause-acts : goal.returns-in-Ok-clause-acts
returns-in-Ok-clause-acts g c = λ honest rows records held rowed. record {
  rows = g.F.FileSystem.held c.perform_group.new.self.rows;
  records = mapped c.perform_group.new.self.records;
  held = (refl, λ i. refl);
  taken = named_taken g.F.FileSystem.model
      (record { rows = g.F.FileSystem.held c.args.self.now.rows; records = mapped c.args.self.now.records })
      (record { rows = rows; records = records }) (ids_of c.args.settled.now) (entries_of c.args.group.now)
      (record { rows = g.F.FileSystem.held c.perform_group.new.self.rows; records = mapped c.perform_group.new.self.records }) c.in-Ok.dones.items held
      c.in-Ok.ensures.acts;
}

pub returns-in-Ok-clause-lots : goal.returns-in-Ok-clause-lots
returns-in-Ok-clause-lots g c = λ honest rows records held rowed. no_lot records (ids_of c.args.settled.now) (kept_of g.F.FileSystem.model.service (entries_of c.args.group.now))

pub returns-in-Ok-clause-crash : goal.returns-in-Ok-clause-crash
returns-in-Ok-clause-crash g c = λ s h t so within fresh firm. (
  tt,
  λ x r left. inr (left_new g.F.FileSystem.model (g.F.FileSystem.held c.perform_group.new.self.rows) (mapped c.perform_group.new.self.records) x r s _ t
      (c.in-Ok.ensures.ok s h t so within fresh).stands left),
)

pub returns-in-Err-clause-crash : goal.returns-in-Err-clause-crash
returns-in-Err-clause-crash g c = λ s h t so within fresh firm. (
  tt,
  λ x r left. inl (left_old g.F.FileSystem.model (g.F.FileSystem.held c.args.self.now.rows) (mapped c.args.self.now.records)
      (g.F.FileSystem.held c.perform_group.new.self.rows) (mapped c.perform_group.new.self.records) x r s h t so c.in-Err.ensures.err left),
)

pub returns-in-Ok-clause-crash_acts : goal.returns-in-Ok-clause-crash_acts
returns-in-Ok-clause-crash_acts g c = λ firm rows records held rowed.
    let M = g.F.FileSystem.model in
    let old : KeeperContent M = record { rows = g.F.FileSystem.held c.args.self.now.rows; records = mapped c.args.self.now.records } in
    let before : KeeperContent M = record { rows = rows; records = records } in
    let after : KeeperContent M = record { rows = g.F.FileSystem.held c.perform_group.new.self.rows; records = mapped c.perform_group.new.self.records } in
    let taken = named_taken M old before (ids_of c.args.settled.now) (entries_of c.args.group.now) after c.in-Ok.dones.items held c.in-Ok.ensures.acts in (
      tt,
      λ x r left. inr (
        c.in-Ok.dones.items,
        led_same M (record before { records = without (ids_of c.args.settled.now) records }) (entries_of c.args.group.now) after c.in-Ok.dones.items
            (record { rows = x; records = r }) left taken,
      ),
    )

pub returns-in-Err-clause-crash_acts : goal.returns-in-Err-clause-crash_acts
returns-in-Err-clause-crash_acts g c = λ firm rows records held rowed.
    let kept = c.in-Err.ensures.err rows records held in
    (tt, λ x r left. inl (left.0 ∙ sym kept.0, λ i. left.1 i ∙ sym (kept.1 i)))

pub returns-in-Err-clause-called : goal.returns-in-Err-clause-called
returns-in-Err-clause-called g c = record {
  failed = sym (or-true c.args.self.now.failed);
  honest = λ honest. honest;
  medium = λ memory. memory;
  service = refl;
  clean = tt;
  err = λ clean. c.in-Err.ensures.err;
  err_lots = λ clean rows records held. lots_stay;
  fault = λ clean s h t so. c.in-Err.ensures.fault (rowed_where g.F.FileSystem.model (g.F.FileSystem.held c.args.self.now.rows)
      (mapped c.args.self.now.records) s h t so);
}

pub returns-in-Ok-clause-looked : goal.returns-in-Ok-clause-looked
returns-in-Ok-clause-looked g c = λ only.
    let M = g.F.FileSystem.model in
    let rows = g.F.FileSystem.held c.args.self.now.rows in
    let records = mapped c.args.self.now.records in
    let rows' = g.F.FileSystem.held c.perform_group.new.self.rows in
    let records' = mapped c.perform_group.new.self.records in
    let seen = seen_taken M (record { rows = rows; records = without (ids_of c.args.settled.now) records }) (entries_of c.args.group.now)
    (record { rows = rows'; records = records' }) c.in-Ok.dones.items only.0 c.in-Ok.ensures.acts in
    let same : (i : ℕ) → records' i ≡ records i = λ i. seen.1 i ∙ ap (λ t. without t records i) only.1 in
    record {
      called = record {
        failed = c.in-Ok.ensures.failed ∙ or-false c.args.self.now.failed;
        honest = λ honest. honest;
        medium = λ memory. memory;
        service = refl;
        clean = λ clean honest. tt;
        err = tt;
        err_lots = tt;
        fault = λ clean s h t so. tt;
      };
      may = λ honest f may. may;
      same = λ honest. keeps_same M rows records rows' records' seen.0 same;
      lots = λ honest y q held. lots_stay;
      whole = λ y q held whole. tt;
      crash = λ x r y q held left. (left.0 ∙ seen.0, λ i. left.1 i ∙ same i);
    }

pub returns-in-Err-clause-looked : goal.returns-in-Err-clause-looked
returns-in-Err-clause-looked g c = λ only.
    let kept = c.in-Err.ensures.err (g.F.FileSystem.held c.args.self.now.rows) (mapped c.args.self.now.records) (refl, λ i. refl) in
    record {
      called = returns-in-Err-clause-called g c;
      may = λ honest f may. may;
      same = tt;
      lots = tt;
      whole = λ y q held whole. tt;
      crash = λ x r y q held left. (left.0 ∙ sym kept.0, λ i. left.1 i ∙ sym (kept.1 i));
    }
