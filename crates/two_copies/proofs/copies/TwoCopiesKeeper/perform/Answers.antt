use Rattle.std.proofs.Common.{refl, inl, ◌∙◌}
use Rattle.std.proofs.Math.Bool.{or-true}
use Rattle.fuse_keeper.specs.PlainKeeper.{plain_told}
use Rattle.fuse_keeper.specs.Group.{ids_of, entries_of}
use Rattle.fuse_keeper.specs.Stands.{without}
use Rattle.two_copies.proofs.Both.{Commits, plain_firm, working_stands, leaves_old, leaves_either, left_held, leaves_held, working_acted, both_performed, both_taken, both_others, called_working, looked_working, seen_performed, seen_taken, seen_others}
use Rattle.two_copies.proofs.copies.TwoCopiesKeeper.perform.Goals as goal

pub returns-in_ok-commit-in-Ok-clause-ok : goal.returns-in_ok-commit-in-Ok-clause-ok
returns-in_ok-commit-in-Ok-clause-ok g c = λ honest s h t so within fresh.
    let made : Commits g.F.FileSystem.model g.F.FileSystem.held c.perform.new.self c.commit.new.self = record {
      working = c.in_ok-commit-in-Ok.ensures.working;
      closed = c.in_ok-commit-in-Ok.ensures.in_doubt;
      alike = c.in_ok-commit-in-Ok.ensures.ok;
    } in
    both_performed g.F.FileSystem.model g.F.FileSystem.held c.perform.new.self c.commit.new.self s h t (entries_of c.args.group.now) c.in-Ok.dones.items made
    (c.in-Ok.ensures.ok tt s h t (working_stands g.F.FileSystem.model g.F.FileSystem.held c.args.self.now s h t so) within fresh)

pub returns-in_ok-commit-in-Ok-clause-acts : goal.returns-in_ok-commit-in-Ok-clause-acts
returns-in_ok-commit-in-Ok-clause-acts g c = λ honest rows records so rowed.
    let made : Commits g.F.FileSystem.model g.F.FileSystem.held c.perform.new.self c.commit.new.self = record {
      working = c.in_ok-commit-in-Ok.ensures.working;
      closed = c.in_ok-commit-in-Ok.ensures.in_doubt;
      alike = c.in_ok-commit-in-Ok.ensures.ok;
    } in
    both_taken g.F.FileSystem.model g.F.FileSystem.held c.perform.new.self c.commit.new.self rows (without (ids_of c.args.settled.now) records)
    (entries_of c.args.group.now) c.in-Ok.dones.items made (c.in-Ok.ensures.acts tt rows records so.1 rowed)

pub returns-in_ok-commit-in-Ok-clause-others : goal.returns-in_ok-commit-in-Ok-clause-others
returns-in_ok-commit-in-Ok-clause-others g c = λ honest rows records so rowed.
    let made : Commits g.F.FileSystem.model g.F.FileSystem.held c.perform.new.self c.commit.new.self = record {
      working = c.in_ok-commit-in-Ok.ensures.working;
      closed = c.in_ok-commit-in-Ok.ensures.in_doubt;
      alike = c.in_ok-commit-in-Ok.ensures.ok;
    } in
    both_others g.F.FileSystem.model g.F.FileSystem.held c.perform.new.self c.commit.new.self records (ids_of c.args.settled.now)
    (entries_of c.args.group.now) made
    (c.in-Ok.ensures.others tt rows records so.1 rowed)

-- what a crash leaves is the new copy
pub returns-in_ok-commit-in-Ok-clause-crash : goal.returns-in_ok-commit-in-Ok-clause-crash
returns-in_ok-commit-in-Ok-clause-crash g c = λ s h t so within fresh firm.
    let leaves = c.in-Ok.ensures.crash s h t (working_stands g.F.FileSystem.model g.F.FileSystem.held c.args.self.now s h t so) within fresh
    (plain_firm g.F.FileSystem.model g.F.FileSystem.held c.args.self.now.working) in
    (tt, λ x r left. leaves.1 x r (c.in_ok-commit-in-Ok.ensures.ok.1 x r left))

-- the committed copy is that of before, or the new one
pub returns-in_err-commit-in-Ok-clause-crash : goal.returns-in_err-commit-in-Ok-clause-crash
returns-in_err-commit-in-Ok-clause-crash g c = λ s h t so within fresh firm.
    leaves_either g.F.FileSystem.model g.F.FileSystem.held (c.still_stands.ensures g.F.FileSystem.model.service) c.args.self.now c.commit.new.self c.perform.new.self s h t _
    c.in_err-commit-in-Ok.ensures.err so (λ x r stands. inl stands)
    (c.in-Ok.ensures.crash s h t (working_stands g.F.FileSystem.model g.F.FileSystem.held c.args.self.now s h t so) within fresh
    (plain_firm g.F.FileSystem.model g.F.FileSystem.held c.args.self.now.working))

pub returns-in_ok-commit-in-Ok-clause-crash_acts : goal.returns-in_ok-commit-in-Ok-clause-crash_acts
returns-in_ok-commit-in-Ok-clause-crash_acts g c = λ firm rows records so rowed.
    let leaves = c.in-Ok.ensures.crash_acts (plain_firm g.F.FileSystem.model g.F.FileSystem.held c.args.self.now.working) rows records so.1 rowed in
    (tt, λ x r left. leaves.1 x r (c.in_ok-commit-in-Ok.ensures.ok.1 x r left))

pub returns-in_err-commit-in-Ok-clause-crash_acts : goal.returns-in_err-commit-in-Ok-clause-crash_acts
returns-in_err-commit-in-Ok-clause-crash_acts g c = λ firm rows records so rowed.
    leaves_held g.F.FileSystem.model g.F.FileSystem.held c.args.self.now c.commit.new.self c.perform.new.self rows records _
    c.in_err-commit-in-Ok.ensures.err so (λ x r these. inl these)
    (c.in-Ok.ensures.crash_acts (plain_firm g.F.FileSystem.model g.F.FileSystem.held c.args.self.now.working) rows records so.1 rowed)

pub returns-in-Err-clause-crash_acts : goal.returns-in-Err-clause-crash_acts
returns-in-Err-clause-crash_acts g c = λ firm rows records so rowed.
    (tt, λ x r left. inl (left_held g.F.FileSystem.model g.F.FileSystem.held c.args.self.now c.args.self.now rows records x r refl so left))

pub returns-in_ok-commit-in-Ok-clause-asks : goal.returns-in_ok-commit-in-Ok-clause-asks
returns-in_ok-commit-in-Ok-clause-asks g c = λ clean.
    working_acted g.F.FileSystem.model g.F.FileSystem.held c.args.self.now c.commit.new.self c.perform.new.self (ids_of c.args.settled.now)
    (entries_of c.args.group.now) c.in-Ok.dones.items c.in_ok-commit-in-Ok.ensures.working c.in-Ok.ensures.acts

pub returns-in_err-commit-in-Ok-clause-asks : goal.returns-in_err-commit-in-Ok-clause-asks
returns-in_err-commit-in-Ok-clause-asks g c = λ clean.
    working_acted g.F.FileSystem.model g.F.FileSystem.held c.args.self.now c.commit.new.self c.perform.new.self (ids_of c.args.settled.now)
    (entries_of c.args.group.now) c.in-Ok.dones.items c.in_err-commit-in-Ok.ensures.working c.in-Ok.ensures.acts

pub returns-in-Err-clause-asks : goal.returns-in-Err-clause-asks
returns-in-Err-clause-asks g c = λ clean.
    inl (
      c.in-Err.ensures.called.failed ∙ or-true (plain_told g.F.FileSystem.model g.F.FileSystem.held c.args.self.now.working).has_failed,
      c.in-Err.ensures.called.err tt,
    )

pub returns-in-Err-clause-called : goal.returns-in-Err-clause-called
returns-in-Err-clause-called g c =
    called_working g.F.FileSystem.model g.F.FileSystem.held _ c.args.self.now
    (record c.args.self.now { working = c.perform.new.self }) refl refl c.in-Err.ensures.called

pub returns-in-Err-clause-crash : goal.returns-in-Err-clause-crash
returns-in-Err-clause-crash g c = λ s h t so within fresh firm.
    (tt, λ x r left. inl (leaves_old g.F.FileSystem.model g.F.FileSystem.held (c.still_stands.ensures g.F.FileSystem.model.service) c.args.self.now c.args.self.now s h t x r refl so left))

pub returns-in-Err-clause-by_plan : goal.returns-in-Err-clause-by_plan
returns-in-Err-clause-by_plan g c = λ s h t so.
    inl (c.in-Err.ensures.called.fault tt s h t (working_stands g.F.FileSystem.model g.F.FileSystem.held c.args.self.now s h t so))

-- ---- where nothing is to be kept

pub returns-then-only_sees-clause-ok : goal.returns-then-only_sees-clause-ok
returns-then-only_sees-clause-ok g c = λ honest s h t so within fresh.
    let only = c.only_sees.ensures.some c.if-only_sees.true in
    seen_performed g.F.FileSystem.model g.F.FileSystem.held c.args.self.now (record c.args.self.now { working = c.perform.new.self }) refl refl
    ((c.in-Ok.ensures.looked only).same tt) s h t (entries_of c.args.group.now) c.in-Ok.dones.items so
    (c.in-Ok.ensures.ok tt s h t (working_stands g.F.FileSystem.model g.F.FileSystem.held c.args.self.now s h t so) within fresh)

pub returns-then-only_sees-clause-looked : goal.returns-then-only_sees-clause-looked
returns-then-only_sees-clause-looked g c = λ only.
    looked_working g.F.FileSystem.model g.F.FileSystem.held _ c.args.self.now (record c.args.self.now { working = c.perform.new.self }) refl refl
    (c.in-Ok.ensures.looked only)

pub returns-then-only_sees-clause-acts : goal.returns-then-only_sees-clause-acts
returns-then-only_sees-clause-acts g c = λ honest rows records so rowed.
    let only = c.only_sees.ensures.some c.if-only_sees.true in
    seen_taken g.F.FileSystem.model g.F.FileSystem.held c.args.self.now (record c.args.self.now { working = c.perform.new.self }) refl refl
    ((c.in-Ok.ensures.looked only).same tt) rows records (without (ids_of c.args.settled.now) records) (entries_of c.args.group.now) c.in-Ok.dones.items so
    (c.in-Ok.ensures.acts tt rows records so.1 rowed)

pub returns-then-only_sees-clause-others : goal.returns-then-only_sees-clause-others
returns-then-only_sees-clause-others g c = λ honest rows records so rowed.
    let only = c.only_sees.ensures.some c.if-only_sees.true in
    seen_others g.F.FileSystem.model g.F.FileSystem.held c.args.self.now (record c.args.self.now { working = c.perform.new.self }) refl refl
    ((c.in-Ok.ensures.looked only).same tt) rows records (ids_of c.args.settled.now) (entries_of c.args.group.now) so
    (c.in-Ok.ensures.others tt rows records so.1 rowed)

pub returns-in-Err-clause-looked : goal.returns-in-Err-clause-looked
returns-in-Err-clause-looked g c = λ only.
    looked_working g.F.FileSystem.model g.F.FileSystem.held _ c.args.self.now (record c.args.self.now { working = c.perform.new.self }) refl refl
    (c.in-Err.ensures.looked only)
