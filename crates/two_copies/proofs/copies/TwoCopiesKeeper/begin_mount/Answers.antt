use Rattle.std.proofs.Common.{refl, inl}
use Rattle.two_copies.proofs.Both.{Commits, plain_firm, working_stands, leaves_either, both_stand, called_working}
use Rattle.two_copies.proofs.copies.TwoCopiesKeeper.begin_mount.Goals as goal

pub returns-in_ok-commit-in-Ok-clause-ok : goal.returns-in_ok-commit-in-Ok-clause-ok
returns-in_ok-commit-in-Ok-clause-ok g c = λ honest s h t so.
    let made : Commits g.F.FileSystem.model g.F.FileSystem.held c.begin_mount.new.self c.commit.new.self = record {
      working = c.in_ok-commit-in-Ok.ensures.working;
      closed = c.in_ok-commit-in-Ok.ensures.in_doubt;
      alike = c.in_ok-commit-in-Ok.ensures.ok;
    } in
    both_stand g.F.FileSystem.model g.F.FileSystem.held c.begin_mount.new.self c.commit.new.self _ _ _ made
    (c.in-Ok.ensures.ok tt s h t (working_stands g.F.FileSystem.model g.F.FileSystem.held c.args.self.now s h t so))

pub returns-in_ok-commit-in-Ok-clause-crash : goal.returns-in_ok-commit-in-Ok-clause-crash
returns-in_ok-commit-in-Ok-clause-crash g c = λ s h t so firm.
    let leaves = c.in-Ok.ensures.crash s h t (working_stands g.F.FileSystem.model g.F.FileSystem.held c.args.self.now s h t so)
    (plain_firm g.F.FileSystem.model g.F.FileSystem.held c.args.self.now.working) in
    (tt, λ x r left. leaves.1 x r (c.in_ok-commit-in-Ok.ensures.ok.1 x r left))

pub returns-in_err-commit-in-Ok-clause-crash : goal.returns-in_err-commit-in-Ok-clause-crash
returns-in_err-commit-in-Ok-clause-crash g c = λ s h t so firm.
    leaves_either g.F.FileSystem.model g.F.FileSystem.held (c.still_stands.ensures g.F.FileSystem.model.service) c.args.self.now c.commit.new.self c.begin_mount.new.self s h t _
    c.in_err-commit-in-Ok.ensures.err so (λ x r stands. inl stands)
    (c.in-Ok.ensures.crash s h t (working_stands g.F.FileSystem.model g.F.FileSystem.held c.args.self.now s h t so)
    (plain_firm g.F.FileSystem.model g.F.FileSystem.held c.args.self.now.working))

pub returns-in-Err-clause-called : goal.returns-in-Err-clause-called
returns-in-Err-clause-called g c =
    called_working g.F.FileSystem.model g.F.FileSystem.held _ c.args.self.now
    (record c.args.self.now { working = c.begin_mount.new.self }) refl refl c.in-Err.ensures.called
