use Rattle.std.proofs.Common.{false, [], refl}
use Rattle.two_copies.proofs.Both.{both_stand}
use Rattle.two_copies.proofs.copies.TwoCopies.new.Goals as goal

pub returns-clause-stands : goal.returns-clause-stands
returns-clause-stands g c =
    both_stand g.F.FileSystem.model g.F.FileSystem.held c.in_ok-working.working
    (record {
      committed = c.in_ok-to_copy.field-0;
      working = c.in_ok-working.working;
      in_doubt = false;
      openings = 0;
      commits = c.args.commits;
      left = c.args.commits;
      faults = false;
    })
    (g.F.FileSystem.model.start c.args.now) [] []
    (record { working = refl; closed = refl; alike = (c.in_ok-to_copy.ensures.same, c.in_ok-to_copy.ensures.no_more) }) c.in_ok-working.ensures.stands
