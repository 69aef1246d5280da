use Rattle.std.proofs.Common.{false, refl}
use Rattle.two_copies.proofs.Both.{reopens}
use Rattle.two_copies.proofs.copies.TwoCopiesRestart.restart.Goals as goal

pub returns-clause-reopened : goal.returns-clause-reopened
returns-clause-reopened g c =
    reopens g.F.FileSystem.model g.F.FileSystem.held c.args.self
    (record c.args.self { working = c.in-Ok.copy; in_doubt = false; openings = c.in-Some.openings })
    refl refl c.in-Ok.ensures.going c.in-Ok.ensures.same
