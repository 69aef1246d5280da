use Rattle.std.proofs.Common.{refl}
use Rattle.std.proofs.lemmas.Result.{IfOk-weaker}
use Rattle.two_copies.proofs.Both.{looked_working}
use Rattle.two_copies.proofs.copies.TwoCopiesKeeper.settings.Goals as goal

pub returns-clause-looked : goal.returns-clause-looked
returns-clause-looked g c =
    looked_working g.F.FileSystem.model g.F.FileSystem.held c.settings.result c.args.self.now
    (record c.args.self.now { working = c.settings.new.self }) refl refl c.settings.ensures.looked

pub returns-clause-ok : goal.returns-clause-ok
returns-clause-ok g c =
    IfOk-weaker c.settings.result _ _ (λ settings tells honest rows records so rowed. tells honest rows records so.1 rowed) c.settings.ensures.ok
