use Rattle.std.proofs.Common.{refl}
use Rattle.std.proofs.lemmas.Result.{IfOk-weaker}
use Rattle.two_copies.proofs.Both.{looked_working}
use Rattle.two_copies.proofs.copies.TwoCopiesKeeper.answer_of.Goals as goal

pub returns-clause-looked : goal.returns-clause-looked
returns-clause-looked g c =
    looked_working g.F.FileSystem.model g.F.FileSystem.held c.answer_of.result c.args.self.now
    (record c.args.self.now { working = c.answer_of.new.self }) refl refl c.answer_of.ensures.looked

pub returns-clause-ok : goal.returns-clause-ok
returns-clause-ok g c = IfOk-weaker c.answer_of.result _ _ (λ answer finds honest rows records so. finds honest rows records so.1) c.answer_of.ensures.ok
