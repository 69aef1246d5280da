use Rattle.std.proofs.Common.{refl}
use Rattle.std.proofs.lemmas.Result.{IfOk-weaker}
use Rattle.two_copies.proofs.Both.{looked_working}
use Rattle.two_copies.proofs.copies.TwoCopiesKeeper.counts.Goals as goal

pub returns-clause-looked : goal.returns-clause-looked
returns-clause-looked g c =
    looked_working g.F.FileSystem.model g.F.FileSystem.held c.counts.result c.args.self.now
    (record c.args.self.now { working = c.counts.new.self }) refl refl c.counts.ensures.looked

pub returns-clause-nodes : goal.returns-clause-nodes
returns-clause-nodes g c =
    IfOk-weaker c.counts.result _ _ (λ counts tells honest rows records so rowed. tells honest rows records so.1 rowed) c.counts.ensures.nodes

pub returns-clause-handles : goal.returns-clause-handles
returns-clause-handles g c =
    IfOk-weaker c.counts.result _ _ (λ counts tells honest rows records so rowed. tells honest rows records so.1 rowed) c.counts.ensures.handles

pub returns-clause-lots : goal.returns-clause-lots
returns-clause-lots g c =
    IfOk-weaker c.counts.result _ _ (λ counts tells honest rows records so rowed. tells honest rows records so.1 rowed) c.counts.ensures.lots
