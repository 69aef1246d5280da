use Rattle.std.proofs.Common.{◌≡◌, false, refl, subst}
use Rattle.std.specs.Prelude.{IfOk}
use Rattle.fuse_files.proofs.simulating.simulate_opened.Goals as goal

pub simulate_over-requires : goal.simulate_over-requires
simulate_over-requires g c = record {
  going = subst (λ r. IfOk r (λ k. (g.K.Keeper.told k).has_failed ≡ false)) c.in-Ok.is c.requires.going;
  serves = subst (λ r. IfOk r (λ k. (g.K.Keeper.told k).service ≡ g.K.Keeper.model.service)) c.in-Ok.is c.requires.serves;
}

pub returns-in-Ok-clause-ran : goal.returns-in-Ok-clause-ran
returns-in-Ok-clause-ran g c = rw c.in-Ok.is c.simulate_over.ensures.ran

pub returns-in-Ok-clause-fault : goal.returns-in-Ok-clause-fault
returns-in-Ok-clause-fault g c = rw c.in-Ok.is tt

pub returns-in-Err-clause-ran : goal.returns-in-Err-clause-ran
returns-in-Err-clause-ran g c = rw c.in-Err.is tt

pub returns-in-Err-clause-fault : goal.returns-in-Err-clause-fault
returns-in-Err-clause-fault g c = rw c.in-Err.is (c.ending_of.ensures.is, refl)
