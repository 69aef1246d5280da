use Rattle.guest_store.proofs.laws.guest_calls_perform.Goals as goal

pub returns : goal.returns
returns g c = c.calls_perform.ensures (λ s t one other same. same)
