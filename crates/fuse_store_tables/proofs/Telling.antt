-- What a read within a transaction says of a store that rested before it.
use Rattle.std.proofs.Common.{◌≡◌, ℕ, Ok, Err, Result, IfOk, IfErr, sym, subst}
use Rattle.sqlite.specs.State.{State, HasCleanDisk}
use Rattle.fuse_keeper.specs.declared.fault.StoreFault.{StoreFault}
use Rattle.fuse_store_tables.specs.Faults.{IsOutside}
use Rattle.fuse_store_tables.specs.Content.{Content, value_at}
use Rattle.fuse_store_tables.specs.Opening.{IsStored}
use Rattle.fuse_store_tables.specs.Moves.{RestsAs, InsideAs, IsReady, Begins}

module _ {X E : Type 0} (a b : State) (x : X) (p : Begins {E = E} a b (Ok x)) (clean : HasCleanDisk b) where
  inside : (c : Content) → RestsAs (IsStored c) a → InsideAs (IsStored c) b
  inside c at = let on = p.begun clean in record { is_open = on.0; in_transaction = on.1; holds = subst (IsStored c) (sym on.2) at.holds }

  pub told_rested : (r : Result ℕ StoreFault) → IfOk r (λ n. (c : Content) → InsideAs (IsStored c) b → n ≡ value_at 1 c)
      → IfOk r (λ n. (c : Content) → RestsAs (IsStored c) a → n ≡ value_at 1 c)
  told_rested (Ok n) told = λ c at. told c (inside c at)
  told_rested (Err f) told = tt

  pub safe_rested : {Y : Type 0} (r : Result Y StoreFault) → IfErr r (λ f. IsReady IsStored b → IsOutside f)
      → IfErr r (λ f. (c : Content) → RestsAs (IsStored c) a → IsOutside f)
  safe_rested (Ok y) sure = tt
  safe_rested (Err f) sure = λ c at. sure (c, inside c at)
