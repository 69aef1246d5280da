-- A step that asks nothing of the database.
use Rattle.std.proofs.Common.{inl, refl, arith}
use Rattle.sqlite.specs.Tree.{Trees}
use Rattle.sqlite.specs.State.{State, Survives, KeepsCommit}

pub no_step : (a : State) (P : Trees → Type 0) → Survives a a P
no_step a P = record {
  clean = omega arith;
  shield = λ is. is;
  counts = omega arith;
  limit = refl;
  closes = λ clean is_open. inl is_open;
  crash = λ clean db may. inl may;
}

pub still : (a : State) → KeepsCommit a a
still a = record { was_open = λ is. is; committed = λ is. refl }
