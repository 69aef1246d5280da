-- What is left of what an opening makes ready before its commit.
use Rattle.std.proofs.Common.{◌≡◌, ◌⊎◌, Ok, Err, Result, IfErr, IsErrAnd, inl, inr, refl, subst, sym}
use Rattle.sqlite.specs.State.{State, Survives}
use Rattle.sqlite.proofs.StateLemmas.{survives_then}
use Rattle.sqlite.specs.Effect.{Database}
use Rattle.sqlite.specs.declared.error.Error.{Error}
use Rattle.fuse_keeper.specs.Faults.{fault_of}
use Rattle.fuse_keeper.specs.declared.fault.StoreFault.{StoreFault}
use Rattle.fuse_keeper.specs.declared.fault.StoreFault.TheVariants.{Memory, Sql, NotAStore, Version, Damaged, Guest}
use Rattle.fuse_store_tables.specs.Faults.{IsOutside}
use Rattle.fuse_store_tables.specs.Moves.{Undoes}
use Rattle.fuse_store_tables.specs.Readying.{LeavesReadied}
use Rattle.fuse_store_tables.specs.Saying.{Says}
use Rattle.fuse_store_tables.proofs.Joining.{outside}

pub outside_says : (d : Database) (f : StoreFault) → IsOutside f → Says d f
outside_says d Memory out = tt
outside_says d (Sql e) out = tt
outside_says d NotAStore out = absurd out
outside_says d (Version n) out = absurd out
outside_says d Damaged out = absurd out
outside_says d Guest out = absurd out

module _ {T : Type 0} (makes leaves : T → T → Type 0) where
  -- nothing was begun
  pub readied_none : {X : Type 0} (Alone : Type 0) (x : T) (r : Result X StoreFault) → Alone → IfErr r (LeavesReadied makes leaves Alone x x)
  readied_none Alone x (Ok y) alone = tt
  readied_none Alone x (Err f) alone = inl (refl, alone)

  -- a test failed, or it could not be made ready
  pub readied_tested : (Alone : Type 0) (x y : T) (f : StoreFault) → Alone → (y ≡ x) ⊎ (IsOutside f × leaves x y) → LeavesReadied makes leaves Alone x y f
  readied_tested Alone x y f alone (inl same) = inl (same, alone)
  readied_tested Alone x y f alone (inr left) = inr (left.0, inl (left.1, alone))

  -- the commit failed
  pub readied_made : {X : Type 0} (Alone : Type 0) (x y : T) (e : Error) (r : Result X StoreFault) → IsErrAnd r (λ f. f ≡ fault_of e) → makes x y
      → IfErr r (LeavesReadied makes leaves Alone x y)
  readied_made Alone x y e (Ok z) is made = tt
  readied_made Alone x y e (Err f) is made = inr (subst IsOutside (sym is) (outside e), inr made)

  -- and all was rolled back
  pub readied_undone : (a b d : State) (x y : T) (f : StoreFault) → LeavesReadied makes leaves (Survives a b (λ _. ⊥)) x y f → Undoes b d
      → LeavesReadied makes leaves (Survives a d (λ _. ⊥)) x y f
  readied_undone a b d x y f left u = by left
    where
      on : Survives a b (λ _. ⊥) → Survives a d (λ _. ⊥)
      on s = survives_then a b d _ _ _ (λ _ db none. none) (λ _ db none. absurd none) s u.survives

      by : LeavesReadied makes leaves (Survives a b (λ _. ⊥)) x y f → LeavesReadied makes leaves (Survives a d (λ _. ⊥)) x y f
      by (inl same) = inl (same.0, on same.1)
      by (inr (out, inl left)) = inr (out, inl (left.0, on left.1))
      by (inr (out, inr made)) = inr (out, inr made)
