-- What a transaction leaves of any database, whatever its tables are.
use Rattle.std.proofs.Common.{Result, Ok, Err, IfErr, OnErr, refl, sym, ap, ◌≡◌, ◌∙◌, false}
use Rattle.sqlite.specs.Effect.{Database}
use Rattle.sqlite.specs.State.{State, HasCleanDisk, KeepsCommit}
use Rattle.sqlite.specs.declared.error.Error.{Error}
use Rattle.sqlite.proofs.StateLemmas.{survives_then, survives_weaker}
use Rattle.sqlite.proofs.InsideLemmas.{keeps_then}
use Rattle.fuse_keeper.specs.Faults.{fault_of}
use Rattle.fuse_keeper.specs.declared.fault.StoreFault.{StoreFault}
use Rattle.fuse_keeper.specs.declared.fault.StoreFault.TheVariants.{Memory, Sql, NotAStore, Version, Damaged, Guest as GuestFailed}
use Rattle.fuse_store_tables.specs.Faults.{IsOutside}
use Rattle.fuse_store_tables.specs.Saying.{IsRefusal}
use Rattle.fuse_store_tables.specs.Moves.{Begins, Ends, Undoes, Stays, CommitsNothing, CommitsOnce, LeavesAlone, RollsBack}
use Rattle.fuse_store_tables.specs.inner.Following.{earlier}
use Rattle.guest_store.specs.StoreState.{EndsWhole}
use Rattle.guest_store.specs.inner.Showing.{same_survives}
use Rattle.guest_store.specs.inner.Transacting.{Tries}
use Rattle.guest_store.proofs.Tables.{outside_of}

-- ---- nothing is committed

pub nothing_begun : (a b : State) (error : Error) → Begins {X = Unit {0}} a b (Err error) → CommitsNothing a b
nothing_begun a b error p = record { survives = p.survives; kept = p.kept }

pub nothing_inside : {U : Type 0} (u : U) (a b d : State) → Begins {E = Error} a b (Ok u) → Stays b d → CommitsNothing a d
nothing_inside u a b d p q = record {
  survives = survives_then a b d _ _ _ (λ _ db none. none) (λ clean db none. absurd (none (p.begun (earlier b d _ q.survives clean)).1)) p.survives q.survives;
  kept = λ clean.
      let mid = earlier b d _ q.survives clean in
      keeps_then a b d (p.kept mid) (q.kept clean (p.begun mid).1);
}

pub nothing_then : (a b d : State) → CommitsNothing a b → CommitsNothing b d → CommitsNothing a d
nothing_then a b d p q = record {
  survives = survives_then a b d _ _ _ (λ _ db none. none) (λ _ db none. none) p.survives q.survives;
  kept = λ clean. keeps_then a b d (p.kept (earlier b d _ q.survives clean)) (q.kept clean);
}

pub nothing_same : (a : State) → CommitsNothing a a
nothing_same a = record { survives = same_survives a _; kept = λ clean. record { was_open = λ is_open. is_open; committed = λ is_open. refl } }

-- the fault of a statement refuses nothing
no_refusal : (s : StoreFault) → IsOutside s → IsRefusal s → ⊥
no_refusal Memory is refusal = refusal
no_refusal (Sql e) is refusal = refusal
no_refusal NotAStore is refusal = is
no_refusal (Version v) is refusal = is
no_refusal Damaged is refusal = is
no_refusal GuestFailed is refusal = is

module _ {A : Type 0} where
  pub tries_nothing : (a b : State) (s : StoreFault) → CommitsNothing a b → Tries {A = A} a b (Err s)
  tries_nothing a b s p = record {
    refused = λ is. p;
    once = record { trees = a.now.trees; survives = survives_weaker a b _ _ (λ _ db none. absurd none) p.survives; made = tt };
  }

  -- the commit was tried: a crash leaves what was there before, or what the transaction made
  pub tries_failed : (a b d : State) (error : Error) (s : StoreFault) → s ≡ fault_of error → CommitsNothing a b → Ends {X = Unit {0}} b d (Err error)
      → Tries {A = A} a d (Err s)
  tries_failed a b d error s is p z = record {
    refused = λ refusal. absurd (no_refusal s (outside_of error s is) refusal);
    once = record {
      trees = b.now.trees;
      survives = survives_then a b d _ _ _ (λ _ db none. absurd none) (λ _ db same. same) p.survives z.survives;
      made = tt;
    };
  }

  pub tries_done : {V : Type 0} (a b d : State) (x : A) (v : V) → CommitsNothing a b → Ends {E = Error} b d (Ok v) → Tries a d (Ok x)
  tries_done a b d x v p z = record {
    refused = tt;
    once = record {
      trees = b.now.trees;
      survives = survives_then a b d _ _ _ (λ _ db none. absurd none) (λ _ db same. same) p.survives z.survives;
      made = λ clean. ap (λ (w : Database). w.trees) (sym (z.ended clean).2);
    };
  }

-- ---- with the rollback after a fault

pub alone_undone : (a b d : State) → CommitsNothing a b → Undoes b d → LeavesAlone a d
alone_undone a b d p u = record {
  survives = survives_then a b d _ _ _ (λ _ db none. none) (λ _ db none. none) p.survives u.survives;
  autocommit = u.autocommit;
  same = λ clean is_open.
      let back = u.undone clean is_open in
      let kept = p.kept (earlier b d _ u.survives clean) in
      (kept.was_open back.0, back.2 ∙ kept.committed back.0, back.1 ∙ sym back.2);
}

-- what was rolled back already
pub alone_back : (a b : State) → CommitsNothing a b → (HasCleanDisk b → b.in_transaction ≡ false) → (HasCleanDisk b → b.now ≡ b.committed) → LeavesAlone a b
alone_back a b p ended back = record {
  survives = p.survives;
  autocommit = ended;
  same = λ clean is_open.
      let kept = p.kept clean in
      (kept.was_open is_open, kept.committed is_open, back clean);
}

module _ {A : Type 0} where
  pub ends_undone : (a b d : State) (s : StoreFault) → Tries {A = A} a b (Err s) → (HasCleanDisk b → KeepsCommit a b) → Undoes b d → EndsWhole {A = A} a d (Err s)
  ends_undone a b d s p keeps u = record {
    ended = u.autocommit;
    refused = λ is. alone_undone a b d (p.refused is) u;
    undone = λ clean is_open.
        let back = u.undone clean is_open in
        let same = (keeps (earlier b d _ u.survives clean)).committed back.0 in
        (back.1 ∙ same, back.2 ∙ same);
    once = record {
      trees = p.once.trees;
      survives = survives_then a b d _ _ _ (λ _ db same. same) (λ _ db none. absurd none) p.once.survives u.survives;
      made = tt;
    };
  }

  pub ends_done : (a b : State) (x : A) → Tries a b (Ok x) → (HasCleanDisk b → b.in_transaction ≡ false) → EndsWhole a b (Ok x)
  ends_done a b x p ended = record {
    ended = ended;
    refused = tt;
    undone = tt;
    once = record { trees = p.once.trees; survives = p.once.survives; made = p.once.made };
  }

  -- nothing was changed
  pub ends_alone : (a b : State) (r : Result A StoreFault) → LeavesAlone a b → EndsWhole a b r
  ends_alone a b (Ok x) p = record {
    ended = p.autocommit;
    refused = tt;
    undone = tt;
    once = record { trees = b.now.trees; survives = survives_weaker a b _ _ (λ _ db none. absurd none) p.survives; made = λ clean. refl };
  }
  ends_alone a b (Err s) p = record {
    ended = p.autocommit;
    refused = λ is. p;
    undone = λ clean is_open.
        let same = p.same clean is_open in
        (same.2 ∙ same.1, same.1);
    once = record { trees = b.now.trees; survives = survives_weaker a b _ _ (λ _ db none. absurd none) p.survives; made = tt };
  }

-- the fault of a call that ends its transaction is that of a statement
pub ends_outside : {A : Type 0} (a b : State) (r : Result A StoreFault) → (HasCleanDisk b → b.in_transaction ≡ false) → IfErr r IsOutside → OnErr r (RollsBack a b)
    → CommitsOnce a b r → EndsWhole a b r
ends_outside a b (Ok x) ended outside undone once = record { ended = ended; refused = tt; undone = tt; once = once }
ends_outside a b (Err s) ended outside undone once = record { ended = ended; refused = λ refusal. absurd (no_refusal s outside refusal); undone = undone; once = once }

-- the same of another value
pub ends_as : {A B : Type 0} (a b : State) (x : A) (y : B) → EndsWhole a b (Ok x) → EndsWhole a b (Ok y)
ends_as a b x y p = record { ended = p.ended; refused = tt; undone = tt; once = record { trees = p.once.trees; survives = p.once.survives; made = p.once.made } }

pub ends_fails : {A B : Type 0} (a b : State) (s : StoreFault) → EndsWhole {A = A} a b (Err s) → EndsWhole {A = B} a b (Err s)
ends_fails a b s p = record { ended = p.ended; refused = p.refused; undone = p.undone; once = record { trees = p.once.trees; survives = p.once.survives; made = tt } }
