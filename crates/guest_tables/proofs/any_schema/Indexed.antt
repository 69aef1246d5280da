-- The index of the entries, which an open finds or makes.
use Rattle.std.proofs.Common.{Ok, Err, Result, sym, subst}
use Rattle.sqlite.specs.Effect.{Database}
use Rattle.sqlite.specs.State.{State}
use Rattle.fuse_store_tables.specs.Moves.{Takes}
use Rattle.fuse_store_tables.specs.inner.Performing.{OnlyReads}

-- ---- a read, and then the index

-- a read keeps whatever is known of the database
pub stays_as : {C X E : Type 0} (P Q : C → Database → Type 0) → ((c : C) (d : Database) → P c d → Q c d) → (a b : State) (r : Result X E) → Takes Q Q a b r
    → OnlyReads a b r → Takes P P a b r
stays_as P Q to a b (Ok x) p reads = record {
  stays = p.stays;
  within = p.within;
  turns = λ clean c at.
      let on = p.turns clean c (record { is_open = at.is_open; in_transaction = at.in_transaction; holds = to c a.now at.holds }) in
      record { is_open = on.is_open; in_transaction = on.in_transaction; holds = subst (P c) (sym (reads.same clean)) at.holds };
}
stays_as P Q to a b (Err e) p reads = record { stays = p.stays; within = tt; turns = tt }
