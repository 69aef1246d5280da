-- A whole transaction on a store, in other words.
use Rattle.std.proofs.Common.{Ok, Err, Result}
use Rattle.sqlite.specs.Effect.{Database}
use Rattle.sqlite.specs.State.{State}
use Rattle.sqlite.proofs.StateLemmas.{survives_weaker}
use Rattle.fuse_store_tables.specs.Moves.{RestsAs, ServesAs}

-- each database in the second words is one in the first, and what these make of it is one in the second
pub record Retold {C D : Type 0} (P Q : C → Database → Type 0) (P' Q' : D → Database → Type 0) (z : D) (d : Database) : Type 0 where
  pub content : C
  pub holds : P content d
  pub same : (e : Database) → P content e → P' z e
  pub made : (e : Database) → Q content e → Q' z e

module _ {C D : Type 0} (P Q : C → Database → Type 0) (P' Q' : D → Database → Type 0) (told : (z : D) (d : Database) → P' z d → Retold P Q P' Q' z d) where
  as_told : (z : D) (s : State) (at : RestsAs (P' z) s) → RestsAs (P (told z s.now at.holds).content) s
  as_told z s at = record { is_open = at.is_open; autocommit = at.autocommit; holds = (told z s.now at.holds).holds; committed = at.committed }

  pub served_so : {X E : Type 0} (a b : State) (r : Result X E) → ServesAs P Q a b r → ServesAs P' Q' a b r
  served_so a b (Ok x) p = record {
    survives = survives_weaker a b _ _ (λ _ db left z at.
        let w = told z a.now at.holds in
        let it = left w.content (as_told z a at) in
        (it.0, w.made it.0 it.1, it.2)) p.survives;
    kept = tt;
    done = λ clean z at.
        let w = told z a.now at.holds in
        let now = p.done clean w.content (as_told z a at) in
        record { is_open = now.is_open; autocommit = now.autocommit; holds = w.made b.now now.holds; committed = now.committed };
  }
  served_so a b (Err e) p = record {
    survives = survives_weaker a b _ _ (λ _ db left z at.
        let w = told z a.now at.holds in
        let it = left w.content (as_told z a at) in
        (it.0, w.made it.0 it.1, it.2)) p.survives;
    kept = λ clean is_open z at.
        let w = told z a.now at.holds in
        let now = p.kept clean is_open w.content (as_told z a at) in
        record { is_open = now.is_open; autocommit = now.autocommit; holds = w.same b.now now.holds; committed = now.committed };
    done = tt;
  }
