-- A whole transaction on a store, in other words.
use Rattle.std.proofs.Common.{◌≡◌, false, Ok, Err, Result, OnOk, OnErr, IfErr, IsTrue, sym, subst, ◌∙◌}
use Rattle.sqlite.specs.Effect.{Database}
use Rattle.sqlite.specs.State.{State, HasCleanDisk, Survives}
use Rattle.sqlite.proofs.StateLemmas.{survives_weaker}
use Rattle.fuse_keeper.specs.declared.fault.StoreFault.{StoreFault}
use Rattle.fuse_store_tables.specs.Content.{LeftAs}
use Rattle.fuse_store_tables.specs.Faults.{IsOutside}
use Rattle.fuse_store_tables.specs.Moves.{RestsAs, RollsBack, ServesAs, IsSafe}

-- each database in the second words is one in the first, and what these make of it is one in the second
pub record Retold {C D : Type 0} (P Q : C → Database → Type 0) (P' Q' : D → Database → Type 0) (z : D) (d : Database) : Type 0 where
  pub content : C
  pub holds : P content d
  pub same : (e : Database) → P content e → P' z e
  pub made : (e : Database) → Q content e → Q' z e

module _ {C D : Type 0} (P Q : C → Database → Type 0) (P' Q' : D → Database → Type 0) (told : (z : D) (d : Database) → P' z d → Retold P Q P' Q' z d) where
  as_told : (z : D) (s : State) (at : RestsAs (P' z) s) → RestsAs (P (told z s.now at.holds).content) s
  as_told z s at = record { is_open = at.is_open; autocommit = at.autocommit; holds = (told z s.now at.holds).holds; committed = at.committed }

  pub served_so : {X E : Type 0} (a b : State) (r : Result X E) → ServesAs P Q a b r → ServesAs P' Q' a b r
  served_so a b (Ok x) p = record {
    survives = survives_weaker a b _ _ (λ _ db left z at.
        let w = told z a.now at.holds in
        let it = left w.content (as_told z a at) in
        (it.0, w.made it.0 it.1, it.2)) p.survives;
    kept = tt;
    done = λ clean z at.
        let w = told z a.now at.holds in
        let now = p.done clean w.content (as_told z a at) in
        record { is_open = now.is_open; autocommit = now.autocommit; holds = w.made b.now now.holds; committed = now.committed };
  }
  served_so a b (Err e) p = record {
    survives = survives_weaker a b _ _ (λ _ db left z at.
        let w = told z a.now at.holds in
        let it = left w.content (as_told z a at) in
        (it.0, w.made it.0 it.1, it.2)) p.survives;
    kept = λ clean is_open z at.
        let w = told z a.now at.holds in
        let now = p.kept clean is_open w.content (as_told z a at) in
        record { is_open = now.is_open; autocommit = now.autocommit; holds = w.same b.now now.holds; committed = now.committed };
    done = tt;
  }

  pub safe_so : {X : Type 0} (a b : State) (r : Result X StoreFault) → IsSafe P a b r → IsSafe P' a b r
  safe_so a b (Ok x) p clean = tt
  safe_so a b (Err e) p clean = λ z at. p clean (told z a.now at.holds).content (as_told z a at)

-- ---- where a call that fails leaves what was committed

pub record Reread {C D : Type 0} (P Q : C → Database → Type 0) (P' Q' : D → Database → Type 0) (z : D) (d : Database) : Type 0 where
  pub content : C
  pub holds : P content d
  pub made : (e : Database) → Q content e → Q' z e

module _ {C D : Type 0} (P Q : C → Database → Type 0) (P' Q' : D → Database → Type 0) (read : (z : D) (d : Database) → P' z d → Reread P Q P' Q' z d) where
  as_read : (z : D) (s : State) (at : RestsAs (P' z) s) → RestsAs (P (read z s.now at.holds).content) s
  as_read z s at = record { is_open = at.is_open; autocommit = at.autocommit; holds = (read z s.now at.holds).holds; committed = at.committed }

  survive : (a b : State) → Survives a b (λ db. (c : C) → RestsAs (P c) a → LeftAs (Q c) db) → Survives a b (λ db. (z : D) → RestsAs (P' z) a → LeftAs (Q' z) db)
  survive a b s = survives_weaker a b _ _ (λ _ db left z at.
      let w = read z a.now at.holds in
      let it = left w.content (as_read z a at) in
      (it.0, w.made it.0 it.1, it.2)) s

  pub served_undone : {X E : Type 0} (a b : State) (r : Result X E) → ServesAs P Q a b r → (HasCleanDisk b → b.in_transaction ≡ false)
      → OnErr r (HasCleanDisk b → IsTrue b.is_open → (b.now ≡ a.committed) × (b.committed ≡ a.committed)) → ServesAs P' Q' a b r
  served_undone a b (Ok x) p ended undone = record {
    survives = survive a b p.survives;
    kept = tt;
    done = λ clean z at.
        let w = read z a.now at.holds in
        let now = p.done clean w.content (as_read z a at) in
        record { is_open = now.is_open; autocommit = now.autocommit; holds = w.made b.now now.holds; committed = now.committed };
  }
  served_undone a b (Err e) p ended undone = record {
    survives = survive a b p.survives;
    kept = λ clean is_open z at.
        let back = undone clean is_open in
        record {
          is_open = is_open;
          autocommit = ended clean;
          holds = subst (P' z) (sym (back.0 ∙ at.committed)) at.holds;
          committed = back.1 ∙ sym back.0;
        };
    done = tt;
  }

  pub safe_undone : {X : Type 0} (a b : State) (r : Result X StoreFault) → IsSafe P a b r → IsSafe P' a b r
  safe_undone a b (Ok x) p clean = tt
  safe_undone a b (Err e) p clean = λ z at. p clean (read z a.now at.holds).content (as_read z a at)

-- ---- where what is known before the call says that the store is so

module _ {C : Type 0} (P Q : C → Database → Type 0) (W : C → Type 0) (a b : State) (so : (c : C) → W c → RestsAs (P c) a) where
  pub done_so : {X E : Type 0} (r : Result X E) → ServesAs P Q a b r → HasCleanDisk b → OnOk r ((c : C) → W c → RestsAs (Q c) b)
  done_so (Ok x) p clean = λ c w. p.done clean c (so c w)
  done_so (Err e) p clean = tt

  pub kept_so : {X E : Type 0} (r : Result X E) → ServesAs P Q a b r
      → OnErr r (HasCleanDisk b → IsTrue b.is_open → (c : C) → W c → RestsAs (P c) b)
  kept_so (Ok x) p = tt
  kept_so (Err e) p = λ clean is_open c w. p.kept clean is_open c (so c w)

  pub crash_so : {X E : Type 0} (r : Result X E) → ServesAs P Q a b r → Survives a b (λ db. (c : C) → W c → LeftAs (Q c) db)
  crash_so r p = survives_weaker a b _ _ (λ _ db left c w. left c (so c w)) p.survives

  pub sure_so : {X : Type 0} (r : Result X StoreFault) → IsSafe P a b r → HasCleanDisk b → IfErr r (λ f. (c : C) → W c → IsOutside f)
  sure_so (Ok x) p clean = tt
  sure_so (Err e) p clean = λ c w. p clean c (so c w)

-- ---- where what was committed is seen

pub kept_back : {C X E : Type 0} (P : C → Database → Type 0) (W : C → Type 0) (a b : State) → ((c : C) → W c → RestsAs (P c) a) → (HasCleanDisk b → b.in_transaction ≡ false)
    → (r : Result X E) → OnErr r (RollsBack a b) → OnErr r (HasCleanDisk b → IsTrue b.is_open → (c : C) → W c → RestsAs (P c) b)
kept_back P W a b so ended (Ok x) back = tt
kept_back P W a b so ended (Err e) back = λ clean is_open c w.
    let at = so c w in
    let now = back clean is_open in
    record {
      is_open = is_open;
      autocommit = ended clean;
      holds = subst (P c) (sym (now.0 ∙ at.committed)) at.holds;
      committed = now.1 ∙ sym now.0;
    }

-- two facts, one after the other
pub curried : {C X E : Type 0} (A B Q : C → Type 0) (r : Result X E) → OnOk r ((c : C) → A c × B c → Q c) → OnOk r ((c : C) → A c → B c → Q c)
curried A B Q (Ok x) so = λ c a b. so c (a, b)
curried A B Q (Err e) so = tt

pub curried_fault : {C X : Type 0} (A B : C → Type 0) (r : Result X StoreFault) → IfErr r (λ f. (c : C) → A c × B c → IsOutside f)
    → IfErr r (λ f. (c : C) → A c → B c → IsOutside f)
curried_fault A B (Ok x) so = tt
curried_fault A B (Err e) so = λ c a b. so c (a, b)
