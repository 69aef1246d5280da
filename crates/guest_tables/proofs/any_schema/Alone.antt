-- What an opening leaves of any database.
use Rattle.std.proofs.Common.{◌≡◌, ◌⊎◌, Ok, Err, Result, IfErr, IsErrAnd, IsTrue, false, sym, ap, subst, ◌∙◌, inl, inr}
use Rattle.std.specs.Result.{IsErr}
use Rattle.sqlite.specs.Tree.{Trees}
use Rattle.sqlite.specs.State.{State, HasCleanDisk, Survives, KeepsCommit}
use Rattle.sqlite.proofs.StateLemmas.{survives_weaker, survives_then}
use Rattle.sqlite.proofs.InsideLemmas.{keeps_then}
use Rattle.sqlite.specs.declared.error.Error.{Error}
use Rattle.fuse_keeper.specs.declared.fault.StoreFault.{StoreFault}
use Rattle.fuse_keeper.specs.Faults.{fault_of}
use Rattle.fuse_store_tables.specs.Faults.{IsOutside}
use Rattle.fuse_store_tables.specs.Saying.{IsRefusal}
use Rattle.guest_tables.proofs.any_schema.Joining.{outside}
use Rattle.fuse_store_tables.specs.inner.Following.{earlier}
use Rattle.sqlite.specs.Effect.{Database}
use Rattle.sqlite.specs.Schema.{Schema}
use Rattle.fuse_store_tables.specs.Layout.{no_schema}
use Rattle.fuse_store_tables.specs.inner.Performing.{OnlyReads, CommitsNothing, TransactsAs}
use Rattle.fuse_store_tables.specs.Moves.{Begins, Ends, Undoes, LeavesAlone}
pub use Rattle.fuse_store_tables.specs.inner.Transaction.{begins_nothing, once_none, once_failed, once_committed, once_undone}

pub commits_then : (a b d : State) → CommitsNothing a b → CommitsNothing b d → CommitsNothing a d
commits_then a b d p q = record {
  survives = survives_then a b d _ _ _ (λ _ db none. none) (λ _ db none. none) p.survives q.survives;
  kept = λ clean. keeps_then a b d (p.kept (earlier b d _ q.survives clean)) (q.kept clean);
}

-- the same, with what was read
pub reads_told : {X Y E F : Type 0} (a b : State) (x : X) (r : Result Y F) → OnlyReads {E = E} a b (Ok x) → OnlyReads a b r
reads_told a b x (Ok y) p = record { commits = p.commits; same = p.same; outside = p.outside; seen = p.seen }
reads_told a b x (Err f) p = record { commits = p.commits; same = tt; outside = p.outside; seen = p.seen }

pub reads_failed : {X Y E F : Type 0} (a b : State) (e : E) (r : Result Y F) → IsErr r → OnlyReads {X = X} a b (Err e) → OnlyReads a b r
reads_failed a b e (Ok y) is p = absurd cc
reads_failed a b e (Err f) is p = record { commits = p.commits; same = tt; outside = p.outside; seen = p.seen }

-- what the second read sees, by what the first one does
seen_then : {X Y E F : Type 0} (a b d : State) (x : X) (r : Result Y F) → OnlyReads {E = E} a b (Ok x) → OnlyReads b d r → HasCleanDisk d
    → IsTrue d.is_open → (d.now ≡ a.now) ⊎ (d.now ≡ a.committed)
seen_then a b d x r p q clean is_open =
    let mid = earlier b d _ q.commits.survives clean in
    elim (q.seen clean is_open) [
      | inl now ↦ inl (now ∙ p.same mid)
      | inr back ↦ inr (back ∙ (p.commits.kept mid).committed ((q.commits.kept clean).was_open is_open))
    ]

pub reads_then : {X Y E F : Type 0} (a b d : State) (x : X) (r : Result Y F) → OnlyReads {E = E} a b (Ok x) → OnlyReads b d r → OnlyReads a d r
reads_then a b d x (Ok y) p q = record {
  commits = commits_then a b d p.commits q.commits;
  same = λ clean. q.same clean ∙ p.same (earlier b d _ q.commits.survives clean);
  outside = λ clean rests. q.outside clean (p.outside (earlier b d _ q.commits.survives clean) rests);
  seen = seen_then a b d x (Ok y) p q;
}
reads_then a b d x (Err f) p q = record {
  commits = commits_then a b d p.commits q.commits;
  same = tt;
  outside = λ clean rests. q.outside clean (p.outside (earlier b d _ q.commits.survives clean) rests);
  seen = seen_then a b d x (Err f) p q;
}

-- what can't be on a clean disk
pub reads_never : {X E : Type 0} (a d : State) (r : Result X E) {K : Trees → Type 0} → (HasCleanDisk d → ⊥) → Survives a d K → OnlyReads a d r
reads_never a d (Ok x) never s = record {
  commits = record { survives = survives_weaker a d _ _ (λ clean db may. never clean) s; kept = λ clean. absurd (never clean) };
  same = λ clean. absurd (never clean);
  outside = λ clean. absurd (never clean);
  seen = λ clean. absurd (never clean);
}
reads_never a d (Err e) never s = record {
  commits = record { survives = survives_weaker a d _ _ (λ clean db may. never clean) s; kept = λ clean. absurd (never clean) };
  same = tt;
  outside = λ clean. absurd (never clean);
  seen = λ clean. absurd (never clean);
}

-- ---- a transaction

-- what was only read is committed as it was
module _ (a b d e : State) {X Y E F : Type 0} (x : X) (y : Y) (stays : IsTrue a.is_open → a.may_leave a.committed.trees)
    (rest : a.in_transaction ≡ false → IsTrue a.is_open → a.now ≡ a.committed) (p : Begins {E = E} a b (Ok x)) (q : OnlyReads {E = F} b d (Ok y)) where
  was : HasCleanDisk d → IsTrue a.is_open
  was clean = let mid = earlier b d _ q.commits.survives clean in (p.kept mid).was_open (p.begun mid).0

  same : HasCleanDisk d → d.now ≡ a.committed
  same clean =
      let mid = earlier b d _ q.commits.survives clean in
      q.same clean ∙ (p.begun mid).2 ∙ rest (p.outside mid) (was clean)

  left : {Z G : Type 0} (r : Result Z G) → Ends d e r → Survives a e (λ _. ⊥)
  left r t =
      let all = survives_then a d e _ _ (λ db. db ≡ d.now.trees) (λ _ db none. absurd none) (λ _ db is. is)
      (survives_then a b d _ _ _ (λ _ db none. none) (λ _ db none. none) p.survives q.commits.survives) t.survives in
      record {
        clean = all.clean;
        shield = all.shield;
        counts = all.counts;
        limit = all.limit;
        closes = all.closes;
        crash = λ clean db may. elim (all.crash clean db may) [
          | inl before ↦ inl before
          | inr is ↦
              let late = earlier d e _ t.survives clean in
              inl (subst a.may_leave (sym (is ∙ ap (λ s. s.trees) (same late))) (stays (was late)))
        ];
      }

  pub committed_same : {Z G : Type 0} (z : Z) → Ends {E = G} d e (Ok z) → CommitsNothing a e
  committed_same z t = record {
    survives = left (Ok z) t;
    kept = λ clean.
        let late = earlier d e _ t.survives clean in
        let on = t.ended clean in
        record { was_open = λ _. was late; committed = λ _. on.3 ∙ on.2 ∙ same late };
  }

  pub failed_same : {Z G : Type 0} (f : G) → Ends {X = Z} d e (Err f) → CommitsNothing a e
  failed_same f t = record {
    survives = left (Err f) t;
    kept = λ clean.
        let late = earlier d e _ t.survives clean in
        keeps_then a d e (keeps_then a b d (p.kept (earlier b d _ q.commits.survives late)) (q.commits.kept late)) (t.kept clean);
  }

-- what committed nothing
pub alone_performs : {C X E : Type 0} (P Q : C → Database → Type 0) (a b : State) (e : E) → CommitsNothing a b → TransactsAs {X = X} P Q a b (Err e)
alone_performs P Q a b e p = record { survives = survives_weaker a b _ _ (λ _ db none. absurd none) p.survives; kept = λ clean c at. p.kept clean; done = tt }

-- what is seen in the transaction was there before it
pub was_empty : (was is : Database) (schema : Schema) → is ≡ was → schema ≡ is.schema → schema ≡ no_schema → was.schema ≡ no_schema
was_empty was is schema same seen empty = ap (λ (d : Database). d.schema) (sym same) ∙ sym seen ∙ empty

-- ---- and its end

pub left_alone : (a b : State) → CommitsNothing a b → (HasCleanDisk b → (b.in_transaction ≡ false) × (b.now ≡ b.committed)) → LeavesAlone a b
left_alone a b p ended = record {
  survives = p.survives;
  autocommit = λ clean. (ended clean).0;
  same = λ clean is_open. ((p.kept clean).was_open is_open, (p.kept clean).committed is_open, (ended clean).1);
}

pub undone_alone : (a b d : State) → CommitsNothing a b → Undoes b d → LeavesAlone a d
undone_alone a b d p u = record {
  survives = survives_then a b d _ _ _ (λ _ db none. none) (λ _ db none. absurd none) p.survives u.survives;
  autocommit = u.autocommit;
  same = λ clean is_open.
      let back = u.undone clean is_open in
      let kept = p.kept (earlier b d _ u.survives clean) in
      (kept.was_open back.0, back.2 ∙ kept.committed back.0, back.1 ∙ sym back.2);
}

-- what was committed is seen again
pub undone_kept : (a b d : State) → (HasCleanDisk b → KeepsCommit a b) → Undoes b d → HasCleanDisk d → IsTrue d.is_open
    → (d.now ≡ a.committed) × (d.committed ≡ a.committed)
undone_kept a b d keeps u clean is_open =
    let back = u.undone clean is_open in
    let kept = (keeps (earlier b d _ u.survives clean)).committed back.0 in
    (back.1 ∙ kept, back.2 ∙ kept)

pub outside_is : {X : Type 0} (e : Error) (r : Result X StoreFault) → IsErrAnd r (λ f. f ≡ fault_of e) → IfErr r IsOutside
outside_is e (Ok x) same = tt
outside_is e (Err f) same = subst IsOutside (sym same) (outside e)

pub outside_err : {C X : Type 0} (R : C → Type 0) (e : Error) (r : Result X StoreFault) → IsErrAnd r (λ f. f ≡ fault_of e)
    → IfErr r (λ f. (c : C) → R c → IsOutside f)
outside_err R e (Ok x) same = tt
outside_err R e (Err f) same = λ c at. subst IsOutside (sym same) (outside e)

-- whatever the fault is
pub on_refusal : {X : Type 0} (a b : State) (r : Result X StoreFault) → CommitsNothing a b → IfErr r (λ f. IsRefusal f → CommitsNothing a b)
on_refusal a b (Ok x) p = tt
on_refusal a b (Err f) p = λ refused. p
