-- Reads one after another change nothing, whatever the database is.
use Rattle.std.proofs.Common.{◌≡◌, ◌⊎◌, Ok, Err, Result, IsTrue, inl, inr, refl, arith, ◌∙◌}
use Rattle.std.specs.Result.{IsErr}
use Rattle.sqlite.specs.Tree.{Trees}
use Rattle.sqlite.specs.State.{State, HasCleanDisk, Survives}
use Rattle.sqlite.proofs.StateLemmas.{survives_then}
use Rattle.sqlite.proofs.InsideLemmas.{keeps_then}
use Rattle.fuse_store_tables.specs.Moves.{OnlyReads, CommitsNothing}
use Rattle.fuse_store_tables.specs.inner.Following.{earlier}

pub no_step : (a : State) (P : Trees → Type 0) → Survives a a P
no_step a P = record {
  clean = omega arith;
  shield = λ is. is;
  counts = omega arith;
  limit = refl;
  closes = λ clean is_open. inl is_open;
  crash = λ clean db may. inl may;
}

nothing_done : (a : State) → CommitsNothing a a
nothing_done a = record { survives = no_step a _; kept = λ clean. record { was_open = λ is. is; committed = λ is. refl } }

-- nothing was read
pub reads_none : {Y F : Type 0} (a : State) (r : Result Y F) → OnlyReads a a r
reads_none a (Ok y) = record { commits = nothing_done a; same = λ clean. refl; outside = λ clean rests. rests; seen = λ clean is_open. inl refl }
reads_none a (Err f) = record { commits = nothing_done a; same = tt; outside = λ clean rests. rests; seen = λ clean is_open. inl refl }

-- the same, with what was read
pub reads_told : {X Y E F : Type 0} (a b : State) (x : X) (r : Result Y F) → OnlyReads {E = E} a b (Ok x) → OnlyReads a b r
reads_told a b x (Ok y) p = record { commits = p.commits; same = p.same; outside = p.outside; seen = p.seen }
reads_told a b x (Err f) p = record { commits = p.commits; same = tt; outside = p.outside; seen = p.seen }

pub reads_failed : {X Y E F : Type 0} (a b : State) (e : E) (r : Result Y F) → IsErr r → OnlyReads {X = X} a b (Err e) → OnlyReads a b r
reads_failed a b e (Ok y) is p = absurd cc
reads_failed a b e (Err f) is p = record { commits = p.commits; same = tt; outside = p.outside; seen = p.seen }

both : (a b d : State) → CommitsNothing a b → CommitsNothing b d → CommitsNothing a d
both a b d p q = record {
  survives = survives_then a b d _ _ _ (λ _ db none. none) (λ _ db none. none) p.survives q.survives;
  kept = λ clean. keeps_then a b d (p.kept (earlier b d _ q.survives clean)) (q.kept clean);
}

-- what the second read sees, by what the first one does
seen_then : {X Y E F : Type 0} (a b d : State) (x : X) (r : Result Y F) → OnlyReads {E = E} a b (Ok x) → OnlyReads b d r → HasCleanDisk d
    → IsTrue d.is_open → (d.now ≡ a.now) ⊎ (d.now ≡ a.committed)
seen_then a b d x r p q clean is_open =
    let mid = earlier b d _ q.commits.survives clean in
    elim (q.seen clean is_open) [
      | inl now ↦ inl (now ∙ p.same mid)
      | inr back ↦ inr (back ∙ (p.commits.kept mid).committed ((q.commits.kept clean).was_open is_open))
    ]

pub reads_then : {X Y E F : Type 0} (a b d : State) (x : X) (r : Result Y F) → OnlyReads {E = E} a b (Ok x) → OnlyReads b d r → OnlyReads a d r
reads_then a b d x (Ok y) p q = record {
  commits = both a b d p.commits q.commits;
  same = λ clean. q.same clean ∙ p.same (earlier b d _ q.commits.survives clean);
  outside = λ clean rests. q.outside clean (p.outside (earlier b d _ q.commits.survives clean) rests);
  seen = seen_then a b d x (Ok y) p q;
}
reads_then a b d x (Err f) p q = record {
  commits = both a b d p.commits q.commits;
  same = tt;
  outside = λ clean rests. q.outside clean (p.outside (earlier b d _ q.commits.survives clean) rests);
  seen = seen_then a b d x (Err f) p q;
}
