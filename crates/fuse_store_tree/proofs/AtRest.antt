-- Reads at rest, one after another, of the tables of version 3.
use Rattle.std.proofs.Common.{◌≡◌, ℕ, Ok, Err, Result, refl, subst}
use Rattle.sqlite.specs.Effect.{Database}
use Rattle.sqlite.specs.State.{State, HasCleanDisk}
use Rattle.sqlite.proofs.StateLemmas.{survives_weaker}
use Rattle.fuse_keeper.specs.declared.fault.StoreFault.{StoreFault}
use Rattle.fuse_store_tables.specs.declared.version.Layout.{Layout}
use Rattle.fuse_store_tables.specs.Content.{Content, Holds, HoldsIn, LeftAs}
use Rattle.fuse_store_tables.specs.Moves.{Rests, RestsAs, Serves, ServesAs, StaysOpen}
use Rattle.fuse_store_tree.proofs.OnlyReading.{no_step}

-- nothing was read yet
pub rests_none : {C X E : Type 0} (P : C → Database → Type 0) (a : State) (x : X) → ServesAs {X = X} {E = E} P P a a (Ok x)
rests_none P a x = record { survives = no_step a _; kept = tt; done = λ clean c at. at }

pub open_none : {X E : Type 0} (a : State) (x : X) → StaysOpen {X = X} {E = E} a a (Ok x)
open_none a x = record { was = λ clean is_open. is_open; still = λ clean is_open. is_open }

-- what rests is of the layout that was looked at
pub laid_out : (layout : Layout) (a : State) → ((c : Content) → Rests c a → c.layout ≡ layout) → (c : Content) → Rests c a → RestsAs (HoldsIn layout c) a
laid_out layout a laid c at = record { is_open = at.is_open; autocommit = at.autocommit; holds = (at.holds, laid c at); committed = at.committed }

of_layout : (layout : Layout) (s : State) (c : Content) → RestsAs (HoldsIn layout c) s → Rests c s
of_layout layout s c at = record { is_open = at.is_open; autocommit = at.autocommit; holds = at.holds.0; committed = at.committed }

-- so whatever serves that serves all
pub serves_all : {X E : Type 0} (layout : Layout) (a b : State) (r : Result X E) → ((c : Content) → Rests c a → c.layout ≡ layout)
    → ServesAs (HoldsIn layout) (HoldsIn layout) a b r → Serves (λ c. c) a b r
serves_all layout a b (Ok x) laid p = record {
  survives = survives_weaker a b _ _ (λ _ db left c at. let is = left c (laid_out layout a laid c at) in (is.0, is.1.0, is.2)) p.survives;
  kept = tt;
  done = λ clean c at. of_layout layout b c (p.done clean c (laid_out layout a laid c at));
}
serves_all layout a b (Err e) laid p = record {
  survives = survives_weaker a b _ _ (λ _ db left c at. let is = left c (laid_out layout a laid c at) in (is.0, is.1.0, is.2)) p.survives;
  kept = λ clean is_open c at. of_layout layout b c (p.kept clean is_open c (laid_out layout a laid c at));
  done = tt;
}

-- a content that rests, by what else does
pub resting : (P : Database → Type 0) (s : State) (c : Content) → RestsAs P s → Holds c s.now → Rests c s
resting P s c at holds = record { is_open = at.is_open; autocommit = at.autocommit; holds = holds; committed = at.committed }
