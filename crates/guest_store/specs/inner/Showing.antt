-- The pairs that a database shows within a transaction (defined by this project). The proofs are here because an `impl` takes them from
-- definitions alone.
use Rattle.std.proofs.Common.{◌≡◌, refl, inl}
use Rattle.std.proofs.Math.Nat.{le_refl}
use Rattle.sqlite_trees.specs.View.{doubt}
use Rattle.sqlite.specs.Tree.{Trees}
use Rattle.sqlite.specs.State.{State, HasCleanDisk, Survives}
use Rattle.fuse_guest.specs.Pairs.{Pairs}
use Rattle.fuse_store_tables.specs.Moves.{InsideAs, Stays}
use Rattle.fuse_store_tables.specs.inner.Following.{earlier, stays_then, inside_then}
use Rattle.guest_tables.specs.Holding.{GuestHolding, HeldFor}
use Rattle.guest_tables.specs.Moves.{LookedInside}

-- it holds a guest's store with these pairs
pub record ShowsPairs (s : State) (ps : Pairs) : Type 0 where
  pub holding : GuestHolding
  pub inside : InsideAs (HeldFor holding) s
  pub pairs : holding.state.pairs ≡ ps

-- ---- nothing but looks

pub same_survives : (s : State) (P : Trees → Type 0) → Survives s s P
same_survives s P = record {
  clean = le_refl (doubt s.is_clean);
  shield = λ is. is;
  counts = le_refl s.faults;
  limit = refl;
  closes = λ clean is_open. inl is_open;
  crash = λ clean db may. inl may;
}

pub looked_still : (s : State) → LookedInside s s
looked_still s = record {
  stays = record { survives = same_survives s _; kept = λ clean inside. record { was_open = λ is_open. is_open; committed = λ is_open. refl } };
  within = λ clean inside. inside;
  same = λ clean c at. at;
}

pub looked_then : (a b d : State) → LookedInside a b → LookedInside b d → LookedInside a d
looked_then a b d p q = record {
  stays = stays_then a b d p.stays p.within q.stays;
  within = inside_then a b d p.within q.stays.survives q.within;
  same = λ clean c at. q.same clean c (p.same (earlier b d _ q.stays.survives clean) c at);
}

pub failed_then : (a b d : State) → LookedInside a b → Stays b d → Stays a d
failed_then a b d p q = stays_then a b d p.stays p.within q

-- looks leave the pairs that are shown
pub shows_still : (a b : State) (ps : Pairs) → LookedInside a b → HasCleanDisk b → ShowsPairs a ps → ShowsPairs b ps
shows_still a b ps p clean shown =
    let (c, held, fit, is) = shown.inside.holds in
    let now = p.same clean c (record { is_open = shown.inside.is_open; in_transaction = shown.inside.in_transaction; holds = held }) in
    record {
      holding = shown.holding;
      inside = record { is_open = now.is_open; in_transaction = now.in_transaction; holds = (c, now.holds, fit, is) };
      pairs = shown.pairs;
    }
