-- Steps over a data file of which more may be listed after them, one after another.
use Rattle.std.proofs.Common.{◌≡◌, List, [], ℕ, Option, Ok, Err, Result, OnOk, OnErr, refl, sym, subst, ◌∙◌}
use Rattle.std.specs.Prelude.{IsTrue}
use Rattle.sqlite.specs.State.{State, HasCleanDisk}
use Rattle.fuse_data.specs.Leaving.{KeepsInUse}
use Rattle.fuse_keeper.specs.declared.fault.StoreFault.{StoreFault}
use Rattle.fuse_store_tables.specs.Moves.{Stays, TurnsTo}
use Rattle.fuse_store_tables.specs.inner.Following.{earlier, inside_then, stays_then}
use Rattle.fuse_store_tables.specs.inner.Performing.{IsSure}
use Rattle.fuse_rows.specs.declared.rows.Change.{Change}
use Rattle.fuse_store_tree.specs.declared.meta.Meta.{Meta}
use Rattle.fuse_store_tree.specs.Pieces.{File, ReadsFile}
use Rattle.fuse_store_tree.specs.Widening.{Widens}
use Rattle.fuse_store_tree.specs.Store.{Store, Held}
use Rattle.fuse_store_tree.specs.Holding.{Holding}
use Rattle.fuse_store_tree.specs.Knowing.{HeldForKnown}
use Rattle.fuse_store_tree.specs.inner.Changing.{Changed, ChangedIn}
use Rattle.fuse_store_tree.specs.inner.Knowing.{HeldKnown, ChangedKnown, ChangedKnownIn, InsideKnown, TurnedKnown, known_after}
use Rattle.fuse_store_tree.specs.inner.Laws.{still_data, data_then}
use Rattle.fuse_store_tree.specs.inner.Over.{ChangedOver, ChangedKnownOver, TurnedOver}
use Rattle.fuse_store_tree.specs.inner.Writing.{with_change}
use Rattle.fuse_store_tree.proofs.KnownSteps.{held_in, known_in, knows_after, changed_so}

-- ---- the data file

same_kept : (file : List ℕ) → KeepsInUse [] file file
same_kept file = record { header = λ store has. has; extents = λ p used whole. record { whole = whole; same = refl } }

pub still_widens : (f : File) → Widens f f
still_widens f = record { contents = still_data f.contents; clean = λ clean. clean; kept = same_kept f.bytes }

pub widens_of : (f g : File) → ReadsFile f g → Widens f g
widens_of f g p = record { contents = p.contents; clean = p.clean; kept = subst (λ bytes. KeepsInUse [] f.bytes bytes) (sym p.same) (same_kept f.bytes) }

pub widens_then : (f g h : File) → Widens f g → Widens g h → Widens f h
widens_then f g h p q = record {
  contents = data_then f.contents g.contents h.contents p.contents q.contents;
  clean = λ clean. p.clean (q.clean clean);
  kept = record {
    header = λ store has. q.kept.header store (p.kept.header store has);
    extents = λ e used whole.
        let one = p.kept.extents e used whole in
        let two = q.kept.extents e used one.whole in
        record { whole = two.whole; same = two.same ∙ one.same };
  };
}

-- ---- changes

pub over_of : (f g : File) (m n : Option Meta) (made : Store → Store) (a b : State) → ReadsFile f g → ChangedKnown g m n made a b → ChangedKnownOver f g m n made a b
over_of f g m n made a b on p = record {
  stays = p.stays;
  within = p.within;
  turns = λ read. subst (λ bytes. TurnsTo (HeldKnown bytes m) (λ x. HeldKnown g.bytes n (made x)) a b) on.same (p.turns read);
}

pub over_then : (f g h : File) (m n o : Option Meta) (made more : Store → Store) (a b d : State) → (IsTrue h.is_clean → IsTrue g.is_clean)
    → ChangedKnownOver f g m n made a b → ChangedKnownOver g h n o more b d → ChangedKnownOver f h m o (λ x. more (made x)) a d
over_then f g h m n o made more a b d was p q = record {
  stays = stays_then a b d p.stays p.within q.stays;
  within = inside_then a b d p.within q.stays.survives q.within;
  turns = λ read clean x at. q.turns read clean (made x) (p.turns (was read) (earlier b d _ q.stays.survives clean) x at);
}

-- of a change that is made, whatever is known
pub over_so : (f g : File) (m : Option Meta) (change : Change) (a b : State) → ChangedOver f g (with_change change) a b
    → ChangedKnownOver f g m (known_after m change) (with_change change) a b
over_so f g m change a b p = record {
  stays = p.stays;
  within = p.within;
  turns = λ read clean x at. known_in g.bytes (known_after m change) (with_change change x) b (p.turns read clean x (held_in f.bytes m x a at))
      (knows_after m change x.rows at.holds.1);
}

-- ---- the same of a call

-- that reads no piece
pub made_any : {X F : Type 0} (r : Result X F) (f : File) (m : Option Meta) (change : Change) (a b : State)
    → OnOk r ((file : List ℕ) → ChangedIn file (with_change change) a b) → OnOk r (ChangedKnownOver f f m (known_after m change) (with_change change) a b)
made_any (Ok x) f m change a b p = over_so f f m change a b (record { stays = (p f.bytes).stays; within = (p f.bytes).within; turns = λ read. (p f.bytes).turns })
made_any (Err e) f m change a b p = tt

pub made_knowing : {X F : Type 0} (r : Result X F) (f : File) (m n : Option Meta) (made : Store → Store) (a b : State)
    → OnOk r ((file : List ℕ) → ChangedKnownIn file m n made a b) → OnOk r (ChangedKnownOver f f m n made a b)
made_knowing (Ok x) f m n made a b p = record { stays = (p f.bytes).stays; within = (p f.bytes).within; turns = λ read. (p f.bytes).turns }
made_knowing (Err e) f m n made a b p = tt

-- that reads pieces
pub made_reading : {X F : Type 0} (r : Result X F) (f g : File) (m : Option Meta) (change : Change) (a b : State) → ReadsFile f g
    → OnOk r (Changed g (with_change change) a b) → OnOk r (ChangedKnownOver f g m (known_after m change) (with_change change) a b)
made_reading (Ok x) f g m change a b on p = over_of f g m (known_after m change) (with_change change) a b on (changed_so g m change a b p)
made_reading (Err e) f g m change a b on p = tt

-- that lists pieces
pub made_over : {X F : Type 0} (r : Result X F) (f g : File) (m : Option Meta) (change : Change) (a b : State)
    → OnOk r (ChangedOver f g (with_change change) a b) → OnOk r (ChangedKnownOver f g m (known_after m change) (with_change change) a b)
made_over (Ok x) f g m change a b p = over_so f g m change a b p
made_over (Err e) f g m change a b p = tt

-- ---- what is held

pub turned_over_of : (f g : File) (m n : Option Meta) (made : Holding → Holding) (a b : State) → ReadsFile f g → TurnedKnown g m n made a b
    → TurnedOver f g m n made a b
turned_over_of f g m n made a b on p = record {
  stays = p.stays;
  within = p.within;
  turns = λ read. subst (λ bytes. TurnsTo (HeldForKnown bytes m) (λ y. HeldForKnown g.bytes n (made y)) a b) on.same (p.turns read);
}

-- a step that only reads of the data file
pub turned_known_of : (f g : File) (m n : Option Meta) (made : Holding → Holding) (a b : State) → ReadsFile f g → TurnedOver f g m n made a b
    → TurnedKnown g m n made a b
turned_known_of f g m n made a b on p = record {
  stays = p.stays;
  within = p.within;
  turns = λ read. subst (λ bytes. TurnsTo (HeldForKnown bytes m) (λ y. HeldForKnown g.bytes n (made y)) a b) (sym on.same) (p.turns read);
}

pub turned_over_keeps : (f g : File) (m n : Option Meta) (made : Holding → Holding) (a b d : State) → TurnedOver f g m n made a b → Stays b d → Stays a d
turned_over_keeps f g m n made a b d p q = stays_then a b d p.stays p.within q

pub turned_over_then : (f g h : File) (m n o : Option Meta) (made more : Holding → Holding) (a b d : State) → (IsTrue h.is_clean → IsTrue g.is_clean)
    → TurnedOver f g m n made a b → TurnedOver g h n o more b d → TurnedOver f h m o (λ y. more (made y)) a d
turned_over_then f g h m n o made more a b d was p q = record {
  stays = stays_then a b d p.stays p.within q.stays;
  within = inside_then a b d p.within q.stays.survives q.within;
  turns = λ read clean y at. q.turns read clean (made y) (p.turns (was read) (earlier b d _ q.stays.survives clean) y at);
}

pub turned_over_same : (f g : File) (m n : Option Meta) (made other : Holding → Holding) (a b : State)
    → (HasCleanDisk b → IsTrue g.is_clean → (y : Holding) → InsideKnown f.bytes m y a → made y ≡ other y) → TurnedOver f g m n made a b
    → TurnedOver f g m n other a b
turned_over_same f g m n made other a b same p = record {
  stays = p.stays;
  within = p.within;
  turns = λ read clean y at. subst (λ z. InsideKnown g.bytes n z b) (same clean read y at) (p.turns read clean y at);
}

-- a fault of a step that reads pieces
pub sure_before : {X : Type 0} (f g : File) (a b : State) (r : Result X StoreFault) → ReadsFile f g → IsSure (Held g.bytes) a b r → IsSure (Held f.bytes) a b r
sure_before f g a b r on sure = subst (λ bytes. IsSure (Held bytes) a b r) on.same sure

-- a fault after a step
pub over_sure : {X : Type 0} (f g : File) (m n : Option Meta) (made : Holding → Holding) (a b d : State) (r : Result X StoreFault) → TurnedOver f g m n made a b
    → IsTrue g.is_clean → OnErr r (Stays b d) → IsSure (HeldForKnown g.bytes n) b d r → IsSure (HeldForKnown f.bytes m) a d r
over_sure f g m n made a b d (Ok x) p read keeps sure clean = tt
over_sure f g m n made a b d (Err e) p read keeps sure clean = λ (y, at). sure clean (made y, p.turns read (earlier b d _ keeps.survives clean) y at)
