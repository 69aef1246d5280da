-- Steps where what is known of the table `meta` was right, one after another.
use Rattle.std.specs.Prelude.{IsTrue}
use Rattle.std.proofs.Common.{◌≡◌, ℕ, List, Option, Some, None, Result, Ok, Err, OnOk, OnErr, refl, sym, subst}
use Rattle.sqlite.specs.State.{State, HasCleanDisk}
use Rattle.sqlite.specs.declared.error.Error.{Error}
use Rattle.fuse_rows.specs.Rows.{Rows}
use Rattle.fuse_tree.specs.Rowed.{rowed}
use Rattle.fuse_rows.specs.declared.rows.Change.{Change}
use Rattle.fuse_rows.specs.declared.rows.Change.TheVariants as changes
use Rattle.fuse_keeper.specs.declared.fault.StoreFault.{StoreFault}
use Rattle.fuse_store_tables.specs.Content.{Content}
use Rattle.fuse_store_tables.specs.Moves.{InsideAs, IsReady, LookedInside, Makes, Stays, TurnsTo}
use Rattle.fuse_store_tables.specs.inner.Following.{earlier, inside_then, stays_then}
use Rattle.fuse_store_tables.specs.inner.Performing.{IsSure}
use Rattle.fuse_store_tree.specs.declared.meta.Meta.{Meta}
use Rattle.fuse_store_tree.specs.Pieces.{File, ReadsFile}
use Rattle.fuse_store_tree.specs.Store.{Store, Held}
use Rattle.fuse_store_tree.specs.Holding.{Holding, HeldFor}
use Rattle.fuse_store_tree.specs.Knowing.{Knows, HeldForKnown}
use Rattle.fuse_store_tree.specs.inner.Reading.{Describes}
use Rattle.fuse_store_tree.specs.inner.Writing.{with_change, made_one}
use Rattle.fuse_store_tree.specs.inner.Changing.{Changed, InsideFor, Turned}
use Rattle.fuse_store_tree.specs.inner.Knowing.{HeldKnown, ChangedKnown, ChangedKnownIn, InsideKnown, TurnedKnown, known_after}
use Rattle.fuse_store_tree.proofs.Described.{inside_of}
use Rattle.fuse_store_tree.proofs.Turning.{clean_file, looked_for}

-- ---- the databases of a step

-- what is held, where what is known of it is right
pub held_in : (file : List ℕ) (m : Option Meta) (x : Store) (a : State) → InsideAs (HeldKnown file m x) a → InsideAs (Held file x) a
held_in file m x a at = record { is_open = at.is_open; in_transaction = at.in_transaction; holds = at.holds.0 }

pub known_in : (file : List ℕ) (m : Option Meta) (x : Store) (a : State) → InsideAs (Held file x) a → Knows m x.rows → InsideAs (HeldKnown file m x) a
known_in file m x a at knows = record { is_open = at.is_open; in_transaction = at.in_transaction; holds = (at.holds, knows) }

pub held_for : (file : List ℕ) (m : Option Meta) (y : Holding) (a : State) → InsideKnown file m y a → InsideFor file y a
held_for file m y a at = record { is_open = at.is_open; in_transaction = at.in_transaction; holds = at.holds.0 }

pub known_for : (file : List ℕ) (m : Option Meta) (y : Holding) (a : State) → InsideFor file y a → Knows m (rowed y.tree) → InsideKnown file m y a
known_for file m y a at knows = record { is_open = at.is_open; in_transaction = at.in_transaction; holds = (at.holds, knows) }

pub ready_known : (file : List ℕ) (m : Option Meta) (a : State) → IsReady (HeldKnown file m) a → IsReady (Held file) a
ready_known file m a (x, at) = (x, held_in file m x a at)

pub ready_for_known : (file : List ℕ) (m : Option Meta) (a : State) → IsReady (HeldForKnown file m) a → IsReady (HeldFor file) a
ready_for_known file m a (y, at) = (y, held_for file m y a at)

-- ---- changes

-- what is known after a change is right of the rows that it makes
knows_meta : (m : Meta) (change : Change) (rows : Rows) → Knows (Some m) rows → Knows (known_after (Some m) change) (made_one rows change)
knows_meta m (changes.Node row) rows k = k
knows_meta m (changes.NodeGone node) rows k = k
knows_meta m (changes.Entry entry) rows k = k
knows_meta m (changes.EntryGone cookie) rows k = k
knows_meta m (changes.Handle handle) rows k = k
knows_meta m (changes.HandleGone fh) rows k = k
knows_meta m (changes.Written node offset bytes) rows k = k
knows_meta m (changes.Sized node size) rows k = k
knows_meta m (changes.Counters n) rows k = rw k refl
knows_meta m (changes.Settings v) rows k = rw k refl

pub knows_after : (m : Option Meta) (change : Change) (rows : Rows) → Knows m rows → Knows (known_after m change) (made_one rows change)
knows_after None change rows k = tt
knows_after (Some m) change rows k = knows_meta m change rows k

-- a change that is made, whatever is known
pub changed_so : (f : File) (m : Option Meta) (change : Change) (a b : State) → Changed f (with_change change) a b
    → ChangedKnown f m (known_after m change) (with_change change) a b
changed_so f m change a b p = record {
  stays = p.stays;
  within = p.within;
  turns = λ read clean x at. known_in f.bytes (known_after m change) (with_change change x) b (p.turns read clean x (held_in f.bytes m x a at))
      (knows_after m change x.rows at.holds.1);
}

pub made_so : {X F : Type 0} (r : Result X F) (f : File) (m : Option Meta) (change : Change) (a b : State) → OnOk r (Changed f (with_change change) a b)
    → OnOk r (ChangedKnown f m (known_after m change) (with_change change) a b)
made_so (Ok x) f m change a b p = changed_so f m change a b p
made_so (Err e) f m change a b p = tt

-- one that is made where what is known is right
pub changed_where : {X : Type 0} (file : File) (m : Option Meta) (change : Change) (f : Content → Content) (a b : State) (x : X)
    → ((s : Store) (c : Content) → Knows m s.rows → Describes s file.bytes c → Describes (with_change change s) file.bytes (f c))
    → Makes {X = X} {E = Error} f a b (Ok x) → ChangedKnown file m (known_after m change) (with_change change) a b
changed_where file m change f a b x tells p = record {
  stays = p.stays;
  within = p.within;
  turns = λ read clean s at.
      let held = held_in file.bytes m s a at in
      let now = p.turns clean held.holds.0 (inside_of file.bytes s a held) in
      known_in file.bytes (known_after m change) (with_change change s) b
      (record { is_open = now.is_open; in_transaction = now.in_transaction; holds = (f held.holds.0, now.holds, tells s held.holds.0 at.holds.1 held.holds.2) })
      (knows_after m change s.rows at.holds.1);
}

pub known_over : (file : List ℕ) (m n : Option Meta) (g : Store → Store) (a b : State) → ChangedKnown (clean_file file) m n g a b → ChangedKnownIn file m n g a b
known_over file m n g a b p = record { stays = p.stays; within = p.within; turns = p.turns refl }

pub known_of : (f : File) (m n : Option Meta) (g : Store → Store) (a b : State) → ChangedKnownIn f.bytes m n g a b → ChangedKnown f m n g a b
known_of f m n g a b p = record { stays = p.stays; within = p.within; turns = λ read. p.turns }

pub known_keeps : (file : File) (m n : Option Meta) (f : Store → Store) (a b d : State) → ChangedKnown file m n f a b → Stays b d → Stays a d
known_keeps file m n f a b d p q = stays_then a b d p.stays p.within q

-- what was read first is read still
pub known_later : (v w : File) (m n : Option Meta) (f : Store → Store) (a b : State) → ReadsFile v w → ChangedKnown v m n f a b → ChangedKnown w m n f a b
known_later v w m n f a b on p = record {
  stays = p.stays;
  within = p.within;
  turns = λ read. subst (λ bytes. TurnsTo (HeldKnown bytes m) (λ x. HeldKnown bytes n (f x)) a b) (sym on.same) (p.turns (on.clean read));
}

pub known_then : (file : File) (m n o : Option Meta) (f g : Store → Store) (a b d : State) → ChangedKnown file m n f a b → ChangedKnown file n o g b d
    → ChangedKnown file m o (λ x. g (f x)) a d
known_then file m n o f g a b d p q = record {
  stays = known_keeps file m n f a b d p q.stays;
  within = inside_then a b d p.within q.stays.survives q.within;
  turns = λ read clean x at. q.turns read clean (f x) (p.turns read (earlier b d _ q.stays.survives clean) x at);
}

-- ---- what is held

pub turned_known_keeps : (file : File) (m n : Option Meta) (f : Holding → Holding) (a b d : State) → TurnedKnown file m n f a b → Stays b d → Stays a d
turned_known_keeps file m n f a b d p q = stays_then a b d p.stays p.within q

pub turned_later : (v w : File) (m n : Option Meta) (f : Holding → Holding) (a b : State) → ReadsFile v w → TurnedKnown v m n f a b → TurnedKnown w m n f a b
turned_later v w m n f a b on p = record {
  stays = p.stays;
  within = p.within;
  turns = λ read. subst (λ bytes. TurnsTo (HeldForKnown bytes m) (λ y. HeldForKnown bytes n (f y)) a b) (sym on.same) (p.turns (on.clean read));
}

pub turned_known_then : (file : File) (m n o : Option Meta) (f g : Holding → Holding) (a b d : State) → TurnedKnown file m n f a b → TurnedKnown file n o g b d
    → TurnedKnown file m o (λ y. g (f y)) a d
turned_known_then file m n o f g a b d p q = record {
  stays = turned_known_keeps file m n f a b d p q.stays;
  within = inside_then a b d p.within q.stays.survives q.within;
  turns = λ read clean y at. q.turns read clean (f y) (p.turns read (earlier b d _ q.stays.survives clean) y at);
}

pub turned_known_same : (file : File) (m n : Option Meta) (f g : Holding → Holding) (a b : State)
    → (HasCleanDisk b → IsTrue file.is_clean → (y : Holding) → InsideKnown file.bytes m y a → f y ≡ g y) → TurnedKnown file m n f a b → TurnedKnown file m n g a b
turned_known_same file m n f g a b same p = record {
  stays = p.stays;
  within = p.within;
  turns = λ read clean y at. subst (λ z. InsideKnown file.bytes n z b) (same clean read y at) (p.turns read clean y at);
}

-- a step that leaves the tree
pub turned_so : (file : File) (m : Option Meta) (f : Holding → Holding) (a b : State) → ((y : Holding) → (f y).tree ≡ y.tree) → Turned file.bytes f a b
    → TurnedKnown file m m f a b
turned_so file m f a b same p = record {
  stays = p.stays;
  within = p.within;
  turns = λ read clean y at.
      known_for file.bytes m (f y) b (p.turns clean y (held_for file.bytes m y a at)) (subst (λ t. Knows m (rowed t)) (sym (same y)) at.holds.1);
}

pub looked_known : (file : File) (m : Option Meta) (a b : State) → LookedInside a b → TurnedKnown file m m (λ y. y) a b
looked_known file m a b p = turned_so file m (λ y. y) a b (λ y. refl) (looked_for file.bytes a b p)

-- a fault after a step
pub known_sure : {X : Type 0} (file : File) (m n : Option Meta) (f : Holding → Holding) (a b d : State) (r : Result X StoreFault) → TurnedKnown file m n f a b
    → IsTrue file.is_clean → OnErr r (Stays b d) → IsSure (HeldForKnown file.bytes n) b d r → IsSure (HeldForKnown file.bytes m) a d r
known_sure file m n f a b d (Ok x) p read keeps sure clean = tt
known_sure file m n f a b d (Err e) p read keeps sure clean = λ (y, at). sure clean (f y, p.turns read (earlier b d _ keeps.survives clean) y at)
