-- Steps on what is held, one after another.
use Rattle.std.proofs.Common.{◌≡◌, ◌≤◌, ◌^◌, ℕ, List, [], true, refl, subst, Ok, Err, Result, OnOk, IfOk}
use Rattle.sqlite.specs.State.{State, HasCleanDisk}
use Rattle.fuse_tree.specs.State.{Tree}
use Rattle.fuse_store_tables.specs.Moves.{Inside, InsideAs, LookedInside, Stays}
use Rattle.fuse_store_tables.specs.inner.Following.{earlier, inside_then, stays_then}
use Rattle.fuse_store_tree.specs.Pieces.{File}
use Rattle.fuse_store_tree.specs.Store.{Store, Held}
use Rattle.fuse_store_tree.specs.inner.Changing.{Changed, ChangedIn, InsideFor, Turned}
use Rattle.fuse_store_tree.specs.Holding.{Holding, AreBelow, store_of}

pub told_in : (file : List ℕ) (y : Holding) (a : State) → InsideFor file y a → InsideAs (Held file (store_of y)) a
told_in file y a at = record { is_open = at.is_open; in_transaction = at.in_transaction; holds = at.holds.held }

-- the content of the tables
pub content_in : (file : List ℕ) (y : Holding) (a : State) (at : InsideFor file y a) → Inside at.holds.held.0 a
content_in file y a at = record { is_open = at.is_open; in_transaction = at.in_transaction; holds = at.holds.held.1 }

-- of a step that reads no piece
abbrev pub clean_file : List ℕ → File
clean_file file = record {
  bytes = file;
  is_clean = true;
  contents = record { seen = file; may_leave = λ c. c ≡ file; is_clean = true; is_usable = true; gaps = [] };
}

pub changed_in : (file : List ℕ) (g : Store → Store) (a b : State) → Changed (clean_file file) g a b → ChangedIn file g a b
changed_in file g a b p = record { stays = p.stays; within = p.within; turns = p.turns refl }

pub changed_of : (f : File) (g : Store → Store) (a b : State) → ChangedIn f.bytes g a b → Changed f g a b
changed_of f g a b p = record { stays = p.stays; within = p.within; turns = λ read. p.turns }

-- such a step on a store as a step on a holding
pub lifted : (file : List ℕ) (f : Store → Store) (g : Holding → Holding) (a b : State)
    → (HasCleanDisk b → (y : Holding) → InsideFor file y a
    → (f (store_of y) ≡ store_of (g y)) × Tree (g y).tree × AreBelow (g y).next_lot (g y).lots × ((g y).next_lot ≤ 2 ^ 62))
    → Changed (clean_file file) f a b → Turned file g a b
lifted file f g a b same p = record {
  stays = p.stays;
  within = p.within;
  turns = λ clean y at.
      let now = p.turns refl clean (store_of y) (told_in file y a at) in
      let is = same clean y at in
      record {
        is_open = now.is_open;
        in_transaction = now.in_transaction;
        holds = record { tree = is.1; below = is.2; next = is.3; held = subst (λ x. Held file x b.now) is.0 now.holds };
      };
}

-- ---- one after another

pub turned_keeps : (file : List ℕ) (f : Holding → Holding) (a b d : State) → Turned file f a b → Stays b d → Stays a d
turned_keeps file f a b d p q = stays_then a b d p.stays p.within q

pub turned_then : (file : List ℕ) (f g : Holding → Holding) (a b d : State) → Turned file f a b → Turned file g b d → Turned file (λ y. g (f y)) a d
turned_then file f g a b d p q = record {
  stays = turned_keeps file f a b d p q.stays;
  within = inside_then a b d p.within q.stays.survives q.within;
  turns = λ clean y at. q.turns clean (f y) (p.turns (earlier b d _ q.stays.survives clean) y at);
}

pub turned_same : (file : List ℕ) (f g : Holding → Holding) (a b : State) → ((y : Holding) → f y ≡ g y) → Turned file f a b → Turned file g a b
turned_same file f g a b same p = record { stays = p.stays; within = p.within; turns = λ clean y at. subst (λ z. InsideFor file z b) (same y) (p.turns clean y at) }

-- the same where it is known of what was held
pub turned_known : (file : List ℕ) (f g : Holding → Holding) (a b : State) → (HasCleanDisk b → (y : Holding) → InsideFor file y a → f y ≡ g y)
    → Turned file f a b → Turned file g a b
turned_known file f g a b same p = record { stays = p.stays; within = p.within; turns = λ clean y at. subst (λ z. InsideFor file z b) (same clean y at) (p.turns clean y at) }

-- a look
pub looked_for : (file : List ℕ) (a b : State) → LookedInside a b → Turned file (λ y. y) a b
looked_for file a b p = record {
  stays = p.stays;
  within = p.within;
  turns = λ clean y at.
      let now = p.same clean at.holds.held.0 (content_in file y a at) in
      record {
        is_open = now.is_open;
        in_transaction = now.in_transaction;
        holds = record { tree = at.holds.tree; below = at.holds.below; next = at.holds.next; held = (at.holds.held.0, now.holds, at.holds.held.2) };
      };
}

-- of a call that succeeded: its effect determines more of its result
pub ok_too : {X F : Type 0} (r : Result X F) (P : Type 0) (Q R : X → Type 0) → (P → (x : X) → Q x → R x) → OnOk r P → IfOk r Q → IfOk r R
ok_too (Ok x) P Q R f p q = f p x q
ok_too (Err e) P Q R f p q = tt
