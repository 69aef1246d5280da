-- A statement, or several, as a step on a store.
use Rattle.std.proofs.Common.{Ok, Err, Result, OnOk, OnErr}
use Rattle.fuse_store_tree.specs.Pieces.{File}
use Rattle.fuse_store_tree.specs.Store.{Store}
use Rattle.fuse_store_tree.specs.inner.Reading.{Describes}
use Rattle.sqlite.specs.State.{State, HasCleanDisk}
use Rattle.sqlite.specs.declared.error.Error.{Error}
use Rattle.fuse_store_tables.specs.Content.{Content}
use Rattle.fuse_store_tables.specs.Moves.{Inside, Makes, LookedInside}
use Rattle.fuse_store_tree.specs.inner.Changing.{Changed}
use Rattle.fuse_store_tree.specs.inner.Laws.{looked_still, looked_fails}
use Rattle.fuse_store_tables.specs.inner.Following.{earlier, inside_then}
use Rattle.fuse_store_tree.proofs.Described.{inside_of}

-- without a statement nothing is made
pub made_nothing : {X E : Type 0} (a : State) (r : Result X E) → Makes (λ c. c) a a r
made_nothing a (Ok x) = record { stays = (looked_still a).stays; within = (looked_still a).within; turns = λ clean c at. at }
made_nothing a (Err e) = record { stays = (looked_still a).stays; within = tt; turns = tt }

-- the effect of a statement, on the store that the tables describe
pub made : {X : Type 0} (file : File) (f : Content → Content) (g : Store → Store) (a b : State) (x : X)
    → ((s : Store) (c : Content) → Describes s file.bytes c → Describes (g s) file.bytes (f c))
    → Makes {X = X} {E = Error} f a b (Ok x) → Changed file g a b
made file f g a b x tells p = record {
  stays = p.stays;
  within = p.within;
  turns = λ read clean s at.
      let now = p.turns clean at.holds.0 (inside_of file.bytes s a at) in
      record { is_open = now.is_open; in_transaction = now.in_transaction; holds = (f at.holds.0, now.holds, tells s at.holds.0 at.holds.2) };
}

-- the same after a read
pub made_known : {X : Type 0} (file : File) (f : Content → Content) (g : Store → Store) (a b d : State) (x : X) → LookedInside a b
    → Makes {X = X} {E = Error} f b d (Ok x)
    → (HasCleanDisk b → (s : Store) (c : Content) → Inside c a → Describes s file.bytes c → Describes (g s) file.bytes (f c)) → Changed file g a d
made_known file f g a b d x p q tells = record {
  stays = looked_fails a b d p q.stays;
  within = inside_then a b d p.within q.stays.survives q.within;
  turns = λ read clean s at.
      let mid = earlier b d _ q.stays.survives clean in
      let inside = inside_of file.bytes s a at in
      let now = q.turns clean at.holds.0 (p.same mid at.holds.0 inside) in
      record { is_open = now.is_open; in_transaction = now.in_transaction; holds = (f at.holds.0, now.holds, tells mid s at.holds.0 inside at.holds.2) };
}

-- ---- by the result of a call

pub on_error : {X F : Type 0} (r : Result X F) (P Q : Type 0) → (P → Q) → OnErr r P → OnErr r Q
on_error (Ok x) P Q f p = tt
on_error (Err e) P Q f p = f p

pub on_ok : {X F : Type 0} (r : Result X F) (P Q : Type 0) → (P → Q) → OnOk r P → OnOk r Q
on_ok (Ok x) P Q f p = f p
on_ok (Err e) P Q f p = tt
