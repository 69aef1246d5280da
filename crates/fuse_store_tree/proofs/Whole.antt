-- A group as a whole transaction.
use Rattle.std.proofs.Common.{◌≡◌, ◌∙◌, Option, None, Ok, Err, Result, Bool, true, false, cond, refl, sym, ap, subst}
use Rattle.std.specs.Prelude.{IsTrue}
use Rattle.sqlite.specs.State.{State, HasCleanDisk, KeepsCommit}
use Rattle.sqlite.proofs.StateLemmas.{survives_then, survives_weaker}
use Rattle.sqlite.proofs.InsideLemmas.{keeps_then}
use Rattle.sqlite.specs.declared.error.Error.{Error}
use Rattle.fuse_keeper.specs.declared.fault.StoreFault.{StoreFault}
use Rattle.fuse_keeper.specs.declared.fault.StoreFault.TheVariants.{Memory, Sql}
use Rattle.fuse_keeper.specs.Faults.{fault_of, is_memory}
use Rattle.fuse_store_tables.specs.Moves.{RestsAs, Begins, Ends, Takes, ServesAs, Undoes, LeavesAlone, RollsBack, Stays, GoesBack, StaysOpen, CommitsOnce}
use Rattle.fuse_store_tables.specs.Saying.{IsRefusal}
use Rattle.fuse_store_tables.specs.inner.Performing.{CommitsNothing, TransactsAs}
use Rattle.fuse_store_tables.specs.Content.{LeftAs}
use Rattle.fuse_store_tables.specs.inner.Following.{earlier}
pub use Rattle.fuse_store_tables.specs.inner.Transaction.{begins_nothing, once_none, once_failed, once_committed, once_undone}
use Rattle.sqlite.specs.Effect.{Database}
use Rattle.fuse_store_tree.specs.Pieces.{File}
use Rattle.fuse_store_tree.specs.Holding.{Holding, HeldFor, ReportsAfter}
use Rattle.fuse_store_tree.specs.declared.meta.Meta.{Meta}
use Rattle.fuse_store_tree.specs.Knowing.{Knows, HeldForKnown, ReportsKnown}
use Rattle.fuse_tree.specs.Rowed.{rowed}
use Rattle.fuse_store_tree.specs.inner.Changing.{InsideFor}
use Rattle.fuse_store_tree.specs.inner.Knowing.{InsideKnown, TurnedKnown}

-- what was held before the transaction, when it has begun
pub begun_for : {X : Type 0} (file : File) (m : Option Meta) (a b : State) (x : X) → Begins {E = Error} a b (Ok x) → HasCleanDisk b → (y : Holding)
    → RestsAs (HeldForKnown file.bytes m y) a → InsideKnown file.bytes m y b
begun_for file m a b x p clean y at =
    let on = p.begun clean in
    record { is_open = on.0; in_transaction = on.1; holds = subst (HeldForKnown file.bytes m y) (sym on.2) at.holds }

-- what was made, as a call within a transaction
pub takes_for : {X : Type 0} (file : File) (m n : Option Meta) (f : Holding → Holding) (a b : State) (x : X) → IsTrue file.is_clean → TurnedKnown file m n f a b
    → Takes {E = StoreFault} (HeldForKnown file.bytes m) (λ y. HeldForKnown file.bytes n (f y)) a b (Ok x)
takes_for file m n f a b x read p = record { stays = p.stays; within = p.within; turns = p.turns read }

-- what failed made nothing
pub fails_for : {X : Type 0} (file : File) (m n : Option Meta) (f : Holding → Holding) (a b : State) (e : StoreFault) → Stays a b
    → Takes {X = X} (HeldForKnown file.bytes m) (λ y. HeldForKnown file.bytes n (f y)) a b (Err e)
fails_for file m n f a b e keeps = record { stays = keeps; within = tt; turns = tt }

-- facts within the transaction hold after it
pub told_after : {X Y : Type 0} (file : File) (m : Option Meta) (P : Holding → Type 0) (a b d e : State) (x : X) (y : Y) → Begins {E = Error} a b (Ok x) → Stays b d
    → (HasCleanDisk d → (z : Holding) → InsideKnown file.bytes m z b → P z) → Ends {E = Error} d e (Ok y) → ReportsKnown file.bytes m a e P
told_after file m P a b d e x y p keeps told q clean z at =
    let last = earlier d e _ q.survives clean in
    let first = earlier b d _ keeps.survives last in
    told last z (begun_for file m a b x p first z at)

-- the same of what is held, whatever is known of it
pub lot_after : {X Y : Type 0} (file : File) (m : Option Meta) (P : Holding → Type 0) (a b d e : State) (x : X) (y : Y) → Begins {E = Error} a b (Ok x) → Stays b d
    → (HasCleanDisk d → (z : Holding) → InsideFor file.bytes z b → P z) → Ends {E = Error} d e (Ok y) → ReportsAfter file.bytes a e P
lot_after file m P a b d e x y p keeps told q clean z at =
    let last = earlier d e _ q.survives clean in
    let on = p.begun (earlier b d _ keeps.survives last) in
    told last z (record { is_open = on.0; in_transaction = on.1; holds = subst (HeldFor file.bytes z) (sym on.2) at.holds })

-- ---- refusals

-- a fault of a statement refuses nothing
pub unrefusing : (e : Error) (f : StoreFault) → f ≡ fault_of e → ¬ IsRefusal f
unrefusing e f is refused = told (is_memory e) (subst IsRefusal is refused)
  where
    told : (b : Bool) → ¬ IsRefusal (cond b Memory (Sql e))
    told true none = none
    told false none = none

-- what failed within the transaction committed nothing
pub nothing_for : {X : Type 0} (a b d : State) (x : X) → Begins {E = Error} a b (Ok x) → Stays b d → CommitsNothing a d
nothing_for a b d x p stays = record {
  survives = survives_then a b d _ _ _ (λ _ db none. none)
      (λ clean db none. absurd (none (p.begun (earlier b d _ stays.survives clean)).1)) p.survives stays.survives;
  kept = λ clean.
      let mid = earlier b d _ stays.survives clean in
      keeps_then a b d (p.kept mid) (stays.kept clean (p.begun mid).1);
}

-- what was committed is so after a commit that failed
pub keeps_commit : {X Y : Type 0} (a b d e : State) (x : X) (f : Error) → Begins {E = Error} a b (Ok x) → Stays b d → Ends {X = Y} d e (Err f) → HasCleanDisk e
    → KeepsCommit a e
keeps_commit a b d e x f p stays q clean =
    keeps_then a d e ((nothing_for a b d x p stays).kept (earlier d e _ q.survives clean)) (q.kept clean)

-- and what is then rolled back is left alone
pub rolled_back : (a b d : State) → CommitsNothing a b → Undoes b d → LeavesAlone a d
rolled_back a b d p u = record {
  survives = survives_then a b d _ _ _ (λ _ db none. none) (λ _ db none. absurd none) p.survives u.survives;
  autocommit = u.autocommit;
  same = λ clean is_open.
      let back = u.undone clean is_open in
      let kept = p.kept (earlier b d _ u.survives clean) in
      (kept.was_open back.0, back.2 ∙ kept.committed back.0, back.1 ∙ sym back.2);
}

-- what is rolled back is as it was committed
pub undone_for : (a b d : State) → (HasCleanDisk b → KeepsCommit a b) → Undoes b d → RollsBack a d
undone_for a b d kept u clean is_open =
    let back = u.undone clean is_open in
    let same = (kept (earlier b d _ u.survives clean)).committed back.0 in
    (back.1 ∙ same, back.2 ∙ same)

-- ---- what is known

-- what is forgotten was right
pub serves_forgot : {X : Type 0} (file : File) (m n : Option Meta) (f : Holding → Holding) (a b : State) (e : StoreFault)
    → ServesAs {X = X} (HeldForKnown file.bytes m) (λ y. HeldForKnown file.bytes n (f y)) a b (Err e) → ServesAs {X = X} (HeldForKnown file.bytes m) (λ y. HeldForKnown file.bytes None (f y)) a b (Err e)
serves_forgot file m n f a b e p = record {
  survives = survives_weaker a b _ _ (λ _ db left y at. let (d, held, is) = left y at in (d, (held.0, tt), is)) p.survives;
  kept = p.kept;
  done = tt;
}

-- ---- a transaction that is rolled back

pub nothing_then : (a b d : State) → CommitsNothing a b → CommitsNothing b d → CommitsNothing a d
nothing_then a b d p q = record {
  survives = survives_then a b d _ _ _ (λ _ db none. none) (λ _ db none. none) p.survives q.survives;
  kept = λ clean. keeps_then a b d (p.kept (earlier b d _ q.survives clean)) (q.kept clean);
}

-- it leaves the store alone
pub gone_back : {X : Type 0} (a d e : State) (x : X) → CommitsNothing a d → GoesBack {E = Error} d e (Ok x) → LeavesAlone a e
gone_back a d e x p q = record {
  survives = survives_then a d e _ _ _ (λ _ db none. none) (λ _ db none. none) p.survives q.commits.survives;
  autocommit = λ clean. (q.back clean).1;
  same = λ clean is_open.
      let back = q.back clean in
      let was = (q.commits.kept clean).was_open is_open in
      let kept = p.kept (earlier d e _ q.commits.survives clean) in
      (kept.was_open was, back.3 ∙ kept.committed was, back.2 ∙ sym back.3);
}

-- what is held stays, and what is known then is right of it
pub seen_back : {X Y W : Type 0} (file : File) (m n : Option Meta) (f : Holding → Holding) (a b d e : State) (x : X) (y : Y) (w : W) → ((z : Holding) → f z ≡ z)
    → Begins {E = Error} a b (Ok x) → IsTrue file.is_clean → TurnedKnown file m n f b d → GoesBack {E = Error} d e (Ok y)
    → TransactsAs {E = StoreFault} (HeldForKnown file.bytes m) (HeldForKnown file.bytes n) a e (Ok w)
seen_back file m n f a b d e x y w same p read turned q =
    let nothing = nothing_for a b d x p turned.stays in
    let whole = nothing_then a d e nothing q.commits in
    record {
      survives = survives_weaker a e _ _ (λ _ db none. absurd none) whole.survives;
      kept = tt;
      done = λ clean z at.
          let back = q.back clean in
          let mid = earlier d e _ q.commits.survives clean in
          let was = (q.commits.kept clean).was_open back.0 in
          let is = back.2 ∙ (nothing.kept mid).committed was ∙ at.committed in
          let inside = turned.turns read mid z (begun_for file m a b x p (earlier b d _ turned.stays.survives mid) z at) in
          record {
            is_open = back.0;
            autocommit = back.1;
            holds = (subst (HeldFor file.bytes z) (sym is) at.holds.0, subst (λ (u : Holding). Knows n (rowed u.tree)) (same z) inside.holds.1);
            committed = back.3 ∙ sym back.2;
          };
    }

-- what committed nothing and failed
pub failed_nothing : {X : Type 0} (file : File) (m n : Option Meta) (a b : State) (f : StoreFault) → CommitsNothing a b
    → TransactsAs {X = X} (HeldForKnown file.bytes m) (HeldForKnown file.bytes n) a b (Err f)
failed_nothing file m n a b f p =
    record { survives = survives_weaker a b _ _ (λ _ db none. absurd none) p.survives; kept = λ clean z at. p.kept clean; done = tt }

pub open_back : {X Y : Type 0} (a d e : State) (x : X) (y : Y) → CommitsNothing a d → GoesBack {E = Error} d e (Ok x) → StaysOpen {E = StoreFault} a e (Ok y)
open_back a d e x y p q = record {
  was = λ clean is_open. ((nothing_then a d e p q.commits).kept clean).was_open is_open;
  still = λ clean was. (q.back clean).0;
}

pub open_nothing : {X : Type 0} (a b : State) (f : StoreFault) → CommitsNothing a b → StaysOpen {X = X} a b (Err f)
open_nothing a b f p = record { was = λ clean is_open. (p.kept clean).was_open is_open; still = tt }

-- facts within it hold after it
pub told_back : {X Y : Type 0} (file : File) (m : Option Meta) (P : Holding → Type 0) (a b d e : State) (x : X) (y : Y) → Begins {E = Error} a b (Ok x) → Stays b d
    → (HasCleanDisk d → (z : Holding) → InsideKnown file.bytes m z b → P z) → GoesBack {E = Error} d e (Ok y) → ReportsKnown file.bytes m a e P
told_back file m P a b d e x y p keeps told q clean z at =
    let last = earlier d e _ q.commits.survives clean in
    told last z (begun_for file m a b x p (earlier b d _ keeps.survives last) z at)

-- ---- what leaves the store alone

pub alone_once : {X E : Type 0} (a b : State) (r : Result X E) → LeavesAlone a b → CommitsOnce a b r
alone_once a b (Ok x) p = record { trees = b.now.trees; survives = survives_weaker a b _ _ (λ _ db none. absurd none) p.survives; made = λ clean. refl }
alone_once a b (Err f) p = record { trees = b.now.trees; survives = survives_weaker a b _ _ (λ _ db none. absurd none) p.survives; made = tt }

-- a rollback after a call that committed nothing serves what is held
pub serves_nothing : {X : Type 0} (file : File) (m n : Option Meta) (a b : State) (f : StoreFault) → ServesAs {X = X} (HeldForKnown file.bytes m) (HeldForKnown file.bytes n) a b (Err f)
    → ServesAs {X = X} (HeldForKnown file.bytes m) (HeldForKnown file.bytes None) a b (Err f)
serves_nothing file m n a b f p = serves_forgot file m n (λ y. y) a b f p

-- what is made, in other words
pub serves_as : {X Y : Type 0} (file : File) (m n : Option Meta) (f g : Holding → Holding) (a b : State) (x : X) (y : Y) → ((z : Holding) → f z ≡ g z)
    → ServesAs {E = StoreFault} (HeldForKnown file.bytes m) (λ z. HeldForKnown file.bytes n (f z)) a b (Ok x)
    → ServesAs {E = StoreFault} (HeldForKnown file.bytes m) (λ z. HeldForKnown file.bytes n (g z)) a b (Ok y)
serves_as file m n f g a b x y same p = record {
  survives = survives_weaker a b _ _ (λ _ db left z at. subst (λ (u : Holding). LeftAs (HeldForKnown file.bytes n u) db) (same z) (left z at)) p.survives;
  kept = tt;
  done = λ clean z at. subst (λ (u : Holding). RestsAs (HeldForKnown file.bytes n u) b) (same z) (p.done clean z at);
}

pub fails_as : {X Y : Type 0} (file : File) (m n : Option Meta) (f g : Holding → Holding) (a b : State) (h : StoreFault) → ((z : Holding) → f z ≡ g z)
    → ServesAs {X = X} (HeldForKnown file.bytes m) (λ z. HeldForKnown file.bytes n (f z)) a b (Err h) → ServesAs {X = Y} (HeldForKnown file.bytes m) (λ z. HeldForKnown file.bytes n (g z)) a b (Err h)
fails_as file m n f g a b h same p = record {
  survives = survives_weaker a b _ _ (λ _ db left z at. subst (λ (u : Holding). LeftAs (HeldForKnown file.bytes n u) db) (same z) (left z at)) p.survives;
  kept = p.kept;
  done = tt;
}
