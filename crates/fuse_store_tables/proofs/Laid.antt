-- Statements over the tables of either layout.
use Rattle.std.specs.Prelude.{⊤}
use Rattle.std.proofs.Common.{◌≡◌, inl, inr, ℕ, List, Bool, true, false, None, Ok, Err, Result, IfOk, IfErr, OnOk, nat_lt, sym, ap, subst, ◌∙◌}
use Rattle.sqlite_resolve.specs.Compile.{first}
use Rattle.sqlite.specs.Order.{Row}
use Rattle.sqlite.specs.declared.error.Error.{Error}
use Rattle.sqlite_schema.specs.declared.command.Command.{Command}
use Rattle.sqlite.specs.Listing.{understood, reads_listing}
use Rattle.sqlite.specs.Effect.{Database, Reads}
use Rattle.sqlite.specs.State.{State, HasCleanDisk, Survives, CommitsBy, Writes, Shown, FailsToQuery, CommitsShowing}
use Rattle.sqlite.proofs.Callers.{IsPlain, command_of, statement_of}
use Rattle.fuse_store_tables.specs.declared.version.Layout.{Layout}
use Rattle.fuse_store_tables.specs.Layout.{schema_for}
use Rattle.fuse_store_tables.specs.Content.{Content, Holds, HoldsAs, stored}
use Rattle.fuse_store_tables.specs.Moves.{Inside, InsideAs, Takes, Makes, Serves, ServesAs}
use Rattle.fuse_store_tables.specs.inner.Performing.{Ran, RanAny}
use Rattle.fuse_store_tables.specs.inner.Steps.{HoldsIn}
use Rattle.fuse_store_tables.proofs.Writing.{writes, makes, makes_any, says_any, told_before}
use Rattle.fuse_store_tables.proofs.Reading.{looks, read, read_held}
use Rattle.fuse_store_tables.proofs.Resting.{peeks}
use Rattle.fuse_store_tables.proofs.Edits.{IsEditText, edits_within}
use Rattle.fuse_store_tables.proofs.Queries.{IsSelectText, reads_within}

-- the family of one content
abbrev Only : Content → ⊤ → Database → Type 0
Only c _ = Holds c

schema_in : (c : Content) (x : ⊤) (d : Database) → Only c x d → d.schema ≡ schema_for c.layout
schema_in c x d h = h.schema

module _ (sql : List ℕ) (params : Row) (command : Layout → Command)
    (is : (l : Layout) → command_of (understood (schema_for l) sql) ≡ command l) (plain : (l : Layout) → IsPlain (understood (schema_for l) sql))
    (rows : (l : Layout) → writes (command l) ≡ true) where
  abbrev Wrote : Content → State → State → ℕ → Type 0
  Wrote c old new n = Writes old new None (command c.layout) (statement_of sql (understood (schema_for c.layout) sql)) params n

  pub makes_laid : IsEditText (first sql) → (Q : Content → Database → Type 0) → ((c : Content) (old new : State) (n : ℕ) → Holds c old.now
      → Wrote c old new n → Q c new.now)
      → (old new : State) (r : Result (Unit {0}) Error) → (HasCleanDisk new → Ran sql params old new r) → Survives old new (CommitsBy sql params old)
      → Takes Holds Q old new r
  makes_laid edit Q does old new (Ok x) runs survives =
      let within = edits_within sql params edit old new (Ok x) runs survives in
      record {
        stays = record { survives = within.survives; kept = within.kept };
        within = within.within;
        turns = λ clean c at.
            let one = makes (Only c) (schema_for c.layout) (schema_in c) sql params (command c.layout) (is c.layout) (plain c.layout) (rows c.layout) edit
            (λ _. Q c) (λ _. does c) old new (Ok x) runs survives in
            let on = one.turns clean tt (record { is_open = at.is_open; in_transaction = at.in_transaction; holds = at.holds }) in
            record { is_open = on.is_open; in_transaction = on.in_transaction; holds = on.holds };
      }
  makes_laid edit Q does old new (Err e) runs survives =
      let within = edits_within sql params edit old new (Err e) runs survives in
      record { stays = record { survives = within.survives; kept = within.kept }; within = tt; turns = tt }

  pub makes_any_laid : IsEditText (first sql) → (Q : Content → Database → Type 0) → ((c : Content) (old new : State) (n : ℕ) → Holds c old.now
      → Wrote c old new n → Q c new.now)
      → (old new : State) (r : Result Bool Error) → (HasCleanDisk new → RanAny sql params old new r) → Survives old new (CommitsBy sql params old)
      → Takes Holds Q old new r
  makes_any_laid edit Q does old new (Ok any) runs survives =
      let it = makes_laid edit Q does old new (Ok tt) (λ clean. ((runs clean).0, (runs clean).1)) survives in
      record { stays = it.stays; within = it.within; turns = it.turns }
  makes_any_laid edit Q does old new (Err e) runs survives =
      let it = makes_laid edit Q does old new (Err e) runs survives in
      record { stays = it.stays; within = tt; turns = tt }

  pub says_any_laid : (found : Content → Bool) → ((c : Content) (old new : State) (n : ℕ) → Holds c old.now → Wrote c old new n → nat_lt 0 n ≡ found c)
      → (old new : State) (r : Result Bool Error) → (HasCleanDisk new → RanAny sql params old new r)
      → HasCleanDisk new → IfOk r (λ any. (c : Content) → Inside c old → any ≡ found c)
  says_any_laid found does old new (Ok any) runs clean = λ c at.
      says_any (Only c) (schema_for c.layout) (schema_in c) sql params (command c.layout) (is c.layout) (plain c.layout) (rows c.layout)
      (λ _. found c) (λ _. does c) old new (Ok any) runs clean tt (record { is_open = at.is_open; in_transaction = at.in_transaction; holds = at.holds })
  says_any_laid found does old new (Err e) runs clean = tt

  pub told_before_laid : (Q : Content → Type 0) → ((c : Content) (old new : State) (n : ℕ) → Holds c old.now → Wrote c old new n → Q c)
      → (old new : State) (r : Result (Unit {0}) Error) → (HasCleanDisk new → Ran sql params old new r)
      → HasCleanDisk new → OnOk r ((c : Content) → Inside c old → Q c)
  told_before_laid Q does old new (Ok x) runs clean = λ c at.
      told_before (Only c) (schema_for c.layout) (schema_in c) sql params (command c.layout) (is c.layout) (plain c.layout) (rows c.layout)
      (λ _. Q c) (λ _. does c) old new (Ok x) runs clean tt (record { is_open = at.is_open; in_transaction = at.in_transaction; holds = at.holds })
  told_before_laid Q does old new (Err e) runs clean = tt

module _ (sql : List ℕ) (params : Row) (command : Layout → Command)
    (is : (l : Layout) → command_of (understood (schema_for l) sql) ≡ command l) (plain : (l : Layout) → IsPlain (understood (schema_for l) sql)) where
  -- of a family of which more is known
  pub looks_over : (P : Content → Database → Type 0) → ((c : Content) (d : Database) → P c d → Holds c d) → IsSelectText (first sql) → {X : Type 0} (items : X → List Row)
      → (old new : State) (r : Result X Error)
      → (HasCleanDisk new → IfOk r (λ x. Shown sql params old new (items x)))
      → (HasCleanDisk new → IfErr r (FailsToQuery sql params old new)) → Survives old new (CommitsShowing sql params old) → Takes P P old new r
  looks_over P to selects items old new (Ok x) ok err survives =
      let within = reads_within sql params selects items old new (Ok x) ok err survives in
      record {
        stays = record { survives = within.survives; kept = within.kept };
        within = within.within;
        turns = λ clean c at.
            let one = looks (λ (_ : ⊤). P c) (schema_for c.layout) (λ _ d h. (to c d h).schema) sql params (command c.layout) (is c.layout) (plain c.layout) selects
            items old new (Ok x) ok err survives in
            let on = one.turns clean tt (record { is_open = at.is_open; in_transaction = at.in_transaction; holds = at.holds }) in
            record { is_open = on.is_open; in_transaction = on.in_transaction; holds = on.holds };
      }
  looks_over P to selects items old new (Err e) ok err survives =
      let within = reads_within sql params selects items old new (Err e) ok err survives in
      record { stays = record { survives = within.survives; kept = within.kept }; within = tt; turns = tt }

  pub looks_laid : IsSelectText (first sql) → {X : Type 0} (items : X → List Row) (old new : State) (r : Result X Error)
      → (HasCleanDisk new → IfOk r (λ x. Shown sql params old new (items x)))
      → (HasCleanDisk new → IfErr r (FailsToQuery sql params old new)) → Survives old new (CommitsShowing sql params old) → Makes (λ c. c) old new r
  looks_laid = looks_over Holds (λ c d h. h)

  pub read_held_laid : ((l : Layout) → reads_listing (schema_for l) sql ≡ false) → (c : Content) (old new : State) (rows : List Row) → Holds c old.now
      → Shown sql params old new rows → Reads (command c.layout) old.now params rows
  read_held_laid unlisted c old new rows at h =
      read_held (Only c) (schema_for c.layout) (schema_in c) sql params (command c.layout) (is c.layout) (plain c.layout) (unlisted c.layout) tt old new rows at h

  pub read_laid : ((l : Layout) → reads_listing (schema_for l) sql ≡ false) → (c : Content) (old new : State) (rows : List Row) → Inside c old
      → Shown sql params old new rows → Reads (command c.layout) old.now params rows
  read_laid unlisted c old new rows at h = read_held_laid unlisted c old new rows at.holds h

-- outside a transaction
module _ (sql : List ℕ) (params : Row) (plain : (l : Layout) → IsPlain (understood (schema_for l) sql)) where
  pub peeks_laid : {X : Type 0} (items : X → List Row) (old new : State) (r : Result X Error)
      → (HasCleanDisk new → IfOk r (λ x. Shown sql params old new (items x)))
      → (HasCleanDisk new → IfErr r (FailsToQuery sql params old new)) → Survives old new (CommitsShowing sql params old) → Serves (λ c. c) old new r
  peeks_laid items = peeks Holds (λ c. schema_for c.layout) (λ c d h. h.schema) sql params (λ c. plain c.layout) items

-- ---- tables of one layout

pub schema_known : (l : Layout) (c : Content) (d : Database) → HoldsIn l c d → d.schema ≡ schema_for l
schema_known l c d h = h.0.schema ∙ ap schema_for h.1

-- a step for the layout that the tables have
pub known_takes : {X E : Type 0} (l : Layout) (Q : Content → Database → Type 0) (a b : State) (r : Result X E)
    → ((c : Content) → Holds c a.now → l ≡ c.layout) → Takes (HoldsIn l) Q a b r → Takes Holds Q a b r
known_takes l Q a b (Ok x) is p = record {
  stays = p.stays;
  within = p.within;
  turns = λ clean c at. p.turns clean c
      (record { is_open = at.is_open; in_transaction = at.in_transaction; holds = (at.holds, sym (is c at.holds)) });
}
known_takes l Q a b (Err e) is p = record { stays = p.stays; within = tt; turns = tt }

pub known_inside : (l : Layout) (a : State) → ((c : Content) → Holds c a.now → l ≡ c.layout) → (c : Content) → Inside c a → InsideAs (HoldsIn l c) a
known_inside l a is c at = record { is_open = at.is_open; in_transaction = at.in_transaction; holds = (at.holds, sym (is c at.holds)) }

pub held_in : (l : Layout) (c : Content) (d : Database) → HoldsIn l c d → HoldsAs (schema_for l) (stored c) d
held_in l c d h = subst (λ k. HoldsAs (schema_for k) (stored c) d) h.1 h.0

pub in_layout : (l : Layout) (c : Content) (d : Database) → c.layout ≡ l → HoldsAs (schema_for l) (stored c) d → HoldsIn l c d
in_layout l c d is h = (subst (λ k. HoldsAs (schema_for k) (stored c) d) (sym is) h, is)

pub known_looks : {X E : Type 0} (l : Layout) (a b : State) (r : Result X E) → ((c : Content) → Holds c a.now → l ≡ c.layout)
    → Takes (HoldsIn l) (HoldsIn l) a b r → Makes (λ c. c) a b r
known_looks l a b (Ok x) is p = record {
  stays = p.stays;
  within = p.within;
  turns = λ clean c at.
      let on = p.turns clean c (known_inside l a is c at) in
      record { is_open = on.is_open; in_transaction = on.in_transaction; holds = on.holds.0 };
}
known_looks l a b (Err e) is p = record { stays = p.stays; within = tt; turns = tt }

-- a step that keeps the layout, begun with tables of one layout
pub makes_in : {X E : Type 0} (l : Layout) (f : Content → Content) (a b : State) (r : Result X E) → ((c : Content) → (f c).layout ≡ c.layout) → Makes f a b r
    → Takes (HoldsIn l) (λ c. HoldsIn l (f c)) a b r
makes_in l f a b (Ok x) same p = record {
  stays = p.stays;
  within = p.within;
  turns = λ clean c at.
      let on = p.turns clean c (record { is_open = at.is_open; in_transaction = at.in_transaction; holds = at.holds.0 }) in
      record { is_open = on.is_open; in_transaction = on.in_transaction; holds = (on.holds, same c ∙ at.holds.1) };
}
makes_in l f a b (Err e) same p = record { stays = p.stays; within = tt; turns = tt }

pub known_told : {X E : Type 0} (l : Layout) (a : State) (r : Result X E) (Q : Content → Type 0) → ((c : Content) → Holds c a.now → l ≡ c.layout)
    → OnOk r ((c : Content) → InsideAs (HoldsIn l c) a → Q c) → OnOk r ((c : Content) → Inside c a → Q c)
known_told l a (Ok x) Q is told = λ c at. told c (known_inside l a is c at)
known_told l a (Err e) Q is told = tt

pub known_found : {X E : Type 0} (l : Layout) (a : State) (r : Result X E) (Q : Content → X → Type 0) → ((c : Content) → Holds c a.now → l ≡ c.layout)
    → IfOk r (λ x. (c : Content) → InsideAs (HoldsIn l c) a → Q c x) → IfOk r (λ x. (c : Content) → Inside c a → Q c x)
known_found l a (Ok x) Q is found = λ c at. found c (known_inside l a is c at)
known_found l a (Err e) Q is found = tt

-- the same of what is said by the layout
pub known_found_as : {X E : Type 0} (l : Layout) (a : State) (r : Result X E) (Q : Layout → Content → X → Type 0)
    → ((c : Content) → Holds c a.now → l ≡ c.layout)
    → IfOk r (λ x. (c : Content) → InsideAs (HoldsIn l c) a → Q l c x) → IfOk r (λ x. (c : Content) → Inside c a → Q c.layout c x)
known_found_as l a (Ok x) Q is found = λ c at. subst (λ k. Q k c x) (is c at.holds) (found c (known_inside l a is c at))
known_found_as l a (Err e) Q is found = tt

-- a step for the layout that the tables have, which keeps it
pub made_in : {X E : Type 0} (l : Layout) (f : Content → Content) (a b : State) (r : Result X E) → ((c : Content) → Holds c a.now → l ≡ c.layout)
    → Takes (HoldsIn l) (λ c. HoldsIn l (f c)) a b r → Makes f a b r
made_in l f a b (Ok x) is p = record {
  stays = p.stays;
  within = p.within;
  turns = λ clean c at.
      let on = p.turns clean c (known_inside l a is c at) in
      record { is_open = on.is_open; in_transaction = on.in_transaction; holds = on.holds.0 };
}
made_in l f a b (Err e) is p = record { stays = p.stays; within = tt; turns = tt }
