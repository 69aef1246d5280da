-- A store that was made, or opened for a mount that begins.
use Rattle.std.proofs.Common.{◌≡◌, ℕ, Bool, false, List, [], Option, None, Result, refl, sym, ap, subst, ◌∙◌, IsTrue}
use Rattle.sqlite.specs.Effect.{Database}
use Rattle.sqlite.specs.Tree.{Trees}
use Rattle.sqlite.specs.State.{State, HasCleanDisk, IsLive, Survives}
use Rattle.sqlite.proofs.StateLemmas.{survives_weaker}
use Rattle.fuse_init.specs.declared.settings.Settings.{Settings}
use Rattle.fuse_keeper.specs.Lots.{no_lots}
use Rattle.fuse_keeper.specs.declared.fault.StoreFault.{StoreFault}
use Rattle.fuse_keeper.specs.declared.fault.StoreFault.TheVariants.{Memory, Sql, NotAStore, Version, Damaged, Guest as GuestFailed}
use Rattle.std.specs.Prelude.{Ok, Err}
use Rattle.fuse_guest.specs.GuestModel.{new_guest_store}
use Rattle.fuse_guest.specs.Talk.{Guest}
use Rattle.fuse_store_tables.specs.Content.{LeftAs}
use Rattle.fuse_store_tables.specs.Faults.{IsOutside}
use Rattle.fuse_store_tables.specs.Layout.{no_schema}
use Rattle.fuse_store_tables.specs.Making.{IsBare}
use Rattle.fuse_store_tables.specs.Moves.{RestsAs, ServesAs, IsSafe}
use Rattle.guest_tables.specs.Clearing.{cleared}
use Rattle.guest_tables.specs.Content.{GuestContent}
use Rattle.guest_tables.specs.Holding.{HeldFor}
use Rattle.guest_tables.specs.Making.{IsNew, new_content}
use Rattle.guest_tables.specs.Opening.{IsStored}
use Rattle.guest_tables.specs.PairSteps.{StepsFit}
use Rattle.guest_tables.specs.Reading.{HoldingsAreRead}
use Rattle.guest_tables.specs.Saying.{Says}
use Rattle.guest_talk.specs.Greeting.{IsGreeted, hello_for}
use Rattle.guest_talk.specs.TalkState.{TalkState}
use Rattle.guest_store.specs.Holding.{records_of}
use Rattle.guest_store.specs.Mounting.{begun}
use Rattle.guest_store.specs.Starts.{IsBlank, LeavesBegun, LeavesMade, MakesGuest, new_held}
use Rattle.guest_store.specs.StoreState.{HeldOf, IsAtRest, StoreState, StoredFor, held_as}
use Rattle.guest_store.specs.TableState.{guest_told}
use Rattle.guest_store.proofs.Beginning.{starts}
use Rattle.guest_store.proofs.Rests.{begun_in, cleared_is}
use Rattle.guest_store.proofs.Serving.{good_held, holds_at, its_own, lots_same}

-- ---- a new store

-- a blank database, at rest
pub bare_of : (s : State) → IsLive s → (s.in_transaction ≡ false → IsTrue s.is_open → s.now ≡ s.committed) → IsBlank s → RestsAs (IsBare no_schema tt) s
bare_of s live settled blank = record {
  is_open = blank.0;
  autocommit = blank.1;
  holds = record { schema = blank.2; sound = (live blank.0).0; rows = tt };
  committed = sym (settled blank.1 blank.0);
}

new_stored : (G : Guest) (number : ℕ) (d : Database) → IsNew number tt d → StoredFor G number (new_held G) d
new_stored G number d at = record { held = (new_content number, at.holds, at.fit, refl); records = tt }

pub new_rests : (G : Guest) (number : ℕ) (s : State) → RestsAs (IsNew number tt) s → IsAtRest G number (new_held G) s
new_rests G number s at = record {
  is_open = at.is_open;
  autocommit = at.autocommit;
  holds = new_stored G number s.now at.holds;
  committed = at.committed;
}

pub new_makes : HoldingsAreRead → StepsFit → (G : Guest) (number : ℕ) (s : StoreState) (failed : Bool) → IsAtRest G number (new_held G) s.tables
    → MakesGuest G (guest_told G s None failed)
new_makes read fits G number s failed at =
    let lots = lots_same read G None number (new_held G) s.tables.now at.holds in
    record {
      stands = record {
        rows = new_guest_store;
        records = records_of [];
        held = holds_at read G s.tables number (new_held G) new_guest_store (records_of []) at (its_own G (new_held G));
        stands = starts G new_guest_store (good_held fits G number (new_held G) s.tables.now at.holds);
      };
      lots = record { numbers = lots.numbers; current = lots.current; under = λ i. lots.under i };
    }

-- what a crash leaves of one that failed
pub new_left : (G : Guest) (number : ℕ) (a b : State) → (IsBlank a → RestsAs (IsBare no_schema tt) a)
    → Survives a b (λ db. (u : Unit {0}) → RestsAs (IsBare no_schema tt) a → LeftAs (IsNew number tt) db) → Survives a b (LeavesMade G number a)
new_left G number a b bare p = survives_weaker a b _ (LeavesMade G number a) (λ clean db left blank.
    let is = left tt (bare blank) in
    (is.0, new_stored G number is.0 is.1, is.2)) p

pub says_outside : (d : Database) (f : StoreFault) → IsOutside f → Says d f
says_outside d Memory is = tt
says_outside d (Sql e) is = tt
says_outside d NotAStore is = absurd is
says_outside d (Version n) is = absurd is
says_outside d Damaged is = absurd is
says_outside d GuestFailed is = absurd is

-- ---- a mount that begins

-- the content of a store in order
pub stored_at_rest : (G : Guest) (n : ℕ) (y : HeldOf G) (s : State) (at : IsAtRest G n y s) → RestsAs (IsStored at.holds.held.0) s
stored_at_rest G n y s at = record {
  is_open = at.is_open;
  autocommit = at.autocommit;
  holds = record { holds = at.holds.held.1; fit = at.holds.held.2 };
  committed = at.committed;
}

begun_stored : (G : Guest) (n : ℕ) (y : HeldOf G) (e d : Database) (at : StoredFor G n y e) → IsStored (cleared at.held.0) d → StoredFor G n (begun y) d
begun_stored G n y e d at now = record {
  held = (cleared at.held.0, now.holds, now.fit, cleared_is at.held.0 at.held.2 ∙ ap begun_in at.held.3);
  records = tt;
}

pub begun_rests : (G : Guest) (n : ℕ) (y : HeldOf G) (a b : State) (at : IsAtRest G n y a) → RestsAs (IsStored (cleared at.holds.held.0)) b
    → IsAtRest G n (begun y) b
begun_rests G n y a b at now = record {
  is_open = now.is_open;
  autocommit = now.autocommit;
  holds = begun_stored G n y a.now b.now at.holds now.holds;
  committed = now.committed;
}

pub begun_left : (G : Guest) (a b : State) → Survives a b (λ db. (c : GuestContent) → RestsAs (IsStored c) a → LeftAs (IsStored (cleared c)) db)
    → Survives a b (LeavesBegun G a)
begun_left G a b p = survives_weaker a b _ (LeavesBegun G a) (λ clean db left n y at.
    let is = left at.holds.held.0 (stored_at_rest G n y a at) in
    (is.0, begun_stored G n y a.now is.0 at.holds is.1, is.2)) p

-- ---- a mount that goes on

pub rests_still : (G : Guest) (n : ℕ) (y : HeldOf G) (a b : State) → IsAtRest G n y a → RestsAs (HeldFor (held_as G n y)) b → IsAtRest G n y b
rests_still G n y a b at now = record {
  is_open = now.is_open;
  autocommit = now.autocommit;
  holds = record { held = now.holds; records = at.holds.records };
  committed = now.committed;
}

pub greeted_as : (coming sent : Option (List ℕ)) (s r : Option Settings) (p q : ℕ) (t : TalkState) → s ≡ r → p ≡ q
    → IsGreeted coming sent (hello_for s p) p t → IsGreeted coming sent (hello_for r q) q t
greeted_as coming sent s r p q t settings pledged is =
    subst (λ (o : Option Settings). IsGreeted coming sent (hello_for o q) q t) settings
    (subst (λ n. IsGreeted coming sent (hello_for s n) n t) pledged is)

pub outside_at_rest : (G : Guest) (a b : State) (s : StoreFault) → IsSafe {X = Unit {0}} IsStored a b (Err s) → HasCleanDisk b → (n : ℕ) (y : HeldOf G)
    → IsAtRest G n y a → IsOutside s
outside_at_rest G a b s safe clean n y at = safe clean at.holds.held.0 (stored_at_rest G n y a at)
