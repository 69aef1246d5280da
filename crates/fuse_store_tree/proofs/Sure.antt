-- Which faults may be answered where something is held.
use Rattle.std.proofs.Common.{◌≡◌, ◌<◌, ℕ, List, [], ◌∷◌, Ok, Err, Result, IfErr, OnErr, Option, Some, None, IfSome, zero, suc, get_or, length, arith}
use Rattle.std.specs.Prelude.{IsTrue}
use Rattle.std.proofs.Common.{Bool, true, false, cond, refl, sym, subst}
use Rattle.std.specs.List.{AllByRecursion}
use Rattle.sqlite.specs.Effect.{Database}
use Rattle.sqlite.specs.State.{State, HasCleanDisk}
use Rattle.sqlite.specs.declared.error.Error.{Error}
use Rattle.fuse_keeper.specs.declared.fault.StoreFault.{StoreFault}
use Rattle.fuse_keeper.specs.declared.fault.StoreFault.TheVariants.{Memory, Sql}
use Rattle.fuse_tree.specs.State.{State as TreeState, Tree}
use Rattle.fuse_tree.specs.Rowed.{rowed}
use Rattle.fuse_plan.specs.Plan.{look_fault as answered_fault}
use Rattle.fuse_plan.specs.declared.planned.Planned.{Planned}
use Rattle.fuse_plan.specs.declared.planning.fault.PlanFault.{PlanFault}
use Rattle.fuse_plan.specs.declared.planning.fault.PlanFault.TheVariants as plans
use Rattle.fuse_store_tables.specs.Faults.{IsOutside, IsPlain}
use Rattle.fuse_store_tables.specs.Content.{Content}
use Rattle.fuse_store_tables.specs.Moves.{Inside, IsReady, Stays}
use Rattle.fuse_store_tables.specs.inner.Performing.{IsSure}
use Rattle.fuse_store_tables.specs.inner.Following.{earlier}
use Rattle.fuse_store_tree.specs.Store.{Held, HeldAs, bodies_of}
use Rattle.fuse_store_tree.specs.Pieces.{ReadsFile}
use Rattle.fuse_store_tree.specs.Knowing.{KnownTables, HeldForKnown}
use Rattle.fuse_store_tree.specs.Looking.{as_look_fault, sees_known, MayFail}
use Rattle.fuse_store_tree.specs.inner.Acting.{why_no_plan}
use Rattle.fuse_store_tree.specs.inner.Reading.{IsSound}
use Rattle.fuse_store_tree.specs.Holding.{Holding, HeldFor, store_of}
use Rattle.fuse_store_tree.specs.inner.Changing.{InsideFor, Turned, IsSureFor}
use Rattle.fuse_store_tree.specs.Group.{HasLotLeft}
use Rattle.fuse_store_tree.proofs.Turning.{told_in}

-- a fault after a step: it begins with what the step makes
pub fault_next : {C D : Type 0} (P : C → Database → Type 0) (Q : D → Database → Type 0) (a b d : State) (f : StoreFault) → Stays b d
    → (HasCleanDisk b → IsReady P a → IsReady Q b) → (HasCleanDisk d → IsReady Q b → IsOutside f) → HasCleanDisk d → IsReady P a → IsOutside f
fault_next P Q a b d f stays on sure clean at = sure clean (on (earlier b d _ stays.survives clean) at)

-- the same of a call
pub sure_next : {C D X : Type 0} (P : C → Database → Type 0) (Q : D → Database → Type 0) (a b d : State) (r : Result X StoreFault) → OnErr r (Stays b d)
    → (HasCleanDisk b → IsReady P a → IsReady Q b) → IsSure Q b d r → IsSure P a d r
sure_next P Q a b d (Ok x) stays on sure clean = tt
sure_next P Q a b d (Err f) stays on sure clean = fault_next P Q a b d f stays on sure clean

-- what is known of sound contents
pub sure_sound : {X : Type 0} (file : List ℕ) (a b : State) (r : Result X StoreFault)
    → (HasCleanDisk b → IfErr r (λ f. (c : Content) → Inside c a → IsSound file c → IsOutside f)) → IsSure (HeldAs file) a b r
sure_sound file a b (Ok x) told clean = tt
sure_sound file a b (Err f) told clean = λ (w, at). told clean at.holds.0
    (record { is_open = at.is_open; in_transaction = at.in_transaction; holds = at.holds.1 }) (at.holds.2.fits, at.holds.2.pieces)

-- of SQL, or out of memory
pub outside_either : (b : Bool) (e : Error) → IsOutside (cond b Memory (Sql e))
outside_either true e = tt
outside_either false e = tt

-- what is known whatever the bytes
pub sure_held : {X : Type 0} (file : List ℕ) (a b : State) (r : Result X StoreFault) → IsSure (HeldAs file) a b r → IsSure (Held file) a b r
sure_held file a b (Ok x) sure clean = tt
sure_held file a b (Err f) sure clean = λ (x, at). sure clean ((x, bodies_of x.rows), at)

-- what holds of each holds of the one at a place
pub one_of : {X : Type 0} (P : X → Type 0) (xs : List X) (i : ℕ) (x : X) → AllByRecursion P xs → i < length xs → P (get_or xs i x)
one_of P [] i x all low = absurd (omega (arith, low))
one_of P (y ∷ ys) zero x all low = all.0
one_of P (y ∷ ys) (suc i) x all low = one_of P ys i x all.1 (omega (arith, low))

-- ---- looks

none_before : (o : Option StoreFault) → as_look_fault o ≡ None → o ≡ None
none_before None is = refl
none_before (Some f) is = absurd cc

-- a look that failed with a fault that is outside
pub failed_so : (a b : KnownTables) (was is : Option StoreFault) (f : StoreFault) → is ≡ Some f → Stays a.tables b.tables → ReadsFile a.file b.file → IsPlain f
    → (HasCleanDisk b.tables → IsTrue b.file.is_clean → (y : Holding) → InsideFor b.file.bytes y a.tables → IsOutside f) → MayFail a b was is
failed_so a b was is f same stays reads plain sure = record {
  stays = stays;
  file = reads;
  plain = λ none. subst (λ o. IfSome o IsPlain) (sym same) plain;
  sure = λ none clean read (y, at). subst (λ o. IfSome o IsOutside) (sym same) (sure clean read y at);
}

-- nothing was planned: the rows being a tree's, and what is known of them right, its fault is outside
pub no_plan : (fault : PlanFault) (was is : Option StoreFault) (a b : KnownTables) → as_look_fault was ≡ None
    → as_look_fault is ≡ answered_fault {X = Planned} (Err fault) → MayFail a b was is
    → (fault ≡ plans.NotATree → HasCleanDisk b.tables → IsTrue b.file.is_clean → (s : TreeState) → Tree s
    → sees_known b.file.bytes a.known a.tables (rowed s) → ⊥)
    → HasCleanDisk b.tables → IsTrue b.file.is_clean → IsReady (HeldForKnown b.file.bytes a.known) a.tables → IsOutside (why_no_plan fault is)
no_plan plans.Memory was is a b none told fails not_a_tree clean read ready = tt
no_plan plans.NotATree was is a b none told fails not_a_tree clean read (y, at) =
    absurd (not_a_tree refl clean read y.tree at.holds.0.tree (
      (
        store_of y,
        told_in b.file.bytes y a.tables (record {
          is_open = at.is_open;
          in_transaction = at.in_transaction;
          holds = at.holds.0;
        }),
        refl,
      ),
      at.holds.1,
    ))
no_plan (plans.Look f) was None a b none told fails not_a_tree clean read ready = absurd cc
no_plan (plans.Look f) was (Some g) a b none told fails not_a_tree clean read (y, at) =
    fails.sure (none_before was none) clean read (y, record { is_open = at.is_open; in_transaction = at.in_transaction; holds = at.holds.0 })

-- whatever is held, it is plain
pub no_plan_plain : (fault : PlanFault) (was is : Option StoreFault) (a b : KnownTables) → as_look_fault was ≡ None → MayFail a b was is
    → IsPlain (why_no_plan fault is)
no_plan_plain plans.Memory was is a b none fails = tt
no_plan_plain plans.NotATree was is a b none fails = tt
no_plan_plain (plans.Look f) was None a b none fails = tt
no_plan_plain (plans.Look f) was (Some g) a b none fails = fails.plain (none_before was none)

-- a holding is a store
pub ready_held : (file : List ℕ) (a : State) → IsReady (HeldFor file) a → IsReady (Held file) a
ready_held file a (y, at) = (store_of y, told_in file y a at)

-- ---- a group

-- the same where no lot may be left
pub left_sure : {X : Type 0} (file : List ℕ) (lot : Option ℕ) (f : Holding → Holding) (a b d : State) (r : Result X StoreFault) → Turned file f a b → OnErr r (Stays b d)
    → ((y : Holding) → HasLotLeft lot y → HasLotLeft lot (f y)) → IsSureFor file lot b d r → IsSureFor file lot a d r
left_sure file lot f a b d (Ok x) p keeps on sure clean = tt
left_sure file lot f a b d (Err e) p keeps on sure clean = λ y at left. sure clean (f y) (p.turns (earlier b d _ keeps.survives clean) y at) (on y left)
