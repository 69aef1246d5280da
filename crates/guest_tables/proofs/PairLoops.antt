-- The pages of a scan, one statement after another.
use Rattle.std.proofs.Common.{◌≡◌, ◌<◌, ℕ, suc, Bool, true, false, cond, Ok, Err, Result, IfErr, IsErrAnd, refl, sym, subst, arith}
use Rattle.sqlite.specs.State.{State, HasCleanDisk}
use Rattle.fuse_keeper.specs.declared.fault.StoreFault.{StoreFault}
use Rattle.guest_frames.specs.Frames.{ScanContent}
use Rattle.fuse_store_tables.specs.Faults.{IsOutside}
use Rattle.fuse_store_tables.specs.inner.Following.{earlier}
use Rattle.guest_tables.specs.declared.scans.Walk.{Walk}
use Rattle.guest_tables.specs.Content.{GuestContent}
use Rattle.guest_tables.specs.Holding.{pairs_in}
use Rattle.guest_tables.specs.Moves.{Inside, Makes}
use Rattle.guest_tables.specs.inner.Walks.{IsAtOrOver, GoesOn}

pub one_page : {E F : Type 0} (s : ScanContent) (a b d : State) (old new : Walk) (was on : Bool) → Makes {X = Unit {0}} {E = E} (λ c. c) a b (Ok tt)
    → Makes {X = Bool} {E = F} (λ c. c) b d (Ok on) → (HasCleanDisk b → (c : GuestContent) → Inside c a → IsAtOrOver s (pairs_in c) old was) → was ≡ true
    → (HasCleanDisk d → (c : GuestContent) → Inside c b → GoesOn s (pairs_in c) old new on)
    → HasCleanDisk d → (c : GuestContent) → Inside c a → IsAtOrOver s (pairs_in c) new on
one_page s a b d old new was on p q before is step clean c at =
    let mid = earlier b d _ q.stays.survives clean in
    step clean c (p.turns mid c at) (subst (IsAtOrOver s (pairs_in c) old) is (before mid c at))

-- a page that failed
pub page_fails : {E X Y : Type 0} (a b d : State) (e : StoreFault) (r : Result Y StoreFault) → Makes {X = Unit {0}} {E = E} (λ c. c) a b (Ok tt)
    → Makes {X = X} {E = StoreFault} (λ c. c) b d (Err e) → IsErrAnd r (λ f. f ≡ e) → (HasCleanDisk d → (c : GuestContent) → Inside c b → IsOutside e)
    → HasCleanDisk d → IfErr r (λ f. (c : GuestContent) → Inside c a → IsOutside f)
page_fails a b d e (Ok y) p q same out clean = absurd same
page_fails a b d e (Err f) p q same out clean = λ c at.
    subst IsOutside (sym same) (out clean c (p.turns (earlier b d _ q.stays.survives clean) c at))

-- a scan that goes on has less room
pub less_left : (on was : Bool) (m n : ℕ) → was ≡ true → (on ≡ true → m < n) → cond on (suc m) 0 < cond was (suc n) 0
less_left true true m n is low = let less = low refl in omega (arith, less)
less_left false true m n is low = omega arith
less_left on false m n is low = absurd cc
