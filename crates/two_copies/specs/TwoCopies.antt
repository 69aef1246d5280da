-- The state of a keeper with two copies (defined by this project).
use Rattle.std.specs.Prelude.{◌≡◌, ◌⊎◌, ◌<◌, ◌-◌, ◌+◌, ◌||◌, ℕ, Bool, true, false, List, Result, MatchResult}
use Rattle.fuse_keeper.specs.declared.fault.StoreFault.{StoreFault}
use Rattle.fuse_keeper.specs.declared.fault.StoreFault.TheVariants.{Damaged}
use Rattle.fuse_keeper.specs.Model.{Model}
use Rattle.fuse_keeper.specs.KeeperState.{KeeperState, KeepsHeld, ActsOn}
use Rattle.fuse_keeper.specs.History.{Entry}
use Rattle.fuse_keeper.specs.declared.keeper.Done.{Done}
use Rattle.fuse_keeper.specs.PlainKeeper.{plain_told}
use Rattle.fuse_keeper.specs.Lots.{no_lots}
use Rattle.two_copies.specs.declared.copies.TwoCopies.{TwoCopies}

-- both hold the same
abbrev pub HoldsAlike : {M : Model} → KeeperState M → KeeperState M → Type 0
HoldsAlike a b = KeepsHeld a b × KeepsHeld b a

-- where no write is in doubt it holds the content of both copies; a crash leaves the committed one; and since a commit may be
-- left open, it isn't said to lie in memory alone
abbrev pub two_told : {F : Type 0} → (M : Model) → (F → M.Rows) → TwoCopies F → KeeperState M
two_told M held k = record {
  holds = λ rows records. (plain_told M held k.committed).holds rows records
      × (plain_told M held k.working).holds rows records × (k.in_doubt ≡ false);
  is_honest = Unit {0};
  is_clean = k.in_doubt ≡ false;
  in_memory = ⊥;
  has_failed = k.in_doubt || (plain_told M held k.working).has_failed;
  leaves_whole = Unit {0};
  may_leave = (plain_told M held k.committed).holds;
  may_answer = (plain_told M held k.working).may_answer;
  lots = no_lots;
  service = M.service;
}

-- how its commits go
pub record CommitPlan : Type 0 where
  -- so many go well between two that are refused
  pub between : ℕ
  -- so many of them are left
  pub left : ℕ
  -- the next one that isn't refused holds and answers a fault
  pub faults : Bool

abbrev pub plan_of : {F : Type 0} → TwoCopies F → CommitPlan
plan_of k = record { between = k.commits; left = k.left; faults = k.faults }

-- of a new keeper
abbrev pub new_plan : ℕ → CommitPlan
new_plan commits = record { between = commits; left = commits; faults = false }

-- no commit was tried, or there was no memory for it
pub record Untried {F : Type 0} (old new : TwoCopies F) : Type 0 where
  pub plan : plan_of new ≡ plan_of old
  pub committed : new.committed ≡ old.committed

-- the commit was refused, and the plan begins anew
pub record Refused {F : Type 0} (old new : TwoCopies F) (fault : StoreFault) : Type 0 where
  pub none_left : old.left ≡ 0
  pub damaged : fault ≡ Damaged
  pub plan : plan_of new ≡ record (plan_of old) { left = old.commits }
  pub committed : new.committed ≡ old.committed

-- the commit held, and answered a fault
pub record Faulted {F : Type 0} (M : Model) (held : F → M.Rows) (old new : TwoCopies F) (fault : StoreFault) : Type 0 where
  pub some_left : 0 < old.left
  pub faults : old.faults ≡ true
  pub damaged : fault ≡ Damaged
  pub plan : plan_of new ≡ record (plan_of old) { left = old.left - 1; faults = false }
  pub committed : HoldsAlike (plain_told M held new.working) (plain_told M held new.committed)

-- the commit went well
pub record WentWell {F : Type 0} (old new : TwoCopies F) : Type 0 where
  pub some_left : 0 < old.left
  pub no_fault : old.faults ≡ false
  pub plan : plan_of new ≡ record (plan_of old) { left = old.left - 1 }

-- the commit failed as it was planned
abbrev pub FailedAsPlanned : {F : Type 0} → (M : Model) → (F → M.Rows) → TwoCopies F → TwoCopies F → StoreFault → Type 0
FailedAsPlanned M held old new fault = Refused old new fault ⊎ Faulted M held old new fault

-- a call that commits goes by the plan
abbrev pub Follows : {F A : Type 0} → (M : Model) → (F → M.Rows) → TwoCopies F → TwoCopies F → Result A StoreFault → Type 0
Follows M held old new result =
    MatchResult result (λ _. WentWell old new) (λ fault. Untried old new ⊎ FailedAsPlanned M held old new fault)

-- its working copy was asked to perform the group: it failed and holds what it held, or it performed the group
abbrev pub WorkingAsked : {F : Type 0} → (M : Model) → (F → M.Rows) → TwoCopies F → TwoCopies F → List ℕ → List Entry → Type 0
WorkingAsked M held old new settled group =
    ((plain_told M held new.working).has_failed ≡ true) × KeepsHeld (plain_told M held old.working) (plain_told M held new.working)
    ⊎ ((dones : List Done) × ActsOn (plain_told M held old.working) (plain_told M held new.working) settled group dones)

-- a later state, opened again so often on the way, with the same number of commits between two that are refused
abbrev pub IsLater : {F : Type 0} → TwoCopies F → TwoCopies F → ℕ → Type 0
IsLater a b n = (b.openings ≡ a.openings + n) × (b.commits ≡ a.commits)
