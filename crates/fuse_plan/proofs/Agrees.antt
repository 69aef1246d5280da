-- A plan agrees with what is done: what the operations' lemmas share.
use Rattle.std.proofs.Common.{◌≡◌, Bool, true, false, cond, List, Option, Some, None, refl, sym, subst}
use Rattle.fuse_wire.specs.declared.errno.Errno.{Errno}
use Rattle.fuse_plan.specs.declared.planned.Planned.{Planned}
use Rattle.fuse_tree.specs.Checks.{Check, first_error}
use Rattle.fuse_tree.specs.State.{State, Shape, NodesAreKept}
use Rattle.fuse_rows.specs.Rows.{apply}
use Rattle.fuse_tree.specs.Rowed.{rows_of_state}
use Rattle.fuse_tree.specs.Done.{Done, refuse, refuse_for, refuse_by}
use Rattle.fuse_plan.specs.inner.Reading.{refused, refused_for, refused_by}
use Rattle.fuse_plan.proofs.Checks.{Passed, passed}

pub record Agrees (s : State) (p : Planned) (d : Done) : Type 0 where
  pub answer : p.answer ≡ d.said
  pub rows : apply (rows_of_state s) p.changes ≡ rows_of_state d.state
  pub tree : Shape d.state
  pub same : d.state.capacity ≡ s.capacity
  pub kept : NodesAreKept s → NodesAreKept d.state

pub refused_agrees : (s : State) → Shape s → (errno : Errno) → Agrees s (refused errno) (refuse s errno)
refused_agrees s tree errno = record { answer = refl; rows = refl; tree = tree; same = refl; kept = λ all. all }

-- both tests of a check go the same way
pub both : (s : State) (b : Bool) (p q : Planned) (d e : Done) → (b ≡ true → Agrees s p d) → (b ≡ false → Agrees s q e) → Agrees s (cond b p q) (cond b d e)
both s true p q d e there other = there refl
both s false p q d e there other = other refl

-- the plan's test is the same in other words
pub both_seen : (s : State) (b' b : Bool) (p q : Planned) (d e : Done) → b' ≡ b → (b ≡ true → Agrees s p d) → (b ≡ false → Agrees s q e)
    → Agrees s (cond b' p q) (cond b d e)
both_seen s b' b p q d e same there other = subst (λ (x : Bool). Agrees s (cond x p q) (cond b d e)) (sym same) (both s b p q d e there other)

pub both_for : (s : State) (fault : Option Errno) (p : Planned) (d : Done) → Shape s → (fault ≡ None → Agrees s p d)
    → Agrees s (refused_for fault p) (refuse_for s fault d)
both_for s None p d tree other = other refl
both_for s (Some errno) p d tree other = refused_agrees s tree errno

-- the checks on both sides are the same
pub checked : (s : State) (checks : List Check) (p : Planned) (d : Done) → Shape s → Passed checks (Agrees s p d)
    → Agrees s (refused_by checks p) (refuse_by s checks d)
checked s checks p d tree so = both_for s (first_error checks) p d tree (λ none. passed checks (Agrees s p d) none so)
