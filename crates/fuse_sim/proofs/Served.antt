-- What is said of a keeper with the service that it gives is so of the model, where the keeper is honest.
use Rattle.std.proofs.Common.{◌≡◌, ◌∙◌, ℕ, Bool, true, false, List, Option, Some, None, IfSome, IsSomeAnd, refl, sym, subst}
use Rattle.fuse_request.specs.Opcodes.{Service}
use Rattle.fuse_keeper.specs.History.{History}
use Rattle.fuse_keeper.specs.Model.{Model}
use Rattle.fuse_keeper.specs.KeeperState.{KeeperState, IsSound, KeepsHeld}
use Rattle.fuse_sim.specs.declared.event.Event.{Event}
use Rattle.fuse_sim.specs.Driving.{told_in, told_for, StandsIn, committed, settled_by, NoneReused, LeftBy, KeepsMedium, OpenedAt, Opened, EventIn, up_to, dies}

-- a keeper gives its own service
pub serves_itself : {M : Model} {K : Type 0} (told : K → KeeperState M) (k : Option K) → IfSome k (λ x. (told x).service ≡ (told_in told k).service)
serves_itself told None = tt
serves_itself told (Some x) = refl

-- which is the model's where the keeper that is left is honest and gives it too
pub gives_in : (M : Model) → {K : Type 0} (V : Service) (told : K → KeeperState M) (new : Option K) → IfSome new (λ x. (told x).service ≡ V)
    → ((x : K) → IsSound (told x)) → (told_in told new).is_honest → V ≡ M.service
gives_in M V told None stays sound honest = absurd honest
gives_in M V told (Some x) stays sound honest = sym stays ∙ (sound x).service honest

pub left_by : {M : Model} (k : KeeperState M) (b : Bool) (P : Type 0) → (k.is_clean → k.is_honest) → (k.is_honest → LeftBy k b P) → LeftBy k b P
left_by k true P too so = λ clean. so (too clean) clean
left_by k false P too so = λ honest. so honest honest

-- what doesn't depend on the service
pub honest_of : {M : Model} {K : Type 0} (V : Service) (told : K → KeeperState M) (old new : Option K)
    → ((told_in (told_for V told) new).is_honest → (told_in (told_for V told) old).is_honest) → (told_in told new).is_honest → (told_in told old).is_honest
honest_of V told old None so honest = absurd honest
honest_of V told None (Some k) so honest = so honest
honest_of V told (Some a) (Some k) so honest = so honest

pub medium_of : {M : Model} {K : Type 0} (V : Service) (told : K → KeeperState M) (old new : Option K)
    → KeepsMedium (told_for V told) old new → KeepsMedium told old new
medium_of V told None new so = λ memory. absurd memory
medium_of V told (Some a) None so = λ memory. so memory
medium_of V told (Some a) (Some b) so = λ memory. so memory

-- how often it was opened, and what stood then
pub opened_of : (M : Model) → {K : Type 0} (V : Service) (told : K → KeeperState M) (became : K → K → ℕ → Type 0) (old new : Option K) (events : List Event)
    → ((told_in told new).is_honest → V ≡ M.service) → Opened (told_for V told) became old new events → Opened told became old new events
opened_of M V told became old new events same opened = record {
  often = opened.often;
  each = λ at died.
      let one = opened.each at died in
      record {
        left = one.left;
        opened = one.opened;
        before = one.before;
        once = one.once;
        after = one.after;
        kept = λ honest. subst (λ W. (told_in (told_for W told) new).is_honest → KeepsHeld (told_in (told_for W told) one.left) (told_in (told_for W told) one.opened))
            (same honest) one.kept honest;
        stood = λ honest. subst (λ W. (told_in (told_for W told) new).is_honest → (s : M.State) (h : History) (t : List ℕ) → StandsIn (told_for W told) old s h t
            → NoneReused W t (up_to at) → StandsIn (told_for W told) one.left s (committed W h (up_to at)) (settled_by W t (up_to at)))
            (same honest) one.stood honest;
      };
}
