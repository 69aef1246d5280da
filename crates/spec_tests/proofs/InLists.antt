-- The promise of `run_simulate`, for a keeper over lists.
use Rattle.std.proofs.Common.{◌≡◌, refl, arith, false, ℕ, ◌≤◌, List, [], Option, Some, None, ap, subst, ◌∙◌}
use Rattle.std.specs.Prelude.{IfSome, IsSomeAnd}
use Rattle.std.specs.Io.KnownBytes.{Appends}
use Rattle.fuse_tree.specs.State.{State}
use Rattle.fuse_tree.specs.Rowed.{rowed}
use Rattle.fuse_keeper.specs.declared.fault.StoreFault.{StoreFault}
use Rattle.fuse_keeper.specs.declared.fault.StoreFault.TheVariants.{Memory as NoMemory}
use Rattle.fuse_keeper.specs.declared.plain.PlainKeeper.{PlainKeeper}
use Rattle.fuse_keeper.specs.Performance.{Performance}
use Rattle.fuse_init.specs.declared.profile.PlainProfile.{PlainProfile}
use Rattle.fuse_lists.specs.declared.plain_tree.PlainTree.{PlainTree}
use Rattle.spec_tests.specs.inner.TreeInLists.{tree_told}
use Rattle.fuse_init.specs.declared.profile.Profile.TheVariants.{Plain}
use Rattle.fuse_tree.specs.TheTree.{tree_of}
use Rattle.fuse_sim.specs.declared.event.Event.{Event}
use Rattle.fuse_sim.specs.Driving.{StandsIn, told_in}
use Rattle.fuse_sim.specs.Twice.{Seen}
use Rattle.fuse_commands.specs.declared.ending.Ending.{Ending}
use Rattle.fuse_commands.specs.declared.ending.Ending.TheVariants.{Done, ScriptLine}
use Rattle.fuse_commands.specs.Endings.{status_of, store_ending}
use Rattle.fuse_commands.specs.Simulating.{simulation_text, StoreEnded, StoppedIn, Simulated}
use Rattle.fuse_commands.specs.inner.Simulating.{SimulatedFrom, from_start}
use Rattle.spec_tests.specs.InLists.{start, tree_text, Reuses, SimulatedAnew}

abbrev Lists : Type 0
Lists = PlainKeeper (PlainTree PlainProfile)

abbrev Kept : Type 0
Kept = Option Lists

-- lists, with any relations of what became of them and of what they refuse
abbrev pub seen : (Lists → Lists → ℕ → Type 0) → (Lists → Lists → List Performance → Type 0) → (Lists → StoreFault → Type 0) → Seen (tree_of Plain) Lists
seen became performed may_refuse = record { told = tree_told; became = became; performed = performed; may_refuse = may_refuse }

-- lists return what was written
good : (keeper : Kept) → IsSomeAnd keeper (λ k. (tree_told k).has_failed ≡ false) → (told_in tree_told keeper).is_honest
good None none = absurd none
good (Some k) going = tt

same_text : (s : State) (events : List Event) → simulation_text (tree_of Plain) s events ≡ tree_text s events
unfolding rowed
same_text s events = refl

anew : (old new : Option (List ℕ)) (script : List ℕ) (ending : Ending) → (1 ≤ status_of ending → status_of ending ≤ 3 → new ≡ old)
    → SimulatedFrom (tree_of Plain) start (Appends old new) script ending → SimulatedAnew old new script ending
anew old new script Done silent so = (so.0, so.1, λ none. subst (Appends old new) (same_text start so.0) (so.2 none))
anew old new script (ScriptLine n) silent so = (so, silent (omega arith) (omega arith))
anew old new script ending silent so = absurd so

pub simulated : (became : Lists → Lists → ℕ → Type 0) (performed : Lists → Lists → List Performance → Type 0) (may_refuse : Lists → StoreFault → Type 0)
    (keeper keeper' : Kept) (known old new : Option (List ℕ)) (ending : Ending) → StandsIn tree_told keeper start [] []
    → (status_of ending ≤ 1 → IsSomeAnd keeper' (λ k. (tree_told k).has_failed ≡ false))
    → (1 ≤ status_of ending → status_of ending ≤ 3 → new ≡ old)
    → IfSome known (λ script. status_of ending ≤ 1 → Simulated (seen became performed may_refuse) keeper keeper' (Appends old new) script ending)
    → IfSome known (λ script. status_of ending ≤ 1 → SimulatedAnew old new script ending)
simulated became performed may_refuse keeper keeper' None old new ending stands going silent so = tt
simulated became performed may_refuse keeper keeper' (Some script) old new ending stands going silent so = λ low.
    anew old new script ending silent
    (from_start (seen became performed may_refuse) keeper keeper' (Appends old new) script start ending (good keeper' (going low)) stands (so low))

-- lists have no fault but out of memory
not_stored : (ending : Ending) (fault : StoreFault) → status_of ending ≡ 3 → fault ≡ NoMemory → ending ≡ store_ending fault → ⊥
not_stored ending fault is memory ends =
    let five : status_of ending ≡ 5 = ap status_of ends ∙ ap (λ f. status_of (store_ending f)) memory in
    omega (arith, is, five)

kept_memory : (keeper : Kept) (f : StoreFault) → (told_in tree_told keeper).may_answer f → f ≡ NoMemory
kept_memory None f may = absurd may
kept_memory (Some k) f may = may

-- lists don't refuse to be opened again
none_refused : (may_refuse : Lists → StoreFault → Type 0) (keeper : Kept) (f : StoreFault) → ((k : Lists) → may_refuse k f → ⊥)
    → IsSomeAnd keeper (λ k. may_refuse k f) → ⊥
none_refused may_refuse None f never so = so
none_refused may_refuse (Some k) f never so = never k so

none_stored : (became : Lists → Lists → ℕ → Type 0) (performed : Lists → Lists → List Performance → Type 0) (may_refuse : Lists → StoreFault → Type 0)
    (old new : Kept) (events : List Event) (ending : Ending) → ((k : Lists) (f : StoreFault) → may_refuse k f → ⊥) → status_of ending ≡ 3
    → StoreEnded (seen became performed may_refuse) old new events ending → ⊥
none_stored became performed may_refuse old None events ending never is so =
    none_refused may_refuse so.refused.keeper so.fault (λ k. never k so.fault) so.refused.refused
none_stored became performed may_refuse old (Some k') events ending never is so =
    let one = so tt in not_stored ending one.fault is (kept_memory one.keeper one.fault one.may) one.ends

pub reused : (became : Lists → Lists → ℕ → Type 0) (performed : Lists → Lists → List Performance → Type 0) (may_refuse : Lists → StoreFault → Type 0)
    (keeper keeper' : Kept) (known : Option (List ℕ)) (ending : Ending) → ((k : Lists) (f : StoreFault) → may_refuse k f → ⊥)
    → StandsIn tree_told keeper start [] []
    → IfSome known (λ script. status_of ending ≡ 3 → StoppedIn (seen became performed may_refuse) keeper keeper' script ending)
    → IfSome known (λ script. status_of ending ≡ 3 → Reuses script)
reused became performed may_refuse keeper keeper' None ending never stands so = tt
reused became performed may_refuse keeper keeper' (Some script) ending never stands so = λ is.
    let stopped = so is in (
      stopped.events,
      stopped.described,
      λ none. none_stored became performed may_refuse keeper keeper' stopped.events ending never is (stopped.ended start stands none),
    )
