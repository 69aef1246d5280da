-- A fault at the first of two lists of events, or at the second one.
use Rattle.std.proofs.Common.{◌≡◌, inl, inr, ℕ, Bool, true, false, List, [], ◌++◌, All, Option, None, Some, IfSome, refl, sym, subst}
use Rattle.fuse_request.specs.Opcodes.{Service}
use Rattle.fuse_keeper.specs.declared.fault.StoreFault.{StoreFault}
use Rattle.fuse_keeper.specs.History.{History}
use Rattle.fuse_keeper.specs.Model.{Model}
use Rattle.fuse_keeper.specs.KeeperState.{KeeperState, IsCount, IsFirm}
use Rattle.fuse_keeper.specs.Performance.{Performance, IsPerformanceLog}
use Rattle.fuse_sim.specs.declared.event.Event.{Event}
use Rattle.fuse_sim.specs.declared.event.DriveFault.{DriveFault}
use Rattle.fuse_sim.specs.Driving.{told_in, StandsIn, committed, settled_by, NoneReused, IsFit, Names, before, is_store, LeftBy, Opened, OfRestart, AnsweredBy}
use Rattle.fuse_sim.specs.Driving.{StoodBefore, became_in, performed_in, deaths}
use Rattle.fuse_sim.specs.HandedOn.{performances, AsksUpTo, AsksThen, AskedSome}
use Rattle.fuse_sim.specs.AfterEvents.{StandsAfter, DeletesHanded}
use Rattle.fuse_sim.specs.Twice.{Seen, StoppedAt}
use Rattle.fuse_sim.proofs.Driven.{reused-parts}
use Rattle.fuse_sim.proofs.Openings.{became_then, deaths-append, stands_twice, opened_twice, stood_twice}
use Rattle.fuse_sim.proofs.AskedGroups.{performed_then}
use Rattle.fuse_sim.proofs.InARow.{records_in_a_row}
use Rattle.fuse_sim.proofs.Endings.{clean_too}

-- what `drive` says of a fault
pub record FaultOf {M : Model} {K : Type 0} (k : Seen M K) (old new : Option K) (list : List Event) (fault : DriveFault) : Type 0 where
  pub named : Names fault list
  pub stands : (s : M.State) (h : History) (t : List ℕ) → StandsIn k.told old s h t → NoneReused M.service t (before fault list)
      → LeftBy (told_in k.told new) (is_store fault) (StandsIn k.told new s (committed M.service h (before fault list)) (settled_by M.service t (before fault list)))
  pub records : LeftBy (told_in k.told new) (is_store fault) (DeletesHanded k.told old new (performances M.service (before fault list)) (before fault list))
  pub opened : (new ≡ None → ⊥) → Opened k.told k.became old new (before fault list)
  pub stood : (new ≡ None → ⊥) → StoodBefore k.told k.became old new (before fault list)
  pub asked : (new ≡ None → ⊥) → AskedSome k.performed old new (AsksUpTo (told_in k.told old).service list fault)
  pub store : is_store fault ≡ true → (told_in k.told new).is_clean → (s : M.State) (h : History) (t : List ℕ) → StandsIn k.told old s h t
      → NoneReused M.service t (before fault list) → AnsweredBy k.told k.became old new (before fault list) fault
  pub emptied : new ≡ None → OfRestart k.became k.may_refuse old (before fault list) list fault
  pub firm : is_store fault ≡ false → (told_in k.told new).is_honest → IsFirm (told_in k.told old) → IsFirm (told_in k.told new)

-- what it says of its whole list
pub record WholeOf {M : Model} {K : Type 0} (k : Seen M K) (old new : Option K) (list : List Event) : Type 0 where
  pub fit : All IsFit list
  pub stands : StandsAfter k.told old new list
  pub records : DeletesHanded k.told old new (performances M.service list) list
  pub opened : Opened k.told k.became old new list
  pub stood : StoodBefore k.told k.became old new list
  pub asked : performed_in k.performed old new (performances (told_in k.told old).service list)
  pub stays : IfSome new (λ x. (k.told x).service ≡ (told_in k.told old).service)
  pub firm : (told_in k.told new).is_honest → IsFirm (told_in k.told old) → IsFirm (told_in k.told new)

-- ---- at the first list

then_none : (V : Service) → {K : Type 0} (performed : K → K → List Performance → Type 0) (old new : Option K) (list : List Event) (fault : DriveFault)
    → AskedSome performed old new (AsksUpTo V list fault) → AskedSome performed old new (AsksThen V [] list fault)
then_none V performed old new list fault some = (some.0, (some.0, some.1, refl), some.2)

pub stopped_first : (M : Model) → {K : Type 0} (k : Seen M K) (old new : Option K) (events more : List Event) (fault : DriveFault)
    → FaultOf k old new events fault → StoppedAt k old new events more fault
stopped_first M k old new events more fault one = inl (record {
  named = one.named;
  stands = one.stands;
  records = one.records;
  opened = one.opened;
  stood = one.stood;
  asked = λ there. then_none (told_in k.told old).service k.performed old new events fault (one.asked there);
  store = one.store;
  emptied = one.emptied;
  firm = one.firm;
})

-- ---- at the second one

left_twice : (M : Model) → {K : Type 0} (told : K → KeeperState M) (old mid new : Option K) (xs ys : List Event) (b : Bool)
    → ((told_in told new).is_clean → (told_in told new).is_honest) → ((told_in told new).is_honest → (told_in told mid).is_honest)
    → StandsAfter told old mid xs
    → ((s : M.State) (h : History) (t : List ℕ) → StandsIn told mid s h t → NoneReused M.service t ys
    → LeftBy (told_in told new) b (StandsIn told new s (committed M.service h ys) (settled_by M.service t ys)))
    → (s : M.State) (h : History) (t : List ℕ) → StandsIn told old s h t → NoneReused M.service t (xs ++ ys)
    → LeftBy (told_in told new) b (StandsIn told new s (committed M.service h (xs ++ ys)) (settled_by M.service t (xs ++ ys)))
left_twice M told old mid new xs ys true too was one two s h t so none = λ clean.
    stands_twice M told old mid new xs ys (one (was (too clean))) (λ s h t so none. two s h t so none clean) s h t so none
left_twice M told old mid new xs ys false too was one two s h t so none = λ honest.
    stands_twice M told old mid new xs ys (one (was honest)) (λ s h t so none. two s h t so none honest) s h t so none

records_twice : (M : Model) → {K : Type 0} (told : K → KeeperState M) (old mid new : Option K) (xs ys : List Event) (b : Bool)
    → ((told_in told new).is_honest → (told_in told mid).is_honest)
    → DeletesHanded told old mid (performances M.service xs) xs → LeftBy (told_in told new) b (DeletesHanded told mid new (performances M.service ys) ys)
    → LeftBy (told_in told new) b (DeletesHanded told old new (performances M.service xs ++ performances M.service ys) (xs ++ ys))
records_twice M told old mid new xs ys true was one two = λ clean. records_in_a_row M told old mid new xs ys was one (two clean)
records_twice M told old mid new xs ys false was one two = λ honest. records_in_a_row M told old mid new xs ys was one (two honest)

-- the keeper in the middle gives the service of the first
pub serves_mid : {M : Model} {K : Type 0} (told : K → KeeperState M) (performed : K → K → List Performance → Type 0) (V : Service) (old mid : Option K)
    (list : List Performance) → performed_in performed old mid list → IfSome mid (λ x. (told x).service ≡ V) → (told_in told mid).service ≡ V
serves_mid told performed V None mid list asked stays = absurd asked
serves_mid told performed V (Some a) None list asked stays = absurd asked
serves_mid told performed V (Some a) (Some b) list asked stays = stays

asked_twice : (V : Service) → {K : Type 0} (performed : K → K → List Performance → Type 0) → IsPerformanceLog performed → (old mid new : Option K)
    (first list : List Event) (fault : DriveFault) → performed_in performed old mid (performances V first)
    → AskedSome performed mid new (AsksUpTo V list fault) → AskedSome performed old new (AsksThen V first list fault)
asked_twice V performed law old mid new first list fault asked some = (
  performances V first ++ some.0,
  (some.0, some.1, refl),
  performed_then performed law old mid new (performances V first) some.0 (performances V first ++ some.0) asked some.2 refl,
)

answered_twice : (M : Model) → {K : Type 0} (told : K → KeeperState M) (became : K → K → ℕ → Type 0) → IsCount became → (old mid new : Option K)
    (xs ys : List Event) (fault : DriveFault) → became_in became old mid (deaths xs) → AnsweredBy told became mid new ys fault
    → AnsweredBy told became old new (xs ++ ys) fault
answered_twice M told became law old mid new xs ys fault often one = record {
  keeper = one.keeper;
  before = became_then became law old mid one.keeper (deaths xs) (deaths ys) (deaths (xs ++ ys)) often one.before (sym (deaths-append xs ys));
  after = one.after;
  may = one.may;
}

emptied_twice : {K : Type 0} (became : K → K → ℕ → Type 0) → IsCount became → (may_refuse : K → StoreFault → Type 0) (old mid : Option K)
    (xs ys list : List Event) (fault : DriveFault) → became_in became old mid (deaths xs) → OfRestart became may_refuse mid ys list fault
    → OfRestart became may_refuse old (xs ++ ys) list fault
emptied_twice became law may_refuse old mid xs ys list fault often one = record {
  died = one.died;
  keeper = one.keeper;
  often = became_then became law old mid one.keeper (deaths xs) (deaths ys) (deaths (xs ++ ys)) often one.often (sym (deaths-append xs ys));
  refused = one.refused;
}

pub stopped_second : (M : Model) → {K : Type 0} (k : Seen M K) → IsCount k.became → IsPerformanceLog k.performed → (old mid new : Option K)
    (events more : List Event) (fault : DriveFault) → ((x : K) → (k.told x).is_clean → (k.told x).is_honest)
    → ((told_in k.told new).is_honest → (told_in k.told mid).is_honest)
    → WholeOf k old mid events → FaultOf k mid new more fault → StoppedAt k old new events more fault
stopped_second M k law log old mid new events more fault too was one two =
    let ys = before fault more in
    let honest = clean_too M k.told new too in
    inr (
      one.fit,
      record {
        named = two.named;
        stands = left_twice M k.told old mid new events ys (is_store fault) honest was one.stands two.stands;
        records = records_twice M k.told old mid new events ys (is_store fault) was one.records two.records;
        opened = λ there. opened_twice M k.told k.became law old mid new events ys was one.stands one.opened (two.opened there);
        stood = λ there. stood_twice M k.told k.became law old mid new events ys was one.stands one.opened.often (two.opened there).often one.stood
            (two.stood there);
        asked = λ there. asked_twice (told_in k.told old).service k.performed log old mid new events more fault one.asked
            (subst (λ V. AskedSome k.performed mid new (AsksUpTo V more fault))
            (serves_mid k.told k.performed (told_in k.told old).service old mid _ one.asked one.stays) (two.asked there));
        store = λ kind clean s h t so none.
            let parts = reused-parts M.service t events ys none in
            answered_twice M k.told k.became law old mid new events ys fault one.opened.often
            (two.store kind clean s (committed M.service h events) (settled_by M.service t events)
            (one.stands (was (honest clean)) s h t so parts.0) parts.1);
        emptied = λ none. emptied_twice k.became law k.may_refuse old mid events ys more fault one.opened.often (two.emptied none);
        firm = λ kind is so. two.firm kind is (one.firm (was is) so);
      },
    )
