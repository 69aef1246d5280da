-- A group, in the words of a keeper.
use Rattle.std.proofs.Common.{◌≡◌, ◌++◌, ℕ, Bool, List, [], ◌∷◌, All, if◌then◌else◌, Option, None, Result, Ok, Err, inl, inr, false}
use Rattle.std.proofs.Common.{refl, sym, ap, subst, ◌∙◌, true, cond}
use Rattle.fuse_request.specs.Opcodes.{Service}
use Rattle.fuse_keeper.specs.Model.{IsOfGoodState}
use Rattle.fuse_keeper.specs.declared.keeper.Done.{Done}
use Rattle.fuse_keeper.specs.declared.fault.StoreFault.{StoreFault}
use Rattle.fuse_keeper.specs.History.{Entry, is_in, grown, kept_of}
use Rattle.fuse_keeper.specs.Group.{OnlySees, IsPerformed}
use Rattle.fuse_keeper.specs.Stands.{Records, KeeperContent, Standing, AreThese, PerformedBy, without}
use Rattle.fuse_keeper.specs.Taking.{TakesAll}
use Rattle.fuse_keeper.specs.KeeperState.{Performs, ActsOn, KeepsOthers, KeepsLots, LeavesGroup, LeavesActed, AreHeldOrTaken}
use Rattle.fuse_keeper.specs.Lots.{Lots, SameLots, RecordsUnder, IsFree}
use Rattle.fuse_guest.specs.Talk.{Guest}
use Rattle.fuse_guest.specs.Service.{service_of}
use Rattle.fuse_guest.specs.GuestModel.{guest_model}
use Rattle.fuse_store_tables.specs.Content.{LeftAs}
use Rattle.guest_tables.specs.PairSteps.{StepsFit}
use Rattle.guest_tables.specs.Reading.{HoldingsAreRead}
use Rattle.guest_store.specs.Holding.{records_of, content_of, lots_of}
use Rattle.guest_store.specs.Group.{keeps_nothing, performed, transacted, all_dones, lot_after}
use Rattle.guest_store.specs.Performing.{CallPerforms, CallsPerform}
use Rattle.guest_store.specs.StoreState.{HeldOf, StoreState, IsHonest, IsAtRest, StoredFor, ServesStore, ReportsStore}
use Rattle.guest_store.specs.TableState.{HoldsIn, lots_in, guest_told}
use Rattle.guest_store.proofs.Serving.{LeavesMade, HoldingStands, stands_on, moved, holds_at, its_own, good_held, below_held, lots_same, leaves_both, leaves_either}

-- what is so of the tables, and of what a call makes
pub record Known (G : Guest) : Type 0 where
  pub read : HoldingsAreRead
  pub fits : StepsFit
  pub law : CallsPerform (guest_model G)

-- each request of the group is kept or seen by the service of the guest that is asked
abbrev pub ArePerformedBy : Service → List Entry → Type 0
ArePerformedBy V es = All (IsPerformed V) es

-- so it is by this guest's, where that is the one that is asked
pub performed_by : (G : Guest) (s : StoreState) (es : List Entry) → ArePerformedBy (service_of s.talk.ready) es → IsHonest G s
    → All (IsPerformed (service_of G.ready)) es
performed_by G s es are honest = subst (λ V. ArePerformedBy V es) (ap service_of honest.1.ready) are

call : {G : Guest} → Known G → (lot : Option ℕ) (ids : List ℕ) (es : List Entry) (s : StoreState) (n : ℕ) (y : HeldOf G) → ArePerformedBy (service_of s.talk.ready) es
    → IsHonest G s → IsAtRest G n y s.tables → CallPerforms (guest_model G) lot ids es y
call {G} k lot ids es s n y are honest at =
    k.law.calls lot ids es y (performed_by G s es are honest) (good_held k.fits G n y s.tables.now at.holds)

module _ {G : Guest} (k : Known G) (lot : Option ℕ) (ids : List ℕ) (es : List Entry) (a b : StoreState) (are : ArePerformedBy (service_of a.talk.ready) es)
    {X : Type 0} (x : X) (serves : ServesStore G (performed lot ids es) a b (Ok x)) where
  pub performs : (now : Option ℕ) (was is : Bool) (dones : List Done) → ReportsStore G a b (λ y. dones ≡ all_dones lot ids es y)
      → Performs (guest_told G a lot was) (guest_told G b now is) ids es dones
  performs now was is dones told clean s h t so within each =
      let M = guest_model G in
      let y = so.held.holding in
      let z = performed lot ids es y in
      let at : Standing M = record { state = s; history = h; settled = t } in
      let all = (call k lot ids es a so.held.number y are (serves.honest clean) so.held.rests).group at within each
      (stands_on G y so.rows so.records at so.held.is_of so.stands) in
      let same : dones ≡ all_dones lot ids es y = told clean so.held.number y so.held.rests in
      subst (λ ds. PerformedBy M (HoldsIn G b.tables) at es ds) (sym same) (record {
        stands = record {
          rows = all.stands.rows;
          records = all.stands.records;
          held = holds_at k.read G b.tables so.held.number z all.stands.rows all.stands.records (serves.done clean so.held.number y so.held.rests)
              (record { rows_are = all.stands.held.0; records_are = all.stands.held.1 });
          stands = all.stands.stands;
        };
        answers = all.answers;
        repeated = all.repeated;
      })

  pub others_so : (now : Option ℕ) (was is : Bool) → KeepsOthers (guest_told G a lot was) (guest_told G b now is) ids es
  unfolding IsOfGoodState
  others_so now was is clean rows records at is_good =
      let y = at.holding in
      let z = performed lot ids es y in
      record {
        rows = z.state;
        records = records_of z.kept;
        held = holds_at k.read G b.tables at.number z z.state (records_of z.kept) (serves.done clean at.number y at.rests) (its_own G z);
        rowed = (z.state, (call k lot ids es a at.number y are (serves.honest clean) at.rests).good, refl);
        others = λ i off. k.law.others lot ids es y i off ∙ ap (λ o. if is_in ids i then None else o) (sym (at.is_of.records_are i));
      }

  pub acts_so : (now : Option ℕ) (was is : Bool) (dones : List Done) → ReportsStore G a b (λ y. dones ≡ all_dones lot ids es y)
      → ActsOn (guest_told G a lot was) (guest_told G b now is) ids es dones
  acts_so now was is dones told clean rows records at is_good =
      let M = guest_model G in
      let y = at.holding in
      let z = performed lot ids es y in
      let before : KeeperContent M = record { rows = rows; records = records } in
      let same : dones ≡ all_dones lot ids es y = told clean at.number y at.rests in
      record {
        rows = z.state;
        records = records_of z.kept;
        held = holds_at k.read G b.tables at.number z z.state (records_of z.kept) (serves.done clean at.number y at.rests) (its_own G z);
        taken = subst (λ ds. TakesAll M (record { rows = rows; records = without ids records }) es (content_of M z) ds) (sym same)
            ((call k lot ids es a at.number y are (serves.honest clean) at.rests).acts before (at.is_of.rows_are, at.is_of.records_are));
      }

-- what is held after entries that are taken may be named anew
led_same : (G : Guest) (before : KeeperContent (guest_model G)) (es : List Entry) (old new : KeeperContent (guest_model G)) (dones : List Done)
    → AreThese (guest_model G) old.rows old.records new.rows new.records → TakesAll (guest_model G) before es old dones
    → TakesAll (guest_model G) before es new dones
led_same G before [] old new [] same all = (same.0 ∙ all.0, λ i. same.1 i ∙ all.1 i)
led_same G before [] old new (d ∷ dones) same all = absurd all
led_same G before (e ∷ es) old new [] same all = absurd all
led_same G before (e ∷ es) old new (d ∷ dones) same (mid, took, rest) = (mid, took, led_same G mid es old new dones same rest)

module _ {G : Guest} (k : Known G) (lot : Option ℕ) (ids : List ℕ) (es : List Entry) (a b : StoreState) (are : ArePerformedBy (service_of a.talk.ready) es)
    {X : Type 0} (r : Result X StoreFault) (serves : ServesStore G (performed lot ids es) a b r) where
  -- a crash leaves the group out or in
  pub leaves_group : (now : Option ℕ) (was is : Bool) → LeavesGroup (guest_told G a lot was) (guest_told G b now is) ids es
  leaves_group now was is s h t so within each firm =
      let M = guest_model G in
      let y = so.held.holding in
      let z = performed lot ids es y in
      let at : Standing M = record { state = s; history = h; settled = t } in
      let later : Standing M = record { state = s; history = grown h (kept_of M.service es); settled = t } in
      let before : HoldingStands G y at = stands_on G y so.rows so.records at so.held.is_of so.stands in
      leaves_either k.read G (performed lot ids es) a b serves.crash so.held.number y so.held.rests now is at later before
      (λ honest.
      let all = (call k lot ids es a so.held.number y are (serves.honest honest) so.held.rests).group at within each before in
      moved G all.stands.rows z.state all.stands.records (records_of z.kept) later (sym all.stands.held.0) (λ i. sym (all.stands.held.1 i)) all.stands.stands)

  -- a crash leaves what was held, or what the group leads to
  pub leaves_acted : (now : Option ℕ) (was is : Bool) → LeavesActed (guest_told G a lot was) (guest_told G b now is) ids es
  leaves_acted now was is firm rows records at is_good =
      let M = guest_model G in
      let y = at.holding in
      let z = performed lot ids es y in
      let held : KeeperContent M = record { rows = rows; records = records } in
      let before : KeeperContent M = record { rows = rows; records = without ids records } in
      let dones = all_dones lot ids es y in
      leaves_both k.read G (performed lot ids es) a b serves.crash at.number y at.rests now is (AreHeldOrTaken M held ids es)
      (λ honest x q is_of. inl (is_of.rows_are ∙ sym at.is_of.rows_are, λ i. is_of.records_are i ∙ sym (at.is_of.records_are i)))
      (λ honest x q is_of.
      let taken : TakesAll M before es (content_of M z) dones =
      (call k lot ids es a at.number y are (serves.honest honest) at.rests).acts held (at.is_of.rows_are, at.is_of.records_are) in
      inr (dones, led_same G before es (content_of M z) (record { rows = x; records = q }) dones (is_of.rows_are, is_of.records_are) taken))

-- ---- lots

under_same : (old old' new new' : Lots) (records records' : Records) (ids : List ℕ) (es : List Entry) → SameLots old old' → SameLots new new'
    → ((i : ℕ) → records' i ≡ records i) → RecordsUnder old new records ids es → RecordsUnder old' new' records' ids es
under_same old old' new new' records records' ids es o n r u = record {
  kept = λ lot is. let k = u.kept lot (sym o.current ∙ is) in (n.current ∙ k.0, n.numbers ∙ k.1 ∙ sym o.numbers);
  taken = λ is. elim (u.taken (sym o.current ∙ is)) [
    | inl t ↦ inl (record {
      lot = t.lot;
      is_new = subst (λ l. is_in l t.lot ≡ false) (sym o.numbers) t.is_new;
      numbers = n.numbers ∙ t.numbers ∙ ap (λ l. l ++ t.lot ∷ []) (sym o.numbers);
      current = n.current ∙ t.current;
    })
    | inr e ↦ inr (n.current ∙ e.0, n.numbers ∙ e.1 ∙ sym o.numbers)
  ];
  added = λ i is free. n.under i ∙ u.added i is (free_same i free) ∙ sym n.current;
  others = λ i said there off. n.under i ∙ u.others i said (sym (r i) ∙ there) off ∙ sym (o.under i);
} where
  free_same : (i : ℕ) → IsFree records' ids i → IsFree records ids i
  free_same i (inl none) = inl (sym (r i) ∙ none)
  free_same i (inr on) = inr on

pub lots_so : {X : Type 0} {G : Guest} → Known G → (lot now : Option ℕ) (ids : List ℕ) (es : List Entry) (a b : StoreState) (x : X)
    → ServesStore G (performed lot ids es) a b (Ok x) → ReportsStore G a b (λ y. now ≡ lot_after lot ids es y) → (was is : Bool)
    → KeepsLots (guest_told G a lot was) (guest_told G b now is) ids es
lots_so {G = G} k lot now ids es a b x serves says was is clean rows records at is_good =
    let n = at.number in
    let y = at.holding in
    let z = performed lot ids es y in
    let same : now ≡ lot_after lot ids es y = says clean n y at.rests in
    under_same (lots_of lot y) (lots_in lot a.tables.now) (lots_of (lot_after lot ids es y) z) (lots_in now b.tables.now) (records_of y.kept) records ids
    (kept_of (guest_model G).service es) (lots_same k.read G lot n y a.tables.now at.rests.holds)
    (subst (λ (o : Option ℕ). SameLots (lots_of o z) (lots_in now b.tables.now)) same
    (lots_same k.read G now n z b.tables.now (serves.done clean n y at.rests).holds)) at.is_of.records_are
    (k.law.lots lot ids es y (below_held G n y a.tables.now at.rests.holds))

-- ---- where nothing is to be kept

pub nothing_is : (kept : List Entry) (ids : List ℕ) → kept ≡ [] → ids ≡ [] → keeps_nothing kept ids ≡ true
nothing_is kept ids none empty = ap (λ k. keeps_nothing k ids) none ∙ ap (λ l. keeps_nothing [] l) empty

-- where nothing is to be kept for the guest that is asked, a group changes nothing
pub nothing_by : (G : Guest) (s : StoreState) (ids : List ℕ) (es : List Entry) → OnlySees (service_of s.talk.ready) es ids → IsHonest G s → (lot : Option ℕ) (y : HeldOf G)
    → performed lot ids es y ≡ y
nothing_by G s ids es only honest lot y =
    let V = service_of G.ready in
    let none : kept_of V es ≡ [] = subst (λ W. kept_of W es ≡ []) (ap service_of honest.1.ready) only.0 in
    ap (λ b. cond b y (transacted lot ids es y)) (nothing_is (kept_of V es) ids none only.1)

pub nothing_so : (G : Guest) (s : StoreState) (ids : List ℕ) (es : List Entry) → keeps_nothing (kept_of (service_of s.talk.ready) es) ids ≡ true → IsHonest G s
    → (lot : Option ℕ) (y : HeldOf G) → performed lot ids es y ≡ y
nothing_so G s ids es none honest lot y =
    let here = subst (λ V. keeps_nothing (kept_of V es) ids ≡ true) (ap service_of honest.1.ready) none in
    ap (λ b. cond b y (transacted lot ids es y)) here

-- a call that makes nothing of what is held
still_left : (G : Guest) (f : HeldOf G → HeldOf G) (a b : StoreState) → (IsHonest G b → (y : HeldOf G) → f y ≡ y) → LeavesMade G f a b → LeavesMade G (λ y. y) a b
still_left G f a b same crash clean n y at db may = elim (crash clean n y at db may) [
  | inl old ↦ inl old
  | inr new ↦ inr (subst (λ (z : HeldOf G). LeftAs (StoredFor G n z) db) (same clean y) new)
]

pub serves_still : {X : Type 0} → (G : Guest) (f : HeldOf G → HeldOf G) (a b : StoreState) (r : Result X StoreFault) → (IsHonest G b → (y : HeldOf G) → f y ≡ y)
    → ServesStore G f a b r → ServesStore G (λ y. y) a b r
serves_still G f a b (Ok x) same p = record {
  honest = p.honest;
  ready = p.ready;
  crash = still_left G f a b same p.crash;
  kept = tt;
  done = λ clean n y at. subst (λ (z : HeldOf G). IsAtRest G n z b.tables) (same clean y) (p.done clean n y at);
}
serves_still G f a b (Err e) same p =
    record { honest = p.honest; ready = p.ready; crash = still_left G f a b same p.crash; kept = p.kept; done = tt }
