-- A group, as steps of a guest's store.
use Rattle.std.specs.Prelude.{⊤}
use Rattle.std.proofs.Common.{◌≡◌, ◌<◌, ◌+◌, ◌^◌, ℕ, zero, suc, All, List, [], ◌∷◌, ◌++◌, length, take, get_or, Option, Some, None, Result, Ok, Err, refl, sym, ap, subst, arith, ◌∙◌}
use Rattle.fuse_wire.specs.declared.moment.Moment.{Moment}
use Rattle.fuse_request.specs.declared.request.Request.{Request}
use Rattle.fuse_keeper.specs.Group.{IsPerformed, entry_of, entries_of}
use Rattle.fuse_keeper.specs.History.{Entry}
use Rattle.fuse_keeper.specs.Model.{Model}
use Rattle.fuse_keeper.specs.declared.keeper.Done.{Done}
use Rattle.fuse_keeper.specs.declared.fault.StoreFault.{StoreFault}
use Rattle.fuse_keeper.specs.declared.fault.StoreFault.TheVariants.{Memory}
use Rattle.fuse_guest.specs.Service.{service_of}
use Rattle.fuse_guest.specs.Talk.{Guest}
use Rattle.guest_frames.specs.declared.ready.Ready.{Ready}
use Rattle.guest_store.specs.declared.group.Transacted.{Transacted}
use Rattle.guest_store.specs.declared.store.Deaths.{Deaths}
use Rattle.guest_store.specs.Asks.{asks_of}
use Rattle.guest_store.specs.Holding.{Holding}
use Rattle.guest_store.specs.Group.{HasLotLeft, dones_of, lot_for, prepared, with_group, without_record, without_settled}
use Rattle.guest_store.specs.StoreState.{StoreState}
use Rattle.guest_store.specs.inner.Acting.{taking}
use Rattle.guest_store.specs.inner.Lotting.{lotting}
use Rattle.guest_store.specs.inner.Stepping.{Effect, Steps, asking_by, making}
use Rattle.guest_store.specs.inner.Transacting.{grouping, transacting}
use Rattle.guest_store.proofs.Acts.{step_any, step_then_stops}
use Rattle.guest_store.proofs.Groups.{asks_first, asks_more, dones_more, group_more}
use Rattle.guest_store.proofs.Stepping.{step_as, step_err, step_ok}

-- ---- settled ids don't touch lots

next_lot_stays : {M : Model} → (ids : List ℕ) (y : Holding M) → (without_settled ids y).next_lot ≡ y.next_lot
next_lot_stays [] y = refl
next_lot_stays (id ∷ ids) y = next_lot_stays ids (without_record id y)

lot_stays : {M : Model} → (lot : Option ℕ) (ids : List ℕ) (y : Holding M) → lot_for lot (without_settled ids y) ≡ lot_for lot y
lot_stays (Some lot) ids y = refl
lot_stays None ids y = next_lot_stays ids y

-- ---- one request after another

-- what holds of each entry of a group holds at its place
pub entry_at : (P : Entry → Type 0) (group : List (Request × Moment)) (i : ℕ) (d : Request × Moment) → i < length group → All P (entries_of group)
    → P (entry_of (get_or group i d))
entry_at P [] i d lt each = absurd (omega arith)
entry_at P (x ∷ group) zero d lt each = each zero (entry_of x) (omega arith)
entry_at P (x ∷ group) (suc i) d lt each = entry_at P group i d (omega arith) (λ k z below. each (suc k) z (omega (arith, below)))

-- and by the service of a guest of the same READY
pub performed_at : (r s : Ready) (group : List (Request × Moment)) (i : ℕ) (d : Request × Moment) → i < length group → s ≡ r
    → All (IsPerformed (service_of r)) (entries_of group) → IsPerformed (service_of s) (entry_of (get_or group i d))
performed_at r s group i d low same each =
    subst (λ (x : Ready). IsPerformed (service_of x) (entry_of (get_or group i d))) (sym same) (entry_at (IsPerformed (service_of r)) group i d low each)

-- its first entries were taken
abbrev pub taking_all : (G : Guest) → Option Deaths → ℕ → List Entry → Effect G (List Done)
taking_all G deaths lot es = asking_by G (asks_of G deaths lot es) (λ y. with_group lot es y) (λ y ds. ds ≡ dones_of lot es y)

module _ (G : Guest) (deaths : Option Deaths) (lot : ℕ) (group : List (Request × Moment)) (i : ℕ) (x : Request × Moment) (low : i < length group) (a b d : StoreState) (ds : List Done)
    (p : Steps G (taking_all G deaths lot (entries_of (take i group))) a b (Ok ds)) where
  pub take_more_of : (done : Done) (more : List Done) → more ≡ ds ++ done ∷ [] → Steps G (taking G deaths lot (entry_of (get_or group i x))) b d (Ok done)
      → Steps G (taking_all G deaths lot (entries_of (take (i + 1) group))) a d (Ok more)
  take_more_of done more is q =
      step_ok G (taking_all G deaths lot (entries_of (take i group))) (taking G deaths lot (entry_of (get_or group i x))) a b d ds p
      (taking_all G deaths lot (entries_of (take (i + 1) group))) done more q
      (λ all w told next. (
        group_more lot group i x low w,
        is ∙ ap (λ l. l ++ done ∷ []) told ∙ ap (λ z. dones_of lot (entries_of (take i group)) w ++ z ∷ []) next ∙ dones_more lot group i x low w,
      ))
      (λ all w told. asks_more G deaths lot group i x low w)

  -- it was taken, and there is no memory for its answer
  pub take_ends : (done : Done) → Steps G (taking G deaths lot (entry_of (get_or group i x))) b d (Ok done) → Steps {A = Transacted} G (grouping G deaths lot (entries_of group)) a d (Err Memory)
  take_ends done q =
      step_then_stops G (taking_all G deaths lot (entries_of (take (i + 1) group))) (grouping G deaths lot (entries_of group)) a d (ds ++ done ∷ []) (take_more_of done (ds ++ done ∷ []) refl q)
      (λ w. asks_first G deaths lot group (i + 1) w)

  pub take_stops : (s : StoreFault) → Steps {A = Done} G (taking G deaths lot (entry_of (get_or group i x))) b d (Err s)
      → Steps {A = Transacted} G (grouping G deaths lot (entries_of group)) a d (Err s)
  take_stops s q =
      step_err G (taking_all G deaths lot (entries_of (take i group))) (taking G deaths lot (entry_of (get_or group i x))) a b d ds p (grouping G deaths lot (entries_of group)) s q
      (λ w told safe. tt)
      (λ all w told.
      let first = asks_first G deaths lot group (i + 1) w in
      (first.0, first.1 ∙ ap (λ l. l ++ first.0) (sym (asks_more G deaths lot group i x low w))))

-- all were
pub took_them : (G : Guest) (deaths : Option Deaths) (lot : ℕ) (es : List Entry) (a b : StoreState) (ds : List Done) (t : Transacted) → t.lot ≡ lot → t.dones.items ≡ ds
    → Steps G (taking_all G deaths lot es) a b (Ok ds) → Steps G (grouping G deaths lot es) a b (Ok t)
took_them G deaths lot es a b ds t is same p =
    step_as G (taking_all G deaths lot es) (grouping G deaths lot es) a b ds t p (λ all w told. (refl, (is, same ∙ told))) (λ all w told. refl)

-- ---- what comes before

-- settled records are deleted, and this opening has a lot
abbrev pub preparing : (G : Guest) → Option ℕ → List ℕ → Effect G ℕ
preparing G lot ids = record { made = λ y. prepared lot ids y; told = λ y n. n ≡ lot_for lot y; safe = λ y. HasLotLeft lot y; asks = λ y. [] }

abbrev pub settling : (G : Guest) → List ℕ → Effect G (Unit {0})
settling G ids = making G (λ y. without_settled ids y) (λ y r. ⊤)

pub prepares : (G : Guest) (lot : Option ℕ) (ids : List ℕ) (a b d : StoreState) (r : Result ℕ StoreFault) → Steps G (settling G ids) a b (Ok tt)
    → Steps G (lotting G lot) b d r → Steps G (preparing G lot ids) a d r
prepares G lot ids a b d r p q =
    step_any G (settling G ids) (lotting G lot) (preparing G lot ids) a b d tt p
    (λ all w n told more. (refl, more ∙ lot_stays lot ids w))
    (λ w told safe none. subst (λ (n : ℕ). n < 2 ^ 62) (sym (next_lot_stays ids w)) (safe none)) (λ all w told. refl) r q

pub transacts : (G : Guest) (deaths : Option Deaths) (lot : Option ℕ) (ids : List ℕ) (es : List Entry) (n : ℕ) (a b d : StoreState) (r : Result Transacted StoreFault)
    → Steps G (preparing G lot ids) a b (Ok n) → Steps G (grouping G deaths n es) b d r → Steps G (transacting G deaths lot ids es) a d r
transacts G deaths lot ids es n a b d r p q =
    step_any G (preparing G lot ids) (grouping G deaths n es) (transacting G deaths lot ids es) a b d n p
    (λ all w t told more. (
      ap (λ k. with_group k es (prepared lot ids w)) told,
      (more.0 ∙ told, more.1 ∙ ap (λ k. dones_of k es (prepared lot ids w)) told),
    ))
    (λ w told safe. tt) (λ all w told. ap (λ k. asks_of G deaths k es (prepared lot ids w)) told) r q
