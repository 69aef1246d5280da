-- A group, in the words of a keeper.
use Rattle.std.proofs.Common.{◌≡◌, ◌++◌, ℕ, Bool, List, [], ◌∷◌, if◌then◌else◌, Option, Some, None, Result, Ok, Err, inl, inr}
use Rattle.std.proofs.Common.{refl, sym, ap, subst, ◌∙◌}
use Rattle.std.specs.Prelude.{true, false}
use Rattle.fuse_tree.specs.Rowed.{rowed}
use Rattle.fuse_tree.specs.State.{Tree, profile_of}
use Rattle.fuse_keeper.specs.Model.{IsOfGoodState}
use Rattle.fuse_keeper.specs.declared.keeper.Done.{Done}
use Rattle.fuse_keeper.specs.declared.fault.StoreFault.{StoreFault}
use Rattle.fuse_keeper.specs.History.{Entry, is_in, grown, kept_of}
use Rattle.fuse_keeper.specs.Group.{OnlySees}
use Rattle.fuse_keeper.specs.Stands.{Records, KeeperContent, AreThese, PerformedBy, without}
use Rattle.fuse_keeper.specs.Taking.{TakesAll}
use Rattle.fuse_keeper.specs.KeeperState.{Performs, ActsOn, KeepsOthers, KeepsLots, LeavesGroup, LeavesActed, AreHeldOrTaken}
use Rattle.fuse_keeper.specs.Lots.{Lots, SameLots, RecordsUnder, IsFree}
use Rattle.fuse_init.specs.declared.profile.Profile.{Profile}
use Rattle.fuse_tree.specs.Laws.{RowsTellState}
use Rattle.fuse_store_tables.specs.Content.{LeftAs}
use Rattle.fuse_store_tree.specs.Store.{records_of}
use Rattle.fuse_store_tree.specs.Holding.{Holding, HeldFor, lots_of}
use Rattle.fuse_store_tree.specs.Group.{keeps_nothing, performed, all_dones, lot_after}
use Rattle.fuse_store_tree.specs.declared.meta.Meta.{Meta}
use Rattle.fuse_store_tree.specs.StoreState.{StoreState, IsAtRest, ServesStore, ReportsStore}
use Rattle.fuse_store_tree.specs.Lots.{lots_in, LotsAreSame}
use Rattle.fuse_store_tree.specs.Performing.{OneHolding, keeper_content_of, HoldingStands, CallsPerform}
use Rattle.fuse_tree.specs.TheTree.{tree_of}
use Rattle.fuse_store.specs.TableState.{IsOf, HoldsIn, table_told}
use Rattle.fuse_store.proofs.Serving.{LeavesMade, stands_on, moved, holds_at, leaves_both, leaves_either}

pub its_own : (y : Holding) → IsOf y (rowed y.tree) (records_of y.kept)
its_own y = record { rows_are = refl; records_are = λ i. refl }

-- what a call makes of a group, what it answers, and which lot it has then, by the profile
abbrev pub ServesGroup : {X : Type 0} → (m n : Option Meta) → (lot : Option ℕ) → (ids : List ℕ) → (es : List Entry) → (a b : StoreState) → Result X StoreFault → Profile → Type 0
ServesGroup m n lot ids es a b r p = ServesStore m n (performed (tree_of p).service lot ids es) a b r

abbrev pub SaysGroup : (m : Option Meta) → (lot : Option ℕ) → (ids : List ℕ) → (es : List Entry) → (a b : StoreState) → List Done → Profile → Type 0
SaysGroup m lot ids es a b dones p = ReportsStore m a b (λ y. dones ≡ all_dones (tree_of p).service lot ids es y)

abbrev pub TakesLotFor : (m : Option Meta) → (lot : Option ℕ) → (ids : List ℕ) → (es : List Entry) → (a b : StoreState) → Option ℕ → Profile → Type 0
TakesLotFor m lot ids es a b now p = ReportsStore m a b (λ y. now ≡ lot_after (tree_of p).service lot ids es y)

-- a group keeps the profile
keeps_profile : (p : Profile) → CallsPerform p → (lot : Option ℕ) (ids : List ℕ) (es : List Entry) (y : Holding) → Tree y.tree → profile_of y.tree ≡ p
    → profile_of (performed (tree_of p).service lot ids es y).tree ≡ p
keeps_profile p law lot ids es y tree own = (law.good lot ids es y (record { tree = tree; profile = own })).profile

module _ (p : Profile) (one : OneHolding) (law : CallsPerform p) (m n : Option Meta) (lot : Option ℕ) (ids : List ℕ) (es : List Entry) (a b : StoreState)
    {X : Type 0} (x : X) (serves : ServesStore {E = StoreFault} m n (performed (tree_of p).service lot ids es) a b (Ok x)) where
  pub performs : (now : Option ℕ) (was is : Bool) (dones : List Done) → ReportsStore m a b (λ y. dones ≡ all_dones (tree_of p).service lot ids es y)
      → Performs (table_told p ⊥ m a lot was) (table_told p ⊥ n b now is) ids es dones
  performs now was is dones told clean s h t so within each =
      let y = so.held.holding in
      let z = performed (tree_of p).service lot ids es y in
      let all = law.group lot ids es y s h t so.held.rests.rests.holds.0.tree within each (stands_on p y so.rows so.records s h t so.held.is_of so.stands) in
      let same : dones ≡ all_dones (tree_of p).service lot ids es y = told clean y so.held.rests in
      subst (λ ds. PerformedBy (tree_of p) (HoldsIn p n b) (record { state = s; history = h; settled = t }) es ds) (sym same) (record {
        stands = record {
          rows = all.stands.rows;
          records = all.stands.records;
          held = holds_at one n b z all.stands.rows all.stands.records
              (keeps_profile p law lot ids es y so.held.rests.rests.holds.0.tree so.held.profile) (serves.done clean y so.held.rests)
              (record { rows_are = all.stands.held.0; records_are = all.stands.held.1 });
          stands = all.stands.stands;
        };
        answers = all.answers;
        repeated = all.repeated;
      })

  pub others_so : {memory : Type 0} → RowsTellState → (now : Option ℕ) (was is : Bool)
      → KeepsOthers (table_told p memory m a lot was) (table_told p memory n b now is) ids es
  unfolding IsOfGoodState
  others_so tell now was is clean rows records at is_rowed =
      let y = at.holding in
      let same = tell is_rowed.0 y.tree (sym is_rowed.2 ∙ at.is_of.rows_are) in
      let z = performed (tree_of p).service lot ids es y in
      let after = serves.done clean y at.rests in
      record {
        rows = rowed z.tree;
        records = records_of z.kept;
        held = holds_at one n b z (rowed z.tree) (records_of z.kept) (keeps_profile p law lot ids es y at.rests.rests.holds.0.tree at.profile) after
            (its_own z);
        rowed = (z.tree, law.good lot ids es y (subst (tree_of p).IsGood same is_rowed.1), refl);
        others = λ i off. law.others lot ids es y i off ∙ ap (λ o. if is_in ids i then None else o) (sym (at.is_of.records_are i));
      }

  pub acts_so : {memory : Type 0} (now : Option ℕ) (was is : Bool) (dones : List Done) → ReportsStore m a b (λ y. dones ≡ all_dones (tree_of p).service lot ids es y)
      → ActsOn (table_told p memory m a lot was) (table_told p memory n b now is) ids es dones
  acts_so now was is dones told clean rows records at rowed_so =
      let y = at.holding in
      let z = performed (tree_of p).service lot ids es y in
      let same : dones ≡ all_dones (tree_of p).service lot ids es y = told clean y at.rests in
      record {
        rows = rowed z.tree;
        records = records_of z.kept;
        held = holds_at one n b z (rowed z.tree) (records_of z.kept) (keeps_profile p law lot ids es y at.rests.rests.holds.0.tree at.profile)
            (serves.done clean y at.rests) (its_own z);
        taken = subst (λ ds. TakesAll (tree_of p) (record { rows = rows; records = without ids records }) es (keeper_content_of p z) ds) (sym same)
            (law.acts lot ids es y rows records at.rests.rests.holds.0.tree (at.is_of.rows_are, at.is_of.records_are));
      }

-- a crash leaves the group out or in
pub leaves_group : (p : Profile) → OneHolding → CallsPerform p → (m n : Option Meta) (lot : Option ℕ) (ids : List ℕ) (es : List Entry) (a b : StoreState) {X : Type 0} (r : Result X StoreFault)
    → ServesStore m n (performed (tree_of p).service lot ids es) a b r → (now : Option ℕ) (was is : Bool)
    → LeavesGroup (table_told p ⊥ m a lot was) (table_told p ⊥ n b now is) ids es
leaves_group p one law m n lot ids es a b r serves now was is s h t so within each firm =
    let y = so.held.holding in
    let z = performed (tree_of p).service lot ids es y in
    let before : HoldingStands p y s h t = stands_on p y so.rows so.records s h t so.held.is_of so.stands in
    let all = law.group lot ids es y s h t so.held.rests.rests.holds.0.tree within each before in
    let behind : HoldingStands p z s (grown h (kept_of (tree_of p).service es)) t =
    moved p all.stands.rows (rowed z.tree) all.stands.records (records_of z.kept) s (grown h (kept_of (tree_of p).service es)) t (sym all.stands.held.0) (λ i. sym (all.stands.held.1 i))
    all.stands.stands in
    leaves_either one m n (performed (tree_of p).service lot ids es) a b serves.crash y so.held.rests p so.held.profile
    (keeps_profile p law lot ids es y so.held.rests.rests.holds.0.tree so.held.profile) now is s s h (grown h (kept_of (tree_of p).service es)) t t before behind

-- what is held after entries that are taken may be named anew
led_same : (p : Profile) (before : KeeperContent (tree_of p)) (es : List Entry) (old new : KeeperContent (tree_of p)) (dones : List Done)
    → AreThese (tree_of p) old.rows old.records new.rows new.records → TakesAll (tree_of p) before es old dones → TakesAll (tree_of p) before es new dones
led_same p before [] old new [] same all = (same.0 ∙ all.0, λ i. same.1 i ∙ all.1 i)
led_same p before [] old new (d ∷ dones) same all = absurd all
led_same p before (e ∷ es) old new [] same all = absurd all
led_same p before (e ∷ es) old new (d ∷ dones) same (mid, took, rest) = (mid, took, led_same p mid es old new dones same rest)

-- a crash leaves what was held, or what the group leads to
pub leaves_acted : (p : Profile) → OneHolding → CallsPerform p → (m n : Option Meta) (lot : Option ℕ) (ids : List ℕ) (es : List Entry) (a b : StoreState) {X : Type 0} (r : Result X StoreFault)
    → ServesStore m n (performed (tree_of p).service lot ids es) a b r → (now : Option ℕ) (was is : Bool)
    → LeavesActed (table_told p ⊥ m a lot was) (table_told p ⊥ n b now is) ids es
leaves_acted p one law m n lot ids es a b r serves now was is firm rows records at rowed_so =
    let y = at.holding in
    let z = performed (tree_of p).service lot ids es y in
    let dones = all_dones (tree_of p).service lot ids es y in
    let before : KeeperContent (tree_of p) = record { rows = rows; records = without ids records } in
    let taken : TakesAll (tree_of p) before es (keeper_content_of p z) dones =
    law.acts lot ids es y rows records at.rests.rests.holds.0.tree (at.is_of.rows_are, at.is_of.records_are) in
    leaves_both one m n (performed (tree_of p).service lot ids es) a b serves.crash y at.rests p at.profile
    (keeps_profile p law lot ids es y at.rests.rests.holds.0.tree at.profile) now is
    (AreHeldOrTaken (tree_of p) (record { rows = rows; records = records }) ids es)
    (λ x q is_of. inl (is_of.rows_are ∙ sym at.is_of.rows_are, λ i. is_of.records_are i ∙ sym (at.is_of.records_are i)))
    (λ x q is_of. inr (dones, led_same p before es (keeper_content_of p z) (record { rows = x; records = q }) dones (is_of.rows_are, is_of.records_are) taken))

-- ---- lots

under_same : (old old' new new' : Lots) (records records' : Records) (ids : List ℕ) (es : List Entry) → SameLots old old' → SameLots new new'
    → ((i : ℕ) → records' i ≡ records i) → RecordsUnder old new records ids es → RecordsUnder old' new' records' ids es
under_same old old' new new' records records' ids es o n r u = record {
  kept = λ lot is. let k = u.kept lot (sym o.current ∙ is) in (n.current ∙ k.0, n.numbers ∙ k.1 ∙ sym o.numbers);
  taken = λ is. elim (u.taken (sym o.current ∙ is)) [
    | inl t ↦ inl (record {
      lot = t.lot;
      is_new = subst (λ l. is_in l t.lot ≡ false) (sym o.numbers) t.is_new;
      numbers = n.numbers ∙ t.numbers ∙ ap (λ l. l ++ t.lot ∷ []) (sym o.numbers);
      current = n.current ∙ t.current;
    })
    | inr e ↦ inr (n.current ∙ e.0, n.numbers ∙ e.1 ∙ sym o.numbers)
  ];
  added = λ i is free. n.under i ∙ u.added i is (free_same i free) ∙ sym n.current;
  others = λ i said there off. n.under i ∙ u.others i said (sym (r i) ∙ there) off ∙ sym (o.under i);
} where
  free_same : (i : ℕ) → IsFree records' ids i → IsFree records ids i
  free_same i (inl none) = inl (sym (r i) ∙ none)
  free_same i (inr on) = inr on

pub lots_so : (p : Profile) → LotsAreSame → CallsPerform p → (m n : Option Meta) (lot : Option ℕ) (ids : List ℕ) (es : List Entry) (a b : StoreState) {X : Type 0} (x : X)
    → ServesStore {E = StoreFault} m n (performed (tree_of p).service lot ids es) a b (Ok x) → (now : Option ℕ) (was is : Bool)
    → ReportsStore m a b (λ y. now ≡ lot_after (tree_of p).service lot ids es y) → KeepsLots (table_told p ⊥ m a lot was) (table_told p ⊥ n b now is) ids es
lots_so p told law m n lot ids es a b x serves now was is says clean rows records at rowed_so =
    let y = at.holding in
    let V = (tree_of p).service in
    let z = performed V lot ids es y in
    let same : now ≡ lot_after V lot ids es y = says clean y at.rests in
    under_same (lots_of lot y) (lots_in lot a.tables.now) (lots_of (lot_after V lot ids es y) z) (lots_in now b.tables.now) (records_of y.kept) records ids (kept_of V es)
    (told lot a.contents.seen y a.tables.now at.rests.rests.holds.0) (subst (λ o. SameLots (lots_of o z) (lots_in now b.tables.now)) same
    (told now b.contents.seen z b.tables.now (serves.done clean y at.rests).rests.holds.0)) at.is_of.records_are (law.lots lot ids es y at.rests.rests.holds.0.below)

-- ---- where nothing is to be kept

nothing_is : (kept : List Entry) (ids : List ℕ) → kept ≡ [] → ids ≡ [] → keeps_nothing kept ids ≡ true
nothing_is kept ids none empty = ap (λ k. keeps_nothing k ids) none ∙ ap (λ l. keeps_nothing [] l) empty

-- so it is by a profile that is this one
pub nothing_for : (p q : Profile) → q ≡ p → (es : List Entry) (ids : List ℕ) → OnlySees (tree_of p).service es ids
    → keeps_nothing (kept_of (tree_of q).service es) ids ≡ true
nothing_for p q same es ids only =
    ap (λ r. keeps_nothing (kept_of (tree_of r).service es) ids) same ∙ nothing_is (kept_of (tree_of p).service es) ids only.0 only.1

-- a call that makes nothing of what is held
still_left : (m : Option Meta) (f : Holding → Holding) (a b : StoreState) → ((y : Holding) → f y ≡ y) → LeavesMade m f a b → LeavesMade m (λ y. y) a b
still_left m f a b same crash clean y at db may file may_file = elim (crash clean y at db may file may_file) [
  | inl old ↦ inl old
  | inr new ↦ inr (subst (λ (z : Holding). LeftAs (HeldFor file z) db) (same y) new)
]

pub serves_still : {X : Type 0} (m n : Option Meta) (f : Holding → Holding) (a b : StoreState) (x : X) → ((y : Holding) → f y ≡ y)
    → ServesStore {E = StoreFault} m n f a b (Ok x) → ServesStore {E = StoreFault} m n (λ y. y) a b (Ok x)
serves_still m n f a b x same p = record {
  honest = p.honest;
  crash = still_left m f a b same p.crash;
  kept = tt;
  done = λ clean y at. subst (λ (z : Holding). IsAtRest n z b) (same y) (p.done clean y at);
}

pub fails_still : {X : Type 0} (m n : Option Meta) (f : Holding → Holding) (a b : StoreState) (e : StoreFault) → ((y : Holding) → f y ≡ y)
    → ServesStore {X = X} m n f a b (Err e) → ServesStore {X = X} m n (λ y. y) a b (Err e)
fails_still m n f a b e same p = record { honest = p.honest; crash = still_left m f a b same p.crash; kept = p.kept; done = tt }
