-- A group, one more after another.
use Rattle.std.proofs.Common.{◌≡◌, ◌<◌, ◌+◌, ℕ, List, [], ◌∷◌, ◌++◌, length, take, drop, get_or, Option, refl, sym, ap, ◌∙◌}
use Rattle.std.proofs.lemmas.List.{append_assoc, map-append, take_more, take-append-drop}
use Rattle.fuse_wire.specs.declared.id.Id.{Id}
use Rattle.fuse_wire.specs.declared.moment.Moment.{Moment}
use Rattle.fuse_request.specs.declared.request.Request.{Request}
use Rattle.fuse_keeper.specs.Model.{Model}
use Rattle.fuse_keeper.specs.Group.{entry_of, entries_of, ids_of}
use Rattle.fuse_keeper.specs.History.{Entry}
use Rattle.guest_store.specs.Holding.{Holding}
use Rattle.fuse_guest.specs.Talk.{Guest}
use Rattle.guest_store.specs.declared.store.Deaths.{Deaths}
use Rattle.guest_store.specs.Asks.{asks_of, asks_to}
use Rattle.guest_store.specs.StoreState.{HeldOf}
use Rattle.guest_store.proofs.Asked.{AreFirst, no_more}
use Rattle.guest_store.specs.Group.{without_record, without_settled, taken, with_group, dones_of}

-- ---- settled ids

settled_last : {M : Model} → (ids : List ℕ) (id : ℕ) (y : Holding M) → without_settled (ids ++ id ∷ []) y ≡ without_record id (without_settled ids y)
settled_last [] id y = refl
settled_last (x ∷ ids) id y = settled_last ids id (without_record x y)

pub settled_more : {M : Model} → (ids : List Id) (i : ℕ) (x : Id) (y : Holding M) → i < length ids
    → without_record (get_or ids i x).0 (without_settled (ids_of (take i ids)) y) ≡ without_settled (ids_of (take (i + 1) ids)) y
settled_more ids i x y low =
    sym (settled_last (ids_of (take i ids)) (get_or ids i x).0 y)
    ∙ ap (λ l. without_settled l y) (sym (ap ids_of (take_more ids i x low) ∙ map-append (λ (id : Id). id.0) (take i ids) (get_or ids i x ∷ [])))

-- ---- requests

group_last : {M : Model} → (lot : ℕ) (es : List Entry) (e : Entry) (y : Holding M)
    → with_group lot (es ++ e ∷ []) y ≡ (taken lot e (with_group lot es y)).holding
group_last lot [] e y = refl
group_last lot (x ∷ es) e y = group_last lot es e (taken lot x y).holding

dones_last : {M : Model} → (lot : ℕ) (es : List Entry) (e : Entry) (y : Holding M)
    → dones_of lot (es ++ e ∷ []) y ≡ dones_of lot es y ++ (taken lot e (with_group lot es y)).done ∷ []
dones_last lot [] e y = refl
dones_last lot (x ∷ es) e y = ap (λ l. (taken lot x y).done ∷ l) (dones_last lot es e (taken lot x y).holding)

-- the entries up to a place
one_more : (group : List (Request × Moment)) (i : ℕ) (x : Request × Moment) → i < length group
    → entries_of (take (i + 1) group) ≡ entries_of (take i group) ++ entry_of (get_or group i x) ∷ []
one_more group i x low = ap entries_of (take_more group i x low) ∙ map-append entry_of (take i group) (get_or group i x ∷ [])

module _ {M : Model} (lot : ℕ) (group : List (Request × Moment)) (i : ℕ) (x : Request × Moment) (low : i < length group) (y : Holding M) where
  pub group_more : (taken lot (entry_of (get_or group i x)) (with_group lot (entries_of (take i group)) y)).holding
      ≡ with_group lot (entries_of (take (i + 1) group)) y
  group_more =
      sym (group_last lot (entries_of (take i group)) (entry_of (get_or group i x)) y) ∙ ap (λ es. with_group lot es y) (sym (one_more group i x low))

  pub dones_more : dones_of lot (entries_of (take i group)) y ++ (taken lot (entry_of (get_or group i x)) (with_group lot (entries_of (take i group)) y)).done ∷ []
      ≡ dones_of lot (entries_of (take (i + 1) group)) y
  dones_more =
      sym (dones_last lot (entries_of (take i group)) (entry_of (get_or group i x)) y) ∙ ap (λ es. dones_of lot es y) (sym (one_more group i x low))

-- ---- what is asked

module _ (G : Guest) (deaths : Option Deaths) (lot : ℕ) where
  asks_joined : (xs ys : List Entry) (y : HeldOf G) → asks_of G deaths lot (xs ++ ys) y ≡ asks_of G deaths lot xs y ++ asks_of G deaths lot ys (with_group lot xs y)
  asks_joined [] ys y = refl
  asks_joined (x ∷ xs) ys y =
      ap (λ l. asks_to G deaths x y ++ l) (asks_joined xs ys (taken lot x y).holding)
      ∙ sym (append_assoc (asks_to G deaths x y) (asks_of G deaths lot xs (taken lot x y).holding) (asks_of G deaths lot ys (with_group lot (x ∷ xs) y)))

  pub asks_more : (group : List (Request × Moment)) (i : ℕ) (x : Request × Moment) → i < length group → (y : HeldOf G)
      → asks_of G deaths lot (entries_of (take i group)) y ++ asks_to G deaths (entry_of (get_or group i x)) (with_group lot (entries_of (take i group)) y)
      ≡ asks_of G deaths lot (entries_of (take (i + 1) group)) y
  asks_more group i x low y =
      let xs = entries_of (take i group) in
      let e = entry_of (get_or group i x) in
      ap (λ l. asks_of G deaths lot xs y ++ l) (no_more (asks_to G deaths e (with_group lot xs y))) ∙ sym (asks_joined xs (e ∷ []) y)
      ∙ ap (λ es. asks_of G deaths lot es y) (sym (one_more group i x low))

  pub asks_first : (group : List (Request × Moment)) (i : ℕ) (y : HeldOf G)
      → AreFirst (asks_of G deaths lot (entries_of (take i group)) y) (asks_of G deaths lot (entries_of group) y)
  asks_first group i y =
      let xs = entries_of (take i group) in
      let ys = entries_of (drop i group) in
      let split : entries_of group ≡ xs ++ ys = ap entries_of (sym (take-append-drop i group)) ∙ map-append entry_of (take i group) (drop i group) in
      (asks_of G deaths lot ys (with_group lot xs y), ap (λ es. asks_of G deaths lot es y) split ∙ asks_joined xs ys y)
