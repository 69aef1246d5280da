-- The ids that are handed on with a group.
use Rattle.std.proofs.Common.{◌≡◌, ℕ, Bool, true, false, if◌then◌else◌, List, [], ◌∷◌, length, refl, sym, subst, ◌∙◌}
use Rattle.fuse_wire.specs.declared.moment.Moment.{Moment}
use Rattle.fuse_request.specs.declared.request.Request.{Request}
use Rattle.fuse_request.specs.Opcodes.{Service}
use Rattle.fuse_keeper.specs.History.{Entry, kept_of}
use Rattle.fuse_keeper.specs.Model.{Model}
use Rattle.fuse_keeper.specs.KeeperState.{KeeperState, IsSound}
use Rattle.fuse_keeper.specs.Group.{entries_of, handed_to, left_pending}
use Rattle.fuse_keeper.specs.Performance.{Performance, performances_of}

-- with a kept request all are handed on
pub handed_all : (kept : List Entry) (pending : List ℕ) → (kept ≡ [] → ⊥) → pending ≡ handed_to kept pending
handed_all [] pending some = absurd (some refl)
handed_all (e ∷ kept) pending some = refl

pub none_left : (kept : List Entry) (pending : List ℕ) → (kept ≡ [] → ⊥) → [] ≡ left_pending kept pending
none_left [] pending some = absurd (some refl)
none_left (e ∷ kept) pending some = refl

-- and without one none
pub handed_none : (kept : List Entry) (pending : List ℕ) → kept ≡ [] → [] ≡ handed_to kept pending
handed_none [] pending none = refl
handed_none (e ∷ kept) pending none = absurd (cc none)

pub all_left : (kept : List Entry) (pending : List ℕ) → kept ≡ [] → pending ≡ left_pending kept pending
all_left [] pending none = refl
all_left (e ∷ kept) pending none = absurd (cc none)

-- by whether there is one
pub handed_if : (kept : List Entry) (pending : List ℕ) (some : Bool) → (some ≡ true → ¬ (kept ≡ [])) → (some ≡ false → kept ≡ [])
    → (if some then pending else []) ≡ handed_to kept pending
handed_if kept pending true some none = handed_all kept pending (some refl)
handed_if kept pending false some none = handed_none kept pending (none refl)

pub left_if : (kept : List Entry) (pending : List ℕ) (some : Bool) → (some ≡ true → ¬ (kept ≡ [])) → (some ≡ false → kept ≡ [])
    → (if some then [] else pending) ≡ left_pending kept pending
left_if kept pending true some none = none_left kept pending (some refl)
left_if kept pending false some none = all_left kept pending (none refl)

-- the same, where it is known of an equal service
pub handed_by : (V W : Service) (es : List Entry) (pending : List ℕ) (some : Bool) → W ≡ V → (some ≡ true → ¬ (kept_of W es ≡ [])) → (some ≡ false → kept_of W es ≡ [])
    → (if some then pending else []) ≡ handed_to (kept_of V es) pending
handed_by V W es pending some is one none =
    subst (λ U. (if some then pending else []) ≡ handed_to (kept_of U es) pending) is (handed_if (kept_of W es) pending some one none)

pub left_by : (V W : Service) (es : List Entry) (pending : List ℕ) (some : Bool) → W ≡ V → (some ≡ true → ¬ (kept_of W es ≡ [])) → (some ≡ false → kept_of W es ≡ [])
    → (if some then [] else pending) ≡ left_pending (kept_of V es) pending
left_by V W es pending some is one none =
    subst (λ U. (if some then [] else pending) ≡ left_pending (kept_of U es) pending) is (left_if (kept_of W es) pending some one none)

-- the service that a keeper gave is that of the model, where it is honest afterwards
pub gives : {M : Model} (V : Service) (k k' : KeeperState M) → k.service ≡ V → k'.service ≡ k.service → IsSound k' → k'.is_honest → V ≡ M.service
gives V k k' is stays sound honest = sym is ∙ sym stays ∙ sound.service honest

-- what was asked, where a group isn't empty
pub asked_all : (P : List Performance → Type 0) (group : List (Request × Moment)) (handed handed' : List ℕ) → (length group ≡ 0 → ⊥) → handed ≡ handed'
    → P (record { group = entries_of group; settled = handed } ∷ []) → P (performances_of (entries_of group) handed')
asked_all P [] handed handed' some is so = absurd (some refl)
asked_all P (one ∷ group) handed handed' some is so = subst (λ ids. P (record { group = entries_of (one ∷ group); settled = ids } ∷ [])) is so
