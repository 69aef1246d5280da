-- The kept entries of a group, and whether there are any.
use Rattle.std.proofs.Common.{◌≡◌, ℕ, ◌<◌, zero, suc, Bool, true, false, ◌+◌, List, [], ◌∷◌, ◌++◌, length, take, get_or, All}
use Rattle.std.proofs.Common.{refl, ap, ◌∙◌, arith}
use Rattle.std.proofs.lemmas.List.{append-nil, take_more, map-append}
use Rattle.std.proofs.lemmas.List.Concat.{flat_map-append}
use Rattle.fuse_wire.specs.declared.moment.Moment.{Moment}
use Rattle.fuse_request.specs.declared.request.Request.{Request}
use Rattle.fuse_request.specs.Opcodes.{Service}
use Rattle.fuse_keeper.specs.History.{Entry, is_seen, unless_seen, kept_one, kept_of}
use Rattle.fuse_keeper.specs.Group.{entry_of, entries_of}

one_of : (P : Entry → Type 0) (e : Entry) → P e → All P (e ∷ [])
one_of P e p zero z below = p
one_of P e p (suc k) z below = absurd (omega (arith, below))

none_of : (P : Entry → Type 0) → All P []
none_of P k z below = absurd (omega (arith, below))

-- what holds of each of them holds of the first one, if it is kept, and of those after it
pub kept_first : (V : Service) (P : Entry → Type 0) (e : Entry) (es : List Entry) → All P (kept_of V (e ∷ es)) → All P (kept_one V e)
kept_first V P e es =
    elim (is_seen V e) as (λ b. All P (unless_seen b e ++ kept_of V es) → All P (unless_seen b e))
    [ true ↦ λ all. none_of P | false ↦ λ all. one_of P e (all zero e (omega arith)) ]

pub kept_rest : (V : Service) (P : Entry → Type 0) (e : Entry) (es : List Entry) → All P (kept_of V (e ∷ es)) → All P (kept_of V es)
kept_rest V P e es =
    elim (is_seen V e) as (λ b. All P (unless_seen b e ++ kept_of V es) → All P (kept_of V es))
    [ true ↦ λ all. all | false ↦ λ all k z below. all (suc k) z (omega (arith, below)) ]

-- ---- whether one is kept

-- of one entry more
kept_of-more : (V : Service) (es : List Entry) (e : Entry) → kept_of V (es ++ e ∷ []) ≡ kept_of V es ++ kept_one V e
kept_of-more V es e = flat_map-append (kept_one V) es (e ∷ []) ∙ ap (λ r. kept_of V es ++ r) (append-nil (kept_one V e))

none_more_by : (seen : Bool) (e : Entry) → seen ≡ true → unless_seen seen e ≡ []
none_more_by true e is = refl
none_more_by false e is = absurd (cc is)

-- none of the first ones is, and the next one isn't
pub none_more : (V : Service) (group : List (Request × Moment)) (i : ℕ) (d : Request × Moment) → i < length group
    → kept_of V (entries_of (take i group)) ≡ [] → is_seen V (entry_of (get_or group i d)) ≡ true → kept_of V (entries_of (take (i + 1) group)) ≡ []
none_more V group i d lt none seen =
    let e = entry_of (get_or group i d) in
    ap (λ es. kept_of V es) (ap entries_of (take_more group i d lt) ∙ map-append entry_of (take i group) (get_or group i d ∷ []))
    ∙ kept_of-more V (entries_of (take i group)) e
    ∙ ap (λ xs. xs ++ kept_one V e) none ∙ none_more_by (is_seen V e) e seen

some_first : (seen : Bool) (e : Entry) (rest : List Entry) → seen ≡ false → unless_seen seen e ++ rest ≡ [] → ⊥
some_first true e rest is none = cc is
some_first false e rest is none = cc none

none_rest : (seen : Bool) (e : Entry) (rest : List Entry) → unless_seen seen e ++ rest ≡ [] → rest ≡ []
none_rest true e rest none = none
none_rest false e rest none = absurd (cc none)

-- one of them is
pub some_kept : (V : Service) (group : List (Request × Moment)) (i : ℕ) (d : Request × Moment) → i < length group
    → is_seen V (entry_of (get_or group i d)) ≡ false → kept_of V (entries_of group) ≡ [] → ⊥
some_kept V [] i d lt kept none = absurd (omega (arith, lt))
some_kept V (x ∷ group) zero d lt kept none = some_first (is_seen V (entry_of x)) (entry_of x) (kept_of V (entries_of group)) kept none
some_kept V (x ∷ group) (suc i) d lt kept none =
    some_kept V group i d (omega (arith, lt)) kept (none_rest (is_seen V (entry_of x)) (entry_of x) (kept_of V (entries_of group)) none)
