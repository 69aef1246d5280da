-- A group, one request after another, over a data file of which more may be listed after each.
use Rattle.std.proofs.Common.{◌≡◌, ◌≤◌, ◌<◌, ◌+◌, inl, inr, zero, suc, ℕ, Bool, true, false, List, [], ◌∷◌, ◌++◌, length, take, get_or, Option, refl, sym, ap, subst, arith, ◌∙◌}
use Rattle.std.specs.Prelude.{IsTrue, map, slice_index_or}
use Rattle.std.proofs.lemmas.Bool.{cases_lt}
use Rattle.std.proofs.lemmas.List.{get_or-map}
use Rattle.std.proofs.lemmas.List.Elements.{All-nil}
use Rattle.fuse_request.specs.Act.{Act, Write}
use Rattle.sqlite.specs.State.{State, HasCleanDisk}
use Rattle.fuse_wire.specs.declared.moment.Moment.{Moment}
use Rattle.fuse_request.specs.declared.request.Request.{Request}
use Rattle.fuse_request.specs.Opcodes.{Service}
use Rattle.fuse_keeper.specs.History.{Entry, unless_seen, is_seen, kept_of}
use Rattle.fuse_keeper.specs.Group.{entry_of, entries_of}
use Rattle.fuse_keeper.specs.declared.keeper.Done.{Done}
use Rattle.fuse_store_tables.specs.Moves.{Stays}
use Rattle.fuse_store_tables.specs.inner.Following.{earlier}
use Rattle.fuse_store_tree.specs.Pieces.{File, ReadsFile}
use Rattle.fuse_store_tree.specs.Holding.{Holding}
use Rattle.fuse_store_tree.specs.declared.meta.Meta.{Meta}
use Rattle.fuse_store_tree.specs.declared.made.MadePiece.{MadePiece}
use Rattle.fuse_store_tree.specs.Widening.{Widens}
use Rattle.fuse_store_tree.specs.inner.Changing.{InsideFor, Turned}
use Rattle.fuse_store_tree.specs.inner.Knowing.{InsideKnown}
use Rattle.fuse_store_tree.specs.inner.Over.{TurnedOver}
use Rattle.fuse_store_tree.specs.inner.Laws.{still_read}
use Rattle.fuse_store_tree.specs.inner.Preparing.{IsFor, IsMade, AreForEach}
use Rattle.fuse_store_tree.specs.Group.{lot_for, taken, with_group, dones_of, prepared, transacted, all_dones}
use Rattle.fuse_store_tree.proofs.KnownSteps.{held_for}
use Rattle.fuse_store_tree.proofs.Groups.{one_more, group_last, dones_last, prepared_known, seen_one}
use Rattle.fuse_store_tree.proofs.Overs.{turned_over_of, turned_over_same, turned_over_then}

-- ---- one more request

pub took_over : (f g h : File) (V : Service) (m n o : Option Meta) (lot : ℕ) (group : List (Request × Moment)) (i : ℕ) (x : Request × Moment) (a b d : State) → i < length group
    → (IsTrue h.is_clean → IsTrue g.is_clean) → TurnedOver f g m n (with_group V lot (entries_of (take i group))) a b
    → TurnedOver g h n o (λ y. (taken V lot (entry_of (get_or group i x)) y).holding) b d
    → TurnedOver f h m o (with_group V lot (entries_of (take (i + 1) group))) a d
took_over f g h V m n o lot group i x a b d low was p q =
    let es = entries_of (take i group) in
    let e = entry_of (get_or group i x) in
    subst (λ l. TurnedOver f h m o (with_group V lot l) a d) (sym (one_more group i x low))
    (turned_over_same f h m o (λ y. (taken V lot e (with_group V lot es y)).holding) (with_group V lot (es ++ e ∷ [])) a d
    (λ clean read y at. sym (group_last V lot es e y))
    (turned_over_then f g h m n o (with_group V lot es) (λ y. (taken V lot e y).holding) a b d was p q))

-- the answers so far are these, of what was held over the first file, where the last one is clean
abbrev pub AreDonesOver : File → File → Service → Option Meta → ℕ → List Entry → State → State → List Done → Type 0
AreDonesOver f g V m lot es a b dones = HasCleanDisk b → IsTrue g.is_clean → (y : Holding) → InsideKnown f.bytes m y a → dones ≡ dones_of V lot es y

pub dones_over : (f g h : File) (V : Service) (m n o : Option Meta) (lot : ℕ) (group : List (Request × Moment)) (i : ℕ) (x : Request × Moment) (a b d : State) (so_far all : List Done)
    (done : Done) → i < length group → (IsTrue h.is_clean → IsTrue g.is_clean) → TurnedOver f g m n (with_group V lot (entries_of (take i group))) a b
    → AreDonesOver f g V m lot (entries_of (take i group)) a b so_far → TurnedOver g h n o (λ y. (taken V lot (entry_of (get_or group i x)) y).holding) b d
    → (HasCleanDisk d → IsTrue h.is_clean → (y : Holding) → InsideKnown g.bytes n y b → done ≡ (taken V lot (entry_of (get_or group i x)) y).done) → all ≡ so_far ++ done ∷ []
    → AreDonesOver f h V m lot (entries_of (take (i + 1) group)) a d all
dones_over f g h V m n o lot group i x a b d so_far all done low was p are q told is clean read y at =
    let es = entries_of (take i group) in
    let e = entry_of (get_or group i x) in
    let mid = earlier b d _ q.stays.survives clean in
    is ∙ ap (λ l. l ++ done ∷ []) (are mid (was read) y at) ∙ ap (λ k. dones_of V lot es y ++ k ∷ []) (told clean read (with_group V lot es y) (p.turns (was read) mid y at))
    ∙ sym (dones_last V lot es e y) ∙ ap (λ l. dones_of V lot l y) (sym (one_more group i x low))

-- each request of a group of which none is kept is seen
pub seen_at : (V : Service) (group : List (Request × Moment)) (i : ℕ) (x : Request × Moment) → i < length group → kept_of V (entries_of group) ≡ []
    → is_seen V (entry_of (get_or group i x)) ≡ true
seen_at V [] i x low none = absurd (omega (arith, low))
seen_at V (e ∷ group) zero x low none = (seen_one (is_seen V (entry_of e)) (entry_of e) (kept_of V (entries_of group)) none).0
seen_at V (e ∷ group) (suc i) x low none =
    seen_at V group i x (omega (arith, low)) (seen_one (is_seen V (entry_of e)) (entry_of e) (kept_of V (entries_of group)) none).1

-- ---- what was made for a request

pub made_there : (file : List ℕ) (group : List (Request × Moment)) (made : List (List MadePiece)) (i : ℕ) (x : Request × Moment) (d : List MadePiece) → i < length group
    → i < length made → AreForEach (IsMade file) (entries_of group) made → IsFor (IsMade file) (entry_of (get_or group i x)).asked.act (slice_index_or made i d)
made_there file group made i x d low there all =
    subst (λ (e : Entry). IsFor (IsMade file) e.asked.act (slice_index_or made i d)) (get_or-map entry_of group i x (entry_of x) low) (all i (entry_of x) d there)

for_none : (P : ℕ → List ℕ → MadePiece → Type 0) (act : Act) → IsFor P act []
for_none P (Write fh offset write_flags lock_owner flags payload) = All-nil (P offset payload)
for_none P act = tt

pub made_at_place : (file : List ℕ) (group : List (Request × Moment)) (made : List (List MadePiece)) (i k : ℕ) (x : Request × Moment) (ps : List MadePiece) → i ≡ k → k < length group
    → (i < length made → (d : List MadePiece) → ps ≡ slice_index_or made i d) → (length made ≤ i → ps ≡ []) → AreForEach (IsMade file) (entries_of group) made
    → IsFor (IsMade file) (entry_of (get_or group k x)).asked.act ps
made_at_place file group made i k x ps same low there none all = elim (cases_lt i (length made)) [
  | inl within ↦ subst (IsFor (IsMade file) (entry_of (get_or group k x)).asked.act)
      (ap (λ n. slice_index_or made n []) (sym same) ∙ sym (there within []))
      (made_there file group made k x [] low (omega (arith, within, same)) all)
  | inr beyond ↦ subst (IsFor (IsMade file) (entry_of (get_or group k x)).asked.act) (sym (none beyond)) (for_none (IsMade file) (entry_of (get_or group k x)).asked.act)
]

-- ---- a group, under the lot that was allocated

pub grouped_over : (f g : File) (V : Service) (m o : Option Meta) (lot : Option ℕ) (n : ℕ) (ids : List ℕ) (es : List Entry) (a b d : State) → (IsTrue g.is_clean → IsTrue f.is_clean)
    → ((file : List ℕ) → Turned file (prepared lot ids) a b) → (HasCleanDisk b → (file : List ℕ) (y : Holding) → InsideFor file y a → n ≡ lot_for lot y)
    → TurnedOver f g m o (with_group V n es) b d → TurnedOver f g m o (transacted V lot ids es) a d
grouped_over f g V m o lot n ids es a b d was p value q =
    turned_over_same f g m o (λ y. with_group V n es (prepared lot ids y)) (transacted V lot ids es) a d
    (λ clean read y at. ap (λ k. with_group V k es (prepared lot ids y)) (value (earlier b d _ q.stays.survives clean) f.bytes y (held_for f.bytes m y a at)))
    (turned_over_then f f g m m o (prepared lot ids) (with_group V n es) a b d was
    (turned_over_of f f m m (prepared lot ids) a b (still_read f) (prepared_known f m lot ids a b (p f.bytes))) q)

pub dones_are_over : (f g : File) (V : Service) (m : Option Meta) (lot : Option ℕ) (n : ℕ) (ids : List ℕ) (es : List Entry) (a b d : State) (dones : List Done)
    → (IsTrue g.is_clean → IsTrue f.is_clean) → ((file : List ℕ) → Turned file (prepared lot ids) a b)
    → (HasCleanDisk b → (file : List ℕ) (y : Holding) → InsideFor file y a → n ≡ lot_for lot y) → Stays b d → AreDonesOver f g V m n es b d dones
    → HasCleanDisk d → IsTrue g.is_clean → (y : Holding) → InsideKnown f.bytes m y a → dones ≡ all_dones V lot ids es y
dones_are_over f g V m lot n ids es a b d dones was p value keeps are clean read y at =
    let mid = earlier b d _ keeps.survives clean in
    are clean read (prepared lot ids y) ((prepared_known f m lot ids a b (p f.bytes)).turns (was read) mid y at)
    ∙ ap (λ k. dones_of V k es (prepared lot ids y)) (value mid f.bytes y (held_for f.bytes m y a at))
