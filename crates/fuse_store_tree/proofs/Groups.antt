-- A group, one request after another.
use Rattle.std.proofs.Common.{◌≡◌, ◌<◌, ◌^◌, ◌+◌, ℕ, Bool, true, false, List, [], ◌∷◌, ◌++◌, length, take, get_or, Option, Some, None, refl, sym, ap, subst, ◌∙◌}
use Rattle.std.specs.Prelude.{IsTrue}
use Rattle.std.proofs.lemmas.List.{take_more, map-append}
use Rattle.sqlite.specs.State.{State, HasCleanDisk}
use Rattle.fuse_wire.specs.declared.moment.Moment.{Moment}
use Rattle.fuse_request.specs.declared.request.Request.{Request}
use Rattle.fuse_request.specs.Opcodes.{Service}
use Rattle.fuse_keeper.specs.History.{Entry, unless_seen, is_seen, kept_of}
use Rattle.fuse_keeper.specs.Group.{entry_of, entries_of}
use Rattle.fuse_keeper.specs.declared.keeper.Done.{Done}
use Rattle.fuse_store_tables.specs.inner.Following.{earlier}
use Rattle.fuse_store_tree.specs.Pieces.{File}
use Rattle.fuse_store_tree.specs.Holding.{Holding}
use Rattle.fuse_store_tree.specs.declared.meta.Meta.{Meta}
use Rattle.fuse_store_tree.specs.inner.Changing.{InsideFor, Turned}
use Rattle.fuse_store_tree.specs.inner.Knowing.{InsideKnown, TurnedKnown}
use Rattle.fuse_store_tree.specs.Group.{without_record, without_settled, lot_for, with_lot_for, said_of, done_newly, taken_if, taken, with_group, dones_of, prepared, transacted, all_dones, HasLotLeft}
use Rattle.fuse_store_tree.proofs.KnownSteps.{held_for, turned_so, turned_known_same, turned_known_then}
use Rattle.fuse_store_tables.specs.Moves.{Stays}

-- ---- one more request

pub group_last : (V : Service) (lot : ℕ) (es : List Entry) (e : Entry) (y : Holding)
    → with_group V lot (es ++ e ∷ []) y ≡ (taken V lot e (with_group V lot es y)).holding
group_last V lot [] e y = refl
group_last V lot (x ∷ es) e y = group_last V lot es e (taken V lot x y).holding

pub dones_last : (V : Service) (lot : ℕ) (es : List Entry) (e : Entry) (y : Holding)
    → dones_of V lot (es ++ e ∷ []) y ≡ dones_of V lot es y ++ (taken V lot e (with_group V lot es y)).done ∷ []
dones_last V lot [] e y = refl
dones_last V lot (x ∷ es) e y = ap (λ l. (taken V lot x y).done ∷ l) (dones_last V lot es e (taken V lot x y).holding)

-- the entries up to a place
pub one_more : (group : List (Request × Moment)) (i : ℕ) (x : Request × Moment) → i < length group
    → entries_of (take (i + 1) group) ≡ entries_of (take i group) ++ entry_of (get_or group i x) ∷ []
one_more group i x low = ap entries_of (take_more group i x low) ∙ map-append entry_of (take i group) (get_or group i x ∷ [])

pub took_more : (file : File) (V : Service) (m n o : Option Meta) (lot : ℕ) (group : List (Request × Moment)) (i : ℕ) (x : Request × Moment) (a b d : State) → i < length group
    → TurnedKnown file m n (with_group V lot (entries_of (take i group))) a b
    → TurnedKnown file n o (λ y. (taken V lot (entry_of (get_or group i x)) y).holding) b d
    → TurnedKnown file m o (with_group V lot (entries_of (take (i + 1) group))) a d
took_more file V m n o lot group i x a b d low p q =
    let es = entries_of (take i group) in
    let e = entry_of (get_or group i x) in
    subst (λ l. TurnedKnown file m o (with_group V lot l) a d) (sym (one_more group i x low))
    (turned_known_same file m o (λ y. (taken V lot e (with_group V lot es y)).holding) (with_group V lot (es ++ e ∷ [])) a d
    (λ clean read y at. sym (group_last V lot es e y))
    (turned_known_then file m n o (with_group V lot es) (λ y. (taken V lot e y).holding) a b d p q))

-- the answers so far are these
abbrev pub AreDones : File → Service → Option Meta → ℕ → List Entry → State → State → List Done → Type 0
AreDones file V m lot es a b dones = HasCleanDisk b → IsTrue file.is_clean → (y : Holding) → InsideKnown file.bytes m y a → dones ≡ dones_of V lot es y

pub dones_more : (file : File) (V : Service) (m n o : Option Meta) (lot : ℕ) (group : List (Request × Moment)) (i : ℕ) (x : Request × Moment) (a b d : State) (so_far all : List Done)
    (done : Done) → i < length group → TurnedKnown file m n (with_group V lot (entries_of (take i group))) a b
    → AreDones file V m lot (entries_of (take i group)) a b so_far → TurnedKnown file n o (λ y. (taken V lot (entry_of (get_or group i x)) y).holding) b d
    → (HasCleanDisk d → IsTrue file.is_clean → (y : Holding) → InsideKnown file.bytes n y b → done ≡ (taken V lot (entry_of (get_or group i x)) y).done) → all ≡ so_far ++ done ∷ []
    → AreDones file V m lot (entries_of (take (i + 1) group)) a d all
dones_more file V m n o lot group i x a b d so_far all done low p are q told is clean read y at =
    let es = entries_of (take i group) in
    let e = entry_of (get_or group i x) in
    let mid = earlier b d _ q.stays.survives clean in
    is ∙ ap (λ l. l ++ done ∷ []) (are mid read y at) ∙ ap (λ k. dones_of V lot es y ++ k ∷ []) (told clean read (with_group V lot es y) (p.turns read mid y at))
    ∙ sym (dones_last V lot es e y) ∙ ap (λ l. dones_of V lot l y) (sym (one_more group i x low))

-- ---- a group of seen requests alone

pub seen_one : (b : Bool) (e : Entry) (rest : List Entry) → unless_seen b e ++ rest ≡ [] → (b ≡ true) × (rest ≡ [])
seen_one true e rest none = (refl, none)
seen_one false e rest none = absurd (cc none)

-- it leaves what is held
pub group_seen : (V : Service) (lot : ℕ) (es : List Entry) (y : Holding) → kept_of V es ≡ [] → with_group V lot es y ≡ y
group_seen V lot [] y none = refl
group_seen V lot (e ∷ es) y none =
    let one = seen_one (is_seen V e) e (kept_of V es) none in
    ap (λ b. with_group V lot es (taken_if b lot e y).holding) one.0 ∙ group_seen V lot es y one.1

-- whatever the lot and the records, it is answered by the tree
pub dones_seen : (V : Service) (lot other : ℕ) (es : List Entry) (y z : Holding) → kept_of V es ≡ [] → y.tree ≡ z.tree
    → dones_of V lot es y ≡ dones_of V other es z
dones_seen V lot other [] y z none same = refl
dones_seen V lot other (e ∷ es) y z none same =
    let one = seen_one (is_seen V e) e (kept_of V es) none in
    ap (λ b. (taken_if b lot e y).done ∷ dones_of V lot es (taken_if b lot e y).holding) one.0
    ∙ ap (λ t. done_newly (said_of e (record y { tree = t })) ∷ dones_of V lot es y) same
    ∙ ap (λ ds. done_newly (said_of e z) ∷ ds) (dones_seen V lot other es y z one.1 same)
    ∙ ap (λ b. (taken_if b other e z).done ∷ dones_of V other es (taken_if b other e z).holding) (sym one.0)

-- ---- before the group

same_next : (ids : List ℕ) (y : Holding) → (without_settled ids y).next_lot ≡ y.next_lot
same_next [] y = refl
same_next (id ∷ ids) y = same_next ids (without_record id y)

pub lot_settled : (lot : Option ℕ) (ids : List ℕ) (y : Holding) → lot_for lot (without_settled ids y) ≡ lot_for lot y
lot_settled None ids y = same_next ids y
lot_settled (Some n) ids y = refl

pub left_settled : (lot : Option ℕ) (ids : List ℕ) (y : Holding) → HasLotLeft lot y → HasLotLeft lot (without_settled ids y)
left_settled lot ids y left none = subst (λ n. n < 2 ^ 62) (sym (same_next ids y)) (left none)

tree_settled : (ids : List ℕ) (y : Holding) → (without_settled ids y).tree ≡ y.tree
tree_settled [] y = refl
tree_settled (id ∷ ids) y = tree_settled ids (without_record id y)

tree_with_lot : (lot : Option ℕ) (y : Holding) → (with_lot_for lot y).tree ≡ y.tree
tree_with_lot None y = refl
tree_with_lot (Some n) y = refl

pub prepared_tree : (lot : Option ℕ) (ids : List ℕ) (y : Holding) → (prepared lot ids y).tree ≡ y.tree
prepared_tree lot ids y = tree_with_lot lot (without_settled ids y) ∙ tree_settled ids y

-- the tree stays
pub prepared_known : (file : File) (m : Option Meta) (lot : Option ℕ) (ids : List ℕ) (a b : State) → Turned file.bytes (prepared lot ids) a b
    → TurnedKnown file m m (prepared lot ids) a b
prepared_known file m lot ids a b p = turned_so file m (prepared lot ids) a b (prepared_tree lot ids) p

-- a group after it, under the lot that was allocated
pub grouped : (file : File) (V : Service) (m o : Option Meta) (lot : Option ℕ) (n : ℕ) (ids : List ℕ) (es : List Entry) (a b d : State) → Turned file.bytes (prepared lot ids) a b
    → (HasCleanDisk b → (y : Holding) → InsideFor file.bytes y a → n ≡ lot_for lot y) → TurnedKnown file m o (with_group V n es) b d
    → TurnedKnown file m o (transacted V lot ids es) a d
grouped file V m o lot n ids es a b d p value q =
    turned_known_same file m o (λ y. with_group V n es (prepared lot ids y)) (transacted V lot ids es) a d
    (λ clean read y at. ap (λ k. with_group V k es (prepared lot ids y)) (value (earlier b d _ q.stays.survives clean) y (held_for file.bytes m y a at)))
    (turned_known_then file m m o (prepared lot ids) (with_group V n es) a b d (prepared_known file m lot ids a b p) q)

pub dones_are : (file : File) (V : Service) (m : Option Meta) (lot : Option ℕ) (n : ℕ) (ids : List ℕ) (es : List Entry) (a b d : State) (dones : List Done) → Turned file.bytes (prepared lot ids) a b
    → (HasCleanDisk b → (y : Holding) → InsideFor file.bytes y a → n ≡ lot_for lot y) → Stays b d → AreDones file V m n es b d dones
    → HasCleanDisk d → IsTrue file.is_clean → (y : Holding) → InsideKnown file.bytes m y a → dones ≡ all_dones V lot ids es y
dones_are file V m lot n ids es a b d dones p value keeps are clean read y at =
    let mid = earlier b d _ keeps.survives clean in
    are clean read (prepared lot ids y) ((prepared_known file m lot ids a b p).turns read mid y at)
    ∙ ap (λ k. dones_of V k es (prepared lot ids y)) (value mid y (held_for file.bytes m y a at))
