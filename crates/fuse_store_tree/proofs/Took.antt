-- What a group makes of rows and records, in the words of a keeper.
use Rattle.std.proofs.Common.{◌≡◌, ℕ, ◌==◌, suc, zero, List, [], ◌∷◌, ◌++◌, Bool, true, false, cond, All, Option, Some, None, refl, sym, ap, subst, arith, ◌∙◌, ◌||◌}
use Rattle.fuse_request.specs.Opcodes.{Service}
use Rattle.fuse_answer.specs.Said.{Said}
use Rattle.fuse_rows.specs.Rows.{profile_for}
use Rattle.fuse_tree.specs.State.{State, Tree}
use Rattle.fuse_tree.specs.Rowed.{rowed}
use Rattle.fuse_tree.specs.Do.{done}
use Rattle.fuse_tree.specs.Laws.{TreeKept, RowsTellState}
use Rattle.fuse_keeper.specs.History.{Entry, entry_id, is_seen, unless_seen, kept_of, IsUnsettled, is_in, ids_in}
use Rattle.fuse_keeper.specs.Stands.{Standing, Stands, OthersStay}
use Rattle.fuse_keeper.specs.Taking.{Took, TookBy, TookIf, TakesAll, Acts, ActedOn, IsAnswerOver, GroupsGrow}
use Rattle.fuse_keeper.specs.declared.keeper.Done.{Done}
use Rattle.fuse_store_tree.proofs.KeptOnes.{kept_first, kept_rest}
use Rattle.fuse_store_tree.specs.Store.{records_of}
use Rattle.fuse_store_tree.proofs.Described.{grouped}
use Rattle.fuse_store_tree.specs.Holding.{Holding}
use Rattle.fuse_init.specs.declared.profile.Profile.{Profile}
use Rattle.fuse_tree.specs.TheTree.{tree_of}
use Rattle.fuse_store_tree.specs.Performing.{keeper_content_of, HasPerformed}
use Rattle.fuse_store_tree.specs.Group.{said_of, taken, taken_if, taken_by, with_group, dones_of, keeps_nothing, without_settled, with_lot_for, lot_for, transacted, performed}
use Rattle.fuse_store_tree.proofs.Finds.{found_put, found_settled}

-- what the crates below say of trees, and of a group to which one more comes
pub record Below (p : Profile) : Type 0 where
  pub tree_kept : TreeKept
  pub rows_tell : RowsTellState
  pub grow : GroupsGrow (tree_of p)

-- ---- one request

-- a request leaves a tree of its profile
good_next : {p : Profile} → Below p → (e : Entry) (s : State) → (tree_of p).IsGood s → (tree_of p).IsGood (done s e.asked e.moment).state
good_next g e s good =
    let kept = g.tree_kept s e.asked e.moment good.tree in
    record { tree = kept.0; profile = ap (λ (c : Option ℕ). profile_for c) kept.1 ∙ good.profile }

acts_so : {p : Profile} → Below p → (e : Entry) (y : Holding)
    → Acts (tree_of p) (rowed y.tree) e (rowed (done y.tree e.asked e.moment).state) (said_of e y)
acts_so {p} g e y s good is =
    let same : y.tree ≡ s = g.rows_tell y.tree s is in
    subst (λ (z : State). ActedOn (tree_of p) z e (rowed (done y.tree e.asked e.moment).state) (said_of e y)) same
    (record { answer_is = refl; rows_are = refl; tree = good_next g e y.tree (subst (tree_of p).IsGood (sym same) good) })

took_by : {p : Profile} → Below p → (r : Option Said) (lot : ℕ) (e : Entry) (y : Holding)
    → TookBy (tree_of p) r (keeper_content_of p y) e (keeper_content_of p (taken_by r lot e y).holding) (taken_by r lot e y).done
took_by g (Some known) lot e y = (refl, λ i. refl, refl, refl)
took_by g None lot e y = (acts_so g e y, λ i. found_put (λ k. k.said) (record { id = entry_id e; lot = lot; said = said_of e y }) y.kept i, refl)

-- the answer to a seen one is that of the tree
answer_over : {p : Profile} → Below p → (e : Entry) (y : Holding) → IsAnswerOver (tree_of p) (rowed y.tree) e (said_of e y)
answer_over g e y s good is = ap (λ z. (done z e.asked e.moment).said) (g.rows_tell y.tree s is)

took_if : {p : Profile} → Below p → (b : Bool) (lot : ℕ) (e : Entry) (y : Holding)
    → TookIf (tree_of p) b (keeper_content_of p y) e (keeper_content_of p (taken_if b lot e y).holding) (taken_if b lot e y).done
took_if g true lot e y = ((refl, λ i. refl), answer_over g e y, refl)
took_if g false lot e y = took_by g (records_of y.kept (entry_id e)) lot e y

pub took : {p : Profile} → Below p → (lot : ℕ) (e : Entry) (y : Holding)
    → Took (tree_of p) (keeper_content_of p y) e (keeper_content_of p (taken (tree_of p).service lot e y).holding) (taken (tree_of p).service lot e y).done
took {p} g lot e y = took_if g (is_seen (tree_of p).service e) lot e y

tree_by : {p : Profile} → Below p → (r : Option Said) (lot : ℕ) (e : Entry) (y : Holding) → Tree y.tree → Tree (taken_by r lot e y).holding.tree
tree_by g (Some known) lot e y tree = tree
tree_by g None lot e y tree = (g.tree_kept y.tree e.asked e.moment tree).0

good_by : {p : Profile} → Below p → (r : Option Said) (lot : ℕ) (e : Entry) (y : Holding) → (tree_of p).IsGood y.tree
    → (tree_of p).IsGood (taken_by r lot e y).holding.tree
good_by g (Some known) lot e y good = good
good_by g None lot e y good = good_next g e y.tree good

tree_if : {p : Profile} → Below p → (b : Bool) (lot : ℕ) (e : Entry) (y : Holding) → Tree y.tree → Tree (taken_if b lot e y).holding.tree
tree_if g true lot e y tree = tree
tree_if g false lot e y tree = tree_by g (records_of y.kept (entry_id e)) lot e y tree

good_if : {p : Profile} → Below p → (b : Bool) (lot : ℕ) (e : Entry) (y : Holding) → (tree_of p).IsGood y.tree
    → (tree_of p).IsGood (taken_if b lot e y).holding.tree
good_if g true lot e y good = good
good_if g false lot e y good = good_by g (records_of y.kept (entry_id e)) lot e y good

-- ---- a group

pub group_tree : {p : Profile} → Below p → (V : Service) (lot : ℕ) (es : List Entry) (y : Holding) → Tree y.tree → Tree (with_group V lot es y).tree
group_tree g V lot [] y tree = tree
group_tree g V lot (e ∷ es) y tree = group_tree g V lot es (taken V lot e y).holding (tree_if g (is_seen V e) lot e y tree)

pub group_good : {p : Profile} → Below p → (V : Service) (lot : ℕ) (es : List Entry) (y : Holding) → (tree_of p).IsGood y.tree
    → (tree_of p).IsGood (with_group V lot es y).tree
group_good g V lot [] y good = good
group_good g V lot (e ∷ es) y good = group_good g V lot es (taken V lot e y).holding (good_if g (is_seen V e) lot e y good)

pub group_taken : {p : Profile} → Below p → (lot : ℕ) (es : List Entry) (y : Holding)
    → TakesAll (tree_of p) (keeper_content_of p y) es (keeper_content_of p (with_group (tree_of p).service lot es y)) (dones_of (tree_of p).service lot es y)
group_taken g lot [] y = (refl, λ i. refl)
group_taken {p} g lot (e ∷ es) y =
    let z = (taken (tree_of p).service lot e y).holding in
    (keeper_content_of p z, took g lot e y, group_taken g lot es z)

no_more : {X : Type 0} (xs : List X) → xs ≡ xs ++ []
no_more [] = refl
no_more (x ∷ xs) = ap (λ more. x ∷ more) (no_more xs)

group_took : {p : Profile} → Below p → (lot : ℕ) (es : List Entry) (y : Holding) (at : Standing (tree_of p)) (so_far : List Entry) (dones : List Done)
    → All (IsUnsettled at.settled) (kept_of (tree_of p).service es) → HasPerformed p y at so_far dones
    → HasPerformed p (with_group (tree_of p).service lot es y) at (so_far ++ es) (dones ++ dones_of (tree_of p).service lot es y)
group_took {p} g lot [] y at so_far dones each does =
    subst (λ l. HasPerformed p y at l (dones ++ [])) (no_more so_far) (subst (λ l. HasPerformed p y at so_far l) (no_more dones) does)
group_took {p} g lot (e ∷ es) y at so_far dones each does =
    let V = (tree_of p).service in
    let z = (taken V lot e y).holding in
    let d = (taken V lot e y).done in
    let more : HasPerformed p z at (so_far ++ e ∷ []) (dones ++ d ∷ []) =
    (g.grow).one_more (keeper_content_of p y) e (keeper_content_of p z) d at so_far dones (kept_first V (IsUnsettled at.settled) e es each)
    (took g lot e y) does in
    let all = group_took g lot es z at (so_far ++ e ∷ []) (dones ++ d ∷ []) (kept_rest V (IsUnsettled at.settled) e es each) more in
    subst (λ l. HasPerformed p (with_group V lot es z) at l (dones ++ d ∷ dones_of V lot es z)) (grouped so_far (e ∷ []) es)
    (subst (λ l. HasPerformed p (with_group V lot es z) at ((so_far ++ e ∷ []) ++ es) l) (grouped dones (d ∷ []) (dones_of V lot es z)) all)

pub group_performed : {p : Profile} → Below p → (lot : ℕ) (es : List Entry) (y : Holding) (at : Standing (tree_of p))
    → All (IsUnsettled at.settled) (kept_of (tree_of p).service es)
    → Stands (tree_of p) (rowed y.tree) (records_of y.kept) at.state at.history at.settled
    → HasPerformed p (with_group (tree_of p).service lot es y) at es (dones_of (tree_of p).service lot es y)
group_performed {p} g lot es y at each so = group_took g lot es y at [] [] each ((g.grow).none_yet (keeper_content_of p y) at so)

-- ---- the records of other ids

neither : (a b : Bool) → (a || b) ≡ false → (a ≡ false) × (b ≡ false)
neither true b is = absurd cc
neither false b is = (refl, is)

pub other_by : (r : Option Said) (lot : ℕ) (e : Entry) (y : Holding) (i : ℕ) → (entry_id e == i) ≡ false
    → records_of (taken_by r lot e y).holding.kept i ≡ records_of y.kept i
other_by (Some known) lot e y i off = refl
other_by None lot e y i off =
    found_put (λ k. k.said) (record { id = entry_id e; lot = lot; said = said_of e y }) y.kept i
    ∙ ap (λ b. cond b (Some (said_of e y)) (records_of y.kept i)) off

other_if : (b : Bool) (lot : ℕ) (e : Entry) (y : Holding) (i : ℕ) (rest : List Entry) → is_in (ids_in (unless_seen b e ++ rest)) i ≡ false
    → (records_of (taken_if b lot e y).holding.kept i ≡ records_of y.kept i) × (is_in (ids_in rest) i ≡ false)
other_if true lot e y i rest none = (refl, none)
other_if false lot e y i rest none =
    let two = neither (entry_id e == i) (is_in (ids_in rest) i) none in
    (other_by (records_of y.kept (entry_id e)) lot e y i two.0, two.1)

pub group_others : (V : Service) (lot : ℕ) (es : List Entry) (y : Holding) (i : ℕ) → is_in (ids_in (kept_of V es)) i ≡ false
    → records_of (with_group V lot es y).kept i ≡ records_of y.kept i
group_others V lot [] y i none = refl
group_others V lot (e ∷ es) y i none =
    let two = other_if (is_seen V e) lot e y i (kept_of V es) none in
    group_others V lot es (taken V lot e y).holding i two.1 ∙ two.0

-- the records after a whole call
pub kept_for : (lot : Option ℕ) (y : Holding) → (with_lot_for lot y).kept ≡ y.kept
kept_for None y = refl
kept_for (Some n) y = refl

transacted_others : (V : Service) (lot : Option ℕ) (ids : List ℕ) (es : List Entry) (y : Holding)
    → OthersStay (records_of y.kept) ids (kept_of V es) (records_of (transacted V lot ids es y).kept)
transacted_others V lot ids es y i none =
    group_others V (lot_for lot y) es (with_lot_for lot (without_settled ids y)) i none ∙ ap (λ ks. records_of ks i) (kept_for lot (without_settled ids y))
    ∙ found_settled (λ k. k.said) ids y i

-- what holds of a transaction, and of no change where nothing is to be kept, holds of a call
pub by_kept : (P : Holding → Type 0) (kept : List Entry) (ids : List ℕ) (y z : Holding) → ((kept ≡ []) → (ids ≡ []) → P y) → P z
    → P (cond (keeps_nothing kept ids) y z)
by_kept P [] [] y z none some = none refl refl
by_kept P [] (id ∷ ids) y z none some = some
by_kept P (e ∷ es) ids y z none some = some

pub others_stay : (V : Service) (lot : Option ℕ) (ids : List ℕ) (es : List Entry) (y : Holding)
    → OthersStay (records_of y.kept) ids (kept_of V es) (records_of (performed V lot ids es y).kept)
others_stay V lot ids es y i off =
    by_kept (λ z. records_of z.kept i ≡ cond (is_in ids i) None (records_of y.kept i)) (kept_of V es) ids y (transacted V lot ids es y)
    (λ none empty. ap (λ l. cond (is_in l i) None (records_of y.kept i)) (sym empty)) (transacted_others V lot ids es y i off)
