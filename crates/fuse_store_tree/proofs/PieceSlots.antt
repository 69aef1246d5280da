-- Pieces in the order of their hidden rowids.
use Rattle.std.proofs.Common.{◌≡◌, ◌≤◌, ◌<◌, ◌+◌, ℕ, List, [], ◌∷◌, map, fold, Less, sym, arith, ◌∙◌}
use Rattle.std.specs.List.{AllByRecursion}
use Rattle.std.specs.Ordering.{nat_cmp}
use Rattle.std.proofs.lemmas.Bool.Decides.{nat_tests}
use Rattle.sqlite.specs.Effect.{Database}
use Rattle.sqlite_trees.specs.Tree.{IsTable, rowid}
use Rattle.sqlite_value.specs.Order.{value_cmp}
use Rattle.fuse_store_tables.specs.declared.pieces.PieceRow.{PieceRow}
use Rattle.fuse_store_tables.specs.declared.version.Layout.TheVariants.{Third}
use Rattle.fuse_store_tables.specs.Content.{Content, Holds}
use Rattle.fuse_store_tables.specs.Pieces.{Piece, piece_row, next_piece, new_piece}
use Rattle.fuse_store_tree.proofs.Described.{Rises}
use Rattle.fuse_store_tree.proofs.Keys.{number_order}
use Rattle.fuse_store_tree.proofs.Tabled.{pieces_stored}
use Rattle.std.proofs.Common.{subst}

abbrev slot : Piece → ℕ
slot p = p.slot

-- ---- the next one is above all

abbrev next_from : ℕ → List Piece → ℕ
next_from a ps = fold (λ _ p. p.slot + 1) a ps

above_all : (a : ℕ) (ps : List Piece) → Rises slot ps → AllByRecursion (λ p. a ≤ p.slot) ps → (a ≤ next_from a ps) × AllByRecursion (λ p. p.slot < next_from a ps) ps
above_all a [] rises low = (omega arith, tt)
above_all a (p ∷ ps) rises low =
    let more = above_all (p.slot + 1) ps rises.1 (up ps rises.0) in
    (omega (arith, low.0, more.0), (omega (arith, more.0), more.1))
  where
    up : (xs : List Piece) → AllByRecursion (λ x. p.slot < x.slot) xs → AllByRecursion (λ x. p.slot + 1 ≤ x.slot) xs
    up [] all = tt
    up (x ∷ xs) all = (omega (arith, all.0), up xs all.1)

all_below : (ps : List Piece) → Rises slot ps → AllByRecursion (λ p. p.slot < next_piece ps) ps
all_below [] rises = tt
all_below (p ∷ ps) rises =
    let more = above_all (p.slot + 1) ps rises.1 (up ps rises.0) in
    (omega (arith, more.0), more.1)
  where
    up : (xs : List Piece) → AllByRecursion (λ x. p.slot < x.slot) xs → AllByRecursion (λ x. p.slot + 1 ≤ x.slot) xs
    up [] all = tt
    up (x ∷ xs) all = (omega (arith, all.0), up xs all.1)

pub next_above : (x : PieceRow) (ps : List Piece) → Rises slot ps → AllByRecursion (λ p. p.slot < (new_piece x ps).slot) ps
next_above x ps rises = all_below ps rises

-- the first one is 1
pub slot_given : (x : PieceRow) (ps : List Piece) → 1 ≤ (new_piece x ps).slot
slot_given x [] = omega arith
slot_given x (p ∷ ps) = up (p.slot + 1) ps (omega arith)
  where
    up : (a : ℕ) (qs : List Piece) → 1 ≤ a → 1 ≤ next_from a qs
    up a [] some = some
    up a (q ∷ qs) some = up (q.slot + 1) qs (omega arith)

-- ---- rows of a table rise

below : (a b : ℕ) → nat_cmp a b ≡ Less → a < b
below a b is = grind (arith, nat_tests)

all_above : (x : Piece) (ys : List Piece) → AllByRecursion (λ r. value_cmp (rowid (piece_row x)) (rowid r) ≡ Less) (map piece_row ys)
    → AllByRecursion (λ (y : Piece). x.slot < y.slot) ys
all_above x [] above = tt
all_above x (y ∷ ys) above = (below x.slot y.slot (sym (number_order x.slot y.slot) ∙ above.0), all_above x ys above.1)

slots_rise : (xs : List Piece) → IsTable (map piece_row xs) → Rises slot xs
slots_rise [] rise = tt
slots_rise (x ∷ xs) rise = (all_above x xs rise.0, slots_rise xs rise.1)

pub pieces_rise : (c : Content) (d : Database) → Holds c d → c.layout ≡ Third → Rises (λ (p : Piece). p.slot) c.pieces
pieces_rise c d at third = let rows = pieces_stored c d at third in slots_rise c.pieces (subst IsTable rows.0 rows.1)
