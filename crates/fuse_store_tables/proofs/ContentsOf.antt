-- The blocks and pieces of several nodes, taken out one node after the other.
use Rattle.std.proofs.Common.{◌≡◌, ◌<◌, ℕ, zero, suc, List, [], ◌∷◌, map, filter, take, length, slice_index_or, Bool, true, false, not, ◌&&◌, ◌||◌, refl}
use Rattle.std.proofs.Common.{ap, ap₂, arith, ◌∙◌}
use Rattle.std.specs.List.{list_any}
use Rattle.std.specs.Ordering.{is_eq, is_ge, nat_cmp}
use Rattle.std.proofs.lemmas.Bool.Decides.{nat_tests}
use Rattle.sqlite.specs.Order.{Row}
use Rattle.fuse_store_tables.specs.Blocks.{Block, is_from}
use Rattle.fuse_store_tables.specs.Pieces.{Piece}
use Rattle.fuse_store_tables.specs.Content.{Content, is_piece_of}
use Rattle.fuse_store_tables.specs.Clearing.{unnamed_numbers}
use Rattle.fuse_store_tables.specs.inner.Columns.{shown_number, number_of_row}
use Rattle.fuse_store_tables.specs.inner.Steps.{without_contents, without_contents_of, without_unnamed_contents}
use Rattle.fuse_store_tables.proofs.Removing.{every, not_either}

pub numbers_back : (ns : List ℕ) → map number_of_row (map shown_number ns) ≡ ns
numbers_back [] = refl
numbers_back (n ∷ ns) = ap (λ more. n ∷ more) (numbers_back ns)

pub shown_at : (ns : List ℕ) (at : ℕ) (d : Row) → at < length (map shown_number ns) → slice_index_or (map shown_number ns) at d ≡ shown_number
    (slice_index_or ns at 0)
shown_at [] at d low = absurd (omega (arith, low))
shown_at (n ∷ ns) zero d low = refl
shown_at (n ∷ ns) (suc at) d low = shown_at ns at d (omega (arith, low))

pub with_more : (rows : List Row) (at : ℕ) (d : Row) (c : Content) → at < length rows → without_contents_of (map number_of_row (take (suc at) rows))
    c ≡ without_contents (number_of_row (slice_index_or rows at d)) (without_contents_of (map number_of_row (take at rows)) c)
with_more [] at d c low = absurd (omega (arith, low))
with_more (r ∷ rows) zero d c low = refl
with_more (r ∷ rows) (suc at) d c low = with_more rows at d (without_contents (number_of_row r) c) (omega (arith, low))

same_filter : {X : Type 0} (p q : X → Bool) → ((x : X) → p x ≡ q x) → (xs : List X) → filter p xs ≡ filter q xs
same_filter p q same [] = refl
same_filter p q same (x ∷ xs) = rw (same x) (ap (λ more. Rattle.std.proofs.Common.cond (q x) (x ∷ more) more) (same_filter p q same xs))

from_first : (n : ℕ) → is_ge (nat_cmp n 0) ≡ true
from_first n = grind (arith, nat_tests)

and_true : (a b : Bool) → b ≡ true → (a && b) ≡ a
and_true true b is = is
and_true false b is = refl

abbrev of : List ℕ → ℕ → Bool
of ns node = list_any (λ n. is_eq (nat_cmp node n)) ns

abbrev left : (Block → Bool) → (Piece → Bool) → Content → Content
left p q c = record c { blocks = filter (λ b. not (p b)) c.blocks; pieces = filter (λ x. not (q x)) c.pieces }

blocks_then : (n : ℕ) (ns : List ℕ) (bs : List Block)
    → filter (λ b. not (of ns b.node)) (filter (λ b. not (is_from n 0 b)) bs) ≡ filter (λ b. not (of (n ∷ ns) b.node)) bs
blocks_then n ns bs =
    not_either (is_from n 0) (λ b. of ns b.node) bs ∙ same_filter (λ b. not (is_from n 0 b || of ns b.node))
    (λ b. not (of (n ∷ ns) b.node))
    (λ b. ap (λ t. not (t || of ns b.node)) (and_true (is_eq (nat_cmp b.node n)) (is_ge (nat_cmp b.block 0)) (from_first b.block))) bs

pieces_then : (n : ℕ) (ns : List ℕ) (ps : List Piece)
    → filter (λ p. not (of ns p.node)) (filter (λ p. not (is_piece_of n p)) ps) ≡ filter (λ p. not (of (n ∷ ns) p.node)) ps
pieces_then n ns ps = not_either (is_piece_of n) (λ (p : Piece). of ns p.node) ps

contents_of : (ns : List ℕ) (c : Content) → without_contents_of ns c ≡ left (λ b. of ns b.node) (λ p. of ns p.node) c
contents_of [] c = ap₂ (λ bs ps. record c { blocks = bs; pieces = ps }) (every c.blocks) (every c.pieces)
contents_of (n ∷ ns) c =
    contents_of ns (without_contents n c)
    ∙ ap₂ (λ bs ps. record c { blocks = bs; pieces = ps }) (blocks_then n ns c.blocks) (pieces_then n ns c.pieces)

pub unnamed_contents : (rows : List Row) (c : Content) → rows ≡ map shown_number (unnamed_numbers c.nodes) → without_contents_of (map number_of_row rows)
    c ≡ without_unnamed_contents c
unnamed_contents rows c is = ap (λ rs. without_contents_of (map number_of_row rs) c) is ∙ ap (λ ns. without_contents_of ns c)
    (numbers_back (unnamed_numbers c.nodes))
    ∙ contents_of (unnamed_numbers c.nodes) c
