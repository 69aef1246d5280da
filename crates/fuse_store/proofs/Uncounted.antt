-- Rows of nodes that don't count written blocks, and their order.
use Rattle.std.proofs.Common.{◌≡◌, ℕ, Ordering, List, [], ◌∷◌, map, fold, Less, Equal, Greater, refl, sym, ap, ◌∙◌}
use Rattle.std.specs.Ordering.{match_ordering, nat_cmp}
use Rattle.fuse_rows.specs.declared.rows.NodeRow.{NodeRow}
use Rattle.fuse_tree.specs.State.{State, Node}
use Rattle.fuse_tree.specs.Rowed.{full_of}
use Rattle.fuse_store_tables.specs.Content.{node_key, put_by}
use Rattle.fuse_store_tree.specs.Store.{in_order}
use Rattle.fuse_store.specs.SecondVersion.{uncounted}

abbrev pub rows_of : State → List Node → List NodeRow
rows_of s ns = map (λ f. f.row) (map (full_of s) ns)

put_uncounted : (x : NodeRow) (ys : List NodeRow) → put_by node_key (uncounted x) (map uncounted ys) ≡ map uncounted (put_by node_key x ys)
put_uncounted x [] = refl
put_uncounted x (y ∷ ys) = by (nat_cmp (node_key y) (node_key x)) (put_uncounted x ys)
  where
    by : (o : Ordering) → put_by node_key (uncounted x) (map uncounted ys) ≡ map uncounted (put_by node_key x ys)
        → match_ordering o (uncounted y ∷ put_by node_key (uncounted x) (map uncounted ys)) (uncounted x ∷ map uncounted ys) (uncounted x ∷ uncounted y ∷ map uncounted ys)
        ≡ map uncounted (match_ordering o (y ∷ put_by node_key x ys) (x ∷ ys) (x ∷ y ∷ ys))
    by Less more = ap (λ l. uncounted y ∷ l) more
    by Equal more = refl
    by Greater more = refl

put_all : (acc xs : List NodeRow) → fold (λ all x. put_by node_key x all) (map uncounted acc) (map uncounted xs)
    ≡ map uncounted (fold (λ all x. put_by node_key x all) acc xs)
put_all acc [] = refl
put_all acc (x ∷ xs) =
    ap (λ l. fold (λ all y. put_by node_key y all) l (map uncounted xs)) (put_uncounted x acc) ∙ put_all (put_by node_key x acc) xs

order_kept : (xs : List NodeRow) → in_order node_key (map uncounted xs) ≡ map uncounted (in_order node_key xs)
order_kept xs = put_all [] xs

rows_fused : (s : State) (ns : List Node) → map (λ f. uncounted f.row) (map (full_of s) ns) ≡ map uncounted (rows_of s ns)
rows_fused s [] = refl
rows_fused s (n ∷ ns) = ap (λ l. uncounted (full_of s n).row ∷ l) (rows_fused s ns)

-- the rows of a tree stay in their order
pub uncounted_rows : (s : State) (ns : List Node) → in_order node_key (rows_of s ns) ≡ rows_of s ns
    → in_order node_key (map (λ f. uncounted f.row) (map (full_of s) ns)) ≡ map uncounted (rows_of s ns)
uncounted_rows s ns ordered = ap (in_order node_key) (rows_fused s ns) ∙ order_kept (rows_of s ns) ∙ ap (map uncounted) ordered
