-- Rows of nodes that count written blocks where the tables do, whatever a change says.
use Rattle.std.proofs.Common.{◌≡◌, ◌==◌, ℕ, List, [], ◌∷◌, ◌++◌, Bool, true, false, not, cond, map, filter, length, Option, Some, None, option_map}
use Rattle.std.proofs.Common.{refl, sym, ap, ap₂, inl, inr, ◌||◌, ◌∙◌}
use Rattle.std.specs.Prelude.{IsSome}
use Rattle.std.specs.Option.{is_some}
use Rattle.std.specs.List.{AllByRecursion, list_any}
use Rattle.std.proofs.lemmas.Bool.{cases_Bool}
use Rattle.fuse_init.specs.Profile.{terms}
use Rattle.fuse_rows.specs.Blocks.{Body}
use Rattle.fuse_rows.specs.declared.rows.Full.{Full}
use Rattle.fuse_rows.specs.declared.rows.NodeRow.{NodeRow}
use Rattle.fuse_rows.specs.Rows.{Rows, with_row, put_node, new_body, at_node, profile_for}
use Rattle.fuse_tree.specs.State.{State, Node, Tree, IsNode, terms_of, used_of}
use Rattle.fuse_tree.specs.Space.{room_of}
use Rattle.fuse_tree.specs.Rowed.{rowed, full_of}
use Rattle.fuse_store_tables.specs.declared.version.Layout.{Layout}
use Rattle.fuse_store_tables.specs.declared.version.Layout.TheVariants.{Second, Third}
use Rattle.fuse_store_tables.specs.Content.{HasCount}
use Rattle.fuse_store_tree.specs.Store.{layout_for}
use Rattle.fuse_store_tree.specs.inner.Writing.{counted_as, counted_row}

abbrev pub Counts : {X : Type 0} → Layout → Option X → Type 0
Counts Second o = o ≡ None
Counts Third o = IsSome o

-- both have one number, and what counts as the layout does is the same
pub record IsAlike (layout : Layout) (f g : Full) : Type 0 where
  pub number : f.row.node ≡ g.row.node
  pub row : HasCount layout g.row → f.row ≡ g.row
  pub content : Counts layout g.content.blocks → f.content ≡ g.content

abbrev pub AreAlike : Layout → List Full → List Full → Type 0
AreAlike layout [] [] = Unit {0}
AreAlike layout (f ∷ fs) (g ∷ gs) = IsAlike layout f g × AreAlike layout fs gs
AreAlike layout _ _ = ⊥

pub record IsCounted (layout : Layout) (f : Full) : Type 0 where
  pub row : HasCount layout f.row
  pub content : Counts layout f.content.blocks

-- the rows of nodes and their contents count as the layout does
abbrev pub AreCounted : Rows → Type 0
AreCounted rows = AllByRecursion (IsCounted (layout_for rows.counters.room)) rows.nodes

-- ---- the same list

self_like : (layout : Layout) (f : Full) → IsAlike layout f f
self_like layout f = record { number = refl; row = λ counts. refl; content = λ counts. refl }

pub self_alike : (layout : Layout) (fs : List Full) → AreAlike layout fs fs
self_alike layout [] = tt
self_alike layout (f ∷ fs) = (self_like layout f, self_alike layout fs)

pub alike_same : (layout : Layout) (fs gs : List Full) → AreAlike layout fs gs → AllByRecursion (IsCounted layout) gs → fs ≡ gs
alike_same layout [] [] like counted = refl
alike_same layout [] (g ∷ gs) like counted = absurd like
alike_same layout (f ∷ fs) [] like counted = absurd like
alike_same layout (f ∷ fs) (g ∷ gs) like counted =
    ap₂ (λ r b. (record { row = r; content = b }) ∷ fs) (like.0.row counted.0.row) (like.0.content counted.0.content)
    ∙ ap (λ l. g ∷ l) (alike_same layout fs gs like.1 counted.1)

-- ---- a row is put

counted_same : (layout : Layout) (row : NodeRow) → HasCount layout row → counted_row layout row ≡ row
counted_same Second row counts = ap (λ w. record row { written = w }) (sym counts)
counted_same Third row counts = by row.written counts
  where
    by : (w : Option ℕ) → IsSome w → record row { written = counted_as Third w } ≡ record row { written = w }
    by None some = absurd cc
    by (Some count) some = refl

new_same : (layout : Layout) (w : Option ℕ) → Counts layout (new_body w).blocks → new_body (counted_as layout w) ≡ new_body w
new_same Second None counts = refl
new_same Second (Some count) counts = absurd cc
new_same Third None counts = absurd cc
new_same Third (Some count) counts = refl

row_alike : (layout : Layout) (row : NodeRow) (f g : Full) → IsAlike layout f g → IsAlike layout (with_row (counted_row layout row) f) (with_row row g)
row_alike layout row f g like = by (f.row.node == row.node) (g.row.node == row.node) (ap (λ n. n == row.node) like.number)
  where
    by : (b c : Bool) → b ≡ c
        → IsAlike layout (cond b (record { row = counted_row layout row; content = f.content }) f) (cond c (record { row = row; content = g.content }) g)
    by true true is = record { number = refl; row = λ counts. counted_same layout row counts; content = like.content }
    by true false is = absurd cc
    by false true is = absurd cc
    by false false is = like

rows_alike : (layout : Layout) (row : NodeRow) (fs gs : List Full) → AreAlike layout fs gs
    → AreAlike layout (map (with_row (counted_row layout row)) fs) (map (with_row row) gs)
rows_alike layout row [] [] like = tt
rows_alike layout row [] (g ∷ gs) like = like
rows_alike layout row (f ∷ fs) [] like = like
rows_alike layout row (f ∷ fs) (g ∷ gs) like = (row_alike layout row f g like.0, rows_alike layout row fs gs like.1)

new_alike : (layout : Layout) (row : NodeRow) (fs gs : List Full) → AreAlike layout fs gs
    → AreAlike layout (fs ++ record { row = counted_row layout row; content = new_body (counted_as layout row.written) } ∷ [])
    (gs ++ record { row = row; content = new_body row.written } ∷ [])
new_alike layout row [] [] like =
    (record { number = refl; row = counted_same layout row; content = new_same layout row.written }, tt)
new_alike layout row [] (g ∷ gs) like = absurd like
new_alike layout row (f ∷ fs) [] like = absurd like
new_alike layout row (f ∷ fs) (g ∷ gs) like = (like.0, new_alike layout row fs gs like.1)

there_alike : (layout : Layout) (node : ℕ) (fs gs : List Full) → AreAlike layout fs gs
    → list_any (λ f. f.row.node == node) fs ≡ list_any (λ f. f.row.node == node) gs
there_alike layout node [] [] like = refl
there_alike layout node [] (g ∷ gs) like = absurd like
there_alike layout node (f ∷ fs) [] like = absurd like
there_alike layout node (f ∷ fs) (g ∷ gs) like =
    ap₂ (λ n b. (n == node) || b) like.0.number (there_alike layout node fs gs like.1)

pub put_alike : (layout : Layout) (row : NodeRow) (fs gs : List Full) → AreAlike layout fs gs
    → AreAlike layout (put_node (counted_row layout row) fs) (put_node row gs)
put_alike layout row fs gs like = elim (cases_Bool (list_any (λ f. f.row.node == row.node) gs)) [
  | inl there ↦ rw (there_alike layout row.node fs gs like, there) (rows_alike layout row fs gs like)
  | inr none ↦ rw (there_alike layout row.node fs gs like, none) (new_alike layout row fs gs like)
]

-- ---- other changes

pub gone_alike : (layout : Layout) (node : ℕ) (fs gs : List Full) → AreAlike layout fs gs
    → AreAlike layout (filter (λ f. not (f.row.node == node)) fs) (filter (λ f. not (f.row.node == node)) gs)
gone_alike layout node [] [] like = tt
gone_alike layout node [] (g ∷ gs) like = absurd like
gone_alike layout node (f ∷ fs) [] like = absurd like
gone_alike layout node (f ∷ fs) (g ∷ gs) like = by (f.row.node == node) (g.row.node == node) (ap (λ n. n == node) like.0.number) _ _
    (gone_alike layout node fs gs like.1)
  where
    by : (b c : Bool) → b ≡ c → (ls ms : List Full) → AreAlike layout ls ms → AreAlike layout (cond (not b) (f ∷ ls) ls) (cond (not c) (g ∷ ms) ms)
    by true true is ls ms rest = rest
    by true false is ls ms rest = absurd cc
    by false true is ls ms rest = absurd cc
    by false false is ls ms rest = (like.0, rest)

-- a change of the content that keeps whether blocks are counted
pub kept_count : (layout : Layout) (bytes : List ℕ → List ℕ) (blocks : List ℕ → List ℕ) (b : Body)
    → Counts layout (option_map blocks b.blocks) → Counts layout b.blocks
kept_count layout bytes blocks b counts = by layout b.blocks counts
  where
    by : (l : Layout) (o : Option (List ℕ)) → Counts l (option_map blocks o) → Counts l o
    by Second None kept = refl
    by Second (Some bs) kept = absurd cc
    by Third None kept = absurd cc
    by Third (Some bs) kept = kept

pub at_alike : (layout : Layout) (node : ℕ) (change : Body → Body) → ((b : Body) → Counts layout (change b).blocks → Counts layout b.blocks)
    → (fs gs : List Full) → AreAlike layout fs gs → AreAlike layout (map (at_node node change) fs) (map (at_node node change) gs)
at_alike layout node change keeps [] [] like = tt
at_alike layout node change keeps [] (g ∷ gs) like = like
at_alike layout node change keeps (f ∷ fs) [] like = like
at_alike layout node change keeps (f ∷ fs) (g ∷ gs) like = (one, at_alike layout node change keeps fs gs like.1)
  where
    by : (b c : Bool) → b ≡ c
        → IsAlike layout (cond b (record { row = f.row; content = change f.content }) f) (cond c (record { row = g.row; content = change g.content }) g)
    by true true is = record {
      number = like.0.number;
      row = like.0.row;
      content = λ counts. ap change (like.0.content (keeps g.content counts));
    }
    by true false is = absurd cc
    by false true is = absurd cc
    by false false is = like.0

    one : IsAlike layout (at_node node change f) (at_node node change g)
    one = by (f.row.node == node) (g.row.node == node) (ap (λ n. n == node) like.0.number)

-- ---- the rows of a tree

length_counts : (layout : Layout) (row : NodeRow) (o : Option (List ℕ)) → Counts layout o → HasCount layout (record row { written = option_map length o })
length_counts Second row None counts = refl
length_counts Second row (Some bs) counts = absurd cc
length_counts Third row None counts = absurd cc
length_counts Third row (Some bs) counts = refl

pub tree_counted : (s : State) → Tree s → AreCounted (rowed s)
unfolding rowed
tree_counted s tree = all s.nodes tree.shape.nodes
  where
    all : (ns : List Node) → AllByRecursion (IsNode (terms_of s) s.next_node) ns
        → AllByRecursion (IsCounted (layout_for (room_of s))) (map (full_of s) ns)
    all [] each = tt
    all (n ∷ ns) each = (counted, all ns each.1)
      where
        counts : Counts (layout_for (room_of s)) n.blocks
        counts = by s.capacity each.0.blocks.counted
          where
            by : (c : Option ℕ) → is_some n.blocks ≡ (terms (profile_for c)).counts_written
                → Counts (layout_for (option_map (λ x. record { capacity = x; used = used_of s }) c)) n.blocks
            by None told = none n.blocks told
              where
                none : (o : Option (List ℕ)) → is_some o ≡ false → ◌≡◌ {A = Option (List ℕ)} o None
                none None e = refl
                none (Some bs) e = absurd cc
            by (Some c) told = some n.blocks told
              where
                some : (o : Option (List ℕ)) → is_some o ≡ true → IsSome o
                some None e = absurd cc
                some (Some bs) e = refl

        counted : IsCounted (layout_for (room_of s)) (full_of s n)
        counted = record { row = length_counts (layout_for (room_of s)) (full_of s n).row n.blocks counts; content = counts }
