-- Rows that are added, changed and deleted, as the tables describe them.
use Rattle.std.proofs.Common.{◌≡◌, inl, inr, ℕ, List, [], ◌∷◌, ◌++◌, ◌==◌, map, Bool, true, false}
use Rattle.std.proofs.Common.{not, cond, Option, Some, None, refl, sym, ap, subst, arith, ◌∙◌, find, ◌||◌, ◌<◌, ◌*◌, length}
use Rattle.std.specs.Prelude.{◌⊎◌, IsSome, option_map}
use Rattle.std.specs.Option.{is_some}
use Rattle.std.specs.Ordering.{is_eq, nat_cmp, match_ordering}
use Rattle.std.specs.declared.cmp.Ordering.{Ordering}
use Rattle.std.proofs.Common.{Less, Equal, Greater}
use Rattle.std.specs.List.{AllByRecursion, list_any}
use Rattle.std.proofs.lemmas.Bool.{cases_Bool}
use Rattle.std.proofs.lemmas.Bool.Decides.{nat_tests}
use Rattle.fuse_rows.specs.Bounds.{block_bytes}
use Rattle.fuse_rows.specs.declared.rows.Full.{Full}
use Rattle.fuse_rows.specs.declared.rows.NodeRow.{NodeRow}
use Rattle.fuse_rows.specs.Blocks.{Body}
use Rattle.fuse_rows.specs.Rows.{apply_one, with_row, put_node, new_body, content_of}
use Rattle.fuse_init.specs.declared.settings.Settings.{Settings}
use Rattle.fuse_rows.specs.declared.rows.EntryRow.{EntryRow}
use Rattle.fuse_rows.specs.declared.rows.HandleRow.{HandleRow}
use Rattle.fuse_rows.specs.declared.rows.Counters.{Counters as CountersRow}
use Rattle.fuse_rows.specs.declared.rows.Room.{Room}
use Rattle.fuse_rows.specs.declared.rows.Change.TheVariants as changes
use Rattle.fuse_store_tables.specs.Content.{node_key, with_node, has_by, Content, put_by}
use Rattle.fuse_store_tables.specs.Content.{without_by, cookie_of, fh_of, with_entry, with_entry_gone, with_handle, without_handle, set_counter}
use Rattle.fuse_store_tree.specs.Fits.{KeepsNode}
use Rattle.fuse_rows.specs.Columns.{FitsEntry, FitsHandle}
use Rattle.fuse_store_tree.specs.Pieces.{byte_at, is_written_in}
use Rattle.fuse_store_tree.specs.Store.{Store, in_order, meta_rows_of, FitsSettings, IsWrittenAs, is_among, blocks_counted, rows_ends, layout_for}
use Rattle.fuse_store_tree.specs.inner.Reading.{Describes}
use Rattle.fuse_store_tree.specs.inner.Knowing.{counters_set}
use Rattle.fuse_store_tables.specs.declared.version.Layout.{Layout}
use Rattle.fuse_store_tree.specs.inner.Writing.{room_over, with_change, with_rows, counted_row}
use Rattle.fuse_store_tree.proofs.Described.{same_test, filter_same}
use Rattle.fuse_store_tables.specs.Pieces.{Piece}
use Rattle.fuse_store_tree.proofs.Within.{within_more, pieces_more, unstored}
use Rattle.fuse_store_tree.proofs.Orders.{all_put, all_filter, one_more, one_gone, one_replaced, repl}

-- ---- nodes

has_row : (number : ℕ) (fs : List Full) → list_any (has_by node_key number) (map (λ f. f.row) fs) ≡ list_any (λ f. f.row.node == number) fs
has_row number [] = refl
has_row number (f ∷ fs) = rw (same_test f.row.node number) (ap (λ b. (f.row.node == number) || b) (has_row number fs))

rows_replaced : (row : NodeRow) (fs : List Full) → map (λ f. f.row) (map (with_row row) fs) ≡ map (repl node_key row) (map (λ f. f.row) fs)
rows_replaced row [] = refl
rows_replaced row (f ∷ fs) = elim (cases_Bool (f.row.node == row.node)) [
  | inl here ↦ rw (same_test f.row.node row.node, here) (ap (λ l. row ∷ l) (rows_replaced row fs))
  | inr not_here ↦ rw (same_test f.row.node row.node, not_here) (ap (λ l. f.row ∷ l) (rows_replaced row fs))
]

rows_behind : (fs : List Full) (f : Full) → map (λ x. x.row) fs ++ f.row ∷ [] ≡ map (λ x. x.row) (fs ++ f ∷ [])
rows_behind [] f = refl
rows_behind (x ∷ fs) f = ap (λ l. x.row ∷ l) (rows_behind fs f)

rows_put : (row : NodeRow) (fs : List Full) → put_by node_key row (in_order node_key (map (λ f. f.row) fs)) ≡ in_order node_key
    (map (λ f. f.row) (put_node row fs))
rows_put row fs = elim (cases_Bool (list_any (λ f. f.row.node == row.node) fs)) [
  | inl there ↦ rw there (one_replaced node_key row (map (λ f. f.row) fs) (has_row row.node fs ∙ there) ∙ ap (in_order node_key) (sym (rows_replaced row fs)))
  | inr not_there ↦ rw not_there (one_more node_key row (map (λ f. f.row) fs) ∙ ap (in_order node_key) (rows_behind fs (record { row = row; content = new_body row.written })))
]

pub same_number : (a b : ℕ) → (a == b) ≡ true → a ≡ b
same_number a b is = grind (arith, nat_tests)

-- what is read off the content of a node, and of one that isn't there
module _ {Z : Type 0} (G : Body → Z) (z : Z) where
  abbrev pub shown : Option Full → Z
  shown None = z
  shown (Some f) = G f.content

  replaced : (row : NodeRow) (number : ℕ) (fs : List Full) → shown (find (λ f. f.row.node == number) fs) ≡ shown
      (find (λ f. f.row.node == number) (map (with_row row) fs))
  replaced row number [] = refl
  replaced row number (f ∷ fs) = elim (cases_Bool (f.row.node == row.node)) [
    | inl here ↦
        rw here (ap (λ n. shown (cond (n == number) (Some f) (find (λ x. x.row.node == number) fs))) (same_number f.row.node row.node here)
        ∙ by (row.node == number) (replaced row number fs))
    | inr not_here ↦ rw not_here (stays (f.row.node == number) (replaced row number fs))
  ]
    where
      by : (b : Bool) → shown (find (λ x. x.row.node == number) fs) ≡ shown (find (λ x. x.row.node == number) (map (with_row row) fs))
          → shown (cond b (Some f) (find (λ x. x.row.node == number) fs)) ≡ shown (cond b (Some (record f { row = row }))
          (find (λ x. x.row.node == number) (map (with_row row) fs)))
      by true e = refl
      by false e = e

      stays : (b : Bool) → shown (find (λ x. x.row.node == number) fs) ≡ shown (find (λ x. x.row.node == number) (map (with_row row) fs))
          → shown (cond b (Some f) (find (λ x. x.row.node == number) fs)) ≡ shown (cond b (Some f) (find (λ x. x.row.node == number)
          (map (with_row row) fs)))
      stays true e = refl
      stays false e = e

  -- a node that comes is as one that wasn't there
  behind : (row : NodeRow) (number : ℕ) (fs : List Full) → (row.node == number) ≡ false ⊎ (G (new_body row.written) ≡ z)
      → shown (find (λ f. f.row.node == number) fs) ≡ shown (find (λ f. f.row.node == number) (fs ++ record { row = row; content = new_body row.written } ∷ []))
  behind row number [] (inl other) = rw other refl
  behind row number [] (inr empty) = by (row.node == number)
    where
      by : (b : Bool) → z ≡ shown (cond b (Some (record { row = row; content = new_body row.written })) None)
      by true = sym empty
      by false = refl
  behind row number (f ∷ fs) apart = by (f.row.node == number) (behind row number fs apart)
    where
      by : (b : Bool)
          → shown (find (λ x. x.row.node == number) fs) ≡ shown (find (λ x. x.row.node == number) (fs ++ record { row = row; content = new_body row.written } ∷ []))
          → shown (cond b (Some f) (find (λ x. x.row.node == number) fs)) ≡ shown (cond b (Some f) (find (λ x. x.row.node == number) (fs
          ++ record { row = row; content = new_body row.written } ∷ [])))
      by true e = refl
      by false e = e

  put_shown : (row : NodeRow) (number : ℕ) (fs : List Full)
      → list_any (λ f. f.row.node == row.node) fs ≡ true ⊎ ((row.node == number) ≡ false ⊎ (G (new_body row.written) ≡ z))
      → shown (find (λ f. f.row.node == number) fs) ≡ shown (find (λ f. f.row.node == number) (put_node row fs))
  put_shown row number fs (inl there) = rw there (replaced row number fs)
  put_shown row number fs (inr apart) = elim (cases_Bool (list_any (λ f. f.row.node == row.node) fs)) [
    | inl there ↦ rw there (replaced row number fs)
    | inr not_there ↦ rw not_there (behind row number fs apart)
  ]

pub bytes_shown : (o : Option Full) → shown (λ b. b.bytes) [] o ≡ content_of o
bytes_shown None = refl
bytes_shown (Some f) = refl

pub counted_shown : (o : Option Full) → shown (λ b. b.blocks) None o ≡ blocks_counted o
counted_shown None = refl
counted_shown (Some f) = refl

contents_put : (row : NodeRow) (number : ℕ) (fs : List Full) → content_of (find (λ f. f.row.node == number) fs) ≡ content_of (find (λ f. f.row.node == number)
    (put_node row fs))
contents_put row number fs =
    sym (bytes_shown (find (λ f. f.row.node == number) fs)) ∙ put_shown (λ b. b.bytes) [] row number fs (inr (inr refl))
    ∙ bytes_shown (find (λ f. f.row.node == number) (put_node row fs))

counted_put : (row : NodeRow) (number : ℕ) (fs : List Full) → list_any (λ f. f.row.node == row.node) fs ≡ true ⊎ ((row.node == number) ≡ false)
    → blocks_counted (find (λ f. f.row.node == number) fs) ≡ blocks_counted (find (λ f. f.row.node == number) (put_node row fs))
counted_put row number fs apart =
    sym (counted_shown (find (λ f. f.row.node == number) fs)) ∙ put_shown (λ b. b.blocks) None row number fs (either apart)
    ∙ counted_shown (find (λ f. f.row.node == number) (put_node row fs))
  where
    either : list_any (λ f. f.row.node == row.node) fs ≡ true ⊎ ((row.node == number) ≡ false)
        → list_any (λ f. f.row.node == row.node) fs ≡ true ⊎ ((row.node == number) ≡ false ⊎ (◌≡◌ {A = Option (List ℕ)} (new_body row.written).blocks None))
    either (inl there) = inl there
    either (inr other) = inr (inl other)

-- a node that comes has no written block
counted_new : (row : NodeRow) (fs : List Full) → list_any (λ f. f.row.node == row.node) fs ≡ false → (k : ℕ)
    → IsWrittenAs false (option_map is_among (blocks_counted (find (λ f. f.row.node == row.node) (put_node row fs)))) k
counted_new row fs none k = rw none (new fs none)
  where
    none_among : (o : Option ℕ) → IsWrittenAs false (option_map is_among (new_body o).blocks) k
    none_among None = tt
    none_among (Some count) = refl

    itself : (a : ℕ) → (a == a) ≡ true
    itself a = grind (arith, nat_tests)

    new : (xs : List Full) → list_any (λ f. f.row.node == row.node) xs ≡ false
        → IsWrittenAs false (option_map is_among (blocks_counted (find (λ f. f.row.node == row.node) (xs ++ record { row = row; content = new_body row.written } ∷ [])))) k
    new [] miss = rw (itself row.node) (none_among row.written)
    new (x ∷ xs) miss = elim (cases_Bool (x.row.node == row.node)) [
      | inl here ↦ absurd (let e = rw here at miss in cc)
      | inr other ↦ rw other (new xs (rw other at miss))
    ]

absent : (number : ℕ) (fs : List Full) → list_any (λ f. f.row.node == number) fs ≡ false → length (content_of (find (λ f. f.row.node == number) fs)) ≡ 0
absent number [] none = refl
absent number (f ∷ fs) none = elim (cases_Bool (f.row.node == number)) [
  | inl here ↦ absurd (let e = rw here at none in cc)
  | inr other ↦ rw other (absent number fs (rw other at none))
]

written_put : (row : NodeRow) (s : Store) (file : List ℕ) (c : Content) → Describes s file c → (n k : ℕ)
    → IsWrittenAs (is_written_in file c n k) (option_map is_among (blocks_counted (find (λ f. f.row.node == n) (put_node row s.rows.nodes)))) k
written_put row s file c at n k = elim (cases_Bool (list_any (λ f. f.row.node == row.node) s.rows.nodes)) [
  | inl there ↦ stays (inl there)
  | inr none ↦ elim (cases_Bool (row.node == n)) [
    | inr other ↦ stays (inr other)
    | inl here ↦
        let m = same_number row.node n here in
        let free = ap is_some (unstored file c (rows_ends s.rows) row.node at.within at.pieces_within (absent row.node s.rows.nodes none) k) in
        subst (λ x. IsWrittenAs (is_written_in file c x k) (option_map is_among (blocks_counted (find (λ f. f.row.node == x) (put_node row s.rows.nodes)))) k) m
        (subst (λ b. IsWrittenAs b (option_map is_among (blocks_counted (find (λ f. f.row.node == row.node) (put_node row s.rows.nodes)))) k) (sym free)
        (counted_new row s.rows.nodes none k))
  ]
]
  where
    stays : list_any (λ f. f.row.node == row.node) s.rows.nodes ≡ true ⊎ ((row.node == n) ≡ false)
        → IsWrittenAs (is_written_in file c n k) (option_map is_among (blocks_counted (find (λ f. f.row.node == n) (put_node row s.rows.nodes)))) k
    stays apart = subst (λ o. IsWrittenAs (is_written_in file c n k) (option_map is_among o) k) (counted_put row n s.rows.nodes apart) (at.written n k)

-- the node of each piece is there still
owned_put : (row : NodeRow) (ns : List NodeRow) (number : ℕ) → list_any (has_by node_key number) ns ≡ true
    → list_any (has_by node_key number) (put_by node_key row ns) ≡ true
owned_put row [] number there = absurd cc
owned_put row (n ∷ ns) number there = by (λ e. owned_put row ns number e) (nat_cmp n.node row.node) refl
  where
    hit : (b : Bool) → (true || b) ≡ true
    hit b = refl

    also : (b : Bool) → (b || true) ≡ true
    also true = refl
    also false = refl

    by : (list_any (has_by node_key number) ns ≡ true → list_any (has_by node_key number) (put_by node_key row ns) ≡ true) → (o : Ordering)
        → nat_cmp n.node row.node ≡ o
        → list_any (has_by node_key number) (match_ordering o (n ∷ put_by node_key row ns) (row ∷ ns) (row ∷ n ∷ ns)) ≡ true
    by rest Less is = elim (cases_Bool (has_by node_key number n)) [
      | inl here ↦ rw here refl
      | inr other ↦ rw other (rest (rw other at there))
    ]
    by rest Equal is = subst (λ b. (b || list_any (has_by node_key number) ns) ≡ true) (same_key n.node row.node number is) there
      where
        same_key : (a b k : ℕ) → nat_cmp a b ≡ Equal → is_eq (nat_cmp a k) ≡ is_eq (nat_cmp b k)
        same_key a b k e = grind (arith, nat_tests)
    by rest Greater is = subst (λ b. (has_by node_key number row || b) ≡ true) (sym there) (also (has_by node_key number row))

all_owned : (row : NodeRow) (ns : List NodeRow) (ps : List Piece) → AllByRecursion (λ p. list_any (has_by node_key p.node) ns ≡ true) ps
    → AllByRecursion (λ p. list_any (has_by node_key p.node) (put_by node_key row ns) ≡ true) ps
all_owned row ns [] all = tt
all_owned row ns (p ∷ ps) all = (owned_put row ns p.node all.0, all_owned row ns ps all.1)

-- a row as the tables store it
row_put : (row : NodeRow) (s : Store) (file : List ℕ) (c : Content) → KeepsNode c.layout row → Describes s file c
    → Describes (with_rows (apply_one s.rows (changes.Node row)) s) file (with_node row c)
row_put row s file c fits at = record {
  counters = at.counters;
  nodes = ap (put_by node_key row) at.nodes ∙ rows_put row s.rows.nodes;
  entries = at.entries;
  handles = at.handles;
  answers = at.answers;
  attributes = at.attributes;
  number = at.number;
  layout = at.layout;
  header = at.header;
  pieces = at.pieces;
  owned = all_owned row c.nodes c.pieces at.owned;
  lots = at.lots;
  kept = at.kept;
  bytes = λ node i. at.bytes node i ∙ ap (λ l. byte_at l i) (contents_put row node s.rows.nodes);
  written = written_put row s file c at;
  within = within_more _ _ (λ n k low. subst (λ l. k * block_bytes < length l) (contents_put row n s.rows.nodes) low) c.blocks at.within;
  pieces_within = pieces_more _ _ (λ n k low. subst (λ l. k * block_bytes < length l) (contents_put row n s.rows.nodes) low) c.pieces at.pieces_within;
  settings = at.settings;
  fits = record {
    nodes = all_put node_key (KeepsNode c.layout) row c.nodes fits at.fits.nodes;
    entries = at.fits.entries;
    handles = at.fits.handles;
    blocks =
        at.fits.blocks;
    kept = at.fits.kept;
    pieces = at.fits.pieces;
    no_pieces = at.fits.no_pieces;
  };
}

pub node_put : (row : NodeRow) (layout : Layout) (stored : NodeRow) (s : Store) (file : List ℕ) (c : Content) → layout ≡ c.layout → stored ≡ counted_row layout row
    → KeepsNode layout stored → Describes s file c → Describes (with_change (changes.Node row) s) file (with_node stored c)
node_put row layout stored s file c same is fits at =
    let told : stored ≡ counted_row (layout_for s.rows.counters.room) row = is ∙ ap (λ l. counted_row l row) (same ∙ at.layout) in
    let keeps = subst (λ n. KeepsNode c.layout n) told (subst (λ l. KeepsNode l stored) same fits) in
    subst (λ n. Describes (with_change (changes.Node row) s) file (with_node n c)) (sym told)
    (row_put (counted_row (layout_for s.rows.counters.room) row) s file c keeps at)

-- ---- entries

pub entry_comes : (e : EntryRow) → FitsEntry e → (s : Store) (file : List ℕ) (c : Content) → Describes s file c → Describes (with_change (changes.Entry e) s) file (with_entry e c)
entry_comes e fits s file c at = record {
  counters = at.counters;
  nodes = at.nodes;
  entries = ap (put_by cookie_of e) at.entries ∙ one_more cookie_of e s.rows.entries;
  handles = at.handles;
  answers = at.answers;
  attributes = at.attributes;
  number = at.number;
  layout = at.layout;
  header = at.header;
  pieces = at.pieces;
  owned = at.owned;
  lots = at.lots;
  kept = at.kept;
  bytes = at.bytes;
  written = at.written;
  within = at.within;
  pieces_within = at.pieces_within;
  settings = at.settings;
  fits = record {
    nodes = at.fits.nodes;
    entries = all_put cookie_of FitsEntry e c.entries fits at.fits.entries;
    handles = at.fits.handles;
    blocks =
        at.fits.blocks;
    kept = at.fits.kept;
    pieces = at.fits.pieces;
    no_pieces = at.fits.no_pieces;
  };
}

pub entry_goes : (cookie : ℕ) → (s : Store) (file : List ℕ) (c : Content) → Describes s file c → Describes (with_change (changes.EntryGone cookie) s) file (with_entry_gone cookie c)
entry_goes cookie s file c at = record {
  counters = at.counters;
  nodes = at.nodes;
  entries = ap (without_by cookie_of cookie) at.entries ∙ one_gone cookie_of cookie s.rows.entries
      ∙ ap (in_order cookie_of) (filter_same _ _ (λ e. ap not (same_test e.cookie cookie)) s.rows.entries);
  handles = at.handles;
  answers = at.answers;
  attributes = at.attributes;
  number = at.number;
  layout = at.layout;
  header = at.header;
  pieces = at.pieces;
  owned = at.owned;
  lots = at.lots;
  kept = at.kept;
  bytes = at.bytes;
  written = at.written;
  within = at.within;
  pieces_within = at.pieces_within;
  settings = at.settings;
  fits = record {
    nodes = at.fits.nodes;
    entries = all_filter cookie_of FitsEntry _ c.entries at.fits.entries;
    handles = at.fits.handles;
    blocks =
        at.fits.blocks;
    kept = at.fits.kept;
    pieces = at.fits.pieces;
    no_pieces = at.fits.no_pieces;
  };
}

-- ---- handles

pub handle_comes : (h : HandleRow) → FitsHandle h → (s : Store) (file : List ℕ) (c : Content) → Describes s file c → Describes (with_change (changes.Handle h) s) file (with_handle h c)
handle_comes h fits s file c at = record {
  counters = at.counters;
  nodes = at.nodes;
  entries = at.entries;
  handles = ap (put_by fh_of h) at.handles ∙ one_more fh_of h s.rows.handles;
  answers = at.answers;
  attributes = at.attributes;
  number = at.number;
  layout = at.layout;
  header = at.header;
  pieces = at.pieces;
  owned = at.owned;
  lots = at.lots;
  kept = at.kept;
  bytes = at.bytes;
  written = at.written;
  within = at.within;
  pieces_within = at.pieces_within;
  settings = at.settings;
  fits = record {
    nodes = at.fits.nodes;
    entries = at.fits.entries;
    handles = all_put fh_of FitsHandle h c.handles fits at.fits.handles;
    blocks =
        at.fits.blocks;
    kept = at.fits.kept;
    pieces = at.fits.pieces;
    no_pieces = at.fits.no_pieces;
  };
}

pub handle_goes : (fh : ℕ) → (s : Store) (file : List ℕ) (c : Content) → Describes s file c → Describes (with_change (changes.HandleGone fh) s) file (without_handle fh c)
handle_goes fh s file c at = record {
  counters = at.counters;
  nodes = at.nodes;
  entries = at.entries;
  handles = ap (without_by fh_of fh) at.handles ∙ one_gone fh_of fh s.rows.handles ∙ ap (in_order fh_of) (filter_same _ _ (λ h. ap not (same_test h.fh fh))
      s.rows.handles);
  answers = at.answers;
  attributes = at.attributes;
  number = at.number;
  layout = at.layout;
  header = at.header;
  pieces = at.pieces;
  owned = at.owned;
  lots = at.lots;
  kept = at.kept;
  bytes = at.bytes;
  written = at.written;
  within = at.within;
  pieces_within = at.pieces_within;
  settings = at.settings;
  fits = record {
    nodes = at.fits.nodes;
    entries = at.fits.entries;
    handles = all_filter fh_of FitsHandle _ c.handles at.fits.handles;
    blocks = at.fits.blocks;
    kept = at.fits.kept;
    pieces = at.fits.pieces;
    no_pieces = at.fits.no_pieces;
  };
}

-- ---- counters and settings

numbers_set : (n old : CountersRow) (s : Option Settings) (lot number : ℕ) (c : Content)
    → (counters_set n (record c { counters = meta_rows_of old s lot number })).counters ≡ meta_rows_of (record n { room = room_over old.room n.room }) s lot number
numbers_set n old s lot number c = by old.room n.room
  where
    by : (o r : Option Room) → (counters_set (record n { room = r }) (record c { counters = meta_rows_of (record old { room = o }) s lot number })).counters
        ≡ meta_rows_of (record n { room = room_over o r }) s lot number
    by None None = refl
    by None (Some r) = refl
    by (Some o) None = refl
    by (Some o) (Some r) = refl

-- a room comes and goes with none
pub same_layout : (o r : Option Room) → layout_for (room_over o r) ≡ layout_for o
same_layout None None = refl
same_layout None (Some r) = refl
same_layout (Some o) None = refl
same_layout (Some o) (Some r) = refl

pub same_some : (o r : Option Room) → IsSome (room_over o r) → IsSome o
same_some None None some = some
same_some None (Some r) some = some
same_some (Some o) None some = some
same_some (Some o) (Some r) some = some

pub counters_change : (n : CountersRow) → (s : Store) (file : List ℕ) (c : Content) → Describes s file c → Describes (with_change (changes.Counters n) s) file (counters_set n c)
counters_change n s file c at = record {
  counters = ap (λ cs. (counters_set n (record c { counters = cs })).counters) at.counters ∙ numbers_set n s.rows.counters s.rows.settings s.next_lot at.number c;
  nodes = at.nodes;
  entries = at.entries;
  handles = at.handles;
  answers = at.answers;
  attributes = at.attributes;
  number = at.number;
  layout = at.layout ∙ sym (same_layout s.rows.counters.room n.room);
  header = λ some. at.header (same_some s.rows.counters.room n.room some);
  pieces = at.pieces;
  owned = at.owned;
  lots = at.lots;
  kept = at.kept;
  bytes = at.bytes;
  written = at.written;
  within = at.within;
  pieces_within = at.pieces_within;
  settings = at.settings;
  fits = record { nodes = at.fits.nodes; entries = at.fits.entries; handles = at.fits.handles; blocks = at.fits.blocks; kept = at.fits.kept; pieces = at.fits.pieces; no_pieces = at.fits.no_pieces };
}

agreed_set : (v : Settings) (old : CountersRow) (s : Option Settings) (lot number : ℕ) (c : Content)
    → (set_counter 10 v.flags.0 (set_counter 9 v.max_readahead (set_counter 8 v.minor (set_counter 7 1
    (record c { counters = meta_rows_of old s lot number }))))).counters ≡ meta_rows_of old (Some v) lot number
agreed_set v old s lot number c = by old.room
  where
    by : (o : Option Room) → (set_counter 10 v.flags.0 (set_counter 9 v.max_readahead (set_counter 8 v.minor (set_counter 7 1
        (record c { counters = meta_rows_of (record old { room = o }) s lot number }))))).counters ≡ meta_rows_of (record old { room = o }) (Some v) lot number
    by None = refl
    by (Some r) = refl

pub settings_change : (v : Settings) → FitsSettings (Some v) → (s : Store) (file : List ℕ) (c : Content) → Describes s file c
    → Describes (with_change (changes.Settings v) s) file (set_counter 10 v.flags.0 (set_counter 9 v.max_readahead (set_counter 8 v.minor (set_counter 7 1 c))))
settings_change v fits s file c at = record {
  counters = ap (λ cs. (set_counter 10 v.flags.0 (set_counter 9 v.max_readahead
      (set_counter 8 v.minor (set_counter 7 1 (record c { counters = cs }))))).counters) at.counters
      ∙ agreed_set v s.rows.counters s.rows.settings s.next_lot at.number c;
  nodes = at.nodes;
  entries = at.entries;
  handles = at.handles;
  answers = at.answers;
  attributes = at.attributes;
  number = at.number;
  layout = at.layout;
  header = at.header;
  pieces = at.pieces;
  owned = at.owned;
  lots = at.lots;
  kept = at.kept;
  bytes = at.bytes;
  written = at.written;
  within = at.within;
  pieces_within = at.pieces_within;
  settings = fits;
  fits = record { nodes = at.fits.nodes; entries = at.fits.entries; handles = at.fits.handles; blocks = at.fits.blocks; kept = at.fits.kept; pieces = at.fits.pieces; no_pieces = at.fits.no_pieces };
}
