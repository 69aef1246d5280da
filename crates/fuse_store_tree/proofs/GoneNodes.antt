-- A node that goes, with its blocks.
use Rattle.std.proofs.Common.{◌≡◌, ◌<◌, ◌*◌, ◌==◌, inl, inr, ℕ, List, [], ◌∷◌, map, filter, find, not, nat_lt, length, min, Bool, true, false, cond, Some, None}
use Rattle.std.proofs.Common.{Ok, refl, sym, ap, subst, arith, ◌∙◌}
use Rattle.std.specs.Prelude.{◌&&◌, ◌-◌, option_map}
use Rattle.std.specs.List.{AllByRecursion, list_any}
use Rattle.std.specs.Ordering.{is_eq, nat_cmp}
use Rattle.std.proofs.lemmas.Bool.{cases_Bool}
use Rattle.std.proofs.lemmas.Bool.Decides.{nat_tests}
use Rattle.sqlite.specs.declared.error.Error.{Error}
use Rattle.sqlite.specs.State.{State}
use Rattle.fuse_rows.specs.Bounds.{block_bytes}
use Rattle.fuse_rows.specs.declared.rows.Full.{Full}
use Rattle.fuse_rows.specs.declared.rows.Change.TheVariants as changes
use Rattle.fuse_rows.specs.Rows.{content_of}
use Rattle.fuse_rows.specs.Blocks.{blocks_for}
use Rattle.fuse_rows.specs.declared.rows.NodeRow.{NodeRow}
use Rattle.fuse_store_tables.specs.Pieces.{Piece}
use Rattle.fuse_store_tables.specs.Content.{Content, node_key, without_by, without_node, has_by}
use Rattle.fuse_store_tables.specs.Moves.{Makes}
use Rattle.fuse_store_tables.specs.inner.Following.{earlier, inside_then, stays_then}
use Rattle.fuse_store_tree.specs.Fits.{KeepsNode}
use Rattle.fuse_store_tree.specs.Pieces.{byte_at, end_of, EndsWithin, is_written_in}
use Rattle.fuse_store_tree.specs.Store.{Store, DescribesAs, IsWrittenAs, is_among, blocks_counted, rows_bytes, rows_ends, rows_written, bodies_of, in_order}
use Rattle.fuse_store_tree.specs.inner.Reading.{Describes}
use Rattle.fuse_store_tree.specs.inner.Writing.{zeroed_from, cut_in, shortened, with_change, below_block}
use Rattle.fuse_store_tree.specs.inner.Changing.{ChangedIn, CutIn}
use Rattle.fuse_store_tree.proofs.Described.{same_test, filter_same}
use Rattle.fuse_store_tree.proofs.Orders.{all_filter, one_gone}
use Rattle.fuse_store_tree.proofs.Within.{within_more, pieces_more}

module _ (node : ℕ) where
  abbrev stays : Full → Bool
  stays f = not (f.row.node == node)

  rows_left : (fs : List Full) → filter (λ r. not (r.node == node)) (map (λ f. f.row) fs) ≡ map (λ f. f.row) (filter stays fs)
  rows_left [] = refl
  rows_left (f ∷ fs) = by (f.row.node == node) (rows_left fs)
    where
      by : (b : Bool) → filter (λ r. not (r.node == node)) (map (λ x. x.row) fs) ≡ map (λ x. x.row) (filter stays fs)
          → cond (not b) (f.row ∷ filter (λ r. not (r.node == node)) (map (λ x. x.row) fs)) (filter (λ r. not (r.node == node)) (map (λ x. x.row) fs))
          ≡ map (λ x. x.row) (cond (not b) (f ∷ filter stays fs) (filter stays fs))
      by true e = e
      by false e = ap (λ l. f.row ∷ l) e

  differs : (a n : ℕ) → (a == node) ≡ true → (n == node) ≡ false → (a == n) ≡ false
  differs a n is other = grind (arith, nat_tests)

  same_key : (a n : ℕ) → (n == node) ≡ true → (a == n) ≡ (a == node)
  same_key a n is = grind (arith, nat_tests)

  none_before : (i : ℕ) → nat_lt i 0 ≡ false
  none_before i = grind (arith, nat_tests)

  -- the node is found no more
  none_left : (n : ℕ) → (n == node) ≡ true → (fs : List Full) → find (λ f. f.row.node == n) (filter stays fs) ≡ None
  none_left n here [] = refl
  none_left n here (f ∷ fs) = elim (cases_Bool (f.row.node == node)) [
    | inl gone ↦ rw gone (none_left n here fs)
    | inr left ↦ rw left (rw (same_key f.row.node n here ∙ left) (none_left n here fs))
  ]

  -- the others are found still
  others_left : (n : ℕ) → (n == node) ≡ false → (fs : List Full) → find (λ f. f.row.node == n) (filter stays fs) ≡ find (λ f. f.row.node == n) fs
  others_left n other [] = refl
  others_left n other (f ∷ fs) = elim (cases_Bool (f.row.node == node)) [
    | inl gone ↦ rw (gone, differs f.row.node n gone other) (others_left n other fs)
    | inr left ↦ rw left (ap (λ o. cond (f.row.node == n) (Some f) o) (others_left n other fs))
  ]

  -- another number is there still
  kept_others : (n : ℕ) → (n == node) ≡ false → (ns : List NodeRow) → list_any (has_by node_key n) ns ≡ true
      → list_any (has_by node_key n) (without_by node_key node ns) ≡ true
  kept_others n other [] there = absurd cc
  kept_others n other (r ∷ ns) there = elim (cases_Bool (has_by node_key node r)) [
    | inl gone ↦ rw gone (kept_others n other ns (rw (apart r.node gone) at there))
    | inr stays ↦ rw stays (elim (cases_Bool (has_by node_key n r)) [
      | inl here ↦ rw here refl
      | inr off ↦ rw off (kept_others n other ns (rw off at there))
    ])
  ]
    where
      apart : (a : ℕ) → is_eq (nat_cmp a node) ≡ true → is_eq (nat_cmp a n) ≡ false
      apart a is = grind (arith, nat_tests)

  module _ (x : Store) where
    abbrev after : Store
    after = with_change (changes.NodeGone node) x

    gone_byte : (n i : ℕ) → zeroed_from node 0 (rows_bytes x.rows) n i ≡ rows_bytes after.rows n i
    gone_byte n i = elim (cases_Bool (n == node)) [
      | inl here ↦ rw (here, none_before i) (sym (ap (λ o. byte_at (content_of o) i) (none_left n here x.rows.nodes)))
      | inr other ↦ rw other (sym (ap (λ o. byte_at (content_of o) i) (others_left n other x.rows.nodes)))
    ]

    gone_end : (n k : ℕ) → k < shortened node 0 (rows_ends x.rows) n → k < rows_ends after.rows n
    gone_end n k low = elim (cases_Bool (n == node)) [
      | inl here ↦ absurd (let short : k < min (rows_ends x.rows n) 0 = rw here at low in omega (arith, short))
      | inr other ↦ subst (λ o. k < length (content_of o)) (sym (others_left n other x.rows.nodes)) (rw other at low)
    ]

    -- the tables without its blocks and its row
    gone_blocks : (b : Bool) (n k : ℕ) → IsWrittenAs b (below_block node (blocks_for 0) (rows_written x.rows) n) k → IsWrittenAs b (rows_written after.rows n) k
    gone_blocks b n k told = elim (cases_Bool (n == node)) [
      | inl here ↦ subst (λ o. IsWrittenAs b (option_map is_among (blocks_counted o)) k) (sym (none_left n here x.rows.nodes)) tt
      | inr other ↦
          subst (λ o. IsWrittenAs b (option_map is_among (blocks_counted o)) k) (sym (others_left n other x.rows.nodes))
          (subst (λ t. IsWrittenAs b (cond t (option_map (λ p block. nat_lt block (blocks_for 0) && p block) (rows_written x.rows n)) (rows_written x.rows n)) k)
          other told)
    ]

    -- the pieces that are left are of other nodes
    all_owned : (ns : List NodeRow) (ps : List Piece) → AllByRecursion (EndsWithin (shortened node 0 (rows_ends x.rows))) ps
        → AllByRecursion (λ p. list_any (has_by node_key p.node) ns ≡ true) ps
        → AllByRecursion (λ p. list_any (has_by node_key p.node) (without_by node_key node ns) ≡ true) ps
    all_owned ns [] within owned = tt
    all_owned ns (p ∷ ps) within owned = (one (p.node == node) refl within.0, all_owned ns ps within.1 owned.1)
      where
        one : (t : Bool) → (p.node == node) ≡ t → (end_of p - 1) * block_bytes < cond t (min (rows_ends x.rows p.node) 0) (rows_ends x.rows p.node)
            → list_any (has_by node_key p.node) (without_by node_key node ns) ≡ true
        one true is low = absurd (omega (arith, low))
        one false is low = kept_others p.node is ns owned.0

    pub gone_told : (file : List ℕ) (c : Content) → DescribesAs x (cut_in node 0 (bodies_of x.rows)) file c → Describes after file (without_node node c)
    gone_told file c told = record {
      counters = told.counters;
      nodes = ap (without_by node_key node) told.nodes ∙ one_gone node_key node (map (λ f. f.row) x.rows.nodes)
          ∙ ap (in_order node_key) (filter_same _ _ (λ r. ap not (same_test r.node node)) (map (λ f. f.row) x.rows.nodes) ∙ rows_left x.rows.nodes);
      entries = told.entries;
      handles = told.handles;
      answers = told.answers;
      attributes = told.attributes;
      number = told.number;
      layout = told.layout;
      header = told.header;
      pieces = told.pieces;
      owned = all_owned c.nodes c.pieces told.pieces_within told.owned;
      lots = told.lots;
      kept = told.kept;
      bytes = λ n i. told.bytes n i ∙ gone_byte n i;
      written = λ n k. gone_blocks (is_written_in file c n k) n k (told.written n k);
      pieces_within = pieces_more (shortened node 0 (rows_ends x.rows)) (rows_ends after.rows) (λ n k low. gone_end n (k * block_bytes) low) c.pieces
          told.pieces_within;
      within = within_more (shortened node 0 (rows_ends x.rows)) (rows_ends after.rows) (λ n k low. gone_end n (k * block_bytes) low) c.blocks told.within;
      settings = told.settings;
      fits = record {
        nodes = all_filter node_key (KeepsNode c.layout) _ c.nodes told.fits.nodes;
        entries = told.fits.entries;
        handles = told.fits.handles;
        blocks = told.fits.blocks;
        kept = told.fits.kept;
        pieces = told.fits.pieces;
        no_pieces = told.fits.no_pieces;
      };
    }

pub node_goes : {X : Type 0} (file : List ℕ) (a b d : State) (x : X) (node : ℕ) → CutIn file node 0 a b → Makes {X = X} {E = Error} (without_node node) b d (Ok x)
    → ChangedIn file (with_change (changes.NodeGone node)) a d
node_goes file a b d x node p q = record {
  stays = stays_then a b d p.stays p.within q.stays;
  within = inside_then a b d p.within q.stays.survives q.within;
  turns = λ clean s at.
      let mid = p.turns (earlier b d _ q.stays.survives clean) (s, bodies_of s.rows) at in
      let now = q.turns clean mid.holds.0 (record { is_open = mid.is_open; in_transaction = mid.in_transaction; holds = mid.holds.1 }) in
      record { is_open = now.is_open; in_transaction = now.in_transaction; holds = (without_node node mid.holds.0, now.holds, gone_told node s file mid.holds.0 mid.holds.2) };
}
