-- The bytes of a node after a place, cut off.
use Rattle.std.proofs.Common.{◌≡◌, ◌≤◌, ◌<◌, ◌+◌, ◌-◌, ◌*◌, ◌/◌, ◌%◌, ◌==◌, ◌&&◌, inl, inr, ℕ, List, [], ◌∷◌, filter, find, length, replicate, not, nat_lt, min}
use Rattle.std.proofs.Common.{Bool, true, false, cond, None, Ok, refl, sym, ap, subst, arith, ◌∙◌}
use Rattle.std.specs.Prelude.{Option, Some, option_map, unwrap_or}
use Rattle.std.specs.Option.{is_some}
use Rattle.std.proofs.lemmas.List.Elements.{All-from_recursion}
use Rattle.std.specs.List.{AllByRecursion, list_any}
use Rattle.std.specs.Ordering.{is_eq, is_ge, nat_cmp}
use Rattle.std.proofs.lemmas.Bool.{cases_Bool}
use Rattle.std.proofs.lemmas.Bool.Decides.{nat_tests}
use Rattle.std.proofs.lemmas.List.{length-replicate}
use Rattle.sqlite.specs.declared.error.Error.{Error}
use Rattle.sqlite.specs.State.{State}
use Rattle.fuse_rows.specs.Bounds.{block_bytes}
use Rattle.fuse_rows.specs.Blocks.{below_size, blocks_for}
use Rattle.fuse_rows.specs.Rows.{sized, body_sized, full_at, content_of}
use Rattle.fuse_rows.specs.declared.rows.Change.TheVariants as changes
use Rattle.fuse_store_tables.specs.Blocks.{Block, block_at, is_at, is_from}
use Rattle.fuse_store_tables.specs.Pieces.{Piece}
use Rattle.fuse_store_tables.specs.Content.{Content, without_blocks_from, node_key, has_by}
use Rattle.fuse_store_tables.specs.Moves.{Inside, Makes, Stays, TurnsTo}
use Rattle.fuse_store_tables.specs.inner.Following.{earlier, inside_then, stays_then}
use Rattle.fuse_store_tree.specs.Fits.{IsWhole}
use Rattle.fuse_store_tree.specs.Pieces.{File, ReadsFile, byte_at, byte_in, end_of, EndsWithin, piece_at, block_found, stored_block, is_written_in}
use Rattle.fuse_store_tree.specs.Store.{Store, Bodies, HeldAs, DescribesAs, IsWrittenAs, is_among, blocks_counted, rows_bytes, rows_ends, rows_written, bodies_of, AreWithin, ArePiecesWithin, in_order}
use Rattle.fuse_store_tree.specs.inner.Reading.{Describes}
use Rattle.fuse_store_tree.specs.declared.piece_cuts.Gone.{Gone}
use Rattle.fuse_store_tree.specs.inner.Relisting.{is_from_on, IsAny, Relists, TakenOut, TakenOff, IsPartOfOne}
use Rattle.fuse_store_tree.specs.inner.Writing.{zeroed_from, overlay, cut_in, zeros_in, shortened, with_change, below_block}
use Rattle.fuse_store_tree.specs.inner.Changing.{Changed, Cut, CutIn, Zeroed}
use Rattle.fuse_store_tree.proofs.Orders.{all_filter}
use Rattle.fuse_store_tree.proofs.Within.{within_more, pieces_more, within_left, left_short, shorter}
use Rattle.fuse_store_tree.proofs.BlockBytes.{lower, upper, others_left}
use Rattle.fuse_store_tree.proofs.Overlays.{byte_sized, sized_length, zero_at, beyond, low_test, high_test}
use Rattle.fuse_store_tree.proofs.Writes.{describes_same, rows_same, content_other, content_here, counted_other, counted_here, none_changed, none_there, among_left}
use Rattle.fuse_store_tree.proofs.RowChanges.{same_number}
use Rattle.fuse_store_tree.proofs.Turning.{clean_file}

-- ---- blocks taken out

none_from : (p q : Block → Bool) → ((b : Block) → p b ≡ true → q b ≡ true) → (xs : List Block) → find p (filter (λ x. not (q x)) xs) ≡ None
none_from p q under [] = refl
none_from p q under (x ∷ xs) = elim (cases_Bool (p x)) [
  | inl here ↦ rw (under x here) (none_from p q under xs)
  | inr not_here ↦ by (q x) (none_from p q under xs) not_here
]
  where
    by : (b : Bool) → find p (filter (λ y. not (q y)) xs) ≡ None → p x ≡ false
        → find p (cond (not b) (x ∷ filter (λ y. not (q y)) xs) (filter (λ y. not (q y)) xs)) ≡ None
    by true e miss = e
    by false e miss = rw miss e

inside : (node k n j a x : ℕ) → ((n == node) && not (nat_lt j k)) ≡ true → (is_eq (nat_cmp a n) && is_eq (nat_cmp x j)) ≡ true
    → (is_eq (nat_cmp a node) && is_ge (nat_cmp x k)) ≡ true
inside node k n j a x here is = grind (arith, nat_tests)

outside : (node k n j a x : ℕ) → ((n == node) && not (nat_lt j k)) ≡ false → (is_eq (nat_cmp a n) && is_eq (nat_cmp x j)) ≡ true
    → (is_eq (nat_cmp a node) && is_ge (nat_cmp x k)) ≡ false
outside node k n j a x apart is = grind (arith, nat_tests)

-- over these pieces
module _ (file : List ℕ) (piece : Option Piece) where
  cut_block : (node k : ℕ) (bs : List Block) (n j : ℕ)
      → block_found file j (block_at n j (filter (λ b. not (is_from node k b)) bs)) piece
      ≡ cond ((n == node) && not (nat_lt j k)) (block_found file j None piece) (block_found file j (block_at n j bs) piece)
  cut_block node k bs n j = elim (cases_Bool ((n == node) && not (nat_lt j k))) [
    | inl here ↦
        rw here (ap (λ o. block_found file j o piece) (none_from (is_at n j) (is_from node k) (λ b is. inside node k n j b.node b.block here is) bs))
    | inr apart ↦
        rw apart (ap (λ o. block_found file j o piece) (others_left (is_at n j) (is_from node k) (λ b is. outside node k n j b.node b.block apart is) bs))
  ]

-- a row counts over a piece
under_row : (file : List ℕ) (j : ℕ) (b : Option Block) (p q : Option Piece) → block_found file j None p ≡ block_found file j None q
    → block_found file j b p ≡ block_found file j b q
under_row file j (Some b) p q same = refl
under_row file j None p q same = same

-- the pieces, and then the rows
stored_cut : (file : List ℕ) (node k : ℕ) (c mid : Content) → TakenOut file (is_from_on node k) c mid → (n j : ℕ)
    → stored_block file (without_blocks_from node k mid) n j ≡ cond (is_from_on node k n j) None (stored_block file c n j)
stored_cut file node k c mid out n j =
    cut_block file (piece_at n j mid.pieces) node k mid.blocks n j ∙ elim (cases_Bool (is_from_on node k n j)) [
      | inl here ↦ rw here (rw here at (out.blocks n j))
      | inr apart ↦
          rw apart (ap (λ bs. block_found file j (block_at n j bs) (piece_at n j mid.pieces)) (ap (λ (z : Content). z.blocks) out.others)
          ∙ under_row file j (block_at n j c.blocks) (piece_at n j mid.pieces) (piece_at n j c.pieces) (rw apart at (out.blocks n j)))
    ]

same_half : (i k : ℕ) → nat_lt (i / block_bytes) k ≡ nat_lt i (k * block_bytes)
same_half i k = elim (cases_Bool (nat_lt i (k * block_bytes))) [
  | inl before ↦ let low = lower i (k * block_bytes) before in low_test (i / block_bytes) k (omega (arith, low)) ∙ sym before
  | inr behind ↦ let high = upper i (k * block_bytes) behind in high_test (i / block_bytes) k (omega (arith, high)) ∙ sym behind
]

byte_if : (b : Bool) (o : Option (List ℕ)) (i : ℕ) → byte_at (unwrap_or (cond b None o) []) i ≡ cond b 0 (byte_at (unwrap_or o []) i)
byte_if true o i = refl
byte_if false o i = refl

cut_bytes : (file : List ℕ) (node k : ℕ) (c mid : Content) → TakenOut file (is_from_on node k) c mid → (n i : ℕ)
    → byte_in file (without_blocks_from node k mid) n i ≡ zeroed_from node (k * block_bytes) (byte_in file c) n i
cut_bytes file node k c mid out n i =
    ap (λ o. byte_at (unwrap_or o []) (i % block_bytes)) (stored_cut file node k c mid out n (i / block_bytes))
    ∙ byte_if (is_from_on node k n (i / block_bytes)) (stored_block file c n (i / block_bytes)) (i % block_bytes)
    ∙ ap (λ b. cond ((n == node) && not b) 0 (byte_in file c n i)) (same_half i k)

-- the blocks that are left are written still
cut_written : (file : List ℕ) (node k : ℕ) (c mid : Content) (written : ℕ → Option (ℕ → Bool)) → TakenOut file (is_from_on node k) c mid → (n j : ℕ)
    → IsWrittenAs (is_written_in file c n j) (written n) j
    → IsWrittenAs (is_written_in file (without_blocks_from node k mid) n j) (below_block node (blocks_for (k * block_bytes)) written n) j
cut_written file node k c mid written out n j was =
    subst (λ b. IsWrittenAs b (below_block node (blocks_for (k * block_bytes)) written n) j)
    (sym (ap is_some (stored_cut file node k c mid out n j) ∙ none_if (is_from_on node k n j) (stored_block file c n j)))
    (subst (λ end. IsWrittenAs (not (is_from_on node k n j) && is_written_in file c n j) (below_block node end written n) j) blocks
    (by (n == node) (written n) was))
  where
    blocks : k ≡ blocks_for (k * block_bytes)
    blocks = omega arith

    none_if : (b : Bool) (o : Option (List ℕ)) → is_some (cond b None o) ≡ (not b && is_some o)
    none_if true o = refl
    none_if false o = refl

    twice : (t : Bool) → not (not t) ≡ t
    twice true = refl
    twice false = refl

    by : (t : Bool) (o : Option (ℕ → Bool)) → IsWrittenAs (is_written_in file c n j) o j
        → IsWrittenAs (not (t && not (nat_lt j k)) && is_written_in file c n j) (cond t (option_map (λ p block. nat_lt block k && p block) o) o) j
    by true None was = tt
    by false None was = tt
    by true (Some p) was = ap (λ b. b && is_written_in file c n j) (twice (nat_lt j k)) ∙ ap (λ b. nat_lt j k && b) was
    by false (Some p) was = was

-- what holds of each piece holds of each part, as far as its node and its end are concerned
pub parts_hold : (P : ℕ → ℕ → Type 0) (ps qs : List Piece) → ((n a b : ℕ) → a ≤ b → P n b → P n a) → AllByRecursion (λ p. P p.node (end_of p)) ps
    → AllByRecursion (IsPartOfOne ps) qs → AllByRecursion (λ q. P q.node (end_of q)) qs
parts_hold P ps [] lower all parts = tt
parts_hold P ps (q ∷ qs) lower all parts =
    let one = parts.0 in
    let whole = All-from_recursion (λ (p : Piece). P p.node (end_of p)) ps all in
    let found = subst (λ (p : Piece). P p.node (end_of p)) one.there.2 (whole one.there.0 one.of one.there.1) in
    (subst (λ n. P n (end_of q)) (sym one.node) (lower one.of.node (end_of q) (end_of one.of) one.ends found), parts_hold P ps qs lower all parts.1)

-- the pieces that are left end before the cut
pieces_short : (node k : ℕ) (e : ℕ → ℕ) (qs : List Piece) → AllByRecursion (λ q. is_from_on node k q.node (end_of q - 1) ≡ false) qs
    → AllByRecursion (EndsWithin e) qs → AllByRecursion (EndsWithin (shortened node (k * block_bytes) e)) qs
pieces_short node k e [] lasts all = tt
pieces_short node k e (q ∷ qs) lasts all = (one (q.node == node) lasts.0 all.0, pieces_short node k e qs lasts.1 all.1)
  where
    below : (x : ℕ) → (true && not (nat_lt x k)) ≡ false → x < k
    below x is = grind (arith, nat_tests)

    one : (t : Bool) → (t && not (nat_lt (end_of q - 1) k)) ≡ false → (end_of q - 1) * block_bytes < e q.node
        → (end_of q - 1) * block_bytes < cond t (min (e q.node) (k * block_bytes)) (e q.node)
    one true last low = let less = below (end_of q - 1) last in omega (arith, low, less)
    one false last low = low

same_cut : (node at : ℕ) (g h : ℕ → ℕ → ℕ) → ((n i : ℕ) → g n i ≡ h n i) → (n i : ℕ) → zeroed_from node at g n i ≡ zeroed_from node at h n i
same_cut node at g h same n i = ap (λ b. cond ((n == node) && not (nat_lt i at)) 0 b) (same n i)

-- the tables once the pieces and the rows from a block on are out
described_cut : (x : Store) (g : Bodies) (file : List ℕ) (node k : ℕ) (c mid : Content) → DescribesAs x g file c → TakenOut file (is_from_on node k) c mid
    → DescribesAs x (cut_in node (k * block_bytes) g) file (without_blocks_from node k mid)
described_cut x g file node k c mid was out =
    let others = out.others in
    let whole = pieces_within_parts in
    record {
      number = was.number;
      layout = ap (λ (z : Content). z.layout) others ∙ was.layout;
      counters = ap (λ (z : Content). z.counters) others ∙ was.counters;
      nodes = ap (λ (z : Content). z.nodes) others ∙ was.nodes;
      entries = ap (λ (z : Content). z.entries) others ∙ was.entries;
      handles = ap (λ (z : Content). z.handles) others ∙ was.handles;
      answers = ap (λ (z : Content). z.answers) others ∙ was.answers;
      lots = ap (λ (z : Content). z.lots) others ∙ was.lots;
      kept = ap (λ (z : Content). z.kept) others ∙ was.kept;
      attributes = ap (λ (z : Content). z.attributes) others ∙ was.attributes;
      bytes = λ n i. cut_bytes file node k c mid out n i ∙ same_cut node (k * block_bytes) (byte_in file c) g.byte was.bytes n i;
      written = λ n j. cut_written file node k c mid g.written out n j (was.written n j);
      within = within_left (λ b. not (is_from node k b)) g.ends (shortened node (k * block_bytes) g.ends)
          (λ b stays low. left_short node k g.ends b stays low) mid.blocks
          (subst (AreWithin g.ends) (sym (ap (λ (z : Content). z.blocks) others)) was.within);
      pieces_within = pieces_short node k g.ends mid.pieces out.lasts whole;
      pieces = out.sound.1;
      owned = parts_hold (λ n end. list_any (has_by node_key n) mid.nodes ≡ true) c.pieces mid.pieces (λ n a b low there. there)
          (subst (λ ns. AllByRecursion (λ p. list_any (has_by node_key p.node) ns ≡ true) c.pieces) (sym (ap (λ (z : Content). z.nodes) others)) was.owned) out.parts;
      header = was.header;
      settings = was.settings;
      fits = record {
        nodes = out.sound.0.nodes;
        entries = out.sound.0.entries;
        handles = out.sound.0.handles;
        blocks = all_filter (λ b. b.slot) IsWhole _ mid.blocks out.sound.0.blocks;
        kept = out.sound.0.kept;
        pieces = out.sound.0.pieces;
        no_pieces = out.sound.0.no_pieces;
      };
    }
  where
    pieces_within_parts : ArePiecesWithin g.ends mid.pieces
    pieces_within_parts = parts_hold (λ n end. (end - 1) * block_bytes < g.ends n) c.pieces mid.pieces (λ n a b low high. omega (arith, low, high)) was.pieces_within out.parts

pub blocks_cut : {X : Type 0} (f : File) (was is : Gone) (a b d : State) (x : X) (node k : ℕ) → Relists f.is_clean f.bytes IsAny (TakenOff f.bytes (is_from_on node k) was is) a b
    → Makes {X = X} {E = Error} (without_blocks_from node k) b d (Ok x) → Cut f node (k * block_bytes) a d
blocks_cut f was is a b d x node k p q = record {
  stays = stays_then a b d p.stays p.within q.stays;
  within = inside_then a b d p.within q.stays.survives q.within;
  turns = λ read clean w at.
      let c = at.holds.0 in
      let told = at.holds.2 in
      let here : Inside c a = record { is_open = at.is_open; in_transaction = at.in_transaction; holds = at.holds.1 } in
      let mid = p.turns read (earlier b d _ q.stays.survives clean) c (told.fits, told.pieces) tt here in
      let now = q.turns clean mid.0 mid.1 in
      record {
        is_open = now.is_open;
        in_transaction = now.in_transaction;
        holds = (without_blocks_from node k mid.0, now.holds, described_cut w.0 w.1 f.bytes node k c mid.0 told mid.2.out);
      };
}

pub cut_known : (file : List ℕ) (node at : ℕ) (a b : State) → Cut (clean_file file) node at a b → CutIn file node at a b
cut_known file node at a b p = record { stays = p.stays; within = p.within; turns = p.turns refl }

pub cut_keeps : (f : File) (node at : ℕ) (a b d : State) → Cut f node at a b → Stays b d → Stays a d
cut_keeps f node at a b d p q = stays_then a b d p.stays p.within q

-- what was read first is read still
pub cut_later : (v w : File) (node at : ℕ) (a b : State) → ReadsFile v w → Cut v node at a b → Cut w node at a b
cut_later v w node at a b on q = record {
  stays = q.stays;
  within = q.within;
  turns = λ read. subst (λ bytes. TurnsTo (HeldAs bytes) (λ z. HeldAs bytes (z.0, cut_in node at z.1)) a b) (sym on.same) (q.turns (on.clean read));
}

-- ---- the rest of a block set to 0

zeroed : (node size end : ℕ) (g : ℕ → ℕ → ℕ) (n i : ℕ) → size ≤ end
    → overlay node size (replicate (end - size) 0) (zeroed_from node end g) n i ≡ zeroed_from node size g n i
zeroed node size end g n i high = elim (cases_Bool (n == node)) [
  | inr other ↦ rw other refl
  | inl here ↦ rw here (elim (cases_Bool (nat_lt i size)) [
    | inl before ↦
        let low = lower i size before in
        rw (before, low_test i end (omega (arith, low, high))) refl
    | inr behind ↦
        let from = upper i size behind in
        rw behind (elim (cases_Bool (nat_lt i end)) [
          | inl first ↦
              let low = lower i end first in
              rw (low_test i (size + length (replicate {A = ℕ} (end - size) 0)) (omega (arith, low, high, length-replicate {A = ℕ} (end - size) 0)))
              (zero_at (end - size) (i - size))
          | inr past ↦
              let far = upper i end past in
              rw (past, high_test i (size + length (replicate {A = ℕ} (end - size) 0)) (omega (arith, far, high, length-replicate {A = ℕ} (end - size) 0)))
              refl
        ])
  ])
]

pub cut_then : (f : File) (node size end : ℕ) (zeros : List ℕ) (a b d : State) → Cut f node end a b → zeros ≡ replicate (end - size) 0 → size ≤ end
    → ((k : ℕ) → k * block_bytes < end → k * block_bytes < size) → blocks_for end ≡ blocks_for size → Zeroed f node size zeros b d → Cut f node size a d
cut_then f node size end zeros a b d p are high none blocks q =
    let second : Zeroed f node size (replicate (end - size) 0) b d = subst (λ z. Zeroed f node size z b d) are q in
    record {
      stays = cut_keeps f node end a b d p second.stays;
      within = inside_then a b d p.within second.stays.survives second.within;
      turns = λ read clean w now.
          let mid = p.turns read (earlier b d _ second.stays.survives clean) w now in
          let last = second.turns read clean (w.0, cut_in node end w.1) mid in
          let same = λ (n i : ℕ). zeroed node size end w.1.byte n i high in
          record {
            is_open = last.is_open;
            in_transaction = last.in_transaction;
            holds = (
              last.holds.0,
              last.holds.1,
              describes_same w.0 (zeros_in node size (replicate (end - size) 0) (cut_in node end w.1)) (cut_in node size w.1) f.bytes last.holds.0 same
                  (λ n k low. shorter node end size w.1.ends n k (none k) low)
                  (λ n k so. subst (λ z. IsWrittenAs (is_written_in f.bytes last.holds.0 n k) (below_block node z w.1.written n) k) blocks so) last.holds.2,
            );
          };
    }

-- ---- the content that is cut, or filled up with zeros

byte_cut : (size : ℕ) (xs : List ℕ) (i : ℕ) → byte_at (sized size xs) i ≡ cond (not (nat_lt i size)) 0 (byte_at xs i)
byte_cut size xs i = elim (cases_Bool (nat_lt i size)) [
  | inl before ↦ rw before (byte_sized size xs i (lower i size before))
  | inr behind ↦ let far = upper i size behind in rw behind (beyond (sized size xs) i (omega (arith, far, sized_length size xs)))
]

either_zero : (b : Bool) → ◌≡◌ {A = ℕ} (cond b 0 0) 0
either_zero true = refl
either_zero false = refl

sized_byte : (x : Store) (node size : ℕ) (file : List ℕ) (c : Content) → DescribesAs x (cut_in node size (bodies_of x.rows)) file c → (n i : ℕ)
    → byte_in file c n i ≡ rows_bytes (with_change (changes.Sized node size) x).rows n i
sized_byte x node size file c told n i = elim (cases_Bool (n == node)) [
  | inr other ↦ told.bytes n i ∙ (rw other (ap (λ l. byte_at l i) (sym (content_other node (body_sized size) n x.rows.nodes other))))
  | inl here ↦
      let m = same_number n node here in
      let after = rows_bytes (with_change (changes.Sized node size) x).rows in
      let was = content_of (full_at x.rows node) in
      let so : byte_in file c n i ≡ cond (not (nat_lt i size)) 0 (byte_at was i) =
      told.bytes n i ∙ (rw here (ap (λ z. cond (not (nat_lt i size)) 0 (byte_at (content_of (full_at x.rows z)) i)) m)) in
      so ∙ elim (cases_Bool (list_any (λ f. f.row.node == node) x.rows.nodes)) [
        | inl there ↦
            sym (byte_cut size was i) ∙ ap (λ l. byte_at l i) (sym (content_here node (body_sized size) (sized size) (λ b. refl) x.rows.nodes there)) ∙ ap (λ z. after z i) (sym m)
        | inr none ↦
            ap (λ o. cond (not (nat_lt i size)) 0 (byte_at (content_of o) i)) (none_there node x.rows.nodes none) ∙ either_zero (not (nat_lt i size))
            ∙ sym (ap (λ o. byte_at (content_of o) i) (none_changed node (body_sized size) x.rows.nodes none)) ∙ ap (λ z. after z i) (sym m)
      ]
]

sized_ends : (x : Store) (node size : ℕ) (n k : ℕ) → k < shortened node size (rows_ends x.rows) n → k < rows_ends (with_change (changes.Sized node size) x).rows n
sized_ends x node size = each
  where
    after : ℕ → ℕ
    after = rows_ends (with_change (changes.Sized node size) x).rows

    here : (k : ℕ) → k < rows_ends x.rows node → k < size → k < after node
    here k less low = elim (cases_Bool (list_any (λ f. f.row.node == node) x.rows.nodes)) [
      | inl there ↦
          let long = ap length (content_here node (body_sized size) (sized size) (λ b. refl) x.rows.nodes there) ∙ sized_length size (content_of (full_at x.rows node)) in
          omega (arith, long, low)
      | inr none ↦ absurd (let e = ap (λ o. length (content_of o)) (none_there node x.rows.nodes none) in omega (arith, e, less))
    ]

    each : (n k : ℕ) → k < shortened node size (rows_ends x.rows) n → k < after n
    each n k low = elim (cases_Bool (n == node)) [
      | inl its ↦
          let m = same_number n node its in
          let short : k < min (rows_ends x.rows n) size = rw its at low in
          subst (λ z. k < after z) (sym m) (here k (subst (λ z. k < rows_ends x.rows z) m (omega (arith, short))) (omega (arith, short)))
      | inr other ↦ subst (λ l. k < length l) (sym (content_other node (body_sized size) n x.rows.nodes other)) (rw other at low)
    ]

sized_blocks : (x : Store) (node size : ℕ) (b : Bool) (n k : ℕ) → IsWrittenAs b (below_block node (blocks_for size) (rows_written x.rows) n) k
    → IsWrittenAs b (rows_written (with_change (changes.Sized node size) x).rows n) k
sized_blocks x node size b n k told = elim (cases_Bool (n == node)) [
  | inr other ↦
      subst (λ o. IsWrittenAs b (option_map is_among o) k) (sym (counted_other node (body_sized size) n x.rows.nodes other))
      (subst (λ t. IsWrittenAs b (cond t (option_map (λ p block. nat_lt block (blocks_for size) && p block) (rows_written x.rows n)) (rows_written x.rows n)) k)
      other told)
  | inl here ↦
      let m = same_number n node here in
      let after = rows_written (with_change (changes.Sized node size) x).rows in
      elim (cases_Bool (list_any (λ f. f.row.node == node) x.rows.nodes)) [
        | inl there ↦
            let was = subst (λ t. IsWrittenAs b (cond t (option_map (λ p block. nat_lt block (blocks_for size) && p block) (rows_written x.rows n))
            (rows_written x.rows n)) k) here told in
            subst (λ z. IsWrittenAs b (after z) k) (sym m)
            (subst (λ o. IsWrittenAs b (option_map is_among o) k)
            (sym (counted_here node (body_sized size) (option_map (below_size size)) (λ y. refl) x.rows.nodes there))
            (left (blocks_counted (full_at x.rows node))
            (subst (λ z. IsWrittenAs b (option_map (λ p block. nat_lt block (blocks_for size) && p block) (rows_written x.rows z)) k) m was)))
        | inr none ↦
            subst (λ z. IsWrittenAs b (after z) k) (sym m)
            (subst (λ o. IsWrittenAs b (option_map is_among (blocks_counted o)) k) (sym (none_changed node (body_sized size) x.rows.nodes none)) tt)
      ]
]
  where
    left : (o : Option (List ℕ)) → IsWrittenAs b (option_map (λ p block. nat_lt block (blocks_for size) && p block) (option_map is_among o)) k
        → IsWrittenAs b (option_map is_among (option_map (below_size size) o)) k
    left None was = tt
    left (Some blocks) was = was ∙ sym (among_left (λ z. nat_lt z (blocks_for size)) blocks k)

sized_told : (x : Store) (node size : ℕ) (file : List ℕ) (c : Content) → DescribesAs x (cut_in node size (bodies_of x.rows)) file c
    → Describes (with_change (changes.Sized node size) x) file c
sized_told x node size file c told = record {
  counters = told.counters;
  nodes = told.nodes ∙ ap (in_order node_key) (sym (rows_same node (body_sized size) x.rows.nodes));
  entries = told.entries;
  handles = told.handles;
  answers = told.answers;
  attributes = told.attributes;
  number = told.number;
  layout = told.layout;
  header = told.header;
  pieces = told.pieces;
  owned = told.owned;
  lots = told.lots;
  kept = told.kept;
  bytes = sized_byte x node size file c told;
  written = λ n k. sized_blocks x node size (is_written_in file c n k) n k (told.written n k);
  within = within_more (shortened node size (rows_ends x.rows)) (rows_ends (with_change (changes.Sized node size) x).rows)
      (λ n k low. sized_ends x node size n (k * block_bytes) low) c.blocks told.within;
  pieces_within = pieces_more (shortened node size (rows_ends x.rows)) (rows_ends (with_change (changes.Sized node size) x).rows)
      (λ n k low. sized_ends x node size n (k * block_bytes) low) c.pieces told.pieces_within;
  settings = told.settings;
  fits = told.fits;
}

pub sized_changed : (f : File) (node size : ℕ) (a d : State) → Cut f node size a d → Changed f (with_change (changes.Sized node size)) a d
sized_changed f node size a d p = record {
  stays = p.stays;
  within = p.within;
  turns = λ read clean s now.
      let w = p.turns read clean (s, bodies_of s.rows) now in
      record {
        is_open = w.is_open;
        in_transaction = w.in_transaction;
        holds = (w.holds.0, w.holds.1, sized_told s node size f.bytes w.holds.0 w.holds.2);
      };
}
