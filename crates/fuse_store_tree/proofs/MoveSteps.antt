-- Rows of `blocks` that become pieces: what is stored stays.
use Rattle.std.proofs.Common.{◌≡◌, ◌≤◌, ◌<◌, ◌+◌, ◌-◌, ◌*◌, ◌/◌, ◌%◌, ◌==◌, ◌&&◌, inl, inr, ℕ, zero, suc, List, [], ◌∷◌, take, drop, filter, length, nat_lt}
use Rattle.std.proofs.Common.{Bool, true, false, cond, Option, Some, None, Ok, Err, Result, OnOk, OnErr, IfErr, refl, sym, ap, subst, arith, ◌∙◌}
use Rattle.std.specs.Prelude.{nat_le, unwrap_or, IfSome, IsTrue}
use Rattle.std.specs.Option.{is_some}
use Rattle.std.specs.List.{All, AllByRecursion, list_any}
use Rattle.std.proofs.lemmas.Bool.{cases_Bool}
use Rattle.std.proofs.lemmas.Bool.Decides.{nat_tests}
use Rattle.sqlite.specs.State.{State, HasCleanDisk}
use Rattle.fuse_rows.specs.Bounds.{block_bytes}
use Rattle.fuse_data.specs.Extents.{IsWhole, bytes_of}
use Rattle.fuse_data.specs.Leaving.{KeepsInUse}
use Rattle.fuse_keeper.specs.declared.fault.StoreFault.{StoreFault}
use Rattle.fuse_store_tables.specs.Faults.{IsOutside}
use Rattle.fuse_store_tables.specs.Content.{Content, node_key, has_by}
use Rattle.fuse_store_tables.specs.Moves.{Inside, LookedInside, Stays}
use Rattle.fuse_store_tables.specs.Pieces.{Piece}
use Rattle.fuse_store_tables.specs.declared.pieces.PieceRow.{PieceRow}
use Rattle.fuse_store_tables.specs.inner.Following.{earlier, inside_then, stays_then}
use Rattle.fuse_store_tree.specs.declared.meta.Meta.{Meta}
use Rattle.fuse_store_tree.specs.Fits.{Fits}
use Rattle.fuse_store_tree.specs.Holding.{Holding, store_of}
use Rattle.fuse_store_tree.specs.Pieces.{File, ReadsFile, Moved, is_zeros, end_of, byte_at, byte_in, piece_bytes, block_in_piece, stored_block, is_written_in}
use Rattle.fuse_store_tree.specs.Store.{Store, Bodies, DescribesAs, IsWrittenAs, AreWithin, ArePiecesWithin, bodies_of}
use Rattle.fuse_store_tree.specs.Widening.{Shows}
use Rattle.fuse_store_tree.specs.inner.Knowing.{InsideKnown}
use Rattle.fuse_store_tree.specs.inner.Listing.{CanList, ListsPiece}
use Rattle.fuse_store_tree.specs.inner.Moving.{AreStored, HasStored, MovesTo, MovesOver, block_of_run}
use Rattle.fuse_store_tree.specs.inner.Over.{TurnedOver}
use Rattle.fuse_store_tree.specs.inner.Reading.{IsSound, range_of, whole_of}
use Rattle.fuse_store_tree.specs.inner.Relisting.{IsAny, Listed, is_between, extent_in}
use Rattle.fuse_store_tree.proofs.Cuts.{parts_hold}
use Rattle.fuse_store_tree.proofs.FreeBlocks.{all_whole, described, same_block}
use Rattle.fuse_store_tree.proofs.Ranges.{range_same, range_length, part_is, piece_is}
use Rattle.fuse_store_tree.proofs.Relistings.{listed_moves}
use Rattle.fuse_store_tree.proofs.StoredBytes.{stored_long, stored_within}
use Rattle.fuse_store_tree.proofs.Within.{within_left}

-- ---- over a data file of which more may be listed

module _ (f g : List ℕ) (keeps : KeepsInUse [] f g) (c : Content) (sound : IsSound f c) where
  pub still_stored : (node block : ℕ) → stored_block g c node block ≡ stored_block f c node block
  still_stored node block = same_block [] f g keeps c (λ i d low b at free. free) sound.1 node block

  pub still_sound : IsSound g c
  still_sound = (
    sound.0,
    record {
      some = sound.1.some;
      whole = all_whole [] f g keeps _ (λ i d low b at free. free) sound.1.whole;
      apart = sound.1.apart;
      own = sound.1.own;
    },
  )

-- ---- a step on the content

pub moves_none : (file : List ℕ) (c : Content) → IsSound file c → MovesTo file c c
moves_none file c sound = record {
  moved = record { blocks = λ n j. refl; others = refl };
  sound = sound;
  within = λ ends rows pieces. (rows, pieces);
  owned = λ was. was;
  fewer = omega arith;
}

pub moves_twice : (f g : List ℕ) (a b d : Content) → KeepsInUse [] f g → IsSound f a → MovesTo f a b → MovesTo g b d → MovesTo g a d
moves_twice f g a b d keeps sound p q = record {
  moved = record {
    blocks = λ n j. q.moved.blocks n j ∙ still_stored f g keeps b p.sound n j ∙ p.moved.blocks n j ∙ sym (still_stored f g keeps a sound n j);
    others = q.moved.others ∙ p.moved.others;
  };
  sound = q.sound;
  within = λ ends rows pieces. let mid = p.within ends rows pieces in q.within ends mid.0 mid.1;
  owned = λ was. q.owned (p.owned was);
  fewer = let one = p.fewer in let two = q.fewer in omega (arith, one, two);
}

filter_length : {X : Type 0} (q : X → Bool) (xs : List X) → length (filter q xs) ≤ length xs
filter_length q [] = omega arith
filter_length q (x ∷ xs) = by (q x) (filter_length q xs)
  where
    by : (b : Bool) → length (filter q xs) ≤ length xs → length (cond b (x ∷ filter q xs) (filter q xs)) ≤ suc (length xs)
    by true low = omega (arith, low)
    by false low = omega (arith, low)

-- the last block of a piece is its own
last_own : (p : Piece) → 1 ≤ p.count → is_between p.node p.first (end_of p) p.node (end_of p - 1) ≡ true
last_own p some = by p.node p.first p.count some
  where
    by : (a b n : ℕ) → 1 ≤ n → ((a == a) && (nat_le b (b + n - 1) && nat_lt (b + n - 1) (b + n))) ≡ true
    by a b n some = grind (arith, nat_tests)

-- a piece that is listed in the place of what it has
pub moves_listed : (file : List ℕ) (p : Piece) (c new : Content) → Listed file p c new → 1 ≤ p.count
    → ((n k : ℕ) → is_between p.node p.first (end_of p) n k ≡ true → stored_block file c n k ≡ Some (block_in_piece file k p)) → MovesTo file c new
moves_listed file p c new listed some same = record {
  moved = listed_moves file p c new listed same;
  sound = listed.sound;
  within = λ ends rows pieces. (
    subst (AreWithin ends) (sym listed.rows) (within_left _ ends ends (λ b stays low. low) c.blocks rows),
    parts_hold (λ n end. (end - 1) * block_bytes < ends n) (p ∷ c.pieces) new.pieces (λ n a b low high. omega (arith, low, high))
        (stored_within file c ends p.node (end_of p - 1) rows pieces (ap is_some (same p.node (end_of p - 1) (last_own p some))), pieces) listed.parts,
  );
  owned = λ was.
      parts_hold (λ n end. list_any (has_by node_key n) new.nodes ≡ true) (p ∷ c.pieces) new.pieces (λ n a b low there. there)
      (subst (λ ns. AllByRecursion (λ q. list_any (has_by node_key q.node) ns ≡ true) (p ∷ c.pieces)) (sym (ap (λ (z : Content). z.nodes) listed.others))
      (listed.there, was)) listed.parts;
  fewer = subst (λ bs. length bs ≤ length c.blocks) (sym listed.rows) (filter_length _ c.blocks);
}

-- the tables describe what they did
pub described_moved : (x : Store) (g : Bodies) (file : List ℕ) (c new : Content) → DescribesAs x g file c → MovesTo file c new → DescribesAs x g file new
described_moved x g file c new was p =
    let others = p.moved.others in
    let ends = p.within g.ends was.within was.pieces_within in
    record {
      number = was.number;
      layout = ap (λ (z : Content). z.layout) others ∙ was.layout;
      counters = ap (λ (z : Content). z.counters) others ∙ was.counters;
      nodes = ap (λ (z : Content). z.nodes) others ∙ was.nodes;
      entries = ap (λ (z : Content). z.entries) others ∙ was.entries;
      handles = ap (λ (z : Content). z.handles) others ∙ was.handles;
      answers = ap (λ (z : Content). z.answers) others ∙ was.answers;
      lots = ap (λ (z : Content). z.lots) others ∙ was.lots;
      kept = ap (λ (z : Content). z.kept) others ∙ was.kept;
      attributes = ap (λ (z : Content). z.attributes) others ∙ was.attributes;
      bytes = λ n i. ap (λ o. byte_at (unwrap_or o []) (i % block_bytes)) (p.moved.blocks n (i / block_bytes)) ∙ was.bytes n i;
      within = ends.0;
      written = λ n k. subst (λ o. IsWrittenAs (is_some o) (g.written n) k) (sym (p.moved.blocks n k)) (was.written n k);
      pieces_within = ends.1;
      pieces = p.sound.1;
      owned = p.owned was.owned;
      header = was.header;
      settings = was.settings;
      fits = p.sound.0;
    }

-- ---- what is read of a run

run_byte : (f : ℕ → ℕ) (a n i : ℕ) → i < n → byte_at (range_of f a n) i ≡ f (a + i)
run_byte f a zero i low = absurd (omega (arith, low))
run_byte f a (suc n) zero low = ap f (let e : a ≡ a + 0 = omega arith in e)
run_byte f a (suc n) (suc i) low = run_byte f (a + 1) n i (omega (arith, low)) ∙ ap f (let e : a + 1 + i ≡ a + suc i = omega arith in e)

whole_list : (n : ℕ) (xs : List ℕ) → length xs ≡ n → take n (drop 0 xs) ≡ xs
whole_list zero [] is = refl
whole_list zero (x ∷ xs) is = absurd (omega (arith, is))
whole_list (suc n) [] is = refl
whole_list (suc n) (x ∷ xs) is = ap (λ l. x ∷ l) (whole_list n xs (omega (arith, is)))

pub run_stored : (file : List ℕ) (c : Content) (node first count : ℕ) (v : List ℕ) → IsSound file c
    → v ≡ range_of (byte_in file c node) (first * block_bytes) (count * block_bytes)
    → ((block : ℕ) → first ≤ block → block < first + count → is_written_in file c node block ≡ true) → AreStored file c node first count v
run_stored file c node first count v sound are written block low high =
    by (stored_block file c node block) refl (written block low high) (stored_long file c node block sound.0.blocks sound.1.whole)
  where
    there : block_of_run v first block ≡ range_of (byte_in file c node) (block * block_bytes) block_bytes
    there =
        let k : ℕ = (block - first) * block_bytes in
        let long : length v ≡ count * block_bytes = ap length are ∙ range_length (byte_in file c node) (first * block_bytes) (count * block_bytes) in
        let fits : k + block_bytes ≤ length v = omega (arith, long, low, high) in
        part_is v k block_bytes fits
        ∙ range_same (byte_at v) (byte_in file c node) k (block * block_bytes) block_bytes (λ j less.
        ap (λ l. byte_at l (k + j)) are
        ∙ run_byte (byte_in file c node) (first * block_bytes) (count * block_bytes) (k + j) (omega (arith, less, low, high))
        ∙ ap (byte_in file c node) (let e : first * block_bytes + (k + j) ≡ block * block_bytes + j = omega (arith, low) in e))

    own : (l : List ℕ) → stored_block file c node block ≡ Some l → length l ≡ block_bytes
        → l ≡ range_of (byte_in file c node) (block * block_bytes) block_bytes
    own l is long =
        let at : block * block_bytes / block_bytes ≡ block = omega arith in
        let start : block * block_bytes % block_bytes ≡ 0 = omega arith in
        sym (whole_list block_bytes l long) ∙ ap (λ n. take block_bytes (drop n l)) (sym start)
        ∙ piece_is file c node (block * block_bytes) block_bytes l (sym (ap (λ k. whole_of (stored_block file c node k)) at ∙ ap whole_of is)) long
        (omega (arith, start))

    by : (o : Option (List ℕ)) → stored_block file c node block ≡ o → is_some (stored_block file c node block) ≡ true
        → IfSome (stored_block file c node block) (λ l. length l ≡ block_bytes) → stored_block file c node block ≡ Some (block_of_run v first block)
    by None is some long = absurd (let none = rw is at some in cc)
    by (Some l) is some long =
        let whole : length l ≡ block_bytes = rw is at long in
        is ∙ ap Some (own l is whole ∙ sym there)

-- ---- a step within a transaction

pub looks_moving : (f g : File) (P : Content → Type 0) (a b : State) → LookedInside a b → KeepsInUse [] f.bytes g.bytes → MovesOver f g P a b
looks_moving f g P a b p keeps = record {
  stays = p.stays;
  within = p.within;
  turns = λ read clean c sound so at. (c, p.same clean c at, moves_none g.bytes c (still_sound f.bytes g.bytes keeps c sound));
}

pub moving_then : (f g h : File) (P : Content → Type 0) (a b d : State) → (IsTrue h.is_clean → IsTrue g.is_clean) → KeepsInUse [] f.bytes g.bytes
    → KeepsInUse [] g.bytes h.bytes → MovesOver f g P a b → MovesOver g h IsAny b d → MovesOver f h P a d
moving_then f g h P a b d was first second p q = record {
  stays = stays_then a b d p.stays p.within q.stays;
  within = inside_then a b d p.within q.stays.survives q.within;
  turns = λ read clean c sound so at.
      let mid = p.turns (was read) (earlier b d _ q.stays.survives clean) c sound so at in
      let last = q.turns read clean mid.0 mid.2.sound tt mid.1 in
      (last.0, last.1, moves_twice g.bytes h.bytes c mid.0 last.0 second (still_sound f.bytes g.bytes first c sound) mid.2 last.2);
}

-- a fault after a step
pub moving_fault : (f g : File) (P : Content → Type 0) (a b d : State) (e : StoreFault) (t : Bool) → (IsTrue t → IsTrue g.is_clean) → MovesOver f g P a b → Stays b d
    → (HasCleanDisk d → IsTrue t → (c : Content) → Inside c b → IsSound g.bytes c → IsOutside e) → HasCleanDisk d → IsTrue t
    → (c : Content) → P c → Inside c a → IsSound f.bytes c → IsOutside e
moving_fault f g P a b d e t was p stays sure clean read c so at sound =
    let mid = p.turns (was read) (earlier b d _ stays.survives clean) c sound so at in sure clean read mid.0 mid.1 mid.2.sound

-- ---- a piece that was written for it

not_zero : (n : ℕ) → 1 ≤ n → (n == 0) ≡ false
not_zero n some = grind (arith, nat_tests)

pub lists_moving : {X F : Type 0} (r : Result X F) (f g h : File) (x : PieceRow) (a b d : State) → LookedInside a b → Shows (extent_in x) f g → ReadsFile g h
    → IsWhole f.contents.seen (extent_in x) → (HasCleanDisk b → (c : Content) → Inside c a → Fits c → CanList x.node c) → 1 ≤ x.count
    → OnOk r ((file : List ℕ) → KeepsInUse [] file h.bytes → ListsPiece h file x b d) → OnOk r (MovesOver f h (HasStored f.contents.seen f.bytes x) a d)
lists_moving (Err e) f g h x a b d looked shows reads whole can some listed = tt
lists_moving (Ok z) f g h x a b d looked shows reads whole can some listed = record {
  stays = stays_then a b d looked.stays looked.within p.stays;
  within = inside_then a b d looked.within p.stays.survives p.within;
  turns = λ read clean c sound has at.
      let mid = earlier b d _ p.stays.survives clean in
      let made = p.turns read clean shows.apart c sound (can mid c at sound.0) (looked.same mid c at) in
      (made.0, made.1, moves_listed h.bytes (piece made.2.0) c made.0 made.2.1 some (λ n j inside. same made.2.0 c sound has n j inside));
}
  where
    piece : ℕ → Piece
    piece slot = record { slot = slot; node = x.node; first = x.first; count = x.count; place = x.place; sum = x.sum }

    keeps : KeepsInUse [] f.bytes h.bytes
    keeps = subst (λ bytes. KeepsInUse [] f.bytes bytes) (sym reads.same) shows.widens.kept

    p : ListsPiece h f.bytes x b d
    p = listed f.bytes keeps

    bytes_are : bytes_of h.bytes (extent_in x) ≡ bytes_of f.contents.seen (extent_in x)
    bytes_are =
        let there : IsWhole g.contents.seen (extent_in x) = subst (λ file. IsWhole file (extent_in x)) (sym shows.widens.contents.seen) whole in
        ap (λ file. bytes_of file (extent_in x)) reads.same ∙ shows.same there ∙ ap (λ file. bytes_of file (extent_in x)) shows.widens.contents.seen

    bytes_there : piece_bytes h.bytes (piece 0) ≡ bytes_of f.contents.seen (extent_in x)
    bytes_there = rw (not_zero x.place whole.placed.place) bytes_are

    in_row : (n j : ℕ) → is_between x.node x.first (x.first + x.count) n j ≡ true → (n ≡ x.node) × (x.first ≤ j) × (j < x.first + x.count)
    in_row n j inside = (
      first n x.node (nat_le x.first j && nat_lt j (x.first + x.count)) inside,
      low (n == x.node) x.first j (nat_lt j (x.first + x.count)) inside,
      high (n == x.node) (nat_le x.first j) j (x.first + x.count) inside,
    )
      where
        first : (u w : ℕ) (t : Bool) → ((u == w) && t) ≡ true → u ≡ w
        first u w t is = grind (arith, nat_tests)

        low : (t : Bool) (u w : ℕ) (s : Bool) → (t && (nat_le u w && s)) ≡ true → u ≤ w
        low t u w s is = grind (arith, nat_tests)

        high : (t s : Bool) (u w : ℕ) → (t && (s && nat_lt u w)) ≡ true → u < w
        high t s u w is = grind (arith, nat_tests)

    same : (slot : ℕ) (c : Content) → IsSound f.bytes c → HasStored f.contents.seen f.bytes x c → (n j : ℕ)
        → is_between x.node x.first (x.first + x.count) n j ≡ true → stored_block h.bytes c n j ≡ Some (block_in_piece h.bytes j (piece slot))
    same slot c sound has n j inside =
        let row = in_row n j inside in
        still_stored f.bytes h.bytes keeps c sound n j ∙ ap (λ m. stored_block f.bytes c m j) row.0 ∙ has j row.1 row.2
        ∙ ap (λ l. Some (block_of_run l x.first j)) (sym bytes_there)

-- what fails after a look
pub fails_after : {X F : Type 0} (r : Result X F) (a b d : State) → LookedInside a b → OnErr r (Stays b d) → OnErr r (Stays a d)
fails_after (Ok z) a b d looked stays = tt
fails_after (Err e) a b d looked stays = stays_then a b d looked.stays looked.within stays

pub fault_after : {X : Type 0} (r : Result X StoreFault) (f h : File) (a b d : State) → LookedInside a b → KeepsInUse [] f.bytes h.bytes → OnErr r (Stays b d)
    → (HasCleanDisk d → IsTrue h.is_clean → IfErr r (λ e. (c : Content) → Inside c b → IsSound h.bytes c → IsOutside e))
    → HasCleanDisk d → IsTrue h.is_clean → IfErr r (λ e. (c : Content) → Inside c a → IsSound f.bytes c → IsOutside e)
fault_after (Ok z) f h a b d looked keeps stays sure clean read = tt
fault_after (Err e) f h a b d looked keeps stays sure clean read = λ c at sound.
    sure clean read c (looked.same (earlier b d _ stays.survives clean) c at) (still_sound f.bytes h.bytes keeps c sound)

pub some_more : {X : Type 0} (o : Option X) (P Q : X → Type 0) → ((x : X) → P x → Q x) → IfSome o P → IfSome o Q
some_more (Some x) P Q more p = more x p
some_more None P Q more p = tt

-- a run that was read, written aside and listed
pub run_moving : (f r w h : File) (x : PieceRow) (bytes : List ℕ) (a b d : State) → (IsTrue h.is_clean → IsTrue r.is_clean) → LookedInside a b → ReadsFile f r
    → KeepsInUse [] r.bytes w.bytes
    → (HasCleanDisk b → IsTrue r.is_clean → (c : Content) → Inside c a → IsSound r.bytes c → AreStored r.bytes c x.node x.first x.count bytes)
    → bytes_of w.contents.seen (extent_in x) ≡ bytes → MovesOver w h (HasStored w.contents.seen w.bytes x) b d → MovesOver f h IsAny a d
run_moving f r w h x bytes a b d was looked reads keeps told are p = record {
  stays = stays_then a b d looked.stays looked.within p.stays;
  within = inside_then a b d looked.within p.stays.survives p.within;
  turns = λ read clean c sound so at.
      let mid = earlier b d _ p.stays.survives clean in
      let first = subst (λ file. IsSound file c) (sym reads.same) sound in
      p.turns read clean c (still_sound r.bytes w.bytes keeps c first) (λ block low high.
      still_stored r.bytes w.bytes keeps c first x.node block ∙ told mid (was read) c at first block low high ∙ ap (λ l. Some (block_of_run l x.first block)) (sym are))
      (looked.same mid c at);
}

-- what is held stays
pub turned_moved : (f g : File) (m : Option Meta) (a b : State) → KeepsInUse [] f.bytes g.bytes → MovesOver f g IsAny a b → TurnedOver f g m m (λ y. y) a b
turned_moved f g m a b keeps p = record {
  stays = p.stays;
  within = p.within;
  turns = λ read clean y at.
      let held = at.holds.0.held in
      let c = held.0 in
      let made = p.turns read clean c (held.2.fits, held.2.pieces) tt (record { is_open = at.is_open; in_transaction = at.in_transaction; holds = held.1 }) in
      record {
        is_open = made.1.is_open;
        in_transaction = made.1.in_transaction;
        holds = (
          record {
            tree = at.holds.0.tree;
            below = at.holds.0.below;
            next = at.holds.0.next;
            held = (
              made.0,
              made.1.holds,
              described_moved (store_of y) (bodies_of (store_of y).rows) g.bytes c made.0
                  (described [] f.bytes g.bytes keeps (store_of y) (bodies_of (store_of y).rows) c (λ i d low k inside free. free) held.2) made.2,
            );
          },
          at.holds.1,
        );
      };
}

pub outside_known : {X : Type 0} (r : Result X StoreFault) (file : List ℕ) (a : State)
    → IfErr r (λ e. (c : Content) → Inside c a → IsSound file c → IsOutside e) → IfErr r (λ e. (m : Option Meta) (y : Holding) → InsideKnown file m y a → IsOutside e)
outside_known (Ok x) file a sure = tt
outside_known (Err e) file a sure = λ m y at.
    let held = at.holds.0.held in
    sure held.0 (record { is_open = at.is_open; in_transaction = at.in_transaction; holds = held.1 }) (held.2.fits, held.2.pieces)

pub moving_fails : (f g : File) (P : Content → Type 0) (a b d : State) → MovesOver f g P a b → Stays b d → Stays a d
moving_fails f g P a b d p q = stays_then a b d p.stays p.within q

-- a step after a look
pub looks_first : {X F : Type 0} (r : Result X F) (f g : File) (a b d : State) → LookedInside a b → OnOk r (MovesOver f g IsAny b d) → OnOk r (MovesOver f g IsAny a d)
looks_first (Err e) f g a b d looked p = tt
looks_first (Ok x) f g a b d looked p = record {
  stays = stays_then a b d looked.stays looked.within p.stays;
  within = inside_then a b d looked.within p.stays.survives p.within;
  turns = λ read clean c sound so at. p.turns read clean c sound tt (looked.same (earlier b d _ p.stays.survives clean) c at);
}

pub looks_fault : {X : Type 0} (r : Result X StoreFault) (file : List ℕ) (t : Bool) (a b d : State) → LookedInside a b → OnErr r (Stays b d)
    → (HasCleanDisk d → IsTrue t → IfErr r (λ e. (c : Content) → Inside c b → IsSound file c → IsOutside e))
    → HasCleanDisk d → IsTrue t → IfErr r (λ e. (c : Content) → Inside c a → IsSound file c → IsOutside e)
looks_fault (Ok x) file t a b d looked stays sure clean read = tt
looks_fault (Err e) file t a b d looked stays sure clean read = λ c at sound. sure clean read c (looked.same (earlier b d _ stays.survives clean) c at) sound

pub some_at : {X : Type 0} (o : Option X) (P : X → Type 0) (x : X) → o ≡ Some x → IfSome o P → P x
some_at o P x is p = subst (λ z. IfSome z P) is p

pub looks_over : (f g : File) (a b d : State) → LookedInside a b → MovesOver f g IsAny b d → MovesOver f g IsAny a d
looks_over f g a b d looked p = looks_first {X = ℕ} {F = StoreFault} (Ok 0) f g a b d looked p
