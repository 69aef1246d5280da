-- Bytes that are written, as the tables describe them.
use Rattle.std.proofs.Common.{◌≡◌, ◌≤◌, inl, inr, ℕ, List, [], ◌∷◌, ◌++◌, ◌==◌, map, Bool, true, false, not, cond, Some}
use Rattle.std.proofs.Common.{None, Ok, refl, sym, ap, subst, arith, ◌∙◌, ◌+◌, ◌-◌, ◌/◌, ◌%◌, ◌&&◌, nat_lt, length, take, drop, find, ◌<◌, ◌*◌, max}
use Rattle.std.specs.List.{AllByRecursion, list_any}
use Rattle.std.specs.Option.{is_some}
use Rattle.std.specs.Prelude.{◌||◌, IsTrue, nat_le, option_map, unwrap_or, filter, zero, suc, IfSome, Option, Result, OnOk, OnErr, Err}
use Rattle.fuse_keeper.specs.declared.fault.StoreFault.{StoreFault}
use Rattle.std.proofs.lemmas.List.{length-take-le, length-append, length-replicate, drop_all, append-nil}
use Rattle.sqlite_trees.specs.Tree.{IsTable}
use Rattle.fuse_rows.specs.Bounds.{block_bytes}
use Rattle.fuse_store_tables.specs.Blocks.{Block, block_at, is_at}
use Rattle.fuse_store_tree.specs.Fits.{IsWhole}
use Rattle.fuse_store_tables.specs.Content.{put_block, node_key, has_by, Content, Holds}
use Rattle.fuse_store_tables.specs.Pieces.{Piece}
use Rattle.fuse_store_tree.specs.Pieces.{File, ReadsFile, byte_in, end_of, has_block, piece_at, block_found, stored_block, is_written_in}
use Rattle.fuse_store_tree.specs.Store.{rows_bytes, rows_ends, rows_written, bodies_of, Bodies, HeldAs, IsWrittenAs, is_among, blocks_counted}
use Rattle.fuse_store_tree.specs.inner.Writing.{overlay, overlay_in, ends_grown, spliced, put_found, with_change, wrote_between}
use Rattle.fuse_rows.specs.Blocks.{Body, first_touched, touched_end, numbers_from, with_range, with_touched}
use Rattle.fuse_store_tree.specs.inner.Reading.{whole_of, IsSound, Describes}
use Rattle.fuse_store_tree.specs.Pieces.{byte_at}
use Rattle.fuse_store_tree.specs.Store.{Store, DescribesAs, in_order}
use Rattle.fuse_store_tree.specs.inner.Changing.{Overlaid, Changed}
use Rattle.fuse_store_tree.proofs.Keys.{slots_rise}
use Rattle.fuse_store_tree.proofs.BlockBytes.{part_put, part_written, all_put_at}
use Rattle.fuse_store_tree.proofs.StoredBytes.{stored_long}
use Rattle.fuse_store_tree.proofs.Tabled.{blocks_stored}
use Rattle.fuse_store_tree.proofs.Overlays.{overlay_none, overlay_more, byte_written, written_length}
use Rattle.fuse_store_tree.proofs.Looks.{key_is, both_are}
use Rattle.fuse_store_tree.proofs.Parents.{blocks_owned}
use Rattle.fuse_rows.specs.Rows.{at_node, written, body_written, content_of, full_at}
use Rattle.fuse_store_tree.specs.inner.Laws.{looked_still, looked_fails}
use Rattle.fuse_store_tree.proofs.Ranges.{drop_length}
use Rattle.sqlite.specs.Effect.{Database}
use Rattle.std.proofs.lemmas.Bool.{cases_Bool, cases_lt}
use Rattle.std.proofs.lemmas.Bool.Decides.{nat_tests}
use Rattle.fuse_rows.specs.declared.rows.Full.{Full}
use Rattle.fuse_rows.specs.declared.rows.NodeRow.{NodeRow}
use Rattle.sqlite.specs.State.{State, HasCleanDisk}
use Rattle.fuse_rows.specs.declared.rows.Change.TheVariants as changes
use Rattle.fuse_store_tables.specs.Moves.{Inside, Makes, LookedInside, Stays, TurnsTo}
use Rattle.fuse_store_tables.specs.inner.Following.{earlier, inside_then, stays_then}
use Rattle.fuse_store_tree.proofs.Described.{Rises, same_test}
use Rattle.fuse_store_tree.proofs.Orders.{all_in_order}
use Rattle.fuse_store_tree.proofs.RowChanges.{same_number, shown, bytes_shown, counted_shown}
use Rattle.fuse_store_tree.proofs.Within.{within_known, within_more, pieces_more, pieces_known, grown_more, grown_here, grown_twice}

-- ---- bytes

pub same_overlay : (node at : ℕ) (part : List ℕ) (g h : ℕ → ℕ → ℕ) → ((n i : ℕ) → g n i ≡ h n i)
    → (n i : ℕ) → overlay node at part g n i ≡ overlay node at part h n i
same_overlay node at part g h same n i = ap (λ b. cond ((n == node) && (not (nat_lt i at) && nat_lt i (at + length part))) (byte_at part (i - at)) b) (same n i)

blocks_rise : (c : Content) (d : Database) → Holds c d → Rises (λ b. b.slot) c.blocks
blocks_rise c d at = slots_rise c.blocks (subst IsTable (blocks_stored c d at).0 (blocks_stored c d at).1)

pub spliced_length : (old part : List ℕ) (start : ℕ) → start + length part ≤ length old → length (spliced old start part) ≡ length old
spliced_length old part start within =
    omega (
      arith,
      length-append (take start old ++ part) (drop (start + length part) old),
      length-append (take start old) part,
      length-take-le start old
          (omega (arith, within)),
      drop_length (start + length part) old,
      within,
    )

-- a part of one block written over, as the tables describe it
described_over : (file : List ℕ) (node here : ℕ) (part old made_bytes : List ℕ) (x : Store) (g : Bodies) (c : Content) → Rises (λ b. b.slot) c.blocks
    → old ≡ whole_of (stored_block file c node (here / block_bytes)) → length old ≡ block_bytes → made_bytes ≡ spliced old (here % block_bytes) part
    → here % block_bytes + length part ≤ block_bytes → 1 ≤ length part → DescribesAs x g file c
    → DescribesAs x (overlay_in node here part g) file (put_block node (here / block_bytes) made_bytes c)
described_over file node here part old made_bytes x g c rises found whole is within some was =
    let full : length made_bytes ≡ block_bytes = ap length is ∙ spliced_length old part (here % block_bytes) (omega (arith, whole, within)) ∙ whole in
    record {
      counters = was.counters;
      nodes = was.nodes;
      entries = was.entries;
      handles = was.handles;
      answers = was.answers;
      attributes = was.attributes;
      number = was.number;
      layout = was.layout;
      header = was.header;
      pieces = was.pieces;
      owned = was.owned;
      lots = was.lots;
      kept = was.kept;
      bytes = λ n i.
          ap (λ l. byte_in file (put_block node (here / block_bytes) l c) n i) is ∙ part_put file node here part c old rises found whole within n i
          ∙ same_overlay node here part (byte_in file c) g.byte was.bytes n i;
      written = λ n k. part_written file node here part made_bytes c g.written rises some within n k (was.written n k);
      within = all_put_at (λ b. b.block * block_bytes < ends_grown node (here + length part) g.ends b.node) node (here / block_bytes) made_bytes c.blocks
          (grown_here node (here + length part) g.ends (here / block_bytes * block_bytes) (omega (arith, some))) (λ b low. low)
          (within_more g.ends (ends_grown node (here + length part) g.ends) (λ n k low. grown_more node (here + length part) g.ends n (k * block_bytes) low)
          c.blocks was.within);
      pieces_within = pieces_more g.ends (ends_grown node (here + length part) g.ends)
          (λ n k low. grown_more node (here + length part) g.ends n (k * block_bytes) low) c.pieces was.pieces_within;
      settings = was.settings;
      fits = record {
        nodes = was.fits.nodes;
        entries = was.fits.entries;
        handles = was.fits.handles;
        blocks = all_put_at IsWhole node (here / block_bytes) made_bytes c.blocks full (λ b long. full) was.fits.blocks;
        kept = was.fits.kept;
        pieces = was.fits.pieces;
        no_pieces = was.fits.no_pieces;
      };
    }

put_as_found : (stored : Bool) (node block : ℕ) (bytes : List ℕ) (c : Content) → stored ≡ is_some (block_at node block c.blocks)
    → put_found stored node block bytes c ≡ put_block node block bytes c
put_as_found true node block bytes c is = rw (sym is) refl
put_as_found false node block bytes c is = rw (sym is) refl

-- after a read of the block: it is changed where it was there, and else added
pub piece_written : {X : Type 0} (f : File) (a b d : State) (r : Result X StoreFault) (node here : ℕ) (part old : List ℕ) (stored : Bool) → LookedInside a b
    → Makes (put_found stored node (here / block_bytes) (spliced old (here % block_bytes) part)) b d r
    → (HasCleanDisk b → IsTrue f.is_clean → (c : Content) → Inside c a → IsSound f.bytes c → old ≡ whole_of (stored_block f.bytes c node (here / block_bytes)))
    → (HasCleanDisk b → (c : Content) → Inside c a → stored ≡ is_some (block_at node (here / block_bytes) c.blocks)) → length old ≡ block_bytes
    → here % block_bytes + length part ≤ block_bytes → 1 ≤ length part → OnOk r (Overlaid f node here part a d)
piece_written f a b d (Err e) node here part old stored p q found there whole within some = tt
piece_written f a b d (Ok x) node here part old stored p q found there whole within some = record {
  stays = looked_fails a b d p q.stays;
  within = inside_then a b d p.within q.stays.survives q.within;
  turns = λ read clean w at.
      let mid = earlier b d _ q.stays.survives clean in
      let c = at.holds.0 in
      let made_bytes = spliced old (here % block_bytes) part in
      let inside : Inside c a = record { is_open = at.is_open; in_transaction = at.in_transaction; holds = at.holds.1 } in
      let now = subst (λ k. Inside k d) (put_as_found stored node (here / block_bytes) made_bytes c (there mid c inside)) (q.turns clean c (p.same mid c inside)) in
      record {
        is_open = now.is_open;
        in_transaction = now.in_transaction;
        holds = (
          put_block node (here / block_bytes) made_bytes c,
          now.holds,
          described_over f.bytes node here part old made_bytes w.0 w.1 c (blocks_rise c a.now at.holds.1)
              (found mid read c inside (at.holds.2.fits, at.holds.2.pieces)) whole refl within some at.holds.2,
        );
      };
}

pub piece_keeps : {X : Type 0} (f : Content → Content) (a b d : State) (r : Result X StoreFault) → LookedInside a b → Makes f b d r → OnErr r (Stays a d)
piece_keeps f a b d (Ok x) p q = tt
piece_keeps f a b d (Err e) p q = looked_fails a b d p q.stays

whole_spliced : (old part : List ℕ) → length part ≡ length old → part ≡ spliced old 0 part
whole_spliced old part same = sym (ap (λ rest. part ++ rest) (drop_all (0 + length part) old (omega (arith, same))) ∙ append-nil part)

whole_long : (o : Option (List ℕ)) → IfSome o (λ l. length l ≡ block_bytes) → length (whole_of o) ≡ block_bytes
whole_long None h = length-replicate {A = ℕ} block_bytes 0
whole_long (Some l) h = h

-- a whole block, without a read of the one before
pub whole_written : {X : Type 0} (f : File) (a d : State) (r : Result X StoreFault) (node here : ℕ) (part : List ℕ)
    → Makes (put_block node (here / block_bytes) part) a d r → length part ≡ block_bytes
    → here % block_bytes + length part ≤ block_bytes → OnOk r (Overlaid f node here part a d)
whole_written f a d (Err e) node here part q full within = tt
whole_written f a d (Ok x) node here part q full within = record {
  stays = q.stays;
  within = q.within;
  turns = λ read clean w at.
      let c = at.holds.0 in
      let now = q.turns clean c (record { is_open = at.is_open; in_transaction = at.in_transaction; holds = at.holds.1 }) in
      let old = whole_of (stored_block f.bytes c node (here / block_bytes)) in
      let long : length old ≡ block_bytes = whole_long (stored_block f.bytes c node (here / block_bytes))
      (stored_long f.bytes c node (here / block_bytes) at.holds.2.fits.blocks at.holds.2.pieces.whole) in
      let start : 0 ≡ here % block_bytes = omega (arith, full, within) in
      record {
        is_open = now.is_open;
        in_transaction = now.in_transaction;
        holds = (
          put_block node (here / block_bytes) part c,
          now.holds,
          described_over f.bytes node here part old part w.0 w.1 c (blocks_rise c a.now at.holds.1) refl long
              (subst (λ s. part ≡ spliced old s part) start (whole_spliced old part (full ∙ sym long))) within (omega (arith, full)) at.holds.2,
        );
      };
}

-- a call that failed
pub makes_fails : {X : Type 0} (f : Content → Content) (a d : State) (r : Result X StoreFault) → Makes f a d r → OnErr r (Stays a d)
makes_fails f a d (Ok x) q = tt
makes_fails f a d (Err e) q = q.stays

pub describes_same : (x : Store) (g h : Bodies) (file : List ℕ) (c : Content) → ((n i : ℕ) → g.byte n i ≡ h.byte n i)
    → ((n k : ℕ) → k * block_bytes < g.ends n → k * block_bytes < h.ends n)
    → ((n k : ℕ) → IsWrittenAs (is_written_in file c n k) (g.written n) k → IsWrittenAs (is_written_in file c n k) (h.written n) k)
    → DescribesAs x g file c → DescribesAs x h file c
describes_same x g h file c same more so at = record {
  counters = at.counters;
  nodes = at.nodes;
  entries = at.entries;
  handles = at.handles;
  answers = at.answers;
  attributes = at.attributes;
  number = at.number;
  layout = at.layout;
  header = at.header;
  pieces = at.pieces;
  owned = at.owned;
  lots = at.lots;
  kept = at.kept;
  bytes = λ n i. at.bytes n i ∙ same n i;
  written = λ n k. so n k (at.written n k);
  within = within_more g.ends h.ends more c.blocks at.within;
  pieces_within = pieces_more g.ends h.ends more c.pieces at.pieces_within;
  settings = at.settings;
  fits = at.fits;
}

-- blocks of an empty range
wrote_none : (node from : ℕ) (written : ℕ → Option (ℕ → Bool)) (b : Bool) (n k : ℕ) → IsWrittenAs b (written n) k
    → IsWrittenAs b (wrote_between node from from written n) k
wrote_none node from written b n k = by (n == node) (written n)
  where
    none : (a x : ℕ) → (nat_le a x && nat_lt x a) ≡ false
    none a x = grind (arith, nat_tests)

    by : (t : Bool) (o : Option (ℕ → Bool)) → IsWrittenAs b o k
        → IsWrittenAs b (cond t (option_map (λ p block. (nat_le from block && nat_lt block from) || p block) o) o) k
    by false o was = was
    by true None was = tt
    by true (Some p) was = rw (none from k) was

-- a range, and then one that goes on
wrote_more : (node s m e t : ℕ) (written : ℕ → Option (ℕ → Bool)) (b : Bool) (n k : ℕ) → s ≤ m → m ≤ e → e ≤ t
    → IsWrittenAs b (wrote_between node m t (wrote_between node s e written) n) k → IsWrittenAs b (wrote_between node s t written n) k
wrote_more node s m e t written b n k first second third = by (n == node) (written n)
  where
    joined : (x : Bool) → ((nat_le m k && nat_lt k t) || ((nat_le s k && nat_lt k e) || x)) ≡ ((nat_le s k && nat_lt k t) || x)
    joined x = grind (arith, nat_tests)

    by : (u : Bool) (o : Option (ℕ → Bool))
        → IsWrittenAs b (cond u (option_map (λ p block. (nat_le m block && nat_lt block t) || p block)
        (cond u (option_map (λ p block. (nat_le s block && nat_lt block e) || p block) o) o))
        (cond u (option_map (λ p block. (nat_le s block && nat_lt block e) || p block) o) o)) k
        → IsWrittenAs b (cond u (option_map (λ p block. (nat_le s block && nat_lt block t) || p block) o) o) k
    by false o was = was
    by true None was = tt
    by true (Some p) was = was ∙ joined (p k)

-- bytes, and then more after them
wrote_touched : (node at : ℕ) (m r : ℕ) (written : ℕ → Option (ℕ → Bool)) (b : Bool) (n k : ℕ)
    → IsWrittenAs b (wrote_between node (first_touched (at + m)) (touched_end (at + m) r) (wrote_between node (first_touched at) (touched_end at m) written) n) k
    → IsWrittenAs b (wrote_between node (first_touched at) (touched_end at (m + r)) written n) k
wrote_touched node at zero zero written b n k was =
    let e : (at + 0) / block_bytes ≡ at / block_bytes = ap (λ z. z / block_bytes) (let f : at + 0 ≡ at = omega arith in f) in
    wrote_more node (at / block_bytes) (at / block_bytes) (at / block_bytes) (at / block_bytes) written b n k (omega arith) (omega arith) (omega arith)
    (subst (λ z. IsWrittenAs b (wrote_between node z z (wrote_between node (at / block_bytes) (at / block_bytes) written) n) k) e was)
wrote_touched node at zero (suc r) written b n k was =
    let e : at + 0 ≡ at = omega arith in
    let same : 0 + suc r ≡ suc r = omega arith in
    subst (λ z. IsWrittenAs b (wrote_between node (at / block_bytes) (touched_end at z) written n) k) (sym same)
    (wrote_more node (at / block_bytes) (at / block_bytes) (at / block_bytes) ((at + r) / block_bytes + 1) written b n k (omega arith) (omega arith)
    (omega arith)
    (subst (λ z. IsWrittenAs b (wrote_between node (z / block_bytes) ((z + r) / block_bytes + 1) (wrote_between node (at / block_bytes) (at / block_bytes) written) n) k)
    e was))
wrote_touched node at (suc m) zero written b n k was =
    let same : suc m + 0 ≡ suc m = omega arith in
    subst (λ z. IsWrittenAs b (wrote_between node (at / block_bytes) (touched_end at z) written n) k) (sym same)
    (none ((at + suc m) / block_bytes) (wrote_between node (at / block_bytes) ((at + m) / block_bytes + 1) written) was)
  where
    empty : (a x : ℕ) → (nat_le a x && nat_lt x a) ≡ false
    empty a x = grind (arith, nat_tests)

    none : (a : ℕ) (w : ℕ → Option (ℕ → Bool)) → IsWrittenAs b (wrote_between node a a w n) k → IsWrittenAs b (w n) k
    none a w = by (n == node) (w n)
      where
        by : (t : Bool) (o : Option (ℕ → Bool)) → IsWrittenAs b (cond t (option_map (λ p block. (nat_le a block && nat_lt block a) || p block) o) o) k
            → IsWrittenAs b o k
        by false o was = was
        by true None was = tt
        by true (Some p) was = rw (empty a k) at was
wrote_touched node at (suc m) (suc r) written b n k was =
    let e : at + suc m + r ≡ at + (m + suc r) = omega arith in
    let same : suc m + suc r ≡ suc (m + suc r) = omega arith in
    subst (λ z. IsWrittenAs b (wrote_between node (at / block_bytes) (touched_end at z) written n) k) (sym same)
    (wrote_more node (at / block_bytes) ((at + suc m) / block_bytes) ((at + m) / block_bytes + 1) ((at + (m + suc r)) / block_bytes + 1) written b n k
    (omega arith) (omega arith) (omega arith)
    (subst (λ z. IsWrittenAs b (wrote_between node ((at + suc m) / block_bytes) (z / block_bytes + 1)
    (wrote_between node (at / block_bytes) ((at + m) / block_bytes + 1) written) n) k) e was))

pub nothing_overlaid : (f : File) (node at : ℕ) (a : State) → Overlaid f node at [] a a
nothing_overlaid f node at a = record {
  stays = (looked_still a).stays;
  within = (looked_still a).within;
  turns = λ read clean p now. record {
    is_open = now.is_open;
    in_transaction = now.in_transaction;
    holds = (
      now.holds.0,
      now.holds.1,
      describes_same p.0 p.1 (overlay_in node at [] p.1) f.bytes now.holds.0 (overlay_none node at p.1.byte)
          (λ n k low. grown_more node (at + 0) p.1.ends n (k * block_bytes) low)
          (λ n k was. wrote_none node (at / block_bytes) p.1.written (is_written_in f.bytes now.holds.0 n k) n k was) now.holds.2,
    );
  };
}

pub overlaid_keeps : (f : File) (node at : ℕ) (p : List ℕ) (a b d : State) → Overlaid f node at p a b → Stays b d → Stays a d
overlaid_keeps f node at p a b d first second = stays_then a b d first.stays first.within second

-- what was read first is read still
pub overlaid_later : (v w : File) (node at : ℕ) (p : List ℕ) (a b : State) → ReadsFile v w → Overlaid v node at p a b → Overlaid w node at p a b
overlaid_later v w node at p a b on q = record {
  stays = q.stays;
  within = q.within;
  turns = λ read. subst (λ bytes. TurnsTo (HeldAs bytes) (λ z. HeldAs bytes (z.0, overlay_in node at p z.1)) a b) (sym on.same) (q.turns (on.clean read));
}

-- a part, and then one after it, are both
pub overlaid_joined : (node at : ℕ) (p q : List ℕ) (x : Store) (b : Bodies) (file : List ℕ) (c : Content)
    → DescribesAs x (overlay_in node (at + length p) q (overlay_in node at p b)) file c → DescribesAs x (overlay_in node at (p ++ q) b) file c
overlaid_joined node at p q x b file c told =
    describes_same x (overlay_in node (at + length p) q (overlay_in node at p b)) (overlay_in node at (p ++ q) b) file c
    (overlay_more node at p q b.byte) (λ n k low.
    grown_twice node (at + length p) (at + length p + length q) (at + length (p ++ q)) b.ends n (k * block_bytes)
    (omega (arith, length-append p q)) (omega (arith, length-append p q)) low)
    (λ n k was. subst (λ z. IsWrittenAs (is_written_in file c n k) (wrote_between node (first_touched at) (touched_end at z) b.written n) k)
    (sym (length-append p q)) (wrote_touched node at (length p) (length q) b.written (is_written_in file c n k) n k was)) told

pub overlaid_then : (f : File) (node at : ℕ) (p q : List ℕ) (a b d : State) → Overlaid f node at p a b → Overlaid f node (at + length p) q b d
    → Overlaid f node at (p ++ q) a d
overlaid_then f node at p q a b d first second = record {
  stays = overlaid_keeps f node at p a b d first second.stays;
  within = inside_then a b d first.within second.stays.survives second.within;
  turns = λ read clean w now.
      let mid = first.turns read (earlier b d _ second.stays.survives clean) w now in
      let last = second.turns read clean (w.0, overlay_in node at p w.1) mid in
      record {
        is_open = last.is_open;
        in_transaction = last.in_transaction;
        holds = (last.holds.0, last.holds.1, overlaid_joined node at p q w.0 w.1 f.bytes last.holds.0 last.holds.2);
      };
}

-- ---- bytes of a content

pub rows_same : (number : ℕ) (f : Body → Body) (fs : List Full) → map (λ x. x.row) (map (at_node number f) fs) ≡ map (λ x. x.row) fs
rows_same number f [] = refl
rows_same number f (x ∷ fs) = elim (cases_Bool (x.row.node == number)) [
  | inl here ↦ rw here (ap (λ l. x.row ∷ l) (rows_same number f fs))
  | inr not_here ↦ rw not_here (ap (λ l. x.row ∷ l) (rows_same number f fs))
]

differs : (a b d : ℕ) → (a == b) ≡ true → (d == b) ≡ false → (a == d) ≡ false
differs a b d same apart = grind (arith, nat_tests)

-- what is read off a content, once that of one node is changed
module _ {Z : Type 0} (G : Body → Z) (z : Z) where
  -- of a node that isn't changed
  shown_other : (number : ℕ) (f : Body → Body) (n : ℕ) (fs : List Full) → (n == number) ≡ false
      → shown G z (find (λ x. x.row.node == n) (map (at_node number f) fs)) ≡ shown G z (find (λ x. x.row.node == n) fs)
  shown_other number f n [] apart = refl
  shown_other number f n (x ∷ fs) apart = elim (cases_Bool (x.row.node == number)) [
    | inl here ↦ rw (here, differs x.row.node number n here apart) (shown_other number f n fs apart)
    | inr not_here ↦ rw not_here (by (x.row.node == n) (shown_other number f n fs apart))
  ]
    where
      by : (b : Bool) → shown G z (find (λ y. y.row.node == n) (map (at_node number f) fs)) ≡ shown G z (find (λ y. y.row.node == n) fs)
          → shown G z (cond b (Some x) (find (λ y. y.row.node == n) (map (at_node number f) fs))) ≡ shown G z (cond b (Some x) (find (λ y. y.row.node == n) fs))
      by true e = refl
      by false e = e

  -- of the node that is changed, where it is there
  shown_here : (number : ℕ) (f : Body → Body) (g : Z → Z) → ((b : Body) → G (f b) ≡ g (G b)) → (fs : List Full) → list_any (λ x. x.row.node == number) fs ≡ true
      → shown G z (find (λ x. x.row.node == number) (map (at_node number f) fs)) ≡ g (shown G z (find (λ x. x.row.node == number) fs))
  shown_here number f g same [] there = absurd cc
  shown_here number f g same (x ∷ fs) there = elim (cases_Bool (x.row.node == number)) [
    | inl here ↦ rw here (rw here (same x.content))
    | inr not_here ↦ rw not_here (rw not_here (shown_here number f g same fs (rw not_here at there)))
  ]

pub content_other : (number : ℕ) (f : Body → Body) (n : ℕ) (fs : List Full) → (n == number) ≡ false
    → content_of (find (λ x. x.row.node == n) (map (at_node number f) fs)) ≡ content_of (find (λ x. x.row.node == n) fs)
content_other number f n fs apart =
    sym (bytes_shown (find (λ x. x.row.node == n) (map (at_node number f) fs))) ∙ shown_other (λ b. b.bytes) [] number f n fs apart
    ∙ bytes_shown (find (λ x. x.row.node == n) fs)

pub content_here : (number : ℕ) (f : Body → Body) (g : List ℕ → List ℕ) → ((b : Body) → (f b).bytes ≡ g b.bytes) → (fs : List Full)
    → list_any (λ x. x.row.node == number) fs ≡ true
    → content_of (find (λ x. x.row.node == number) (map (at_node number f) fs)) ≡ g (content_of (find (λ x. x.row.node == number) fs))
content_here number f g same fs there =
    sym (bytes_shown (find (λ x. x.row.node == number) (map (at_node number f) fs))) ∙ shown_here (λ b. b.bytes) [] number f g same fs there
    ∙ ap g (bytes_shown (find (λ x. x.row.node == number) fs))

pub counted_other : (number : ℕ) (f : Body → Body) (n : ℕ) (fs : List Full) → (n == number) ≡ false
    → blocks_counted (find (λ x. x.row.node == n) (map (at_node number f) fs)) ≡ blocks_counted (find (λ x. x.row.node == n) fs)
counted_other number f n fs apart =
    sym (counted_shown (find (λ x. x.row.node == n) (map (at_node number f) fs))) ∙ shown_other (λ b. b.blocks) None number f n fs apart
    ∙ counted_shown (find (λ x. x.row.node == n) fs)

pub counted_here : (number : ℕ) (f : Body → Body) (g : Option (List ℕ) → Option (List ℕ)) → ((b : Body) → (f b).blocks ≡ g b.blocks) → (fs : List Full)
    → list_any (λ x. x.row.node == number) fs ≡ true
    → blocks_counted (find (λ x. x.row.node == number) (map (at_node number f) fs)) ≡ g (blocks_counted (find (λ x. x.row.node == number) fs))
counted_here number f g same fs there =
    sym (counted_shown (find (λ x. x.row.node == number) (map (at_node number f) fs))) ∙ shown_here (λ b. b.blocks) None number f g same fs there
    ∙ ap g (counted_shown (find (λ x. x.row.node == number) fs))

pub none_changed : (number : ℕ) (f : Body → Body) (fs : List Full) → list_any (λ x. x.row.node == number) fs ≡ false
    → find (λ x. x.row.node == number) (map (at_node number f) fs) ≡ None
none_changed number f [] none = refl
none_changed number f (x ∷ fs) none = elim (cases_Bool (x.row.node == number)) [
  | inl here ↦ absurd (let e = rw here at none in cc)
  | inr not_here ↦ rw not_here (rw not_here (none_changed number f fs (rw not_here at none)))
]

-- ---- which blocks are among those after a change

among_both : (xs ys : List ℕ) (k : ℕ) → is_among (xs ++ ys) k ≡ (is_among xs k || is_among ys k)
among_both [] ys k = refl
among_both (x ∷ xs) ys k = ap (λ b. (x == k) || b) (among_both xs ys k) ∙ grouped_or (x == k) (is_among xs k) (is_among ys k)
  where
    grouped_or : (a b d : Bool) → (a || (b || d)) ≡ ((a || b) || d)
    grouped_or true b d = refl
    grouped_or false b d = refl

pub among_left : (q : ℕ → Bool) (xs : List ℕ) (k : ℕ) → is_among (filter q xs) k ≡ (q k && is_among xs k)
among_left q [] k = by (q k)
  where
    by : (b : Bool) → false ≡ (b && false)
    by true = refl
    by false = refl
among_left q (x ∷ xs) k = elim (cases_Bool (x == k)) [
  | inl here ↦
      let m = same_number x k here in
      elim (cases_Bool (q x)) [
        | inl stays ↦ rw (stays, subst (λ z. q z ≡ true) m stays) (rw here refl)
        | inr goes ↦ rw (goes, subst (λ z. q z ≡ false) m goes) (among_left q xs k ∙ rw (subst (λ z. q z ≡ false) m goes) refl)
      ]
  | inr other ↦ rw other (by other (q x) (among_left q xs k))
]
  where
    by : (x == k) ≡ false → (b : Bool) → is_among (filter q xs) k ≡ (q k && is_among xs k)
        → is_among (cond b (x ∷ filter q xs) (filter q xs)) k ≡ (q k && is_among xs k)
    by off true e = rw off e
    by off false e = e

among_numbers : (a n k : ℕ) → is_among (numbers_from a n) k ≡ (nat_le a k && nat_lt k (a + n))
among_numbers a zero k = none a k
  where
    none : (x y : ℕ) → false ≡ (nat_le x y && nat_lt y (x + 0))
    none x y = grind (arith, nat_tests)
among_numbers a (suc n) k = ap (λ b. (a == k) || b) (among_numbers (a + 1) n k) ∙ next a n
  where
    next : (x m : ℕ) → ((x == k) || (nat_le (x + 1) k && nat_lt k (x + 1 + m))) ≡ (nat_le x k && nat_lt k (x + suc m))
    next x m = grind (arith, nat_tests)

pub among_with : (from to : ℕ) (xs : List ℕ) (k : ℕ) → is_among (with_range from to xs) k ≡ ((nat_le from k && nat_lt k to) || is_among xs k)
among_with from to xs k =
    let first = filter (λ b. nat_lt b from) xs in
    let last = filter (λ b. nat_le to b) xs in
    let new = numbers_from from (to - from) in
    among_both (first ++ new) last k ∙ ap (λ t. t || is_among last k) (among_both first new k)
    ∙ ap (λ t. (t || is_among new k) || is_among last k) (among_left (λ b. nat_lt b from) xs k)
    ∙ ap (λ t. ((nat_lt k from && is_among xs k) || t) || is_among last k) (among_numbers from (to - from) k)
    ∙ ap (λ t. ((nat_lt k from && is_among xs k) || (nat_le from k && nat_lt k (from + (to - from)))) || t) (among_left (λ b. nat_le to b) xs k)
    ∙ joined (is_among xs k)
  where
    joined : (t : Bool) → (((nat_lt k from && t) || (nat_le from k && nat_lt k (from + (to - from)))) || (nat_le to k && t)) ≡ ((nat_le from k && nat_lt k to) || t)
    joined t = elim (cases_lt to from) [
      | inl over ↦ grind (arith, nat_tests)
      | inr order ↦ grind (arith, nat_tests)
    ]

no_row : (number : ℕ) (fs : List Full) → list_any (λ x. x.row.node == number) fs ≡ false → AllByRecursion (λ r. has_by node_key number r ≡ false)
    (map (λ x. x.row) fs)
no_row number [] none = tt
no_row number (x ∷ fs) none = elim (cases_Bool (x.row.node == number)) [
  | inl here ↦ absurd (let e = rw here at none in cc)
  | inr not_here ↦ (same_test x.row.node number ∙ not_here, no_row number fs (rw not_here at none))
]

none_any : {X : Type 0} (p : X → Bool) (xs : List X) → AllByRecursion (λ x. p x ≡ false) xs → list_any p xs ≡ false
none_any p [] all = refl
none_any p (x ∷ xs) all = rw (all.0) (none_any p xs all.1)

no_block : (ns : List NodeRow) (n k : ℕ) (bs : List Block) → AllByRecursion (λ b. list_any (has_by node_key b.node) ns ≡ true) bs
    → list_any (has_by node_key n) ns ≡ false → block_at n k bs ≡ None
no_block ns n k [] owned none = refl
no_block ns n k (b ∷ bs) owned none = elim (cases_Bool (is_at n k b)) [
  | inl here ↦ absurd (let m = key_is b.node n (both_are _ _ here).0 in let e = subst (λ z. list_any (has_by node_key z) ns ≡ true) m owned.0 in let f = sym e
      ∙ none in cc)
  | inr not_here ↦ rw not_here (no_block ns n k bs owned.1 none)
]

pub none_there : (number : ℕ) (fs : List Full) → list_any (λ x. x.row.node == number) fs ≡ false → find (λ x. x.row.node == number) fs ≡ None
none_there number [] none = refl
none_there number (x ∷ fs) none = elim (cases_Bool (x.row.node == number)) [
  | inl here ↦ absurd (let e = rw here at none in cc)
  | inr not_here ↦ rw not_here (none_there number fs (rw not_here at none))
]

-- a node without a row in the tree has none in the tables
none_held : (x : Store) (node : ℕ) (g : Bodies) (file : List ℕ) (c : Content) → DescribesAs x g file c → list_any (λ f. f.row.node == node) x.rows.nodes ≡ false
    → list_any (has_by node_key node) c.nodes ≡ false
none_held x node g file c told none =
    ap (list_any (has_by node_key node)) told.nodes ∙ none_any (has_by node_key node) _ (all_in_order node_key (λ r. has_by node_key node r ≡ false)
    (map (λ f. f.row) x.rows.nodes) (no_row node x.rows.nodes none))

no_piece : (ns : List NodeRow) (n k : ℕ) (ps : List Piece) → AllByRecursion (λ p. list_any (has_by node_key p.node) ns ≡ true) ps
    → list_any (has_by node_key n) ns ≡ false → piece_at n k ps ≡ None
no_piece ns n k [] owned none = refl
no_piece ns n k (p ∷ ps) owned none = elim (cases_Bool (has_block n k p)) [
  | inl here ↦ absurd (let m = first (p.node) n (nat_le p.first k && nat_lt k (end_of p)) here in
      let e = subst (λ z. list_any (has_by node_key z) ns ≡ true) m owned.0 in let f = sym e ∙ none in cc)
  | inr not_here ↦ rw not_here (no_piece ns n k ps owned.1 none)
]
  where
    first : (a b : ℕ) (t : Bool) → ((a == b) && t) ≡ true → a ≡ b
    first a b t is = grind (arith, nat_tests)

-- The blocks and pieces after a write describe the content after it. A node without a row has none of either.
module _ (x : Store) (node at : ℕ) (bytes : List ℕ) (file : List ℕ) (c : Content) (d : Database) (holds : Holds c d)
    (told : DescribesAs x (overlay_in node at bytes (bodies_of x.rows)) file c) where
  abbrev after : Store
  after = with_change (changes.Written node at bytes) x

  not_stored : list_any (λ f. f.row.node == node) x.rows.nodes ≡ false → (k : ℕ) → stored_block file c node k ≡ None
  not_stored none k =
      let gone = none_held x node (overlay_in node at bytes (bodies_of x.rows)) file c told none in
      ap (λ b. block_found file k b (piece_at node k c.pieces)) (no_block c.nodes node k c.blocks (blocks_owned c d holds) gone)
      ∙ ap (block_found file k None) (no_piece c.nodes node k c.pieces told.owned gone)

  written_byte : (n i : ℕ) → byte_in file c n i ≡ rows_bytes after.rows n i
  written_byte n i = elim (cases_Bool (n == node)) [
    | inr other ↦ told.bytes n i ∙ (rw other (ap (λ l. byte_at l i) (sym (content_other node (body_written at bytes) n x.rows.nodes other))))
    | inl here ↦
        let m = same_number n node here in
        elim (cases_Bool (list_any (λ f. f.row.node == node) x.rows.nodes)) [
          | inl there ↦
              let was = content_of (full_at x.rows node) in
              told.bytes n i ∙ (rw here (ap (λ z. cond (not (nat_lt i at) && nat_lt i (at + length bytes)) (byte_at bytes (i - at))
              (byte_at (content_of (full_at x.rows z)) i)) m
              ∙ sym (byte_written at bytes was i)
              ∙ ap (λ l. byte_at l i) (sym (content_here node (body_written at bytes) (written at bytes) (λ b. refl) x.rows.nodes there))
              ∙ ap (λ z. rows_bytes after.rows z i) (sym m)))
          | inr none ↦
              ap (λ z. byte_in file c z i) m ∙ ap (λ o. byte_at (unwrap_or o []) (i % block_bytes)) (not_stored none (i / block_bytes))
              ∙ sym (ap (λ o. byte_at (content_of o) i) (none_changed node (body_written at bytes) x.rows.nodes none))
              ∙ ap (λ z. rows_bytes after.rows z i) (sym m)
        ]
  ]

  touched : (o : Option (List ℕ)) (b : Bool) (k : ℕ)
      → IsWrittenAs b (option_map (λ p block. (nat_le (first_touched at) block && nat_lt block (touched_end at (length bytes))) || p block) (option_map is_among o)) k
      → IsWrittenAs b (option_map is_among (option_map (with_touched at (length bytes)) o)) k
  touched None b k was = tt
  touched (Some blocks) b k was = was ∙ sym (among_with (first_touched at) (touched_end at (length bytes)) blocks k)

  written_blocks : (n k : ℕ) → IsWrittenAs (is_written_in file c n k) (rows_written after.rows n) k
  written_blocks n k = elim (cases_Bool (n == node)) [
    | inr other ↦
        subst (λ o. IsWrittenAs (is_written_in file c n k) (option_map is_among o) k) (sym (counted_other node (body_written at bytes) n x.rows.nodes other))
        (subst (λ t. IsWrittenAs (is_written_in file c n k) (cond t (option_map (λ p block. (nat_le (first_touched at) block
        && nat_lt block (touched_end at (length bytes))) || p block) (rows_written x.rows n)) (rows_written x.rows n)) k) other (told.written n k))
    | inl here ↦
        let m = same_number n node here in
        elim (cases_Bool (list_any (λ f. f.row.node == node) x.rows.nodes)) [
          | inl there ↦
              let was = subst (λ t. IsWrittenAs (is_written_in file c n k) (cond t (option_map (λ p block. (nat_le (first_touched at) block
              && nat_lt block (touched_end at (length bytes))) || p block) (rows_written x.rows n)) (rows_written x.rows n)) k) here (told.written n k) in
              subst (λ z. IsWrittenAs (is_written_in file c z k) (rows_written after.rows z) k) (sym m)
              (subst (λ o. IsWrittenAs (is_written_in file c node k) (option_map is_among o) k)
              (sym (counted_here node (body_written at bytes) (option_map (with_touched at (length bytes))) (λ b. refl) x.rows.nodes there))
              (touched (blocks_counted (full_at x.rows node)) (is_written_in file c node k) k
              (subst (λ z. IsWrittenAs (is_written_in file c z k) (option_map (λ p block. (nat_le (first_touched at) block
              && nat_lt block (touched_end at (length bytes))) || p block) (rows_written x.rows z)) k) m was)))
          | inr none ↦
              subst (λ z. IsWrittenAs (is_written_in file c z k) (rows_written after.rows z) k) (sym m)
              (subst (λ o. IsWrittenAs (is_written_in file c node k) (option_map is_among (blocks_counted o)) k)
              (sym (none_changed node (body_written at bytes) x.rows.nodes none)) tt)
        ]
  ]

  -- they begin before its end
  here_within : (k : ℕ) → list_any (has_by node_key node) c.nodes ≡ true → k < ends_grown node (at + length bytes) (rows_ends x.rows) node
      → k < rows_ends after.rows node
  here_within k owned low = elim (cases_Bool (list_any (λ f. f.row.node == node) x.rows.nodes)) [
    | inl there ↦
        let was = content_of (full_at x.rows node) in
        let long = ap length (content_here node (body_written at bytes) (written at bytes) (λ b. refl) x.rows.nodes there) ∙ written_length at bytes was in
        omega (arith, long, most k (length was) low)
    | inr none ↦ absurd (let e = sym owned ∙ none_held x node (overlay_in node at bytes (bodies_of x.rows)) file c told none in cc)
  ]
    where
      most : (i y : ℕ) → i < cond (node == node) (max y (at + length bytes)) y → i < max y (at + length bytes)
      most i y low = by (node == node) low
        where
          by : (b : Bool) → i < cond b (max y (at + length bytes)) y → i < max y (at + length bytes)
          by true low = low
          by false low = omega (arith, low)

  each_within : (n k : ℕ) → list_any (has_by node_key n) c.nodes ≡ true → k < ends_grown node (at + length bytes) (rows_ends x.rows) n → k < rows_ends after.rows n
  each_within n k owned low = elim (cases_Bool (n == node)) [
    | inl its ↦
        let m = same_number n node its in
        subst (λ z. k < rows_ends after.rows z) (sym m) (here_within k (subst (λ z. list_any (has_by node_key z) c.nodes ≡ true) m owned)
        (subst (λ z. k < ends_grown node (at + length bytes) (rows_ends x.rows) z) m low))
    | inr other ↦
        subst (λ l. k < length l) (sym (content_other node (body_written at bytes) n x.rows.nodes other)) (rw other at low)
  ]

  pub written_told : Describes after file c
  written_told = record {
    number = told.number;
    layout = told.layout;
    counters = told.counters;
    nodes = told.nodes ∙ ap (in_order node_key) (sym (rows_same node (body_written at bytes) x.rows.nodes));
    entries = told.entries;
    handles = told.handles;
    answers = told.answers;
    lots = told.lots;
    kept = told.kept;
    attributes = told.attributes;
    bytes = written_byte;
    written = written_blocks;
    within = within_known (λ b. list_any (has_by node_key b.node) c.nodes ≡ true) (ends_grown node (at + length bytes) (rows_ends x.rows)) (rows_ends after.rows)
        (λ b owned low. each_within b.node (b.block * block_bytes) owned low) c.blocks (blocks_owned c d holds) told.within;
    pieces_within = pieces_known (λ p. list_any (has_by node_key p.node) c.nodes ≡ true) (ends_grown node (at + length bytes) (rows_ends x.rows))
        (rows_ends after.rows) (λ p owned low. each_within p.node ((end_of p - 1) * block_bytes) owned low) c.pieces told.owned told.pieces_within;
    pieces = told.pieces;
    owned = told.owned;
    header = told.header;
    settings = told.settings;
    fits = told.fits;
  }

pub written_changed : (f : File) (node at : ℕ) (bytes : List ℕ) (a d : State) → Overlaid f node at bytes a d
    → Changed f (with_change (changes.Written node at bytes)) a d
written_changed f node at bytes a d p = record {
  stays = p.stays;
  within = p.within;
  turns = λ read clean s now.
      let w = p.turns read clean (s, bodies_of s.rows) now in
      record {
        is_open = w.is_open;
        in_transaction = w.in_transaction;
        holds = (
          w.holds.0,
          w.holds.1,
          written_told s node at bytes f.bytes w.holds.0 d.now w.holds.1 w.holds.2,
        );
      };
}
