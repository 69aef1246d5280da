-- Pieces that are listed, as bytes that are written.
use Rattle.std.proofs.Common.{◌≡◌, ◌≤◌, ◌<◌, ◌+◌, ◌-◌, ◌*◌, ◌==◌, ◌++◌, ℕ, zero, suc, List, [], ◌∷◌, take, drop, length, Bool, true, false, Option, Some, None, Ok, Err, Result, OnOk, OnErr, IfErr}
use Rattle.std.proofs.Common.{inl, inr, find, refl, sym, ap, subst, arith, ◌∙◌}
use Rattle.std.specs.Prelude.{IsTrue}
use Rattle.std.specs.Option.{is_some}
use Rattle.std.specs.List.{list_any}
use Rattle.std.proofs.lemmas.Bool.{cases_Bool}
use Rattle.std.proofs.lemmas.Bool.Decides.{nat_tests}
use Rattle.std.proofs.lemmas.List.{length-take-le}
use Rattle.std.proofs.Math.Seq.{drop-nil, take-length}
use Rattle.sqlite.specs.State.{State, HasCleanDisk}
use Rattle.fuse_rows.specs.Bounds.{block_bytes}
use Rattle.fuse_rows.specs.declared.rows.Change.TheVariants as changes
use Rattle.fuse_data.specs.declared.extent.Extent.{Extent}
use Rattle.fuse_data.specs.Extents.{IsWhole, bytes_of, past}
use Rattle.fuse_data.specs.Leaving.{KeepsInUse}
use Rattle.fuse_keeper.specs.declared.fault.StoreFault.{StoreFault}
use Rattle.fuse_store_tables.specs.Faults.{IsOutside}
use Rattle.fuse_store_tables.specs.Content.{Content}
use Rattle.fuse_store_tables.specs.declared.pieces.PieceRow.{PieceRow}
use Rattle.fuse_store_tables.specs.Pieces.{Piece}
use Rattle.fuse_store_tables.specs.Moves.{Inside, IsReady, LookedInside, Stays, TurnsTo}
use Rattle.fuse_store_tables.specs.inner.Following.{earlier, inside_then, stays_then}
use Rattle.fuse_store_tables.specs.inner.Performing.{IsSure}
use Rattle.fuse_store_tree.specs.Fits.{Fits}
use Rattle.fuse_store_tree.specs.Pieces.{File, ReadsFile, piece_bytes, byte_at}
use Rattle.fuse_store_tree.specs.Store.{Store, Bodies, DescribesAs, Held, HeldAs, bodies_of}
use Rattle.fuse_store_tree.specs.Widening.{Widens, Shows}
use Rattle.fuse_store_tree.specs.inner.Changing.{Changed, Overlaid}
use Rattle.fuse_store_tree.specs.inner.Laws.{looked_still, looked_fails, read_then}
use Rattle.fuse_store_tree.specs.inner.Listing.{CanList, IsBeside, ListsPiece}
use Rattle.fuse_store_tree.specs.inner.Over.{ChangedOver, OverlaidOver}
use Rattle.fuse_store_tree.specs.inner.Reading.{IsSound}
use Rattle.fuse_store_tree.specs.inner.Relisting.{extent_in}
use Rattle.fuse_store_tree.specs.inner.Writing.{overlay_in, with_change}
use Rattle.fuse_store_tree.proofs.FreeBlocks.{described}
use Rattle.fuse_store_tree.proofs.Overlays.{take_plus}
use Rattle.fuse_store_tree.proofs.PieceLists.{sound_wider}
use Rattle.fuse_store_tree.proofs.Ranges.{drop_length}
use Rattle.fuse_store_tree.proofs.Relistings.{described_listed}
use Rattle.fuse_store_tree.proofs.Views.{bytes_len}
use Rattle.fuse_store_tree.proofs.Writes.{nothing_overlaid, overlaid_joined, written_told}

-- ---- a node

-- what is found is there
pub found_any : {X : Type 0} (p : X → Bool) (xs : List X) (o : Option X) → o ≡ find p xs → is_some o ≡ true → list_any p xs ≡ true
found_any p xs o is some = by xs (sym (ap is_some is) ∙ some)
  where
    by : (ys : List _) → is_some (find p ys) ≡ true → list_any p ys ≡ true
    by [] some = absurd cc
    by (y ∷ ys) some = elim (cases_Bool (p y)) [
      | inl here ↦ rw here refl
      | inr off ↦ rw off (by ys (rw off at some))
    ]

-- ---- bytes that are written

pub overlaid_over : (f g : File) (node at : ℕ) (part : List ℕ) (a b : State) → ReadsFile f g → Overlaid g node at part a b → OverlaidOver f g node at part a b
overlaid_over f g node at part a b on p = record {
  stays = p.stays;
  within = p.within;
  turns = λ read. subst (λ bytes. TurnsTo (HeldAs bytes) (λ w. HeldAs g.bytes (w.0, overlay_in node at part w.1)) a b) on.same (p.turns read);
}

pub nothing_over : (f : File) (node at : ℕ) (a : State) → OverlaidOver f f node at [] a a
nothing_over f node at a =
    let p = nothing_overlaid f node at a in
    record { stays = p.stays; within = p.within; turns = p.turns }

-- after a read
pub looked_over : (f g : File) (node at : ℕ) (part : List ℕ) (a b d : State) → LookedInside a b → OverlaidOver f g node at part b d
    → OverlaidOver f g node at part a d
looked_over f g node at part a b d looked p = record {
  stays = looked_fails a b d looked p.stays;
  within = inside_then a b d looked.within p.stays.survives p.within;
  turns = λ read clean w at.
      let mid = earlier b d _ p.stays.survives clean in
      let c = at.holds.0 in
      let now = looked.same mid c (record { is_open = at.is_open; in_transaction = at.in_transaction; holds = at.holds.1 }) in
      p.turns read clean w (record { is_open = now.is_open; in_transaction = now.in_transaction; holds = (c, now.holds, at.holds.2) });
}

pub overlaid_over_then : (f g h : File) (node at : ℕ) (p q : List ℕ) (a b d : State) → (IsTrue h.is_clean → IsTrue g.is_clean)
    → OverlaidOver f g node at p a b → OverlaidOver g h node (at + length p) q b d → OverlaidOver f h node at (p ++ q) a d
overlaid_over_then f g h node at p q a b d was first second = record {
  stays = stays_then a b d first.stays first.within second.stays;
  within = inside_then a b d first.within second.stays.survives second.within;
  turns = λ read clean w now.
      let mid = first.turns (was read) (earlier b d _ second.stays.survives clean) w now in
      let last = second.turns read clean (w.0, overlay_in node at p w.1) mid in
      record {
        is_open = last.is_open;
        in_transaction = last.in_transaction;
        holds = (last.holds.0, last.holds.1, overlaid_joined node at p q w.0 w.1 h.bytes last.holds.0 last.holds.2);
      };
}

-- ---- parts of bytes

drop_twice : {X : Type 0} (n m : ℕ) (xs : List X) → drop m (drop n xs) ≡ drop (n + m) xs
drop_twice n m [] = ap (drop m) (drop-nil n) ∙ drop-nil m ∙ sym (drop-nil (n + m))
drop_twice zero m (x ∷ xs) = let e : m ≡ 0 + m = omega arith in ap (λ k. drop k (x ∷ xs)) e
drop_twice (suc n) m (x ∷ xs) = drop_twice n m xs ∙ (let e : suc (n + m) ≡ suc n + m = omega arith in ap (λ k. drop k (x ∷ xs)) e)

pub part_long : (from to : ℕ) (bytes : List ℕ) → from ≤ to → to ≤ length bytes → length (take (to - from) (drop from bytes)) ≡ to - from
part_long from to bytes low high = length-take-le (to - from) (drop from bytes) (omega (arith, low, high, drop_length from bytes))

-- two parts, one after the other
parts_joined : (from mid to : ℕ) (bytes : List ℕ) → from ≤ mid → mid ≤ to
    → take (mid - from) (drop from bytes) ++ take (to - mid) (drop mid bytes) ≡ take (to - from) (drop from bytes)
parts_joined from mid to bytes low high =
    let there : from + (mid - from) ≡ mid = omega (arith, low) in
    let all : mid - from + (to - mid) ≡ to - from = omega (arith, low, high) in
    sym (take_plus (mid - from) (to - mid) (drop from bytes) ∙ ap (λ xs. take (mid - from) (drop from bytes) ++ take (to - mid) xs)
    (drop_twice from (mid - from) bytes ∙ ap (λ k. drop k bytes) there)) ∙ ap (λ k. take k (drop from bytes)) all

-- the bytes before a piece, and then the piece
pub up_to : (f v g : File) (node at start from to here : ℕ) (bytes : List ℕ) (a b d : State) → at + start ≡ here → from ≤ start → start ≤ to → to ≤ length bytes
    → (IsTrue g.is_clean → IsTrue v.is_clean) → OverlaidOver f v node (at + from) (take (start - from) (drop from bytes)) a b
    → OverlaidOver v g node here (take (to - start) (drop start bytes)) b d → OverlaidOver f g node (at + from) (take (to - from) (drop from bytes)) a d
up_to f v g node at start from to here bytes a b d is low mid high clean first second =
    let p = take (start - from) (drop from bytes) in
    let q = take (to - start) (drop start bytes) in
    let place : here ≡ at + from + length p = omega (arith, is, low, part_long from start bytes low (omega (arith, mid, high))) in
    subst (λ l. OverlaidOver f g node (at + from) l a d) (parts_joined from start to bytes low mid)
    (overlaid_over_then f v g node (at + from) p q a b d clean first (subst (λ z. OverlaidOver v g node z q b d) place second))

-- more, after what was written
pub up_to_next : (f v g : File) (node at from to : ℕ) (bytes : List ℕ) (a b d : State) → from ≤ to → to ≤ length bytes
    → (IsTrue g.is_clean → IsTrue v.is_clean) → OverlaidOver f v node at (take from bytes) a b
    → OverlaidOver v g node (at + from) (take (to - from) (drop from bytes)) b d → OverlaidOver f g node at (take to bytes) a d
up_to_next f v g node at from to bytes a b d low high clean first second =
    let p = take from bytes in
    let q = take (to - from) (drop from bytes) in
    let long : from ≡ length p = sym (length-take-le from bytes (omega (arith, low, high))) in
    let all : from + (to - from) ≡ to = omega (arith, low) in
    subst (λ l. OverlaidOver f g node at l a d) (sym (take_plus from (to - from) bytes) ∙ ap (λ k. take k bytes) all)
    (overlaid_over_then f v g node at p q a b d clean first (subst (λ z. OverlaidOver v g node (at + z) q b d) long second))

-- and all that is left
pub up_to_all : {X F : Type 0} (r : Result X F) (f v g : File) (node at from : ℕ) (bytes : List ℕ) (a b d : State) → from ≤ length bytes
    → ReadsFile v g → OverlaidOver f v node at (take from bytes) a b
    → OnOk r (Overlaid g node (at + from) (take (length bytes - from) (drop from bytes)) b d) → OnOk r (OverlaidOver f g node at bytes a d)
up_to_all (Err e) f v g node at from bytes a b d low reads first second = tt
up_to_all (Ok x) f v g node at from bytes a b d low reads first second =
    subst (λ l. OverlaidOver f g node at l a d) (take-length bytes)
    (up_to_next f v g node at from (length bytes) bytes a b d low (omega arith) reads.clean first
    (overlaid_over v g node (at + from) (take (length bytes - from) (drop from bytes)) b d reads second))

-- ---- as a change

pub changed_over : {X F : Type 0} (r : Result X F) (f g : File) (made : Store → Store) (a b : State) → ReadsFile f g → OnOk r (Changed g made a b)
    → OnOk r (ChangedOver f g made a b)
changed_over (Err e) f g made a b on p = tt
changed_over (Ok x) f g made a b on p = record {
  stays = p.stays;
  within = p.within;
  turns = λ read. subst (λ bytes. TurnsTo (Held bytes) (λ y. Held g.bytes (made y)) a b) on.same (p.turns read);
}

pieces_changed : {X F : Type 0} (r : Result X F) (f g : File) (node at : ℕ) (bytes : List ℕ) (a b : State) → OnOk r (OverlaidOver f g node at bytes a b)
    → OnOk r (ChangedOver f g (with_change (changes.Written node at bytes)) a b)
pieces_changed (Err e) f g node at bytes a b p = tt
pieces_changed (Ok x) f g node at bytes a b p = record {
  stays = p.stays;
  within = p.within;
  turns = λ read clean s now.
      let w = p.turns read clean (s, bodies_of s.rows) now in
      record {
        is_open = w.is_open;
        in_transaction = w.in_transaction;
        holds = (w.holds.0, w.holds.1, written_told s node at bytes g.bytes w.holds.0 b.now w.holds.1 w.holds.2);
      };
}

-- the same, where they were made of other bytes that are these
pub made_changed : {X F : Type 0} (r : Result X F) (f g : File) (node place at : ℕ) (made bytes : List ℕ) (a b : State) → place ≡ at → made ≡ bytes
    → OnOk r (OverlaidOver f g node place made a b) → OnOk r (ChangedOver f g (with_change (changes.Written node at bytes)) a b)
made_changed r f g node place at made bytes a b same are p =
    pieces_changed r f g node at bytes a b (subst (λ n. OnOk r (OverlaidOver f g node n bytes a b)) same
    (subst (λ l. OnOk r (OverlaidOver f g node place l a b)) are p))

-- ---- a piece that is listed

-- what is described stays where more may be listed
pub described_wider : (f g : List ℕ) → KeepsInUse [] f g → (x : Store) (b : Bodies) (c : Content) → DescribesAs x b f c → DescribesAs x b g c
described_wider f g keeps x b c told = described [] f g keeps x b c (λ k e low block here free. free) told

-- an extent that may be listed from then on, and a read of the data file after it
module _ (f v g : File) (e : Extent) (shows : Shows e f v) (reads : ReadsFile v g) where
  pub shown_kept : KeepsInUse [] f.bytes g.bytes
  shown_kept = subst (λ bytes. KeepsInUse [] f.bytes bytes) (sym reads.same) shows.widens.kept

  pub shown_whole : IsWhole f.contents.seen e → IsWhole v.bytes e
  shown_whole whole = shows.here (subst (λ bytes. IsWhole bytes e) (sym shows.widens.contents.seen) whole)

  shown_same : IsWhole f.contents.seen e → bytes_of g.bytes e ≡ bytes_of f.contents.seen e
  shown_same whole =
      ap (λ bytes. bytes_of bytes e) reads.same ∙ shows.same (subst (λ bytes. IsWhole bytes e) (sym shows.widens.contents.seen) whole)
      ∙ ap (λ bytes. bytes_of bytes e) shows.widens.contents.seen

  module _ (row : PieceRow) (is : extent_in row ≡ e) (bytes : List ℕ) (whole : IsWhole f.contents.seen e) (same : bytes_of f.contents.seen e ≡ bytes) where
    abbrev piece : ℕ → Piece
    piece slot = record { slot = slot; node = row.node; first = row.first; count = row.count; place = row.place; sum = row.sum }

    beside : IsBeside f.bytes (extent_in row)
    beside = subst (IsBeside f.bytes) (sym is) shows.apart

    not_zeros : (row.place == 0) ≡ false
    not_zeros = ap (λ (z : Extent). z.place == 0) is ∙ above e.place whole.placed.place
      where
        above : (n : ℕ) → 1 ≤ n → (n == 0) ≡ false
        above n low = grind (arith, nat_tests)

    its_bytes : (slot : ℕ) → bytes ≡ piece_bytes g.bytes (piece slot)
    its_bytes slot = sym (rw not_zeros (ap (bytes_of g.bytes) is ∙ shown_same whole ∙ same))

    long : length bytes ≡ row.count * block_bytes
    long = sym (ap length same) ∙ bytes_len f.contents.seen e whole.within ∙ ap (λ (z : Extent). z.count * block_bytes) (sym is)

    some : 1 ≤ row.count
    some = subst (λ (z : Extent). 1 ≤ z.count) (sym is) whole.placed.some

    pub piece_overlaid : {X F : Type 0} (r : Result X F) (a b d : State) → LookedInside a b
        → (HasCleanDisk b → (c : Content) → Inside c a → Fits c → CanList row.node c)
        → OnOk r ((file : List ℕ) → KeepsInUse [] file g.bytes → ListsPiece g file row b d)
        → OnOk r (OverlaidOver f g row.node (row.first * block_bytes) bytes a d)
    piece_overlaid (Err x) a b d looked can lists = tt
    piece_overlaid (Ok x) a b d looked can lists =
        let p = lists f.bytes shown_kept in
        record {
          stays = looked_fails a b d looked p.stays;
          within = inside_then a b d looked.within p.stays.survives p.within;
          turns = λ read clean w at.
              let mid = earlier b d _ p.stays.survives clean in
              let c = at.holds.0 in
              let inside : Inside c a = record { is_open = at.is_open; in_transaction = at.in_transaction; holds = at.holds.1 } in
              let told = at.holds.2 in
              let (k, now, (slot, listed)) = p.turns read clean beside c (told.fits, told.pieces) (can mid c inside told.fits) (looked.same mid c inside) in
              record {
                is_open = now.is_open;
                in_transaction = now.in_transaction;
                holds = (
                  k,
                  now.holds,
                  described_listed g.bytes (piece slot) bytes c k listed (its_bytes slot) long some w.0 w.1 (described_wider f.bytes g.bytes shown_kept w.0 w.1 c told),
                );
              };
        }

-- the same, of the row of such a piece
pub row_overlaid : {X F : Type 0} (r : Result X F) (f g : File) (row : PieceRow) (node first : ℕ) (bytes : List ℕ) (a d : State) → row.node ≡ node → row.first ≡ first
    → OnOk r (OverlaidOver f g row.node (row.first * block_bytes) bytes a d) → OnOk r (OverlaidOver f g node (first * block_bytes) bytes a d)
row_overlaid (Err e) f g row node first bytes a d is at p = tt
row_overlaid (Ok x) f g row node first bytes a d is at p =
    subst (λ n. OverlaidOver f g n (first * block_bytes) bytes a d) is (subst (λ k. OverlaidOver f g row.node (k * block_bytes) bytes a d) at p)

-- ---- faults

pub looked_held : (file : List ℕ) (a b : State) → LookedInside a b → HasCleanDisk b → IsReady (HeldAs file) a → IsReady (HeldAs file) b
looked_held file a b looked clean (w, at) =
    let now = looked.same clean at.holds.0 (record { is_open = at.is_open; in_transaction = at.in_transaction; holds = at.holds.1 }) in
    (w, record { is_open = now.is_open; in_transaction = now.in_transaction; holds = (at.holds.0, now.holds, at.holds.2) })

-- one of a step that reads the data file
pub sure_over : {X : Type 0} (f g : File) (a b : State) (r : Result X StoreFault) → ReadsFile f g → IsSure (HeldAs g.bytes) a b r → IsSure (HeldAs f.bytes) a b r
sure_over f g a b r on sure = subst (λ bytes. IsSure (HeldAs bytes) a b r) on.same sure

-- the same, after a read
pub sure_looked : {X : Type 0} (f : File) (a b d : State) (r : Result X StoreFault) → LookedInside a b → OnErr r (Stays b d)
    → IsSure (HeldAs f.bytes) b d r → IsSure (HeldAs f.bytes) a d r
sure_looked f a b d (Ok x) looked stays sure clean = tt
sure_looked f a b d (Err e) looked stays sure clean =
    λ ready. sure clean (looked_held f.bytes a b looked (earlier b d _ stays.survives clean) ready)

-- one of a step on sound contents, over a file that is wider
pub sure_wider : {X : Type 0} (f g : List ℕ) (a b d : State) (r : Result X StoreFault) → KeepsInUse [] f g → LookedInside a b → OnErr r (Stays b d)
    → (HasCleanDisk d → IfErr r (λ e. (c : Content) → Inside c b → IsSound g c → IsOutside e)) → IsSure (HeldAs f) a d r
sure_wider f g a b d (Ok x) keeps looked stays told clean = tt
sure_wider f g a b d (Err e) keeps looked stays told clean = λ (w, at).
    let c = at.holds.0 in
    told clean c (looked.same (earlier b d _ stays.survives clean) c (record { is_open = at.is_open; in_transaction = at.in_transaction; holds = at.holds.1 }))
    (sound_wider f g keeps c (at.holds.2.fits, at.holds.2.pieces))

-- one of a read
pub sure_fits : {X : Type 0} (file : List ℕ) (a b : State) (r : Result X StoreFault)
    → (HasCleanDisk b → IfErr r (λ e. (c : Content) → Inside c a → Fits c → IsOutside e)) → IsSure (HeldAs file) a b r
sure_fits file a b (Ok x) told clean = tt
sure_fits file a b (Err e) told clean = λ (w, at). told clean at.holds.0
    (record { is_open = at.is_open; in_transaction = at.in_transaction; holds = at.holds.1 }) at.holds.2.fits
