-- Parts of the bytes of a block, by what was read of it.
use Rattle.std.proofs.Common.{◌≡◌, ◌≤◌, ◌<◌, ◌+◌, ◌-◌, ◌*◌, ◌/◌, ◌%◌, ◌==◌, inl, inr, ℕ, List, [], ◌∷◌, ◌++◌, find, take, drop, length, replicate}
use Rattle.std.proofs.Common.{Bool, true, false, Option, Some, None, IfSome, option_map, refl, sym, ap, subst, arith, ◌∙◌}
use Rattle.std.specs.Prelude.{IsTrue, unwrap_or}
use Rattle.std.specs.Option.{is_some}
use Rattle.fuse_store_tree.specs.inner.Relisting.{piece_block}
use Rattle.std.proofs.lemmas.Bool.Decides.{nat_tests}
use Rattle.std.proofs.lemmas.List.{take-take, drop-take, drop-drop, take-replicate, drop-replicate, length-replicate}
use Rattle.fuse_rows.specs.Bounds.{block_bytes}
use Rattle.fuse_data.specs.Extents.{IsWhole as IsWholeExtent, bytes_of}
use Rattle.fuse_store_tables.specs.declared.pieces.PieceRow.{PieceRow}
use Rattle.fuse_store_tables.specs.Blocks.{Block, block_at}
use Rattle.fuse_store_tables.specs.Pieces.{Piece}
use Rattle.fuse_store_tables.specs.Content.{Content}
use Rattle.fuse_store_tables.specs.Ranges.{row_of}
use Rattle.fuse_store_tree.specs.declared.range_reads.BlockRow.{BlockRow}
use Rattle.fuse_store_tree.specs.Fits.{IsWhole}
use Rattle.fuse_store_tree.specs.Pieces.{File, is_zeros, end_of, piece_at, piece_bytes, block_in_piece, block_found, stored_block, byte_in, is_written_in}
use Rattle.fuse_store_tree.specs.inner.Reading.{range_of, whole_of, one_if, IsSound, IsInFile}
use Rattle.fuse_store_tree.specs.declared.range_reads.HeldPiece.{HeldPiece}
use Rattle.fuse_store_tree.specs.inner.Showing.{row_bytes, row_has, extent_in, ShowsBlock, ShowsRange, HoldsAny}
use Rattle.fuse_store_tree.proofs.Looks.{block_is}
use Rattle.fuse_store_tree.proofs.Ranges.{piece_is, range_more}
use Rattle.fuse_store_tree.proofs.StoredBytes.{piece_found, block_long, IsFoundAt}

-- ---- its row

-- the bytes are those of the block
record IsRow (file : List ℕ) (c : Content) (node block : ℕ) (bytes : List ℕ) : Type 0 where
  long : length bytes ≡ block_bytes
  is : bytes ≡ whole_of (stored_block file c node block)

-- the row is that of the piece that has the block
record IsPiece (file : List ℕ) (c : Content) (node block : ℕ) (r : PieceRow) : Type 0 where
  p : Piece
  at : piece_at node block c.pieces ≡ Some p
  same : r ≡ row_of p
  found : IsFoundAt file node block p

module _ (file : List ℕ) (c : Content) (node here : ℕ) (rows : List BlockRow) (pieces : List PieceRow)
    (shows : ShowsBlock node (here / block_bytes) rows pieces c) (sound : IsSound file c) where
  abbrev block : ℕ
  block = here / block_bytes

  row_is : (bytes : List ℕ) → row_bytes block rows ≡ Some bytes → IsRow file c node block bytes
  row_is bytes found = by (block_at node block c.blocks) refl (sym found ∙ shows.row) (block_is node block c.blocks sound.0.blocks)
    where
      by : (o : Option Block) → block_at node block c.blocks ≡ o → Some bytes ≡ option_map (λ (b : Block). b.bytes) (block_at node block c.blocks)
          → IfSome (block_at node block c.blocks) IsWhole → IsRow file c node block bytes
      by (Some b) is told whole =
          let same : bytes ≡ b.bytes = let e = rw is at told in cc in
          let long = rw is at whole in
          record { long = ap length same ∙ long; is = same ∙ ap (λ o. whole_of (block_found file block o (piece_at node block c.pieces))) (sym is) }
      by None is told whole = absurd (let e = rw is at told in cc)

  pub row_long : (bytes : List ℕ) → row_bytes block rows ≡ Some bytes → length bytes ≡ block_bytes
  row_long bytes found = (row_is bytes found).long

  pub row_part : (bytes : List ℕ) (n : ℕ) → row_bytes block rows ≡ Some bytes → here % block_bytes + n ≤ block_bytes
      → take n (drop (here % block_bytes) bytes) ≡ range_of (byte_in file c node) here n
  row_part bytes n found within = let row = row_is bytes found in piece_is file c node here n bytes row.is row.long within

  -- ---- its piece

  no_row : row_bytes block rows ≡ None → block_at node block c.blocks ≡ None
  no_row none = by (block_at node block c.blocks) refl (sym none ∙ shows.row)
    where
      by : (o : Option Block) → block_at node block c.blocks ≡ o → None ≡ option_map (λ (b : Block). b.bytes) (block_at node block c.blocks)
          → block_at node block c.blocks ≡ None
      by None is told = is
      by (Some b) is told = absurd (let e = rw is at told in cc)

  of_piece : row_bytes block rows ≡ None → (o : Option Piece) → piece_at node block c.pieces ≡ o → stored_block file c node block ≡ block_found file block None o
  of_piece none o is = ap (λ b. block_found file block b (piece_at node block c.pieces)) (no_row none) ∙ ap (block_found file block None) is

  piece_told : (r : PieceRow) → find (row_has block) pieces ≡ Some r → IsPiece file c node block r
  piece_told r found = by (piece_at node block c.pieces) refl (sym found ∙ shows.piece) (piece_found file node block c.pieces sound.1.whole)
    where
      by : (o : Option Piece) → piece_at node block c.pieces ≡ o → Some r ≡ option_map row_of (piece_at node block c.pieces)
          → IfSome (piece_at node block c.pieces) (IsFoundAt file node block) → IsPiece file c node block r
      by (Some p) is told at = record { p = p; at = is; same = (let e = rw is at told in cc); found = rw is at at }
      by None is told at = absurd (let e = rw is at told in cc)

  pub piece_whole : (r : PieceRow) → find (row_has block) pieces ≡ Some r → (r.place == 0) ≡ false → IsWholeExtent file (extent_in r)
  piece_whole r found placed =
      let piece = piece_told r found in
      subst (λ (x : PieceRow). IsWholeExtent file (extent_in x)) (sym piece.same) (piece.found.whole (ap (λ (x : PieceRow). x.place == 0) (sym piece.same) ∙ placed))

  pub piece_part : (r : PieceRow) (n : ℕ) → row_bytes block rows ≡ None → find (row_has block) pieces ≡ Some r → (r.place == 0) ≡ false
      → here % block_bytes + n ≤ block_bytes
      → take n (drop (here - r.first * block_bytes) (bytes_of file (extent_in r))) ≡ range_of (byte_in file c node) here n
  piece_part r n none found placed within =
      let piece = piece_told r found in
      let p = piece.p in
      let bytes = ap (λ (x : PieceRow). x.place == 0) (sym piece.same) ∙ placed in
      ap (λ (x : PieceRow). take n (drop (here - x.first * block_bytes) (bytes_of file (extent_in x)))) piece.same
      ∙ part_of p n bytes piece.found within
      ∙ piece_is file c node here n (block_in_piece file block p) (sym (ap whole_of (of_piece none (Some p) piece.at))) (block_long file node block p piece.found) within
    where
      take_within : (k m l : ℕ) (xs : List ℕ) → m + k ≤ l → take k (drop m (take l xs)) ≡ take k (drop m xs)
      take_within k m l xs low =
          let e : l ≡ m + (l - m) = omega (arith, low) in
          ap (λ z. take k (drop m (take z xs))) e ∙ ap (take k) (drop-take m (l - m) xs) ∙ take-take k (l - m) (drop m xs) (omega (arith, low))

      place : (p : Piece) → p.first ≤ block → (block - p.first) * block_bytes + here % block_bytes ≡ here - p.first * block_bytes
      place p from = omega (arith, from)

      part_of : (p : Piece) (k : ℕ) → is_zeros p ≡ false → IsFoundAt file node block p → here % block_bytes + k ≤ block_bytes
          → take k (drop (here - p.first * block_bytes) (bytes_of file (extent_in (row_of p)))) ≡ take k (drop (here % block_bytes) (block_in_piece file block p))
      part_of p k bytes found low =
          let from = found.from in
          rw bytes (sym (take_within k (here % block_bytes) block_bytes (drop ((block - p.first) * block_bytes) (bytes_of file (extent_in (row_of p)))) low
          ∙ ap (take k) (drop-drop (here % block_bytes) ((block - p.first) * block_bytes) (bytes_of file (extent_in (row_of p))))
          ∙ ap (λ m. take k (drop m (bytes_of file (extent_in (row_of p))))) (place p from)))

  -- ---- neither, or zeros

  zeros_stored : row_bytes block rows ≡ None → (o : Option PieceRow) → find (row_has block) pieces ≡ o → IfSome o (λ (r : PieceRow). (r.place == 0) ≡ true)
      → whole_of (stored_block file c node block) ≡ replicate block_bytes 0
  zeros_stored none None found zeros = ap whole_of (of_piece none None (none_told (piece_at node block c.pieces) refl (sym found ∙ shows.piece)))
    where
      none_told : (o : Option Piece) → piece_at node block c.pieces ≡ o → None ≡ option_map row_of (piece_at node block c.pieces) → piece_at node block c.pieces ≡ None
      none_told None is told = is
      none_told (Some p) is told = absurd (let e = rw is at told in cc)
  zeros_stored none (Some r) found zeros =
      let piece = piece_told r found in
      let p = piece.p in
      ap whole_of (of_piece none (Some p) piece.at) ∙ of_zeros p (ap (λ (x : PieceRow). x.place == 0) (sym piece.same) ∙ zeros) piece.found
    where
      of_zeros : (p : Piece) → is_zeros p ≡ true → IsFoundAt file node block p → block_in_piece file block p ≡ replicate block_bytes 0
      of_zeros p zeros found =
          let from = found.from in
          let to = found.to in
          rw zeros (ap (take block_bytes) (drop-replicate ((block - p.first) * block_bytes) (p.count * block_bytes) 0)
          ∙ take-replicate block_bytes (p.count * block_bytes - (block - p.first) * block_bytes) 0 (omega (arith, from, to)))

  pub zeros_part : (n : ℕ) (o : Option PieceRow) → row_bytes block rows ≡ None → find (row_has block) pieces ≡ o → IfSome o (λ (r : PieceRow). (r.place == 0) ≡ true)
      → here % block_bytes + n ≤ block_bytes → replicate n 0 ≡ range_of (byte_in file c node) here n
  zeros_part n o none found zeros within =
      sym (cut n (here % block_bytes) within)
      ∙ piece_is file c node here n (replicate block_bytes 0) (sym (zeros_stored none o found zeros)) (length-replicate {A = ℕ} block_bytes 0) within
    where
      cut : (k m : ℕ) → m + k ≤ block_bytes → take {A = ℕ} k (drop m (replicate block_bytes 0)) ≡ replicate k 0
      cut k m low = ap (take k) (drop-replicate m block_bytes 0) ∙ take-replicate k (block_bytes - m) 0 (omega (arith, low))

-- ---- single blocks

-- a block with a row
pub row_stored : (file : List ℕ) (c : Content) (node block : ℕ) (bytes : List ℕ) → Some bytes ≡ option_map (λ (b : Block). b.bytes) (block_at node block c.blocks)
    → stored_block file c node block ≡ Some bytes
row_stored file c node block bytes told = by (block_at node block c.blocks) refl
  where
    by : (o : Option Block) → block_at node block c.blocks ≡ o → stored_block file c node block ≡ Some bytes
    by (Some b) is = ap (λ o. block_found file block o (piece_at node block c.pieces)) is ∙ sym (rw is at told)
    by None is = absurd (let e = rw is at told in cc)

pub row_is_some : (c : Content) (node block : ℕ) (bytes : List ℕ) → Some bytes ≡ option_map (λ (b : Block). b.bytes) (block_at node block c.blocks)
    → true ≡ is_some (block_at node block c.blocks)
row_is_some c node block bytes told = by (block_at node block c.blocks) refl
  where
    by : (o : Option Block) → block_at node block c.blocks ≡ o → true ≡ is_some (block_at node block c.blocks)
    by (Some b) is = rw is refl
    by None is = absurd (let e = rw is at told in cc)

-- one without
pub row_is_none : (c : Content) (node block : ℕ) → None ≡ option_map (λ (b : Block). b.bytes) (block_at node block c.blocks) → block_at node block c.blocks ≡ None
row_is_none c node block told = by (block_at node block c.blocks) refl
  where
    by : (o : Option Block) → block_at node block c.blocks ≡ o → block_at node block c.blocks ≡ None
    by (Some b) is = absurd (let e = rw is at told in cc)
    by None is = is

pub none_stored : (file : List ℕ) (c : Content) (node block : ℕ) → None ≡ option_map (λ (b : Block). b.bytes) (block_at node block c.blocks)
    → stored_block file c node block ≡ piece_block file c.pieces node block
none_stored file c node block told = ap (λ o. block_found file block o (piece_at node block c.pieces)) (row_is_none c node block told)

-- the piece of a block, or none
pub piece_is_written : (file : List ℕ) (c : Content) (node block : ℕ) → is_some (piece_block file c.pieces node block) ≡ is_some (piece_at node block c.pieces)
piece_is_written file c node block = by (piece_at node block c.pieces)
  where
    by : (o : Option Piece) → is_some (block_found file block None o) ≡ is_some o
    by None = refl
    by (Some p) = refl

pub piece_bytes_told : (file : List ℕ) (c : Content) (node block : ℕ) (r : PieceRow) (bytes : List ℕ) → Some r ≡ option_map row_of (piece_at node block c.pieces)
    → ((p : Piece) → row_of p ≡ r → bytes ≡ block_in_piece file block p) → bytes ≡ whole_of (piece_block file c.pieces node block)
piece_bytes_told file c node block r bytes told value = by (piece_at node block c.pieces) refl
  where
    by : (o : Option Piece) → piece_at node block c.pieces ≡ o → bytes ≡ whole_of (piece_block file c.pieces node block)
    by (Some p) is =
        let same : row_of p ≡ r = let e = rw is at told in cc in
        value p same ∙ ap (λ o. whole_of (block_found file block None o)) (sym is)
    by None is = absurd (let e = rw is at told in cc)

-- the piece that was found is in the data file
pub piece_in_file : (file : List ℕ) (c : Content) (node block : ℕ) (r : PieceRow) → Some r ≡ option_map row_of (piece_at node block c.pieces) → IsSound file c
    → (p : Piece) × (row_of p ≡ r) × IsInFile file p
piece_in_file file c node block r told sound = by (piece_at node block c.pieces) refl (piece_found file node block c.pieces sound.1.whole)
  where
    by : (o : Option Piece) → piece_at node block c.pieces ≡ o → IfSome (piece_at node block c.pieces) (IsFoundAt file node block)
        → (p : Piece) × (row_of p ≡ r) × IsInFile file p
    by (Some p) is found = let at = rw is at found in (p, (let e = rw is at told in cc), at.whole)
    by None is found = absurd (let e = rw is at told in cc)

pub piece_there : (c : Content) (node block : ℕ) (r : PieceRow) → Some r ≡ option_map row_of (piece_at node block c.pieces)
    → true ≡ is_some (piece_at node block c.pieces)
piece_there c node block r told = by (piece_at node block c.pieces) refl
  where
    by : (o : Option Piece) → piece_at node block c.pieces ≡ o → true ≡ is_some (piece_at node block c.pieces)
    by (Some p) is = rw is refl
    by None is = absurd (let e = rw is at told in cc)

pub piece_nowhere : (c : Content) (node block : ℕ) → None ≡ option_map row_of (piece_at node block c.pieces) → false ≡ is_some (piece_at node block c.pieces)
piece_nowhere c node block told = by (piece_at node block c.pieces) refl
  where
    by : (o : Option Piece) → piece_at node block c.pieces ≡ o → false ≡ is_some (piece_at node block c.pieces)
    by (Some p) is = absurd (let e = rw is at told in cc)
    by None is = rw is refl

pub no_piece_stored : (file : List ℕ) (c : Content) (node block : ℕ) → None ≡ option_map row_of (piece_at node block c.pieces)
    → piece_block file c.pieces node block ≡ None
no_piece_stored file c node block told = by (piece_at node block c.pieces) refl
  where
    by : (o : Option Piece) → piece_at node block c.pieces ≡ o → piece_block file c.pieces node block ≡ None
    by None is = ap (block_found file block None) is
    by (Some p) is = absurd (let e = rw is at told in cc)

-- ---- a range

-- the block of a byte of the range
pub block_of_range : (node at len done : ℕ) (rows : List BlockRow) (pieces : List PieceRow) (c : Content) → done < len → ShowsRange node at len rows pieces c
    → ShowsBlock node ((at + done) / block_bytes) rows pieces c
block_of_range node at len done rows pieces c low shows = shows ((at + done) / block_bytes) (first at done) (last at len done low)
  where
    first : (a d : ℕ) → a / block_bytes ≤ (a + d) / block_bytes
    first a d = omega arith

    last : (a l d : ℕ) → d < l → (a + d) / block_bytes * block_bytes < a + l
    last a l d less = omega (arith, less)

-- nothing is held
pub none_held : (f : File) (o : Option HeldPiece) → o ≡ None → HoldsAny f o
none_held f o none = subst (HoldsAny f) (sym none) tt

-- one block more, over the same data file
pub range_next : (old new : List ℕ) (c : Content) (node at done n : ℕ) (out more : List ℕ) → new ≡ old → IsSound new c
    → (IsSound old c → out ≡ range_of (byte_in old c node) at done)
    → more ≡ out ++ range_of (byte_in new c node) (at + done) n → more ≡ range_of (byte_in new c node) at (done + n)
range_next old new c node at done n out more same sound before now =
    now ∙ ap (λ l. l ++ range_of (byte_in new c node) (at + done) n) (earlier (subst (λ l. IsSound l c → out ≡ range_of (byte_in l c node) at done) (sym same) before))
    ∙ sym (range_more (byte_in new c node) at done n)
  where
    earlier : (IsSound new c → out ≡ range_of (byte_in new c node) at done) → out ≡ range_of (byte_in new c node) at done
    earlier told = told sound

-- ---- the row of a block

pub row_found : (n : ℕ) (rows : List BlockRow) (r : BlockRow) → Some r ≡ find (λ (x : BlockRow). x.block == n) rows → row_bytes n rows ≡ Some r.bytes.items
row_found n rows r is = ap (option_map (λ (x : BlockRow). x.bytes.items)) (sym is)

pub row_missing : (n : ℕ) (rows : List BlockRow) → None ≡ find (λ (x : BlockRow). x.block == n) rows → row_bytes n rows ≡ None
row_missing n rows is = ap (option_map (λ (x : BlockRow). x.bytes.items)) (sym is)

-- ---- places

pub is_zero : (n : ℕ) → n ≡ 0 → (n == 0) ≡ true
is_zero n same = grind (arith, nat_tests)

pub not_zero : (n : ℕ) → (n ≡ 0 → ⊥) → (n == 0) ≡ false
not_zero n differs = grind (arith, nat_tests)

-- ---- counts

pub row_counts : (file : List ℕ) (c : Content) (node block : ℕ) → true ≡ is_some (block_at node block c.blocks) → 1 ≡ one_if (is_written_in file c node block)
row_counts file c node block there = by (block_at node block c.blocks) refl
  where
    by : (o : Option Block) → block_at node block c.blocks ≡ o → 1 ≡ one_if (is_written_in file c node block)
    by (Some b) is = rw is refl
    by None is = absurd (let e = rw is at there in cc)

pub piece_counts : (file : List ℕ) (c : Content) (node block : ℕ) (r : PieceRow) → false ≡ is_some (block_at node block c.blocks)
    → Some r ≡ option_map row_of (piece_at node block c.pieces) → 1 ≡ one_if (is_written_in file c node block)
piece_counts file c node block r none told = by (block_at node block c.blocks) (piece_at node block c.pieces) refl refl
  where
    by : (o : Option Block) (p : Option Piece) → block_at node block c.blocks ≡ o → piece_at node block c.pieces ≡ p → 1 ≡ one_if (is_written_in file c node block)
    by (Some b) p is at = absurd (let e = rw is at none in cc)
    by None (Some p) is at = ap (λ o. one_if (is_some (block_found file block o (Some p)))) (sym is) ∙ ap (λ o. one_if (is_some (block_found file block (block_at node block c.blocks) o))) (sym at)
    by None None is at = absurd (let e = subst (λ o. Some r ≡ option_map row_of o) at told in cc)

pub none_counts : (file : List ℕ) (c : Content) (node block : ℕ) → false ≡ is_some (block_at node block c.blocks)
    → None ≡ option_map row_of (piece_at node block c.pieces) → 0 ≡ one_if (is_written_in file c node block)
none_counts file c node block none told = by (block_at node block c.blocks) (piece_at node block c.pieces) refl refl
  where
    by : (o : Option Block) (p : Option Piece) → block_at node block c.blocks ≡ o → piece_at node block c.pieces ≡ p → 0 ≡ one_if (is_written_in file c node block)
    by (Some b) p is at = absurd (let e = rw is at none in cc)
    by None (Some p) is at = absurd (let e = subst (λ o. None ≡ option_map row_of o) at told in cc)
    by None None is at = ap (λ o. one_if (is_some (block_found file block o None))) (sym is) ∙ ap (λ o. one_if (is_some (block_found file block (block_at node block c.blocks) o))) (sym at)

-- ---- the bytes of one block

pub zeros_read : (file : List ℕ) (r : PieceRow) (n : ℕ) (v : List ℕ) → r.place ≡ 0 → r.first ≤ n → n < r.first + r.count → v ≡ replicate block_bytes 0
    → (p : Piece) → row_of p ≡ r → v ≡ block_in_piece file n p
zeros_read file r n v zero from to is p same =
    let place : p.place ≡ 0 = ap (λ (x : PieceRow). x.place) same ∙ zero in
    let first : p.first ≡ r.first = ap (λ (x : PieceRow). x.first) same in
    let count : p.count ≡ r.count = ap (λ (x : PieceRow). x.count) same in
    let begins : p.first ≤ n = omega (arith, first, from) in
    let ends : n < p.first + p.count = omega (arith, first, count, to) in
    is ∙ sym (rw (is_zero p.place place) (ap (take block_bytes) (drop-replicate ((n - p.first) * block_bytes) (p.count * block_bytes) 0)
    ∙ take-replicate block_bytes (p.count * block_bytes - (n - p.first) * block_bytes) 0 (omega (arith, begins, ends))))

pub piece_read : (file : List ℕ) (r : PieceRow) (n : ℕ) (bytes v : List ℕ) → (r.place ≡ 0 → ⊥) → bytes ≡ bytes_of file (extent_in r)
    → v ≡ take block_bytes (drop ((n - r.first) * block_bytes) bytes) → (p : Piece) → row_of p ≡ r → v ≡ block_in_piece file n p
piece_read file r n bytes v placed read is p same =
    is ∙ ap (λ l. take block_bytes (drop ((n - r.first) * block_bytes) l)) read
    ∙ subst (λ (x : PieceRow). take block_bytes (drop ((n - x.first) * block_bytes) (bytes_of file (extent_in x))) ≡ block_in_piece file n p) same
    (rw (not_zero p.place (λ zero. placed (sym (ap (λ (x : PieceRow). x.place) same) ∙ zero))) refl)
