-- A row of a table is that of one typed row alone: it can be read back.
use Rattle.std.proofs.Common.{◌≡◌, ◌<◌, ◌^◌, ℕ, zero, suc, List, [], ◌∷◌, map, refl, sym, ap, ◌∙◌}
use Rattle.std.specs.List.{AllByRecursion}
use Rattle.std.specs.Int.{w64, cast_signed, cast_unsigned}
use Rattle.std.proofs.lemmas.Int.{of_z-to_z}
use Rattle.sqlite.specs.Order.{Row, column}
use Rattle.fuse_wire.specs.declared.access_mode.AccessMode.{AccessMode}
use Rattle.fuse_wire.specs.declared.access_mode.AccessMode.TheVariants.{ReadOnly, WriteOnly, ReadWrite}
use Rattle.fuse_rows.specs.declared.rows.NodeRow.{NodeRow}
use Rattle.fuse_rows.specs.declared.rows.EntryRow.{EntryRow}
use Rattle.fuse_rows.specs.declared.rows.HandleRow.{HandleRow}
use Rattle.fuse_store_tables.specs.Blocks.{Block, block_row}
use Rattle.fuse_store_tables.specs.Pieces.{Piece, piece_row}
use Rattle.fuse_store_tables.specs.declared.version.Layout.{Layout}
use Rattle.fuse_store_tables.specs.declared.version.Layout.TheVariants.{Second, Third}
use Rattle.fuse_store_tables.specs.Content.{Counter, Kept, HasCount, counter_row, node_row, entry_row, handle_row, lot_row, kept_row, access_code}
use Rattle.fuse_rows.specs.Blocks.{how_many}
use Rattle.std.specs.Prelude.{Option, Some, None, IsSome}
use Rattle.fuse_store_tree.specs.Fits.{KeepsNode, KeepsPiece}
use Rattle.fuse_store_tree.specs.Lots.{int_in, number_in_row, bytes_in_row, lot_in, record_in_row}

-- ---- columns

abbrev bits : Row → ℕ → ℕ
bits r at = cast_unsigned w64 (int_in (column r at))

abbrev mode_of : ℕ → AccessMode
mode_of zero = ReadOnly
mode_of (suc zero) = WriteOnly
mode_of (suc (suc n)) = ReadWrite

-- ---- rows

abbrev counter_in : Row → Counter
counter_in r = record { key = number_in_row r 0; value = number_in_row r 2 }

abbrev written_in : Layout → Row → Option ℕ
written_in Second r = None
written_in Third r = Some (number_in_row r 16)

abbrev node_in : Layout → Row → NodeRow
node_in layout r = record {
  node = number_in_row r 0;
  mode = number_in_row r 2;
  uid = number_in_row r 3;
  gid = number_in_row r 4;
  rdev = number_in_row r 5;
  size = number_in_row r 6;
  atime = record { secs = bits r 7; nanos = number_in_row r 8 };
  mtime = record { secs = bits r 9; nanos = number_in_row r 10 };
  ctime = record { secs = bits r 11; nanos = number_in_row r 12 };
  up = number_in_row r 13;
  subdirs = number_in_row r 14;
  written = written_in layout r;
}

abbrev entry_in : Row → EntryRow
entry_in r = record { cookie = number_in_row r 0; dir = number_in_row r 2; name = bytes_in_row r 3; child = number_in_row r 4 }

abbrev handle_in : Row → HandleRow
handle_in r = record { fh = number_in_row r 0; node = number_in_row r 2; access = mode_of (number_in_row r 3) }

abbrev block_in : Row → Block
block_in r = record { slot = number_in_row r 0; node = number_in_row r 1; block = number_in_row r 2; bytes = bytes_in_row r 3 }

abbrev piece_in : Row → Piece
piece_in r = record {
  slot = number_in_row r 0;
  node = number_in_row r 1;
  first = number_in_row r 2;
  count = number_in_row r 3;
  place = number_in_row r 4;
  sum = bits r 5;
}

mode_back : (m : AccessMode) → mode_of (access_code m) ≡ m
mode_back ReadOnly = refl
mode_back WriteOnly = refl
mode_back ReadWrite = refl

bits_back : (n : ℕ) → n < 2 ^ 64 → cast_unsigned w64 (cast_signed w64 n) ≡ n
bits_back n low = of_z-to_z w64 n low

-- its written blocks are counted in version 3 alone
count_back : (layout : Layout) (n : NodeRow) → HasCount layout n → written_in layout (node_row layout n) ≡ n.written
count_back Second n none = sym none
count_back Third n some = by n.written some
  where
    by : (o : Option ℕ) → IsSome o → Some (how_many o) ≡ o
    by None some = absurd cc
    by (Some count) some = refl

node_back : (layout : Layout) (n : NodeRow) → KeepsNode layout n → node_in layout (node_row layout n) ≡ n
node_back layout n keeps =
    let row = node_row layout n in
    ap (λ o. record n {
      atime = record { secs = bits row 7; nanos = n.atime.nanos };
      mtime = record { secs = bits row 9; nanos = n.mtime.nanos };
      ctime = record { secs = bits row 11; nanos = n.ctime.nanos };
      written = o;
    }) (count_back layout n keeps.count)
    ∙ ap (λ s. record n {
      atime = record { secs = s; nanos = n.atime.nanos };
      mtime = record { secs = bits row 9; nanos = n.mtime.nanos };
      ctime = record { secs = bits row 11; nanos = n.ctime.nanos };
    }) (bits_back n.atime.secs keeps.widths.atime.secs)
    ∙ ap (λ s. record n { mtime = record { secs = s; nanos = n.mtime.nanos }; ctime = record { secs = bits row 11; nanos = n.ctime.nanos } })
    (bits_back n.mtime.secs keeps.widths.mtime.secs)
    ∙ ap (λ s. record n { ctime = record { secs = s; nanos = n.ctime.nanos } }) (bits_back n.ctime.secs keeps.widths.ctime.secs)

-- ---- lists

module _ {X : Type 0} (row : X → Row) (back : Row → X) (P : X → Type 0) (told : (x : X) → P x → back (row x) ≡ x) where
  all_back : (xs : List X) → AllByRecursion P xs → map back (map row xs) ≡ xs
  all_back [] all = refl
  all_back (x ∷ xs) all = ap (λ z. z ∷ map back (map row xs)) (told x all.0) ∙ ap (λ l. x ∷ l) (all_back xs all.1)

  one_such : (xs ys : List X) → AllByRecursion P xs → AllByRecursion P ys → map row xs ≡ map row ys → xs ≡ ys
  one_such xs ys all each same = sym (all_back xs all) ∙ ap (map back) same ∙ all_back ys each

module _ {X : Type 0} (row : X → Row) (back : Row → X) (told : (x : X) → back (row x) ≡ x) where
  any : (xs : List X) → AllByRecursion (λ x. Unit {0}) xs
  any [] = tt
  any (x ∷ xs) = (tt, any xs)

  list_back : (xs : List X) → map back (map row xs) ≡ xs
  list_back xs = all_back row back (λ x. Unit {0}) (λ x p. told x) xs (any xs)

  one_list : (xs ys : List X) → map row xs ≡ map row ys → xs ≡ ys
  one_list xs ys same = one_such row back (λ x. Unit {0}) (λ x p. told x) xs ys (any xs) (any ys) same

pub same_counters : (xs ys : List Counter) → map counter_row xs ≡ map counter_row ys → xs ≡ ys
same_counters = one_list counter_row counter_in (λ x. refl)

pub same_nodes : (layout : Layout) (xs ys : List NodeRow) → AllByRecursion (KeepsNode layout) xs → AllByRecursion (KeepsNode layout) ys
    → map (node_row layout) xs ≡ map (node_row layout) ys → xs ≡ ys
same_nodes layout = one_such (node_row layout) (node_in layout) (KeepsNode layout) (node_back layout)

pub same_entries : (xs ys : List EntryRow) → map entry_row xs ≡ map entry_row ys → xs ≡ ys
same_entries = one_list entry_row entry_in (λ x. refl)

pub same_handles : (xs ys : List HandleRow) → map handle_row xs ≡ map handle_row ys → xs ≡ ys
same_handles = one_list handle_row handle_in (λ x. ap (λ m. record x { access = m }) (mode_back x.access))

pub same_blocks : (xs ys : List Block) → map block_row xs ≡ map block_row ys → xs ≡ ys
same_blocks = one_list block_row block_in (λ x. refl)

pub same_pieces : (xs ys : List Piece) → AllByRecursion KeepsPiece xs → AllByRecursion KeepsPiece ys → map piece_row xs ≡ map piece_row ys → xs ≡ ys
same_pieces = one_such piece_row piece_in KeepsPiece (λ p fits. ap (λ s. record p { sum = s }) (bits_back p.sum fits.sum))

pub same_lots : (xs ys : List ℕ) → map lot_row xs ≡ map lot_row ys → xs ≡ ys
same_lots = one_list lot_row lot_in (λ x. refl)

pub same_kept : (xs ys : List Kept) → map kept_row xs ≡ map kept_row ys → xs ≡ ys
same_kept = one_list kept_row record_in_row (λ x. refl)

pub lots_back : (xs : List ℕ) → map lot_in (map lot_row xs) ≡ xs
lots_back = list_back lot_row lot_in (λ x. refl)

pub kept_back : (xs : List Kept) → map record_in_row (map kept_row xs) ≡ xs
kept_back = list_back kept_row record_in_row (λ x. refl)
