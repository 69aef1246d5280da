-- The entries after a cookie with the rows of their nodes, as rows were read.
use Rattle.std.proofs.Common.{◌≡◌, ◌<◌, ◌+◌, ◌∷◌, ℕ, pos, List, [], map, slice_get, length, Option, Some, None, IfSome, ◌++◌, refl, sym, ap, ap₂, subst, arith, ◌∙◌}
use Rattle.std.proofs.lemmas.List.{append-nil}
use Rattle.std.specs.List.{AllByRecursion}
use Rattle.std.specs.Option.{option_to_list}
use Rattle.sqlite.specs.Order.{Row, column}
use Rattle.sqlite.specs.declared.types.Value.{Value}
use Rattle.sqlite.specs.declared.types.Value.TheVariants.{Int, Blob}
use Rattle.fuse_rows.specs.declared.rows.NodeRow.{NodeRow}
use Rattle.fuse_rows.specs.declared.rows.EntryRow.{EntryRow}
use Rattle.fuse_rows.specs.declared.rows.Child.{Child}
use Rattle.fuse_rows.specs.Rows.{with_child}
use Rattle.fuse_tree.specs.Rowed.{IsRowed}
use Rattle.fuse_store_tables.specs.declared.version.Layout.{Layout}
use Rattle.fuse_store_tables.specs.declared.version.Layout.TheVariants.{Second, Third}
use Rattle.fuse_store_tables.specs.Content.{Content, HasWidths, HasCount, node_key, node_columns, columns_of, shown_entry, shown_child}
use Rattle.fuse_store_tree.specs.Fits.{Fits, KeepsNode}
use Rattle.fuse_store_tree.specs.Store.{Store}
use Rattle.fuse_store_tree.specs.inner.Reading.{node_width, child_in, shown_beside, IsReadBack, Describes}
use Rattle.fuse_store_tree.proofs.Looks.{found_is}
use Rattle.fuse_store_tree.proofs.ListingLemmas.{entry_none}
use Rattle.fuse_store_tree.proofs.Described.{row_told}

abbrev pub child_none : Child
child_none = record { entry = entry_none; row = None }

-- the first of the rows of a node that was found is the node's
pub first_is : (layout : Layout) (P : Option NodeRow → Type 0) (rows : List Row) (row : Row) → Some row ≡ slice_get rows 0 → (o : Option NodeRow)
    → rows ≡ map (node_columns layout) (option_to_list o) → ((n : NodeRow) → row ≡ node_columns layout n ++ [] → P (Some n)) → P o
first_is layout P rows row at None is known = absurd (let none = at ∙ ap (λ rs. slice_get rs 0) is in cc)
first_is layout P rows row at (Some n) is known = let same = at ∙ ap (λ rs. slice_get rs 0) is in
    let e : row ≡ node_columns layout n = cc in known n (e ∙ sym (append-nil (node_columns layout n)))

-- ---- the cells of a row

-- those of the entry, after those of the node
pub record Cells (layout : Layout) (e : EntryRow) (row : Row) : Type 0 where
  pub cookie : column row (node_width layout) ≡ Int (pos e.cookie)
  pub name : column row (node_width layout + 1) ≡ Blob e.name
  pub child : column row (node_width layout + 2) ≡ Int (pos e.child)
  pub long : node_width layout + 2 < length row

cells_of : (layout : Layout) (o : Option NodeRow) (e : EntryRow) → Cells layout e (columns_of layout o ++ shown_entry e)
cells_of Second None e = record { cookie = refl; name = refl; child = refl; long = omega arith }
cells_of Second (Some n) e = record { cookie = refl; name = refl; child = refl; long = omega arith }
cells_of Third None e = record { cookie = refl; name = refl; child = refl; long = omega arith }
cells_of Third (Some n) e = record { cookie = refl; name = refl; child = refl; long = omega arith }

pub cells : (layout : Layout) (x : Child) (row : Row) → row ≡ shown_beside layout x → Cells layout x.entry row
cells layout x row is =
    let c = cells_of layout x.row x.entry in
    record {
      cookie = ap (λ r. column r (node_width layout)) is ∙ c.cookie;
      name = ap (λ r. column r (node_width layout + 1)) is ∙ c.name;
      child = ap (λ r. column r (node_width layout + 2)) is ∙ c.child;
      long = subst (λ (r : Row). node_width layout + 2 < length r) (sym is) c.long;
    }

-- a node that is read back has its number, its widths and its count
back_of : (layout : Layout) (child : ℕ) (o : Option NodeRow) (number : ℕ) → child ≡ number → IfSome o (λ n. KeepsNode layout n × (n.node ≡ number))
    → IfSome o (λ n. HasWidths n × HasCount layout n × (n.node ≡ child))
back_of layout child None number same back = tt
back_of layout child (Some n) number same back = (back.0.widths, back.0.count, back.1 ∙ sym same)

pub widths_of : (layout : Layout) (o : Option NodeRow) (number : ℕ) → IfSome o (λ n. KeepsNode layout n × (n.node ≡ number)) → IfSome o HasWidths
widths_of layout None number back = tt
widths_of layout (Some n) number back = back.0.widths

-- what is read of the row of an entry and its node is these
module _ (layout : Layout) (x : Child) (row : Row) (at : ℕ) (place : at ≡ node_width layout) (is : row ≡ shown_beside layout x) where
  pub cookie_there : column row at ≡ Int (pos x.entry.cookie)
  cookie_there = ap (column row) place ∙ (cells layout x row is).cookie

  pub name_there : column row (at + 1) ≡ Blob x.entry.name
  name_there = ap (λ n. column row (n + 1)) place ∙ (cells layout x row is).name

  pub child_there : column row (at + 2) ≡ Int (pos x.entry.child)
  child_there = ap (λ n. column row (n + 2)) place ∙ (cells layout x row is).child

  pub long_there : at + 2 < length row
  long_there = subst (λ n. n + 2 < length row) (sym place) (cells layout x row is).long

-- the entry that is read, and its node, are these
pub child_told : (layout : Layout) (x : Child) (row : Row) → {dir : ℕ} → IsReadBack layout dir x → row ≡ shown_beside layout x → (e : EntryRow) → e ≡ x.entry
    → (found : Option NodeRow)
    → ((o : Option NodeRow) (more : List Value) → IfSome o (λ n. HasWidths n × HasCount layout n × (n.node ≡ e.child)) → row ≡ columns_of layout o ++ more
    → found ≡ o)
    → ◌≡◌ {A = Child} (record { entry = e; row = found }) x
child_told layout x row back is e same found told =
    let row_is = told x.row (shown_entry x.entry) (back_of layout e.child x.row x.entry.child (ap (λ (d : EntryRow). d.child) same) back.1) is in
    ap₂ (λ d o. record { entry = d; row = o }) same row_is

-- ---- lists of them

pub shown_all : (c : Content) (es : List EntryRow) → map (shown_child c) es ≡ map (shown_beside c.layout) (map (child_in c) es)
shown_all c [] = refl
shown_all c (e ∷ es) = ap (λ more. shown_child c e ∷ more) (shown_all c es)

pub all_read_back : (dir : ℕ) (c : Content) (es : List EntryRow) → Fits c → AllByRecursion (λ e. e.dir ≡ dir) es
    → AllByRecursion (IsReadBack c.layout dir) (map (child_in c) es)
all_read_back dir c [] fits all = tt
all_read_back dir c (e ∷ es) fits all = ((all.0, found_is node_key e.child (KeepsNode c.layout) c.nodes fits.nodes), all_read_back dir c es fits all.1)

module _ (x : Store) (file : List ℕ) (c : Content) (rowed : IsRowed x.rows) (at : Describes x file c) where
  pub children_told : (es : List EntryRow) → map (child_in c) es ≡ map (with_child x.rows) es
  children_told [] = refl
  children_told (e ∷ es) = ap₂ (λ row more. (record { entry = e; row = row }) ∷ more) (row_told x file c rowed at e.child) (children_told es)
