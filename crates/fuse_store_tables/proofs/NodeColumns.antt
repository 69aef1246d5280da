-- The columns of a node, read one after the other.
use Rattle.std.proofs.Common.{◌≡◌, ℕ, pos, List, ◌++◌, Option, Ok, Err, Result, IfErr, IsErrAnd, refl, sym, ap, subst, ◌∙◌}
use Rattle.sqlite.specs.declared.types.Value.{Value}
use Rattle.sqlite.specs.declared.types.Value.TheVariants.{Int}
use Rattle.sqlite.specs.Order.{Row, column}
use Rattle.fuse_wire.specs.declared.moment.Moment.{Moment}
use Rattle.fuse_rows.specs.declared.rows.NodeRow.{NodeRow}
use Rattle.fuse_keeper.specs.declared.fault.StoreFault.{StoreFault}
use Rattle.fuse_store_tables.specs.declared.version.Layout.{Layout}
use Rattle.fuse_store_tables.specs.Content.{node_columns}
use Rattle.fuse_store_tables.specs.Faults.{IsOutside}

-- what `?` returns of a fault
pub told_back : {Y A B : Type 0} (P Q : A → B → Type 0) (e : StoreFault) (r : Result Y StoreFault) → IsErrAnd r (λ f. f ≡ e)
    → ((a : A) (b : B) → Q a b → IsOutside e) → IfErr r (λ f. (a : A) (b : B) → P a b → Q a b → IsOutside f)
told_back P Q e (Ok y) same out = absurd same
told_back P Q e (Err f) same out = λ a b p q. subst IsOutside (sym same) (out a b q)

number_is : (a b : ℕ) → Int (pos a) ≡ Int (pos b) → a ≡ b
number_is a b e = cc

pub number_in : (row is : Row) (at a b : ℕ) → row ≡ is → column row at ≡ Int (pos a) → column is at ≡ Int (pos b) → a ≡ b
number_in row is at a b same shows has = number_is a b (sym shows ∙ ap (λ r. column r at) same ∙ has)

-- a row whose fields are those of another is that one
pub same_fields : (n : NodeRow) (node mode uid gid rdev size up subdirs : ℕ) (atime mtime ctime : Moment) (written : Option ℕ)
    → node ≡ n.node → mode ≡ n.mode → uid ≡ n.uid → gid ≡ n.gid → rdev ≡ n.rdev → size ≡ n.size → atime ≡ n.atime → mtime ≡ n.mtime → ctime ≡ n.ctime
    → up ≡ n.up → subdirs ≡ n.subdirs → written ≡ n.written
    → ◌≡◌ {A = NodeRow} (record {
      node = node;
      mode = mode;
      uid = uid;
      gid = gid;
      rdev = rdev;
      size = size;
      atime = atime;
      mtime = mtime;
      ctime = ctime;
      up = up;
      subdirs = subdirs;
      written = written;
    }) n
same_fields n node mode uid gid rdev size up subdirs atime mtime ctime written a b c d e f g h i j k l = rw (a, b, c, d, e, f, g, h, i, j, k, l) refl
