use Rattle.std.proofs.Common.{◌-◌, ◌≡◌, ◌≤◌, ℕ, length}
use Rattle.std.specs.Prelude.{IsTrue}
use Rattle.fuse_store_tables.specs.Content.{Content}
use Rattle.fuse_store_tree.specs.Pieces.{ReadsFile, byte_in}
use Rattle.fuse_store_tree.specs.inner.Reading.{range_of, IsSound}
use Rattle.fuse_store_tree.specs.inner.Showing.{HoldsAny, ShowsRange}
use Rattle.fuse_store_tree.proofs.range_reads.read_stored.Given as goal

abbrev pub invariant-parts : goal.invariant-parts
invariant-parts g l = record {
  at : l.at ≡ l.fn.at;
  len : l.len ≡ l.fn.len;
  done : l.done ≤ l.len;
  long : length l.out.items ≡ l.done;
  rows : l.stored.rows ≡ l.fn.stored.rows;
  pieces : l.stored.pieces ≡ l.fn.stored.pieces;
  held : HoldsAny (g.C.Contents.file l.contents) l.stored.held;
  reads : ReadsFile (g.C.Contents.file l.fn.contents) (g.C.Contents.file l.contents);
  value : IsTrue (g.C.Contents.file l.contents).is_clean → (node : ℕ) (c : Content)
      → ShowsRange node l.fn.at l.fn.len l.fn.stored.rows.items l.fn.stored.pieces.items c → IsSound (g.C.Contents.file l.contents).bytes c
      → l.out.items ≡ range_of (byte_in (g.C.Contents.file l.contents).bytes c node) l.fn.at l.done;
}

abbrev pub decreases-parts : goal.decreases-parts
decreases-parts g l = l.len - l.done
