-- The data file over a move: free blocks are written, and some of them may be listed then.
use Rattle.std.proofs.Common.{◌≡◌, ℕ, List, [], refl, sym, subst, ap, ◌∙◌}
use Rattle.std.specs.Prelude.{IsTrue}
use Rattle.fuse_data.specs.Extents.{bytes_of}
use Rattle.fuse_data.specs.Leaving.{KeepsInUse}
use Rattle.fuse_data.specs.Space.{IsFreeBlock}
use Rattle.fuse_data.specs.State.{DataState}
use Rattle.fuse_store_tree.specs.declared.made.MadePiece.{MadePiece}
use Rattle.fuse_store_tree.specs.declared.store_data.Written.{Written}
use Rattle.fuse_store_tree.specs.Viewing.{shown, view_of}
use Rattle.fuse_store_tree.specs.Widening.{Widens}
use Rattle.fuse_store_tree.specs.inner.Moving.{AddsTo}
use Rattle.fuse_store_tree.specs.inner.Preparing.{WritesAside, IsMade, IsMadeAside}
use Rattle.fuse_store_tree.proofs.Asides.{kept_itself, kept_then, aside_view}

pub adds_still : (s : DataState) (ws : List Written) → AddsTo s s ws ws
adds_still s ws = record {
  kept = kept_itself s.gaps s.seen;
  crash = λ file may. (file, may, kept_itself s.gaps file);
  free = λ b is. is;
  view = kept_itself [] (shown s.gaps ws s.seen);
  clean = λ clean. clean;
  usable = refl;
}

pub adds_then : (a b d : DataState) (ws us vs : List Written) → AddsTo a b ws us → AddsTo b d us vs → AddsTo a d ws vs
adds_then a b d ws us vs p q = record {
  kept = kept_then a.gaps b.gaps a.seen b.seen d.seen p.free p.kept q.kept;
  crash = λ file may.
      let mid = q.crash file may in
      let first = p.crash mid.0 mid.1 in
      (first.0, first.1, kept_then a.gaps b.gaps first.0 mid.0 file p.free first.2 mid.2);
  free = λ i is. p.free i (q.free i is);
  view = kept_then [] [] (shown a.gaps ws a.seen) (shown b.gaps us b.seen) (shown d.gaps vs d.seen) (λ i is. is) p.view q.view;
  clean = λ clean. p.clean (q.clean clean);
  usable = q.usable ∙ p.usable;
}

-- bytes that were written aside
pub adds_aside : (s t : DataState) (ws us : List Written) → WritesAside s t ws us → AddsTo s t ws us
adds_aside s t ws us p = record {
  kept = p.kept;
  crash = p.crash;
  free = p.free;
  view = aside_view s t ws us p;
  clean = λ clean. subst IsTrue p.clean clean;
  usable = p.usable;
}

-- what reads them, and lists them
pub adds_widens : (s t : DataState) (ws us : List Written) → Widens (view_of s ws) (view_of t us) → AddsTo s t ws us
adds_widens s t ws us p = record {
  kept = subst (λ file. KeepsInUse s.gaps s.seen file) (sym p.contents.seen) (kept_itself s.gaps s.seen);
  crash = λ file may. (file, p.contents.crash file may, kept_itself s.gaps file);
  free = λ b is. subst (λ gaps. IsFreeBlock gaps b) p.contents.gaps is;
  view = p.kept;
  clean = p.clean;
  usable = p.contents.usable;
}

-- what was made for a group before is still there
pub made_still : (s t : DataState) (ws us : List Written) → AddsTo s t ws us → (at : ℕ) (bytes : List ℕ) (p : MadePiece) → IsMadeAside s ws at bytes p → IsMade t.seen at bytes p
made_still s t ws us adds at bytes p made =
    let now = adds.kept.extents p.extent made.aside.in_use made.aside.whole in
    record { part = made.part; whole = now.whole; same = now.same ∙ made.aside.same }
