-- Lines of entries, whichever their names and rows are.
use Rattle.std.proofs.Common.{◌≡◌, ◌++◌, ◌∷◌, ℕ, List, [], false, refl, sym, ap, ap₂, subst, ◌∙◌, append_assoc, append-nil}
use Rattle.std.specs.Prelude.{Result, Ok, Err}
use Rattle.std.specs.List.{flat_map}
use Rattle.std.specs.declared.io.Error.{Error}
use Rattle.std.proofs.lemmas.Grind.{flat_map-append}
use Rattle.fuse_rows.specs.declared.rows.NodeRow.{NodeRow}
use Rattle.fuse_show.specs.declared.fault.ShowFault.{ShowFault}
use Rattle.fuse_show.specs.Listing.{AreLines, entry_line}
use Rattle.fuse_show.specs.Looks.{is_output}
use Rattle.fuse_show.specs.Shown.{WritesLines}
use Rattle.fuse_show.specs.Sinks.{IsPartOf}
use Rattle.fuse_show.specs.inner.Writing.{PutsOut, WritesOut}
use Rattle.fuse_show.proofs.Sinking.{part_none, puts_none}

pub lines_none : AreLines []
lines_none = ([], refl)

pub lines_then : (xs ys : List ℕ) → AreLines xs → AreLines ys → AreLines (xs ++ ys)
lines_then xs ys p q = (
  p.0 ++ q.0,
  ap₂ (λ (a b : List ℕ). a ++ b) p.1 q.1 ∙ sym (flat_map-append (λ (i : List ℕ × NodeRow). entry_line i.0 i.1) p.0 q.0),
)

pub one_line : (name : List ℕ) (row : NodeRow) → AreLines (entry_line name row)
one_line name row = ((name, row) ∷ [], sym (append-nil (entry_line name row)))

abbrev pub ArePart : List ℕ → Type 0
ArePart bytes = (text : List ℕ) × AreLines text × IsPartOf bytes text

pub lines_part : (xs ys : List ℕ) → AreLines xs → ArePart ys → ArePart (xs ++ ys)
lines_part xs ys p q = (
  xs ++ q.0,
  lines_then xs q.0 p q.1,
  (q.2.0, ap (λ (t : List ℕ). xs ++ t) q.2.1 ∙ sym (append_assoc xs ys q.2.0)),
)

pub none_part : ArePart []
none_part = ([], lines_none, part_none [])

pub all_part : (xs : List ℕ) → AreLines xs → ArePart xs
all_part xs p = (xs, p, ([], sym (append-nil xs)))

-- of one line
pub line_written : {X : Type 0} (r : Result X ShowFault) (name : List ℕ) (row : NodeRow) (bytes : List ℕ) → WritesOut (entry_line name row) bytes r
    → WritesLines bytes r
line_written (Ok x) name row bytes so = subst AreLines (sym so) (one_line name row)
line_written (Err f) name row bytes so = (entry_line name row, one_line name row, so.0)

module _ {W : Type 0} (written : W → W → Result ℕ Error → List ℕ → Type 0) where
  -- more is said of what was put
  pub puts_more : {X : Type 0} (a b : W) (r : Result X ShowFault) (P Q : List ℕ → Type 0) → PutsOut written a b r P → ((ys : List ℕ) → P ys → Q ys)
      → PutsOut written a b r Q
  puts_more a b r P Q p so = record { bytes = p.bytes; mid = p.mid; takes = p.takes; last = p.last; so = so p.bytes p.so }

  -- nothing was put
  pub lines_cut : {X : Type 0} (a : W) (r : Result X ShowFault) (f : ShowFault) → r ≡ Err f → is_output f ≡ false
      → PutsOut written a a r (λ bytes. WritesLines bytes r)
  lines_cut {X = X} a r f is quiet =
      subst (λ (x : Result X ShowFault). PutsOut written a a x (λ bytes. WritesLines bytes x)) (sym is)
      (puts_none written {X = X} a f (λ bytes. WritesLines {X = X} bytes (Err f)) quiet none_part)
