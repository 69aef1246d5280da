-- The rows of a directory's entries can be listed.
use Rattle.std.proofs.Common.{◌≡◌, ℕ, List, [], ◌∷◌, map, Option, Some, None, IfSome, refl, sym, subst}
use Rattle.std.specs.List.{AllByRecursion}
use Rattle.fuse_rows.specs.declared.rows.EntryRow.{EntryRow}
use Rattle.fuse_rows.specs.declared.rows.NodeRow.{NodeRow}
use Rattle.fuse_rows.specs.declared.rows.Child.{Child}
use Rattle.fuse_plan.specs.inner.Reading.{IsWithin}
use Rattle.fuse_rows.specs.Rows.{Rows, row_at, entries_after, with_child, children_after}
use Rattle.fuse_tree.specs.Rowed.{IsRowed}
use Rattle.fuse_plan.specs.inner.PlanListing.{IsShown}
use Rattle.fuse_plan.proofs.Within.{row_within}
use Rattle.fuse_plan.proofs.Shown.{Leads, all_lead}

if_within : (rows : Rows) (number : ℕ) (o : Option NodeRow) → IsRowed rows → row_at rows number ≡ o → IfSome o IsWithin
if_within rows number None is e = tt
if_within rows number (Some row) is e = row_within rows number row is e

with_rows : (rows : Rows) (es : List EntryRow) → IsRowed rows → AllByRecursion (Leads rows) es → AllByRecursion IsShown (map (with_child rows) es)
with_rows rows [] is all = tt
with_rows rows (e ∷ es) is all = (
  record { some = all.0.some; short = all.0.short; there = all.0.there; within = if_within rows e.child (row_at rows e.child) is refl },
  with_rows rows es is all.1,
)

pub all_shown : (rows : Rows) (dir cookie limit : ℕ) (cs : List Child) → IsRowed rows → cs ≡ children_after rows dir cookie limit → AllByRecursion IsShown cs
all_shown rows dir cookie limit cs is e =
    subst (AllByRecursion IsShown) (sym e) (with_rows rows (entries_after rows dir cookie limit) is (all_lead rows dir cookie limit is))
