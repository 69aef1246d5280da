-- The rows of a tree are within its bounds, in the words of plans.
use Rattle.std.proofs.Common.{◌≡◌, ℕ, true, false, Some, refl, sym, ap, subst, ◌∙◌, arith}
use Rattle.std.proofs.lemmas.Bool.{le-leb}
use Rattle.fuse_init.specs.declared.profile.Profile.{Profile}
use Rattle.fuse_init.specs.Profile.{terms}
use Rattle.fuse_rows.specs.declared.rows.NodeRow.{NodeRow}
use Rattle.fuse_tree.specs.State.{profile_of, used_of}
use Rattle.fuse_tree.specs.declared.agreement.Agreement.{Agreement}
use Rattle.fuse_rows.specs.Rows.{Rows, profile_at, row_at}
use Rattle.fuse_tree.specs.Keeping.{agreement_at}
use Rattle.fuse_rows.specs.Bounds.{block_limit}
use Rattle.fuse_rows.specs.Blocks.{how_many}
use Rattle.fuse_tree.specs.Rowed.{IsRowed, rows_of_state}
use Rattle.fuse_plan.specs.inner.Reading.{IsWithin, is_within}
use Rattle.fuse_plan.proofs.Blocks.{room_with}
use Rattle.fuse_plan.proofs.Most.{nodes_most, file_most, profile_mapped}
use Rattle.fuse_plan.proofs.Bounds.{Bounded, bounded_state, rowed_is}

-- a row that is found among those of a tree is within the bounds of every profile
pub row_within : (rows : Rows) (number : ℕ) (row : NodeRow) → IsRowed rows → row_at rows number ≡ Some row → IsWithin row
unfolding IsRowed
row_within rows number row is e =
    let s = is.0 in
    let b = bounded_state s number row is.1.shape (subst (λ (r : Rows). row_at r number ≡ Some row) (is.2 ∙ rowed_is s) e) in
    record { size = omega (arith, b.size, file_most (profile_of s)); subdirs = omega (arith, b.subdirs, nodes_most (profile_of s)); written = b.written }

within_terms : (p : Profile) (row : NodeRow) → Bounded (terms p) row → is_within p row ≡ true
within_terms p row b = rw (le-leb row.size (terms p).file_limit b.size, le-leb row.subdirs (terms p).node_limit b.subdirs, le-leb (how_many row.written) block_limit b.written) refl

-- and within those of the tree's own
pub none_outside : (rows : Rows) (a : Agreement) (number : ℕ) (row : NodeRow) → IsRowed rows → a ≡ agreement_at rows → row_at rows number ≡ Some row
    → is_within a.profile row ≡ false → ⊥
unfolding IsRowed
none_outside rows a number row is agreed e outside =
    let s = is.0 in
    let same : rows ≡ rows_of_state s = is.2 ∙ rowed_is s in
    let own : a.profile ≡ profile_of s =
    ap (λ (g : Agreement). g.profile) agreed ∙ ap profile_at same ∙ profile_mapped (room_with (used_of s)) s.capacity in
    let inside : is_within (profile_of s) row ≡ true =
    within_terms (profile_of s) row (bounded_state s number row is.1.shape (subst (λ (r : Rows). row_at r number ≡ Some row) same e)) in
    let wrong : true ≡ false = sym (ap (λ (p : Profile). is_within p row) own ∙ inside) ∙ outside in absurd cc
