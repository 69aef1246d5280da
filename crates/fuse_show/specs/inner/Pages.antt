-- The lines of a directory's entries, page by page (defined by this project).
use Rattle.std.specs.Prelude.{◌≡◌, ◌++◌, ℕ, Bool, true, nat_lt, List, [], filter, Option, Some, None, Result, Ok, Err}
use Rattle.std.specs.List.{flat_map, slice_get}
use Rattle.std.specs.Option.{option_map}
use Rattle.fuse_rows.specs.declared.rows.EntryRow.{EntryRow}
use Rattle.fuse_rows.specs.Rows.{Rows, is_after}
use Rattle.fuse_show.specs.declared.fault.ShowFault.{ShowFault}
use Rattle.fuse_show.specs.Sinks.{IsPartOf}
use Rattle.fuse_show.specs.inner.Writing.{cuts_off}
use Rattle.fuse_show.specs.Listing.{line_of_entry}

-- the entries of a directory with a higher cookie than this one
abbrev pub entry_rows_after : Rows → ℕ → ℕ → List EntryRow
entry_rows_after rows dir cookie = filter (is_after dir cookie) rows.entries

-- their lines
abbrev pub lines_after : Rows → ℕ → ℕ → List ℕ
lines_after rows dir cookie = flat_map (line_of_entry rows) (entry_rows_after rows dir cookie)

-- the lines after the cookie that a page ends with; none after the last page
abbrev pub lines_left : Rows → ℕ → Option ℕ → List ℕ
lines_left rows dir None = []
lines_left rows dir (Some cookie) = lines_after rows dir cookie

-- the cookie of the entry of a page at index i
abbrev pub cookie_at : ℕ → List EntryRow → Option ℕ
cookie_at i es = option_map (λ e. e.cookie) (slice_get es i)

-- there is no cookie, or it is higher than `after`
abbrev pub is_higher : Option ℕ → ℕ → Bool
is_higher None after = true
is_higher (Some cookie) after = nat_lt after cookie

-- the lines of a page, of which these are left; or a part of them before a look or the output failed
abbrev pub WritesPage : Rows → ℕ → ℕ → List ℕ → Result (Option ℕ) ShowFault → Type 0
WritesPage rows dir after bytes (Ok left) = lines_after rows dir after ≡ bytes ++ lines_left rows dir left
WritesPage rows dir after bytes (Err f) = IsPartOf bytes (lines_after rows dir after) × (cuts_off f ≡ true)
