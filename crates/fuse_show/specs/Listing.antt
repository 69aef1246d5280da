-- The lines of a directory's entries (defined by this project, like ls -l).
use Rattle.std.specs.Prelude.{◌≡◌, ◌+◌, ◌==◌, ◌++◌, ℕ, if◌then◌else◌, List, [], ◌∷◌, filter, codes, Option, Some, None}
use Rattle.std.specs.List.{flat_map}
use Rattle.fuse_rows.specs.declared.rows.NodeRow.{NodeRow}
use Rattle.fuse_rows.specs.declared.rows.EntryRow.{EntryRow}
use Rattle.fuse_tree.specs.State.{is_dir}
use Rattle.fuse_rows.specs.Rows.{Rows, row_at}
use Rattle.fuse_show.specs.Modes.{mode_text}
use Rattle.fuse_show.specs.Names.{name_text}
use Rattle.fuse_show.specs.Fields.{fields_text}

-- the link count of a node that has a name
abbrev pub links_of_row : NodeRow → ℕ
links_of_row row = if is_dir row.mode then 2 + row.subdirs else 1

-- the part of a line before the name: type and permissions, links, owner, group, size, node number
abbrev pub row_text : NodeRow → List ℕ
row_text row =
    mode_text row.mode
    ++ fields_text ((codes " ", links_of_row row) ∷ (codes " ", row.uid) ∷ (codes " ", row.gid) ∷ (codes " ", row.size) ∷ (codes " ", row.node) ∷ [])

-- the line of an entry with this name
abbrev pub entry_line : List ℕ → NodeRow → List ℕ
entry_line name row = row_text row ++ (codes " " ++ (name_text name ++ codes "\n"))

abbrev pub line_for : List ℕ → Option NodeRow → List ℕ
line_for name None = []
line_for name (Some row) = entry_line name row

-- lines of entries, whichever their names and rows are
abbrev pub AreLines : List ℕ → Type 0
AreLines text = (items : List (List ℕ × NodeRow)) × (text ≡ flat_map (λ i. entry_line i.0 i.1) items)

-- the line of an entry
abbrev pub line_of_entry : Rows → EntryRow → List ℕ
line_of_entry rows e = line_for e.name (row_at rows e.child)

-- the entries of a directory, in the order of the directory
abbrev pub entry_rows_in : Rows → ℕ → List EntryRow
entry_rows_in rows dir = filter (λ e. e.dir == dir) rows.entries

-- a line for each entry of a directory
abbrev pub listing : Rows → ℕ → List ℕ
listing rows dir = flat_map (line_of_entry rows) (entry_rows_in rows dir)
