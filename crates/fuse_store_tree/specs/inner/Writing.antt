-- How rows are written into the tables (defined by this project).
use Rattle.std.specs.Prelude.{◌==◌, if◌then◌else◌, ◌+◌, ◌++◌, ◌&&◌, ◌||◌, nat_le, take, drop, length, not, nat_lt, ◌-◌, min, max, ℕ, Bool, List, [], ◌∷◌, Option, Some, None, option_map}
use Rattle.fuse_rows.specs.declared.rows.Room.{Room}
use Rattle.fuse_rows.specs.declared.rows.Change.{Change}
use Rattle.fuse_rows.specs.declared.rows.Change.TheVariants as changes
use Rattle.fuse_rows.specs.declared.rows.NodeRow.{NodeRow}
use Rattle.fuse_rows.specs.Blocks.{first_touched, touched_end, blocks_for, how_many}
use Rattle.fuse_rows.specs.Rows.{Rows, apply_one}
use Rattle.fuse_store_tables.specs.Content.{Content, Counter, counter_key, set_by, valued, set_block, with_block}
use Rattle.fuse_store_tree.specs.Pieces.{byte_at}
use Rattle.fuse_store_tables.specs.declared.version.Layout.{Layout}
use Rattle.fuse_store_tables.specs.declared.version.Layout.TheVariants.{Second, Third}
use Rattle.fuse_store_tree.specs.Store.{Store, Bodies, layout_for}

-- a list with a part written over it
abbrev pub spliced : List ℕ → ℕ → List ℕ → List ℕ
spliced old start part = take start old ++ part ++ drop (start + length part) old

-- a block that was there is changed, and else it is added
abbrev pub put_found : Bool → ℕ → ℕ → List ℕ → Content → Content
put_found stored node block bytes c = if stored then set_block node block bytes c else with_block node block bytes c

-- the bytes of nodes with some of one node's written over
abbrev pub overlay : ℕ → ℕ → List ℕ → (ℕ → ℕ → ℕ) → ℕ → ℕ → ℕ
overlay node at part g n i = if (n == node) && (not (nat_lt i at) && nat_lt i (at + length part)) then byte_at part (i - at) else g n i

-- the bytes of nodes with those of one node from a place on set to 0
abbrev pub zeroed_from : ℕ → ℕ → (ℕ → ℕ → ℕ) → ℕ → ℕ → ℕ
zeroed_from node at g n i = if (n == node) && not (nat_lt i at) then 0 else g n i

-- the ends of nodes, where one has bytes up to a place, or none from a place on
abbrev pub ends_grown : ℕ → ℕ → (ℕ → ℕ) → ℕ → ℕ
ends_grown node end ends n = if n == node then max (ends n) end else ends n

abbrev pub shortened : ℕ → ℕ → (ℕ → ℕ) → ℕ → ℕ
shortened node end ends n = if n == node then min (ends n) end else ends n

-- the written blocks of nodes, with some of one node's from one on and below another, or without those from one on
abbrev pub wrote_between : ℕ → ℕ → ℕ → (ℕ → Option (ℕ → Bool)) → ℕ → Option (ℕ → Bool)
wrote_between node from to written n =
    if n == node then option_map (λ p block. (nat_le from block && nat_lt block to) || p block) (written n) else written n

abbrev pub below_block : ℕ → ℕ → (ℕ → Option (ℕ → Bool)) → ℕ → Option (ℕ → Bool)
below_block node end written n = if n == node then option_map (λ p block. nat_lt block end && p block) (written n) else written n

-- the same of bytes, ends and written blocks; zeros that are written change neither the end nor which blocks are written
abbrev pub overlay_in : ℕ → ℕ → List ℕ → Bodies → Bodies
overlay_in node at part b = record {
  byte = overlay node at part b.byte;
  ends = ends_grown node (at + length part) b.ends;
  written = wrote_between node (first_touched at) (touched_end at (length part)) b.written;
}

abbrev pub zeros_in : ℕ → ℕ → List ℕ → Bodies → Bodies
zeros_in node at zeros b = record b { byte = overlay node at zeros b.byte }

abbrev pub cut_in : ℕ → ℕ → Bodies → Bodies
cut_in node at b = record {
  byte = zeroed_from node at b.byte;
  ends = shortened node at b.ends;
  written = below_block node (blocks_for at) b.written;
}

abbrev pub with_rows : Rows → Store → Store
with_rows rows x = record x { rows = rows }

-- a room keeps its capacity
abbrev pub room_over : Option Room → Option Room → Option Room
room_over (Some old) (Some new) = Some (record old { used = new.used })
room_over old new = old

-- the written blocks are counted in version 3 alone
abbrev pub counted_as : Layout → Option ℕ → Option ℕ
counted_as Second written = None
counted_as Third written = Some (how_many written)

-- a row as tables of this layout store it
abbrev pub counted_row : Layout → NodeRow → NodeRow
counted_row layout row = record row { written = counted_as layout row.written }

-- a change of the rows, as the tables make it
abbrev pub made_one : Rows → Change → Rows
made_one rows (changes.Node row) = apply_one rows (changes.Node (counted_row (layout_for rows.counters.room) row))
made_one rows (changes.Counters n) = record rows { counters = record n { room = room_over rows.counters.room n.room } }
made_one rows change = apply_one rows change

abbrev pub made_all : Rows → List Change → Rows
made_all rows [] = rows
made_all rows (change ∷ later) = made_all (made_one rows change) later

abbrev pub with_change : Change → Store → Store
with_change change x = with_rows (made_one x.rows change) x

-- changes, one after the other
abbrev pub with_changes : List Change → Store → Store
with_changes changes x = with_rows (made_all x.rows changes) x

-- the entry of the blocks in use, where there is a room
abbrev pub used_in : Option Room → List Counter → List Counter
used_in None cs = cs
used_in (Some r) cs = set_by counter_key 14 (valued r.used) cs

abbrev pub with_used : Option Room → Content → Content
with_used room c = record c { counters = used_in room c.counters }
