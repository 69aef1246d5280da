-- The tables keep their capacity and their layout. Changes that end with the capacity they began with, and with rows that count written blocks
-- where it does, are made as they are.
use Rattle.std.proofs.Common.{◌≡◌, ◌==◌, ℕ, List, [], ◌∷◌, Option, Some, None, option_map, refl, sym, ap, subst, ◌∙◌, filter, map, not, length}
use Rattle.fuse_rows.specs.declared.rows.Room.{Room}
use Rattle.fuse_rows.specs.declared.rows.Change.{Change}
use Rattle.fuse_rows.specs.declared.rows.Change.TheVariants as changes
use Rattle.fuse_tree.specs.State.{State, used_of}
use Rattle.fuse_rows.specs.declared.rows.Full.{Full}
use Rattle.fuse_rows.specs.Blocks.{with_touched, below_size}
use Rattle.fuse_rows.specs.Rows.{Rows, apply, apply_one, put_node, at_node, body_written, body_sized, written, sized}
use Rattle.fuse_tree.specs.Rowed.{rowed}
use Rattle.fuse_store_tree.specs.Store.{layout_for}
use Rattle.fuse_store_tree.specs.inner.Writing.{room_over, counted_row, made_one, made_all}
use Rattle.fuse_store_tree.proofs.RowChanges.{same_layout}
use Rattle.fuse_store_tree.proofs.Counted.{AreAlike, AreCounted, put_alike, gone_alike, at_alike, kept_count, self_alike, alike_same}

abbrev capacity_of : Option Room → Option ℕ
capacity_of = option_map (λ r. r.capacity)

abbrev pub capacity_in : Rows → Option ℕ
capacity_in rows = capacity_of rows.counters.room

abbrev with_room : Option Room → List Full → Rows → Rows
with_room r nodes rows = record rows { nodes = nodes; counters = record rows.counters { room = r } }

-- of the room that is kept and the one of the changes: both have the same use
abbrev Matches : Option Room → Option Room → Type 0
Matches (Some kept) (Some told) = kept.used ≡ told.used
Matches _ _ = Unit {0}

-- ---- one change

-- the rows after a change, with another room and other nodes
record Follows (kept : Option Room) (nodes : List Full) (rows : Rows) (change : Change) : Type 0 where
  room : Option Room
  others : List Full
  made : made_one (with_room kept nodes rows) change ≡ with_room room others (apply_one rows change)
  matches : Matches room (apply_one rows change).counters.room
  same : capacity_of room ≡ capacity_of kept
  alike : AreAlike (layout_for room) others (apply_one rows change).nodes

over_matches : (kept told : Option Room) → Matches (room_over kept told) told
over_matches None None = tt
over_matches None (Some r) = tt
over_matches (Some k) None = tt
over_matches (Some k) (Some r) = refl

over_same : (kept told : Option Room) → capacity_of (room_over kept told) ≡ capacity_of kept
over_same None None = refl
over_same None (Some r) = refl
over_same (Some k) None = refl
over_same (Some k) (Some r) = refl

follows : (kept : Option Room) (nodes : List Full) (rows : Rows) (change : Change) → Matches kept rows.counters.room
    → AreAlike (layout_for kept) nodes rows.nodes → Follows kept nodes rows change
follows kept ns rows (changes.Node row) m like = record {
  room = kept;
  others = put_node (counted_row (layout_for kept) row) ns;
  made = refl;
  matches = m;
  same = refl;
  alike = put_alike (layout_for kept) row ns rows.nodes like;
}
follows kept ns rows (changes.NodeGone node) m like = record {
  room = kept;
  others = filter (λ f. not (f.row.node == node)) ns;
  made = refl;
  matches = m;
  same = refl;
  alike = gone_alike (layout_for kept) node ns rows.nodes like;
}
follows kept ns rows (changes.Entry entry) m like = record {
  room = kept;
  others = ns;
  made = refl;
  matches = m;
  same = refl;
  alike = like;
}
follows kept ns rows (changes.EntryGone cookie) m like = record {
  room = kept;
  others = ns;
  made = refl;
  matches = m;
  same = refl;
  alike = like;
}
follows kept ns rows (changes.Handle handle) m like = record {
  room = kept;
  others = ns;
  made = refl;
  matches = m;
  same = refl;
  alike = like;
}
follows kept ns rows (changes.HandleGone fh) m like = record {
  room = kept;
  others = ns;
  made = refl;
  matches = m;
  same = refl;
  alike = like;
}
follows kept ns rows (changes.Written node offset bytes) m like = record {
  room = kept;
  others = map (at_node node (body_written offset bytes)) ns;
  made = refl;
  matches = m;
  same = refl;
  alike = at_alike (layout_for kept) node (body_written offset bytes) (kept_count (layout_for kept) (written offset bytes) (with_touched offset (length bytes)))
      ns rows.nodes like;
}
follows kept ns rows (changes.Sized node size) m like = record {
  room = kept;
  others = map (at_node node (body_sized size)) ns;
  made = refl;
  matches = m;
  same = refl;
  alike = at_alike (layout_for kept) node (body_sized size) (kept_count (layout_for kept) (sized size) (below_size size)) ns rows.nodes
      like;
}
follows kept ns rows (changes.Settings settings) m like = record {
  room = kept;
  others = ns;
  made = refl;
  matches = m;
  same = refl;
  alike = like;
}
follows kept ns rows (changes.Counters n) m like = record {
  room = room_over kept n.room;
  others = ns;
  made = refl;
  matches = over_matches kept n.room;
  same = over_same kept n.room;
  alike = subst (λ l. AreAlike l ns rows.nodes) (sym (same_layout kept n.room)) like;
}

-- ---- many

one_room : (kept told : Option Room) → Matches kept told → capacity_of told ≡ capacity_of kept → kept ≡ told
one_room None None m same = refl
one_room None (Some r) m same = absurd cc
one_room (Some k) None m same = absurd cc
one_room (Some k) (Some r) m same = let c : r.capacity ≡ k.capacity = cc in
    ap (λ n. Some (record k { capacity = n })) (sym c) ∙ ap (λ n. Some (record r { used = n })) m

all_made : (kept : Option Room) (nodes : List Full) (rows : Rows) (cs : List Change) → Matches kept rows.counters.room
    → AreAlike (layout_for kept) nodes rows.nodes → capacity_of (apply rows cs).counters.room ≡ capacity_of kept → AreCounted (apply rows cs)
    → made_all (with_room kept nodes rows) cs ≡ apply rows cs
all_made kept ns rows [] m like same counted =
    let room = one_room kept rows.counters.room m same in
    ap (λ r. with_room r ns rows) room
    ∙ ap (λ l. record rows { nodes = l }) (alike_same (layout_for rows.counters.room) ns rows.nodes (subst (λ r. AreAlike (layout_for r) ns rows.nodes) room like) counted)
all_made kept ns rows (change ∷ cs) m like same counted =
    let f = follows kept ns rows change m like in
    ap (λ r. made_all r cs) f.made ∙ all_made f.room f.others (apply_one rows change) cs f.matches f.alike (same ∙ sym f.same) counted

self_matches : (r : Option Room) → Matches r r
self_matches None = tt
self_matches (Some r) = refl

-- what the tables make of changes that keep the capacity
pub changes_made : (rows : Rows) (cs : List Change) → capacity_in (apply rows cs) ≡ capacity_in rows → AreCounted (apply rows cs) → made_all rows cs ≡ apply rows cs
changes_made rows cs same counted =
    all_made rows.counters.room rows.nodes rows cs (self_matches rows.counters.room) (self_alike (layout_for rows.counters.room) rows.nodes) same counted

-- the capacity of the rows is that of the state
pub capacity_told : (s : State) → capacity_in (rowed s) ≡ s.capacity
unfolding rowed
capacity_told s = by s.capacity
  where
    by : (o : Option ℕ) → capacity_of (option_map (λ c. record { capacity = c; used = used_of s }) o) ≡ o
    by None = refl
    by (Some c) = refl
