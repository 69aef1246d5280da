-- Counters that are known, of which only those that differ are written.
use Rattle.std.proofs.Common.{◌≡◌, ℕ, ◌==◌, true, false, inl, inr, List, Option, Some, None, refl, sym, ap, subst, arith, ◌∙◌}
use Rattle.std.proofs.lemmas.Bool.{cases_Bool}
use Rattle.std.proofs.lemmas.Bool.Decides.{nat_tests}
use Rattle.fuse_init.specs.declared.settings.Settings.{Settings}
use Rattle.fuse_rows.specs.declared.rows.Counters.{Counters as CountersRow}
use Rattle.fuse_rows.specs.declared.rows.Room.{Room}
use Rattle.fuse_rows.specs.declared.rows.Change.TheVariants as changes
use Rattle.fuse_store_tables.specs.Content.{Content, Counter, counter_key, set_by, valued}
use Rattle.fuse_store_tree.specs.declared.meta.Meta.{Meta}
use Rattle.fuse_store_tree.specs.Store.{Store, meta_rows_of}
use Rattle.fuse_store_tree.specs.Knowing.{Knows}
use Rattle.fuse_store_tree.specs.inner.Reading.{Describes}
use Rattle.fuse_store_tree.specs.inner.Writing.{with_change, room_over}
use Rattle.fuse_store_tree.specs.inner.Knowing.{moved_in, used_moved_in, counters_moved, counters_written}
use Rattle.fuse_store_tree.proofs.RowChanges.{counters_change, same_layout, same_some}

same : (a b : ℕ) → (a == b) ≡ true → a ≡ b
same a b is = grind (arith, nat_tests)

pub differs : (a b : ℕ) → ¬ (a ≡ b) → (a == b) ≡ false
differs a b apart = elim (cases_Bool (a == b)) [
  | inl is ↦ absurd (apart (same a b is))
  | inr off ↦ off
]

-- a counter that has the value is as if it were written
moved_as : (key old new : ℕ) (cs : List Counter) (to : ℕ → List Counter) → cs ≡ to old → set_by counter_key key (valued new) cs ≡ to new
    → moved_in key old new cs ≡ to new
moved_as key old new cs to was set = elim (cases_Bool (old == new)) [
  | inl is ↦ rw is (was ∙ ap to (same old new is))
  | inr off ↦ rw off set
]

module _ (s : Option Settings) (lot number : ℕ) where
  node_moved : (o : CountersRow) (v : ℕ) → moved_in 2 o.next_node v (meta_rows_of o s lot number) ≡ meta_rows_of (record o { next_node = v }) s lot number
  node_moved o v = moved_as 2 o.next_node v (meta_rows_of o s lot number) (λ k. meta_rows_of (record o { next_node = k }) s lot number) refl (by o.room)
    where
      by : (r : Option Room) → set_by counter_key 2 (valued v) (meta_rows_of (record o { room = r }) s lot number) ≡ meta_rows_of (record o { next_node = v; room = r }) s lot number
      by None = refl
      by (Some r) = refl

  fh_moved : (o : CountersRow) (v : ℕ) → moved_in 3 o.next_fh v (meta_rows_of o s lot number) ≡ meta_rows_of (record o { next_fh = v }) s lot number
  fh_moved o v = moved_as 3 o.next_fh v (meta_rows_of o s lot number) (λ k. meta_rows_of (record o { next_fh = k }) s lot number) refl (by o.room)
    where
      by : (r : Option Room) → set_by counter_key 3 (valued v) (meta_rows_of (record o { room = r }) s lot number) ≡ meta_rows_of (record o { next_fh = v; room = r }) s lot number
      by None = refl
      by (Some r) = refl

  cookie_moved : (o : CountersRow) (v : ℕ) → moved_in 4 o.next_cookie v (meta_rows_of o s lot number) ≡ meta_rows_of (record o { next_cookie = v }) s lot number
  cookie_moved o v = moved_as 4 o.next_cookie v (meta_rows_of o s lot number) (λ k. meta_rows_of (record o { next_cookie = k }) s lot number) refl (by o.room)
    where
      by : (r : Option Room) → set_by counter_key 4 (valued v) (meta_rows_of (record o { room = r }) s lot number) ≡ meta_rows_of (record o { next_cookie = v; room = r }) s lot number
      by None = refl
      by (Some r) = refl

  nodes_moved : (o : CountersRow) (v : ℕ) → moved_in 5 o.nodes v (meta_rows_of o s lot number) ≡ meta_rows_of (record o { nodes = v }) s lot number
  nodes_moved o v = moved_as 5 o.nodes v (meta_rows_of o s lot number) (λ k. meta_rows_of (record o { nodes = k }) s lot number) refl (by o.room)
    where
      by : (r : Option Room) → set_by counter_key 5 (valued v) (meta_rows_of (record o { room = r }) s lot number) ≡ meta_rows_of (record o { nodes = v; room = r }) s lot number
      by None = refl
      by (Some r) = refl

  handles_moved : (o : CountersRow) (v : ℕ) → moved_in 6 o.handles v (meta_rows_of o s lot number) ≡ meta_rows_of (record o { handles = v }) s lot number
  handles_moved o v = moved_as 6 o.handles v (meta_rows_of o s lot number) (λ k. meta_rows_of (record o { handles = k }) s lot number) refl (by o.room)
    where
      by : (r : Option Room) → set_by counter_key 6 (valued v) (meta_rows_of (record o { room = r }) s lot number) ≡ meta_rows_of (record o { handles = v; room = r }) s lot number
      by None = refl
      by (Some r) = refl

  used_is_moved : (o : CountersRow) (old new : Option Room) → used_moved_in old new (meta_rows_of (record o { room = old }) s lot number)
      ≡ meta_rows_of (record o { room = room_over old new }) s lot number
  used_is_moved o None None = refl
  used_is_moved o None (Some r) = refl
  used_is_moved o (Some r) None = refl
  used_is_moved o (Some r) (Some n) =
      moved_as 14 r.used n.used (meta_rows_of (record o { room = Some r }) s lot number) (λ k. meta_rows_of (record o { room = Some (record r { used = k }) }) s lot number) refl refl

  -- the counters that differ are changed, where the others are as they are known
  all_moved : (o n : CountersRow) (c : Content) → (counters_moved o n (record c { counters = meta_rows_of o s lot number })).counters
      ≡ meta_rows_of (record n { room = room_over o.room n.room }) s lot number
  all_moved o n c =
      let one = record o { next_node = n.next_node } in
      let two = record one { next_fh = n.next_fh } in
      let three = record two { next_cookie = n.next_cookie } in
      let four = record three { nodes = n.nodes } in
      let five = record four { handles = n.handles } in
      ap (λ l. used_moved_in o.room n.room (moved_in 6 o.handles n.handles (moved_in 5 o.nodes n.nodes (moved_in 4 o.next_cookie n.next_cookie
      (moved_in 3 o.next_fh n.next_fh l))))) (node_moved o n.next_node)
      ∙ ap (λ l. used_moved_in o.room n.room (moved_in 6 o.handles n.handles (moved_in 5 o.nodes n.nodes (moved_in 4 o.next_cookie n.next_cookie l))))
      (fh_moved one n.next_fh)
      ∙ ap (λ l. used_moved_in o.room n.room (moved_in 6 o.handles n.handles (moved_in 5 o.nodes n.nodes l))) (cookie_moved two n.next_cookie)
      ∙ ap (λ l. used_moved_in o.room n.room (moved_in 6 o.handles n.handles l)) (nodes_moved three n.nodes)
      ∙ ap (used_moved_in o.room n.room) (handles_moved four n.handles)
      ∙ used_is_moved five o.room n.room

moved_change : (n : CountersRow) (s : Store) (file : List ℕ) (c : Content) → Describes s file c
    → Describes (with_change (changes.Counters n) s) file (counters_moved s.rows.counters n c)
moved_change n s file c at = record {
  counters = ap (λ cs. (counters_moved s.rows.counters n (record c { counters = cs })).counters) at.counters
      ∙ all_moved s.rows.settings s.next_lot at.number s.rows.counters n c;
  nodes = at.nodes;
  entries = at.entries;
  handles = at.handles;
  answers = at.answers;
  attributes = at.attributes;
  number = at.number;
  layout = at.layout ∙ sym (same_layout s.rows.counters.room n.room);
  header = λ some. at.header (same_some s.rows.counters.room n.room some);
  pieces = at.pieces;
  owned = at.owned;
  lots = at.lots;
  kept = at.kept;
  bytes = at.bytes;
  written = at.written;
  within = at.within;
  pieces_within = at.pieces_within;
  settings = at.settings;
  fits = record { nodes = at.fits.nodes; entries = at.fits.entries; handles = at.fits.handles; blocks = at.fits.blocks; kept = at.fits.kept; pieces = at.fits.pieces; no_pieces = at.fits.no_pieces };
}

-- counters are changed, where what is known of them is right
pub written_change : (known : Option Meta) (n : CountersRow) (s : Store) (file : List ℕ) (c : Content) → Knows known s.rows → Describes s file c
    → Describes (with_change (changes.Counters n) s) file (counters_written known n c)
written_change None n s file c knows at = counters_change n s file c at
written_change (Some m) n s file c knows at =
    subst (λ o. Describes (with_change (changes.Counters n) s) file (counters_moved o n c)) (sym (ap (λ (k : Meta). k.counters) knows))
    (moved_change n s file c at)
