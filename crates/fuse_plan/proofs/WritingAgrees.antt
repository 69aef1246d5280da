-- The plans of WRITE and READ agree with what is done.
use Rattle.std.proofs.Common.{◌≡◌, ◌≢◌, ◌≤◌, ◌+◌, ◌-◌, ◌==◌, ◌&&◌, ◌||◌, ℕ, Bool, true, false, cond, not, List, length, take, drop, Option, Some, None, refl, ap, subst, map, sym, ◌∙◌, arith}
use Rattle.std.specs.Prelude.{nat_lt, is_some, IfSome}
use Rattle.std.specs.Option.{option_map}
use Rattle.std.proofs.lemmas.Bool.{eqb-true, eqb-false, ltb-false}
use Rattle.fuse_wire.specs.declared.access_mode.AccessMode.{AccessMode}
use Rattle.fuse_wire.specs.declared.access_mode.AccessMode.TheVariants.{ReadOnly, WriteOnly, ReadWrite}
use Rattle.fuse_wire.specs.Errnos.{ebadf, efbig, enospc}
use Rattle.fuse_wire.specs.declared.moment.Moment.{Moment}
use Rattle.fuse_request.specs.declared.request.ReadIn.{ReadIn}
use Rattle.fuse_init.specs.Profile.{Terms, terms}
use Rattle.fuse_rows.specs.Blocks.{first_touched, touched_end, with_touched, count_between, listed_blocks}
use Rattle.fuse_rows.specs.declared.rows.Full.{Full}
use Rattle.fuse_rows.specs.declared.rows.Room.{Room}
use Rattle.fuse_rows.specs.declared.rows.HandleRow.{HandleRow}
use Rattle.fuse_rows.specs.Rows.{profile_for, full_at, handle_at, content_of, written_blocks_of, bytes_at, written, body_written, put_node, at_node, apply}
use Rattle.fuse_tree.specs.State.{State, terms_of, profile_of, used_of, Node, Shape, FitsCapacity, AreWritten, IsNode, IsHandle, is_dir, is_file, is_read_only, is_open_at, node_at}
use Rattle.fuse_tree.specs.Rowed.{full_of, row_of, body_of_node, rows_of_state}
use Rattle.fuse_tree.specs.Handles.{access_in, access_at}
use Rattle.fuse_tree.specs.Writing.{may_write, wrote, with_bytes, count_body, write, read_checks, read}
use Rattle.fuse_tree.specs.Done.{refuse, answer}
use Rattle.fuse_tree.specs.Space.{room_of, has_room, newly_written}
use Rattle.fuse_plan.specs.inner.PlanSpace.{counters_for, room_in, room_with_used, between_for, newly_in}
use Rattle.fuse_plan.specs.inner.PlanWriting.{written_row, write_changes, plan_room, plan_write, plan_read}
use Rattle.fuse_plan.specs.inner.Reading.{told}
use Rattle.fuse_plan.proofs.Lists.{found, any_gives, and_true, and_false}
use Rattle.fuse_plan.proofs.KeptStates.{kept_change}
use Rattle.fuse_plan.proofs.Agrees.{Agrees, refused_agrees, both, both_seen, checked}
use Rattle.fuse_plan.proofs.Fit.{not_false}
use Rattle.fuse_plan.proofs.SizedRows.{used_rows}
use Rattle.fuse_plan.proofs.Blocks.{used_more, room_with, space_after}
use Rattle.fuse_plan.proofs.WrittenBlocks.{count_wrote, wrote_counts}
use Rattle.fuse_plan.proofs.Carried.{bytes_carried, file_no_link}
use Rattle.fuse_plan.proofs.Lengths.{length_written}
use Rattle.fuse_plan.proofs.Trees.{SamePlace}
use Rattle.fuse_plan.proofs.Puts.{only_one, find_full}
use Rattle.fuse_plan.proofs.Changing.{changed_rows, changed_tree}

-- ---- what may be written to is a file

record Writes (b : Bool) (access : AccessMode) : Type 0 where
  here : b ≡ true
  not_only_read : is_read_only access ≡ false

writes : (b : Bool) (access : AccessMode) → may_write (cond b (Some access) None) ≡ true → Writes b access
writes false access may = absurd cc
writes true ReadOnly may = absurd cc
writes true WriteOnly may = record { here = refl; not_only_read = refl }
writes true ReadWrite may = record { here = refl; not_only_read = refl }

or_left : (b c : Bool) → c ≡ false → (b || c) ≡ true → b ≡ true
or_left true c none e = refl
or_left false c none e = absurd cc

writable_file : (s : State) (d : Node) (fh : ℕ) (o : Option HandleRow) → Shape s → node_at s d.number ≡ Some d → handle_at s.handles fh ≡ o
    → may_write (access_in d.number o) ≡ true → is_file d.mode ≡ true
writable_file s d fh None tree e at may = absurd cc
writable_file s d fh (Some h) tree e at may =
    let p = (found (IsHandle s.nodes s.next_fh) (λ i. i.fh == fh) s.handles h tree.handles at).0 in
    let w = writes (h.node == d.number) h.access may in
    any_gives (λ n. n.number ≡ d.number → n ≡ d) (is_open_at h) (is_file d.mode ≡ true) s.nodes (only_one d.number d s.nodes tree.nodes_rise e) p.node
    (λ n one test.
    let parts = and_true _ _ test in
    let n_is : n ≡ d = one (eqb-true n.number h.node parts.0 ∙ eqb-true h.node d.number w.here) in
    let no_dir : (is_dir n.mode && is_read_only h.access) ≡ false = ap (λ (b : Bool). is_dir n.mode && b) w.not_only_read ∙ and_false (is_dir n.mode) in
    let kind : is_file n.mode ≡ true = or_left (is_file n.mode) _ no_dir parts.1 in
    subst (λ (m : Node). is_file m.mode ≡ true) n_is kind)

-- ---- WRITE

not_zero : (n : ℕ) → (n == 0) ≡ false → 1 ≤ n
not_zero n some = let other : n ≢ 0 = eqb-false n 0 some in omega arith

-- blocks are counted where there is a capacity
pub counting : (capacity : Option ℕ) → (terms (profile_for capacity)).counts_written ≡ is_some capacity
counting None = refl
counting (Some c) = refl

wrote_same : (offset : ℕ) (payload : List ℕ) (now : Moment) (n : Node) → SamePlace n (wrote offset payload now n)
wrote_same offset payload now n = record { number = refl; kind = refl }

wrote_is_node : (t : Terms) (next offset : ℕ) (payload : List ℕ) (now : Moment) (d : Node) → is_file d.mode ≡ true → 1 ≤ length payload
    → offset + length payload ≤ t.file_limit → IsNode t next d → IsNode t next (wrote offset payload now d)
wrote_is_node t next offset payload now d file some low p =
    let size : length d.content ≤ t.file_limit = p.size in
    record {
      from_one = p.from_one;
      below = p.below;
      mode = p.mode;
      content = bytes_carried t d.mode (written offset payload d.content) file;
      size = omega (arith, length_written offset payload d.content);
      blocks = wrote_counts t d.mode offset payload d.content d.blocks (file_no_link d.mode file) some p.blocks;
    }

listed_found : (s : State) (d : Node) → node_at s d.number ≡ Some d → written_blocks_of (option_map (full_of s) (node_at s d.number)) ≡ listed_blocks d.blocks
listed_found s d e = ap (λ (o : Option Node). written_blocks_of (option_map (full_of s) o)) e

pub blocks_found : (s : State) (d : Node) → node_at s d.number ≡ Some d → written_blocks_of (full_at (rows_of_state s) d.number) ≡ listed_blocks d.blocks
blocks_found s d e = ap written_blocks_of (find_full s d.number s.nodes) ∙ listed_found s d e

-- the row counts those that became written
row_wrote : (offset len : ℕ) (content : List ℕ) (blocks : Option (List ℕ)) → IfSome blocks (AreWritten content)
    → option_map length (option_map (with_touched offset len) blocks) ≡ option_map (λ w. w + newly_written offset len (listed_blocks blocks)) (option_map length blocks)
row_wrote offset len content None is = refl
row_wrote offset len content (Some blocks) is = ap (λ (w : ℕ). Some w) (count_wrote offset len content blocks is)

-- and so does what is in use
used_wrote_by : (offset len : ℕ) (content : List ℕ) (blocks : Option (List ℕ)) → IfSome blocks (AreWritten content) → is_some blocks ≡ true
    → length (listed_blocks (option_map (with_touched offset len) blocks)) ≡ length (listed_blocks blocks) + newly_written offset len (listed_blocks blocks)
used_wrote_by offset len content None is there = absurd cc
used_wrote_by offset len content (Some blocks) is there = count_wrote offset len content blocks is

-- in the node d
module _ (s : State) (offset : ℕ) (payload : List ℕ) (now : Moment) (d : Node) (tree : Shape s) (e : node_at s d.number ≡ Some d) where
  abbrev more : ℕ
  more = newly_written offset (length payload) (listed_blocks d.blocks)

  here : IsNode (terms_of s) s.next_node d
  here = (found (IsNode (terms_of s) s.next_node) (λ n. n.number == d.number) s.nodes d tree.nodes e).0

  write_full : full_of s (wrote offset payload now d)
      ≡ record { row = written_row (offset + length payload) more now (row_of s d); content = body_written offset payload (body_of_node d) }
  write_full = rw (length_written offset payload d.content, row_wrote offset (length payload) d.content d.blocks here.blocks.written) refl

  abbrev after : State
  after = with_bytes s offset payload now d.number

  -- where blocks are counted
  used_wrote : is_some s.capacity ≡ true → used_of after ≡ used_of s + more
  used_wrote counts =
      used_more s (wrote offset payload now) d more tree.nodes_rise e
      (used_wrote_by offset (length payload) d.content d.blocks here.blocks.written (here.blocks.counted ∙ counting s.capacity ∙ counts))

  room_wrote : (o : Option ℕ) → s.capacity ≡ o → option_map (room_with_used (λ used. used + more)) (option_map (room_with (used_of s)) o)
      ≡ option_map (room_with (used_of after)) o
  room_wrote None is = refl
  room_wrote (Some c) is = ap (λ (u : ℕ). Some (room_with u c)) (sym (used_wrote (ap is_some is)))

  write_rows : apply (rows_of_state s) (write_changes offset payload more now (row_of s d) (counters_for (profile_of s) (rows_of_state s))) ≡ rows_of_state after
  write_rows =
      let row = written_row (offset + length payload) more now (row_of s d) in
      used_rows (rows_of_state s) (map (at_node d.number (body_written offset payload)) (put_node row (map (full_of s) s.nodes))) (λ used. used + more)
      s.capacity (used_of s) refl
      ∙ changed_rows s (wrote offset payload now) (wrote_same offset payload now) d tree e row (body_written offset payload) write_full
      (option_map (room_with_used (λ used. used + more)) (room_of s)) (room_wrote s.capacity refl)

  space_wrote : (o : Option ℕ) → s.capacity ≡ o → has_room (option_map (room_with (used_of s)) o) more ≡ true → IfSome o (FitsCapacity s)
      → IfSome o (FitsCapacity after)
  space_wrote None is room fits = tt
  space_wrote (Some c) is room fits = space_after s after (Some c) more (used_wrote (ap is_some is)) room fits

  write_tree : is_file d.mode ≡ true → 1 ≤ length payload → offset + length payload ≤ (terms_of s).file_limit → has_room (room_of s) more ≡ true → Shape after
  write_tree file some low room =
      changed_tree s (wrote offset payload now) (wrote_same offset payload now) d tree e
      (wrote_is_node (terms_of s) s.next_node offset payload now d file some low here)
      (space_wrote s.capacity refl room tree.space)

  -- the room that the plan sees is that of the state
  room_seen : (o : Option ℕ) → room_of s ≡ option_map (room_with (used_of s)) o
      → not (has_room (room_in (counters_for (profile_for o) (rows_of_state s))) more) ≡ not (has_room (room_of s) more)
  room_seen None is = ap (λ (r : Option Room). not (has_room r more)) (sym is)
  room_seen (Some c) is = refl

  -- the blocks that the plan sees become written are those of the state
  more_seen : (blocks : Option (List ℕ)) → d.blocks ≡ blocks
      → between_for (option_map length blocks) (rows_of_state s) d.number (first_touched offset) (touched_end offset (length payload))
      ≡ count_between (first_touched offset) (touched_end offset (length payload)) (listed_blocks blocks)
  more_seen None is = refl
  more_seen (Some blocks) is =
      ap (count_between (first_touched offset) (touched_end offset (length payload))) (blocks_found s d e ∙ ap listed_blocks is)

  newly_seen : newly_in (rows_of_state s) (row_of s d) offset (length payload) ≡ more
  newly_seen = ap (λ (n : ℕ). touched_end offset (length payload) - first_touched offset - n) (more_seen d.blocks refl)

  pub write_agrees : (fh : ℕ)
      → Agrees s (plan_write (profile_of s) fh (record { offset = offset; payload = payload; now = now }) (row_of s d) (rows_of_state s))
      (write s fh (record { offset = offset; payload = payload; now = now }) d)
  write_agrees fh =
      both s (not (may_write (access_at s.handles fh d.number))) _ _ _ _ (λ _. refused_agrees s tree ebadf) (λ may.
      both s (length payload == 0) _ _ _ _ (λ _. record { answer = refl; rows = refl; tree = tree; same = refl; kept = λ all. all }) (λ some.
      both s (nat_lt (terms_of s).file_limit (offset + length payload)) _ _ _ _ (λ _. refused_agrees s tree efbig) (λ low.
      subst (λ (m : ℕ). Agrees s (plan_room offset payload m now (row_of s d) (counters_for (profile_of s) (rows_of_state s)))
      (cond (not (has_room (room_of s) more)) (refuse s enospc) (answer (with_bytes s offset payload now d.number) (count_body (length payload)))))
      (sym newly_seen)
      (both_seen s _ _ _ _ _ _ (room_seen s.capacity refl) (λ _. refused_agrees s tree enospc) (λ room. record {
        answer = refl;
        rows = write_rows;
        tree =
            write_tree (writable_file s d fh (handle_at s.handles fh) tree e refl (not_false _ may)) (not_zero (length payload) some)
            (ltb-false _ (offset + length payload) low) (not_false _ room);
        same = refl;
        kept = kept_change s d.number (wrote offset payload now) (λ n. refl);
      })))))

-- ---- READ

content_found : (s : State) (d : Node) → node_at s d.number ≡ Some d → content_of (option_map (full_of s) (node_at s d.number)) ≡ d.content
content_found s d e = ap (λ (o : Option Node). content_of (option_map (full_of s) o)) e

pub bytes_found : (s : State) (d : Node) (offset size : ℕ) → node_at s d.number ≡ Some d
    → bytes_at (rows_of_state s) d.number offset size ≡ take size (drop offset d.content)
bytes_found s d offset size e =
    ap (λ (o : Option Full). take size (drop offset (content_of o))) (find_full s d.number s.nodes)
    ∙ ap (λ (content : List ℕ). take size (drop offset content)) (content_found s d e)

pub read_agrees : (s : State) (asked : ReadIn) (d : Node) → Shape s → node_at s d.number ≡ Some d
    → Agrees s (plan_read asked (row_of s d) (rows_of_state s)) (read s asked d)
read_agrees s asked d tree e =
    checked s (read_checks s asked d) _ _ tree (λ _ _ _. record {
      answer = ap (λ (bytes : List ℕ). (told bytes).answer) (bytes_found s d asked.offset asked.size e);
      rows = refl;
      tree = tree;
      same = refl;
      kept = λ all. all;
    })
