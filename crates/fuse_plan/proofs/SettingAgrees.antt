-- The plan of SETATTR agrees with what is done.
use Rattle.std.proofs.Common.{◌≡◌, ◌≤◌, ◌+◌, ◌-◌, ◌==◌, ℕ, Option, Bool, true, false, cond, eqb, not, List, [], ◌∷◌, length, map, Some, None, refl, sym, ap, subst, ◌∙◌, arith}
use Rattle.std.specs.Prelude.{nat_lt, IfSome}
use Rattle.std.specs.Option.{option_map}
use Rattle.std.proofs.lemmas.Bool.{ltb-false}
use Rattle.fuse_wire.specs.Errnos.{eisdir, einval, efbig}
use Rattle.fuse_wire.specs.declared.moment.Moment.{Moment}
use Rattle.fuse_wire.specs.Bits.{fattr_mode, fattr_size}
use Rattle.fuse_request.specs.declared.request.SetattrIn.{SetattrIn}
use Rattle.fuse_rows.specs.declared.rows.Full.{Full}
use Rattle.fuse_rows.specs.declared.rows.Change.TheVariants as changes
use Rattle.fuse_init.specs.Profile.{Terms}
use Rattle.fuse_rows.specs.Rows.{profile_for, Rows, put_node, at_node, sized, body_sized, apply}
use Rattle.fuse_tree.specs.State.{State, terms_of, profile_of, used_of, Node, Shape, Carries, CountsBlocks, AreWritten, IsNode, is_file, type_of, node_at}
use Rattle.fuse_rows.specs.Blocks.{Body, blocks_for, below_size, count_between, listed_blocks}
use Rattle.fuse_tree.specs.Done.{answer}
use Rattle.fuse_tree.specs.Keeping.{agreement_of, valid_of}
use Rattle.fuse_tree.specs.Space.{room_of}
use Rattle.fuse_tree.specs.Rowed.{full_of, row_of, body_of_node, rows_of_state}
use Rattle.fuse_tree.specs.Setting.{has_valid_bit, mode_after, size_fault, set_fault, set_attributes, with_set, set_answer, setattr}
use Rattle.fuse_plan.specs.inner.PlanSpace.{counters_for, room_with_used, room_changes, between_for}
use Rattle.fuse_plan.specs.inner.PlanSetting.{set_row, set_changes, plan_set, set_counters, plan_setattr}
use Rattle.fuse_plan.specs.inner.Reading.{attr_body}
use Rattle.fuse_plan.proofs.Lists.{found}
use Rattle.fuse_plan.proofs.KeptStates.{kept_change}
use Rattle.fuse_plan.proofs.Agrees.{Agrees, both_for}
use Rattle.fuse_plan.proofs.SizedRows.{room_used, used_rows}
use Rattle.fuse_plan.proofs.Blocks.{used_less, room_with, room_told, space_less}
use Rattle.fuse_plan.proofs.WrittenBlocks.{count_sized, sized_counts, counts_by_kind}
use Rattle.fuse_plan.proofs.WritingAgrees.{blocks_found}
use Rattle.fuse_plan.proofs.Carried.{bytes_carried, carried_by_kind, file_no_link}
use Rattle.fuse_plan.proofs.Lengths.{length_sized}
use Rattle.fuse_plan.proofs.Modes.{kind_stays, mode_stays}
use Rattle.fuse_plan.proofs.Trees.{SamePlace}
use Rattle.fuse_plan.proofs.Changing.{full_then, changed_rows, changed_tree}

-- ---- the node after it

same_kind : (set : SetattrIn) (mode : ℕ) → type_of (mode_after set mode) ≡ type_of mode
same_kind set mode = kind_stays mode set.mode (has_valid_bit set fattr_mode)

set_same : (set : SetattrIn) (now : Moment) (n : Node) → SamePlace n (set_attributes set now n)
set_same set now n = record { number = refl; kind = same_kind set n.mode }

no_fault : (dir file over : Bool) → cond dir (Some eisdir) (cond (not file) (Some einval) (cond over (Some efbig) None)) ≡ None → (file ≡ true) × (over ≡ false)
no_fault true file over e = absurd cc
no_fault false false over e = absurd cc
no_fault false true true e = absurd cc
no_fault false true false e = (refl, refl)

record Holds (t : Terms) (mode : ℕ) (bytes : List ℕ) (blocks : Option (List ℕ)) : Type 0 where
  content : Carries t mode bytes
  size : length bytes ≤ t.file_limit
  counts : CountsBlocks t mode bytes blocks

content_then : (t : Terms) (mode size : ℕ) (content : List ℕ) (blocks : Option (List ℕ)) (b : Bool) → cond b (size_fault t.file_limit mode size) None ≡ None
    → Holds t mode content blocks → Holds t mode (cond b (sized size content) content) (cond b (option_map (below_size size) blocks) blocks)
content_then t mode size content blocks true e p =
    let q = no_fault _ (is_file mode) (nat_lt t.file_limit size) e in
    record {
      content = bytes_carried t mode (sized size content) q.0;
      size = omega (arith, length_sized size content, ltb-false t.file_limit size q.1);
      counts = sized_counts t mode size content blocks (file_no_link mode q.0) p.counts;
    }
content_then t mode size content blocks false e p = p

set_is_node : (t : Terms) (next : ℕ) (set : SetattrIn) (now : Moment) (d : Node) → set_fault t.file_limit set d.mode ≡ None → IsNode t next d
    → IsNode t next (set_attributes set now d)
set_is_node t next set now d e p =
    let q =
    content_then t d.mode set.size d.content d.blocks (has_valid_bit set fattr_size) e (record { content = p.content; size = p.size; counts = p.blocks }) in
    record {
      from_one = p.from_one;
      below = p.below;
      mode = mode_stays d.mode d.rdev set.mode (has_valid_bit set fattr_mode) p.mode;
      content = carried_by_kind t d.mode (mode_after set d.mode) (set_attributes set now d).content (same_kind set d.mode) q.content;
      size = q.size;
      blocks =
          counts_by_kind t d.mode (mode_after set d.mode) (set_attributes set now d).content (set_attributes set now d).blocks (same_kind set d.mode) q.counts;
    }

-- ---- its rows

size_then : (size : ℕ) (content : List ℕ) (b : Bool) → length (cond b (sized size content) content) ≡ cond b size (length content)
size_then size content true = length_sized size content
size_then size content false = refl

-- where the size isn't set the content stays
stays : (node : ℕ) (fs : List Full) → map (at_node node (λ body. body)) fs ≡ fs
stays node [] = refl
stays node (f ∷ fs) = rw (one (eqb f.row.node node), stays node fs) refl
  where
    one : (b : Bool) → cond b (record f { content = f.content }) f ≡ f
    one true = refl
    one false = refl

abbrev body_then : ℕ → Bool → Body → Body
body_then size b body = record { bytes = cond b (sized size body.bytes) body.bytes; blocks = cond b (option_map (below_size size) body.blocks) body.blocks }

resized : (before : Rows) (ns : List Full) (node size gone : ℕ) (b : Bool) (o : Option ℕ) (used : ℕ)
    → before.counters.room ≡ option_map (room_with used) o
    → apply (record before { nodes = ns })
    (cond b (changes.Sized node size ∷ room_changes (cond b (counters_for (profile_for o) before) None) (λ used. used - gone)) []) ≡ record before {
      nodes = map (at_node node (body_then size b)) ns;
      counters = record before.counters { room = cond b (option_map (room_with_used (λ used. used - gone)) before.counters.room) before.counters.room };
    }
resized before ns node size gone true o used is = used_rows before (map (at_node node (body_sized size)) ns) (λ used. used - gone) o used is
resized before ns node size gone false o used is = ap (λ (fs : List Full). record before { nodes = fs }) (sym (stays node ns))

none_less : (n : ℕ) → n - 0 ≡ n
none_less n = omega arith

-- how many blocks are written no more
abbrev gone_of : ℕ → List ℕ → List ℕ → ℕ
gone_of size content blocks = count_between (blocks_for size) (blocks_for (length content)) blocks

-- those of the node, where its size is set
abbrev gone_then : Bool → ℕ → List ℕ → List ℕ → ℕ
gone_then b size content blocks = cond b (gone_of size content blocks) 0

-- the row counts those that are left
row_sized : (b : Bool) (size : ℕ) (content : List ℕ) (blocks : Option (List ℕ)) → IfSome blocks (AreWritten content)
    → option_map length (cond b (option_map (below_size size) blocks) blocks) ≡ option_map (λ w. w - gone_then b size content (listed_blocks blocks)) (option_map length blocks)
row_sized true size content None is = refl
row_sized false size content None is = refl
row_sized true size content (Some blocks) is = ap (λ (w : ℕ). Some w) (omega (arith, count_sized size content blocks is))
row_sized false size content (Some blocks) is = ap (λ (w : ℕ). Some w) (sym (none_less (length blocks)))

-- and so does what is in use
used_sized_by : (b : Bool) (size : ℕ) (content : List ℕ) (blocks : Option (List ℕ)) → IfSome blocks (AreWritten content)
    → length (listed_blocks (cond b (option_map (below_size size) blocks) blocks)) + gone_then b size content (listed_blocks blocks) ≡ length (listed_blocks blocks)
used_sized_by true size content None is = refl
used_sized_by false size content None is = refl
used_sized_by true size content (Some blocks) is = count_sized size content blocks is
used_sized_by false size content (Some blocks) is = omega arith

-- in the node d
module _ (s : State) (set : SetattrIn) (now : Moment) (d : Node) (tree : Shape s) (e : node_at s d.number ≡ Some d) where
  abbrev gone : ℕ
  gone = gone_then (has_valid_bit set fattr_size) set.size d.content (listed_blocks d.blocks)

  here : IsNode (terms_of s) s.next_node d
  here = (found (IsNode (terms_of s) s.next_node) (λ n. n.number == d.number) s.nodes d tree.nodes e).0

  set_full : full_of s (set_attributes set now d)
      ≡ record { row = set_row set now gone (row_of s d); content = body_then set.size (has_valid_bit set fattr_size) (body_of_node d) }
  set_full =
      rw (
        size_then set.size d.content (has_valid_bit set fattr_size),
        row_sized (has_valid_bit set fattr_size) set.size d.content d.blocks here.blocks.written,
      ) refl

  abbrev after : State
  after = with_set s set now d.number

  used_set : used_of after ≡ used_of s - gone
  used_set =
      used_less s (set_attributes set now) d gone tree.nodes_rise e
      (used_sized_by (has_valid_bit set fattr_size) set.size d.content d.blocks here.blocks.written)

  room_set : cond (has_valid_bit set fattr_size) (option_map (room_with_used (λ used. used - gone)) (room_of s)) (room_of s) ≡ room_of after
  room_set = each (has_valid_bit set fattr_size) used_set
    where
      each : (b : Bool) → used_of after ≡ used_of s - gone_then b set.size d.content (listed_blocks d.blocks)
          → cond b (option_map (room_with_used (λ used. used - gone_then b set.size d.content (listed_blocks d.blocks))) (room_of s)) (room_of s) ≡ room_of after
      each true is =
          room_used (λ used. used - gone_of set.size d.content (listed_blocks d.blocks)) s.capacity (used_of s) ∙ room_told s.capacity _ (used_of after) (sym is)
      each false is = room_told s.capacity (used_of s) (used_of after) (sym (is ∙ none_less (used_of s)))

  set_rows : apply (rows_of_state s) (set_changes set now gone (row_of s d) (set_counters (profile_of s) set (rows_of_state s))) ≡ rows_of_state after
  set_rows =
      resized (rows_of_state s) (put_node (set_row set now gone (row_of s d)) (map (full_of s) s.nodes)) d.number set.size gone (has_valid_bit set fattr_size)
      s.capacity (used_of s) refl
      ∙ changed_rows s (set_attributes set now) (set_same set now) d tree e (set_row set now gone (row_of s d))
      (body_then set.size (has_valid_bit set fattr_size)) set_full _ room_set

  set_tree : set_fault (terms_of s).file_limit set d.mode ≡ None → Shape after
  set_tree none =
      changed_tree s (set_attributes set now) (set_same set now) d tree e (set_is_node (terms_of s) s.next_node set now d none here)
      (space_less s after s.capacity (omega (arith, used_set)) tree.space)

  -- the blocks that the plan sees go are those of the state
  gone_seen : (b : Bool) (blocks : Option (List ℕ)) → d.blocks ≡ blocks
      → cond b (between_for (option_map length blocks) (rows_of_state s) d.number (blocks_for set.size) (blocks_for (length d.content))) 0
      ≡ gone_then b set.size d.content (listed_blocks blocks)
  gone_seen true None is = refl
  gone_seen false blocks is = refl
  gone_seen true (Some blocks) is = ap (count_between (blocks_for set.size) (blocks_for (length d.content))) (blocks_found s d e ∙ ap listed_blocks is)

  pub setattr_agrees : Agrees s (plan_setattr (agreement_of s) set now (row_of s d) (rows_of_state s)) (setattr s set now d)
  setattr_agrees =
      both_for s (set_fault (terms_of s).file_limit set d.mode) _ _ tree (λ none.
      subst (λ (g : ℕ). Agrees s (plan_set (valid_of (agreement_of s)) set now g (row_of s d) (set_counters (profile_of s) set (rows_of_state s)))
      (answer (with_set s set now d.number) (set_answer s set now d)))
      (sym (gone_seen (has_valid_bit set fattr_size) d.blocks refl)) (record {
        answer =
            ap (λ (f : Full). record { errno = 0; body = attr_body (valid_of (agreement_of s)) f.row })
            (sym (full_then s (set_attributes set now) (set_same set now) d tree e (set_attributes set now d) ∙ set_full));
        rows = set_rows;
        tree = set_tree none;
        same = refl;
        kept = kept_change s d.number (set_attributes set now) (λ n. refl);
      }))
