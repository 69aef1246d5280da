-- The plan of CREATE agrees with what is done: a new node, and then its handle.
use Rattle.std.proofs.Common.{◌≡◌, ◌++◌, ℕ, true, false, List, [], ◌∷◌, length, map, Option, Some, None, refl, sym, ap, ◌∙◌}
use Rattle.std.specs.List.{list_any}
use Rattle.std.proofs.lemmas.Bool.{eq-eqb}
use Rattle.fuse_wire.specs.declared.access_mode.AccessMode.{AccessMode}
use Rattle.fuse_wire.specs.Errnos.{einval}
use Rattle.fuse_wire.specs.Flags.{access_of}
use Rattle.fuse_answer.specs.FurtherAnswers.{create_bytes}
use Rattle.fuse_tree.specs.declared.new_node.NewNode.{NewNode}
use Rattle.fuse_rows.specs.declared.rows.Full.{Full}
use Rattle.fuse_tree.specs.State.{State, Node, Shape, HasMode, terms_of, is_dir, is_file, is_open_at, node_at, is_named, name_fault}
use Rattle.fuse_rows.specs.Rows.{Rows, entry_at, apply}
use Rattle.fuse_tree.specs.Rowed.{row_of, rows_of_state, counters_of}
use Rattle.fuse_tree.specs.Keeping.{agreement_of, valid_of}
use Rattle.fuse_tree.specs.Done.{entry_out_of, touched}
use Rattle.fuse_tree.specs.Making.{gives_group, of_mode, begun_in, new_node, with_new_node, is_full, mkdir_checks}
use Rattle.fuse_tree.specs.Opening.{open_fault, open_of, new_handle}
use Rattle.fuse_tree.specs.Creating.{file_mode, created, create_for, create}
use Rattle.fuse_plan.specs.inner.Reading.{row_attr}
use Rattle.fuse_plan.specs.inner.PlanOpening.{counters_opened}
use Rattle.fuse_plan.specs.inner.PlanCreating.{create_changes, plan_create_for, plan_create}
use Rattle.fuse_plan.proofs.Agrees.{Agrees, refused_agrees, both_for, checked}
use Rattle.fuse_plan.proofs.Fit.{not_false, none_some}
use Rattle.fuse_plan.proofs.KeptStates.{node_given, kept_make, kept_by, kept_open}
use Rattle.fuse_plan.proofs.Lists.{any_last}
use Rattle.fuse_plan.proofs.Making.{empty_full, make_rows, make_tree}
use Rattle.fuse_plan.proofs.Modes.{made_file, mode_stays_in, file_stays_in}
use Rattle.fuse_plan.proofs.Carried.{file_no_link}
use Rattle.fuse_plan.proofs.Opening.{room, open_rows, tree_opened}

module _ (s : State) (fresh : NewNode) (name : List ℕ) (access : AccessMode) (d : Node) (tree : Shape s) (e : node_at s d.number ≡ Some d) where
  abbrev after : State
  after = with_new_node s fresh d.number name

  abbrev with_handle : Rows → Rows
  with_handle rows = record rows {
    handles = rows.handles ++ new_handle s.next_fh s.next_node access ∷ [];
    counters = counters_opened rows.counters;
  }

  create_rows : apply (rows_of_state s) (create_changes (counters_of s) fresh name access (row_of s d)) ≡ rows_of_state (created s fresh d.number name access)
  create_rows = ap with_handle (make_rows s fresh name d tree e) ∙ open_rows (with_new_node s fresh d.number name) access s.next_node

  opens : is_file fresh.mode ≡ true → list_any (is_open_at (new_handle s.next_fh s.next_node access)) (with_new_node s fresh d.number name).nodes ≡ true
  opens file =
      any_last (is_open_at (new_handle s.next_fh s.next_node access)) (map (touched d.number fresh.made) s.nodes) (new_node s fresh)
      (rw (eq-eqb s.next_node s.next_node refl, file) refl)

  pub created_agrees : is_dir d.mode ≡ true → name_fault name ≡ None → is_named s d.number ≡ true → entry_at s.entries d.number name ≡ None
      → is_full (terms_of s).node_limit (length s.nodes) s.next_node s.next_cookie ≡ false → HasMode fresh.mode fresh.rdev → is_file fresh.mode ≡ true
      → Agrees s (plan_create_for (agreement_of s) fresh name (Some access) (row_of s d) (rows_of_state s)) (create_for s fresh d.number name (Some access))
  created_agrees dir name_ok named free full mode file =
      both_for s (open_fault (length s.handles) s.next_fh) _ _ tree (λ left. record {
        answer = ap
            (λ (f : Full). record {
              errno = 0;
              body = create_bytes (record {
                entry = entry_out_of (valid_of (agreement_of s)) (row_attr f.row);
                «open» = open_of (terms_of s).open_flags s.next_fh;
              });
            })
            (sym (empty_full s fresh name d tree e));
        rows = create_rows;
        tree =
            tree_opened (with_new_node s fresh d.number name) s.next_node access (opens file) (room (with_new_node s fresh d.number name) left)
            (make_tree s fresh name d tree e dir name_ok named free full mode (file_no_link fresh.mode file));
        same = refl;
        kept = λ all.
            kept_by (with_new_node s fresh d.number name) (created s fresh d.number name access) refl (kept_open (with_new_node s fresh d.number name) s.next_node access)
            (kept_make s fresh d.number name tree (node_given s d.number d tree e) all);
      })

for_agrees : (s : State) (fresh : NewNode) (name : List ℕ) (o : Option AccessMode) (d : Node) → Shape s → node_at s d.number ≡ Some d → is_dir d.mode ≡ true
    → name_fault name ≡ None → is_named s d.number ≡ true → entry_at s.entries d.number name ≡ None
    → is_full (terms_of s).node_limit (length s.nodes) s.next_node s.next_cookie ≡ false → HasMode fresh.mode fresh.rdev → is_file fresh.mode ≡ true
    → Agrees s (plan_create_for (agreement_of s) fresh name o (row_of s d) (rows_of_state s)) (create_for s fresh d.number name o)
for_agrees s fresh name None d tree e dir name_ok named free full mode file = refused_agrees s tree einval
for_agrees s fresh name (Some access) d tree e dir name_ok named free full mode file =
    created_agrees s fresh name access d tree e dir name_ok named free full mode file

pub create_agrees : (s : State) (asked : NewNode) (flags : ℕ) (name : List ℕ) (d : Node) → Shape s → node_at s d.number ≡ Some d
    → Agrees s (plan_create (agreement_of s) asked flags name (row_of s d) (rows_of_state s)) (create s asked flags name d)
create_agrees s asked flags name d tree e =
    checked s (mkdir_checks s name d) _ _ tree (λ dir name_ok named free full.
    for_agrees s (begun_in s d (of_mode (file_mode asked.mode) asked)) name (access_of flags) d tree e (not_false _ dir) name_ok (not_false _ named)
    (none_some _ free) full (mode_stays_in (gives_group (terms_of s) d.mode) _ _ (made_file asked.mode))
    (file_stays_in (gives_group (terms_of s) d.mode) asked.mode))
