-- A handle more and a handle less: the rows are those of the state that has it so, and the tree goes on.
use Rattle.std.proofs.Common.{◌≡◌, ◌≢◌, ◌<◌, ◌≤◌, ◌+◌, ◌-◌, ◌==◌, ℕ, suc, Bool, true, false, not, cond, eqb, List, [], ◌∷◌, length, Option, Some, None, refl, sym, ap, subst, inl, inr, arith}
use Rattle.std.specs.Prelude.{find, filter, is_some}
use Rattle.std.specs.List.{AllByRecursion, list_any}
use Rattle.std.proofs.lemmas.Bool.{eqb-true, ne_eqb, leb-false}
use Rattle.std.proofs.lemmas.List.{length-append}
use Rattle.fuse_wire.specs.declared.access_mode.AccessMode.{AccessMode}
use Rattle.fuse_wire.specs.Errnos.{enfile, enospc}
use Rattle.fuse_rows.specs.Bounds.{handle_limit, number_end}
use Rattle.fuse_rows.specs.declared.rows.HandleRow.{HandleRow}
use Rattle.fuse_tree.specs.State.{State, Node, Shape, Apart, IsHandle, is_open_at}
use Rattle.fuse_rows.specs.Rows.{handle_at, apply}
use Rattle.fuse_tree.specs.Rowed.{rows_of_state, counters_of}
use Rattle.fuse_tree.specs.Handles.{access_in, is_open}
use Rattle.fuse_tree.specs.Opening.{open_fault, new_handle, with_open_node, closed}
use Rattle.fuse_plan.specs.inner.PlanOpening.{opened_changes, closed_changes}
use Rattle.fuse_plan.proofs.Fit.{no_fault}
use Rattle.fuse_plan.proofs.Lists.{or_true, all_more, all_grown, all_kept, apart_grown, apart_filtered, length_filtered, cond_found}
use Rattle.fuse_plan.proofs.Blocks.{space_same}
use Rattle.fuse_plan.proofs.Trees.{handle_moved}

-- ---- a handle more

pub record Room (s : State) : Type 0 where
  pub few : length s.handles < handle_limit
  pub left : s.next_fh < number_end

pub room : (s : State) → open_fault (length s.handles) s.next_fh ≡ None → Room s
room s none =
    let h = no_fault _ _ enfile enospc none in
    record { few = leb-false _ (length s.handles) h.0; left = leb-false _ s.next_fh h.1 }

-- the test that the node of this number passes, a node passes
pub any_there : (test : Node → Bool) (k : ℕ) (d : Node) (ns : List Node) → find (λ n. n.number == k) ns ≡ Some d → test d ≡ true → list_any test ns ≡ true
any_there test k d [] e is = absurd cc
any_there test k d (n ∷ ns) e is =
    elim (cond_found (eqb n.number k) n d (find (λ m. m.number == k) ns) e) [
      | inl h ↦ rw (ap test h.1, is) refl
      | inr h ↦ rw (any_there test k d ns h.1 is) (or_true (test n))
    ]

pub open_rows : (s : State) (access : AccessMode) (node : ℕ)
    → apply (rows_of_state s) (opened_changes (counters_of s) access node) ≡ rows_of_state (with_open_node s node access)
open_rows s access node =
    ap (λ (n : ℕ). record (rows_of_state (with_open_node s node access)) { counters = record (counters_of (with_open_node s node access)) { handles = n } })
    (sym (length-append s.handles (new_handle s.next_fh node access ∷ [])))

one_more : (a b : ℕ) → a < b → a + 1 ≤ b
one_more a b lt = omega arith

pub tree_opened : (s : State) (node : ℕ) (access : AccessMode) → list_any (is_open_at (new_handle s.next_fh node access)) s.nodes ≡ true → Room s → Shape s
    → Shape (with_open_node s node access)
tree_opened s node access there left tree =
    let h = new_handle s.next_fh node access in
    let from_one : 1 ≤ s.next_fh = tree.limits.fh_from_one in
    record {
      root = tree.root;
      nodes = tree.nodes;
      nodes_rise = tree.nodes_rise;
      entries = tree.entries;
      entries_apart = tree.entries_apart;
      handles = all_grown (IsHandle s.nodes (s.next_fh + 1)) s.handles h
          (all_more (IsHandle s.nodes s.next_fh) (IsHandle s.nodes (s.next_fh + 1)) s.handles
          (λ i p. handle_moved s.nodes s.nodes s.next_fh (s.next_fh + 1) i (λ is. is) (omega arith) p) tree.handles)
          (record { node = there; from_one = from_one; below = omega arith });
      handles_rise =
          apart_grown (λ i j. i.fh < j.fh) s.handles h tree.handles_rise
          (all_more (IsHandle s.nodes s.next_fh) (λ i. i.fh < h.fh) s.handles (λ i p. p.below) tree.handles);
      limits = record {
        nodes = tree.limits.nodes;
        handles = omega (arith, left.few, length-append s.handles (h ∷ []));
        next_node = tree.limits.next_node;
        next_fh = one_more s.next_fh _ left.left;
        next_cookie = tree.limits.next_cookie;
        fh_from_one = omega arith;
        cookie_from_three = tree.limits.cookie_from_three;
      };
      space = space_same s (with_open_node s node access) s.capacity refl tree.space;
    }

-- ---- a handle less

pub tree_closed : (s : State) (fh : ℕ) → Shape s → Shape (closed s fh)
tree_closed s fh tree =
    let stays : HandleRow → Bool = λ h. not (h.fh == fh) in
    record {
      root = tree.root;
      nodes = tree.nodes;
      nodes_rise = tree.nodes_rise;
      entries = tree.entries;
      entries_apart = tree.entries_apart;
      handles = all_kept (IsHandle s.nodes s.next_fh) stays s.handles tree.handles;
      handles_rise = apart_filtered (λ i j. i.fh < j.fh) stays s.handles tree.handles_rise;
      limits = record {
        nodes = tree.limits.nodes;
        handles = omega (arith, tree.limits.handles, length_filtered stays s.handles);
        next_node = tree.limits.next_node;
        next_fh = tree.limits.next_fh;
        next_cookie = tree.limits.next_cookie;
        fh_from_one = tree.limits.fh_from_one;
        cookie_from_three = tree.limits.cookie_from_three;
      };
      space = space_same s (closed s fh) s.capacity refl tree.space;
    }

all_stay : (fh : ℕ) (hs : List HandleRow) → AllByRecursion (λ i. fh < i.fh) hs → filter (λ h. not (h.fh == fh)) hs ≡ hs
all_stay fh [] later = refl
all_stay fh (h ∷ hs) later =
    let lt : fh < h.fh = later.0 in
    let ne : h.fh ≢ fh = omega arith in
    rw (ne_eqb h.fh fh ne, all_stay fh hs later.1) refl

-- numbers rise, so one handle goes
one_less : (fh : ℕ) (hs : List HandleRow) → Apart (λ i j. i.fh < j.fh) hs → is_some (handle_at hs fh) ≡ true
    → length (filter (λ h. not (h.fh == fh)) hs) + 1 ≡ length hs
one_less fh [] rise is = absurd cc
one_less fh (h ∷ hs) rise is =
    let step : (b : Bool) → eqb h.fh fh ≡ b → is_some (cond b (Some h) (handle_at hs fh)) ≡ true → length
    (cond (not b) (h ∷ filter (λ i. not (i.fh == fh)) hs) (filter (λ i. not (i.fh == fh)) hs)) + 1 ≡ suc (length hs) =
    elim [
      | true ↦ λ at there. let later : AllByRecursion (λ i. fh < i.fh) hs = subst (λ k. AllByRecursion (λ (i : HandleRow). k < i.fh) hs)
          (eqb-true h.fh fh at) rise.0 in omega (arith, ap length (all_stay fh hs later))
      | false ↦ λ other there. omega (arith, one_less fh hs rise.1 there)
    ] in
    step (eqb h.fh fh) refl is

open_there : (node : ℕ) (o : Option HandleRow) → is_some (access_in node o) ≡ true → is_some o ≡ true
open_there node None is = is
open_there node (Some h) is = refl

pub close_rows : (s : State) (fh node : ℕ) → Shape s → is_open s.handles fh node ≡ true
    → apply (rows_of_state s) (closed_changes (counters_of s) fh) ≡ rows_of_state (closed s fh)
close_rows s fh node tree is =
    let less = one_less fh s.handles tree.handles_rise (open_there node (handle_at s.handles fh) is) in
    let count : length s.handles - 1 ≡ length (closed s fh).handles = omega arith in
    ap (λ (n : ℕ). record (rows_of_state (closed s fh)) { counters = record (counters_of (closed s fh)) { handles = n } }) count
