-- The plan of RENAME and RENAME2 agrees with what is done.
use Rattle.std.proofs.Common.{◌≡◌, ◌≢◌, ◌≤◌, ◌+◌, ◌-◌, ◌==◌, ◌&&◌, ◌||◌, ℕ, zero, suc, Bool, true, false, cond, not, eqb, List, [], ◌∷◌, ◌++◌, length, Option, Some, None, refl, sym, ap, subst, ◌∙◌, arith}
use Rattle.std.specs.Prelude.{find, filter, nat_eq, nat_le, nat_lt, is_some}
use Rattle.std.specs.Option.{option_map}
use Rattle.std.specs.List.{AllByRecursion, list_any}
use Rattle.std.specs.Cmp.Lexicographic.{pointwise, same_text}
use Rattle.std.proofs.lemmas.Bool.{eqb-true, eqb-false, ne_eqb, leb-false, ltb-false}
use Rattle.fuse_wire.specs.declared.errno.Errno.{Errno}
use Rattle.fuse_init.specs.declared.profile.Profile.{Profile}
use Rattle.fuse_init.specs.Profile.{terms}
use Rattle.fuse_wire.specs.Errnos.{enoent, eexist, einval, enospc, estale}
use Rattle.fuse_rows.specs.Bounds.{number_end}
use Rattle.fuse_plan.specs.declared.planning.finding.Link.{Link}
use Rattle.fuse_rows.specs.declared.rows.EntryRow.{EntryRow}
use Rattle.fuse_rows.specs.declared.rows.NodeRow.{NodeRow}
use Rattle.fuse_plan.specs.declared.planned.Planned.{Planned}
use Rattle.fuse_rows.specs.Rows.{profile_for, is_entry, Rows, row_at, entry_at, apply}
use Rattle.fuse_tree.specs.State.{State, terms_of, used_of, up_of, Node, Shape, IsNode, IsEntry, Reaches, is_dir, is_dir_of, has_number, is_named, name_fault, node_at, above, is_used, is_kept, NodesAreKept}
use Rattle.fuse_rows.specs.declared.rows.Change.{Change}
use Rattle.fuse_rows.specs.declared.rows.Change.TheVariants.{EntryGone, Node as NodePut, Counters as CountersPut}
use Rattle.fuse_tree.specs.Rowed.{row_of, rows_of_state, counters_of}
use Rattle.fuse_tree.specs.Space.{room_of}
use Rattle.fuse_tree.specs.Removal.{tidied}
use Rattle.fuse_tree.specs.Done.{Done, refuse_for, touched}
use Rattle.fuse_plan.specs.inner.Reading.{refused_for}
use Rattle.fuse_tree.specs.Removing.{marked, has_entries}
use Rattle.fuse_tree.specs.Renaming.{Renaming, is_exchange, is_no_replace, leads_to, lies_in, is_dir_at, holds, asked_fault, kinds_fault, place_fault, renamed, exchanged, rename_entry, exchange_entry, rename_by, rename_from, rename_between, rename}
use Rattle.fuse_plan.specs.inner.PlanRemoving.{link_of}
use Rattle.fuse_plan.specs.inner.PlanRemoval.{goes_unnamed}
use Rattle.fuse_plan.specs.inner.PlanRenaming.{lost_changes, dir_row, moved_row, entry_change, is_dir_link, rename_changes, row_holds, link_fault, other_at, new_dir_at, plan_rename_link, plan_exchange_link, plan_rename_by, plan_rename_from, plan_rename_between, plan_rename}
use Rattle.fuse_plan.proofs.Checks.{earlier_none, cond_none}
use Rattle.fuse_plan.proofs.Agrees.{Agrees, refused_agrees, both, both_for}
use Rattle.fuse_plan.proofs.Lists.{all_kept, any_gives, found, and_true, and_false, or_false}
use Rattle.fuse_plan.proofs.Puts.{row_found, node_found, only_one, dir_there}
use Rattle.fuse_plan.proofs.Heights.{rooted, dirs_given, not_under_own}
use Rattle.fuse_plan.proofs.Ups.{up_more}
use Rattle.fuse_plan.proofs.EntryGone.{IsOnly, Standing, standing, gone_only, left_others, up_less, up_gone}
use Rattle.fuse_plan.proofs.Blocks.{room_with}
use Rattle.fuse_plan.proofs.Most.{profile_mapped}
use Rattle.fuse_plan.proofs.KeptStates.{all_kept_in, node_given, kept_by, kept_renamed, kept_over, kept_exchanged}
use Rattle.fuse_plan.proofs.RemovalAgrees.{tidied_rows, tidied_whole, found_mapped, tree_tidied, same_tidied, kept_tidied, unnamed_goes}
use Rattle.fuse_plan.proofs.GoneRows.{none_in_empty}
use Rattle.fuse_plan.proofs.Moving.{up_found}
use Rattle.fuse_plan.proofs.MovedTrees.{f_differs}
use Rattle.fuse_plan.proofs.Walking.{never_held}
use Rattle.fuse_plan.proofs.RenameFree.{free_rows, free_tree}
use Rattle.fuse_plan.proofs.RenameOver.{over_rows, over_tree}
use Rattle.fuse_plan.proofs.Exchanges.{exchange_rows, exchange_tree}

-- ---- tests and faults that are stated in two ways

both_as : (s : State) (b b' : Bool) (p q : Planned) (d e : Done) → b' ≡ b → (b ≡ true → Agrees s p d) → (b ≡ false → Agrees s q e)
    → Agrees s (cond b' p q) (cond b d e)
both_as s b b' p q d e same there other = subst (λ (x : Bool). Agrees s (cond x p q) (cond b d e)) (sym same) (both s b p q d e there other)

both_for_as : (s : State) (fault fault' : Option Errno) (p : Planned) (d : Done) → Shape s → fault' ≡ fault → (fault ≡ None → Agrees s p d)
    → Agrees s (refused_for fault' p) (refuse_for s fault d)
both_for_as s fault fault' p d tree same other =
    subst (λ (x : Option Errno). Agrees s (refused_for x p) (refuse_for s fault d)) (sym same) (both_for s fault p d tree other)

not_false : (b : Bool) → not b ≡ false → b ≡ true
not_false true is = refl
not_false false is = absurd cc

record Asks (r : Renaming) (are_dirs are_named : Bool) : Type 0 where
  dirs : are_dirs ≡ true
  new_name : name_fault r.new_name ≡ None
  named : are_named ≡ true

asked_none : (r : Renaming) (are_dirs are_named : Bool) → asked_fault r are_dirs are_named ≡ None → Asks r are_dirs are_named
asked_none r are_dirs are_named is =
    let first = cond_none (not are_dirs) _ _ is in
    let second = earlier_none (name_fault r.old_name) _ first.1 in
    let third = earlier_none (name_fault r.new_name) _ second.1 in
    let fourth = cond_none (not (is_some r.mode)) _ _ third.1 in
    record { dirs = not_false are_dirs first.0; new_name = third.0; named = not_false are_named (cond_none (not are_named) _ _ fourth.1).0 }

kinds_none : (a b h : Bool) → kinds_fault a b h ≡ None → h ≡ false
kinds_none a b h is = (cond_none h _ _ (cond_none (not a && b) _ _ (cond_none (a && not b) _ _ is).1).1).0

-- ---- what is found in a tree

there_found : {A : Type 0} (test : A → Bool) (xs : List A) → list_any test xs ≡ true → (x : A) × (find test xs ≡ Some x)
there_found test [] is = absurd cc
there_found test (x ∷ xs) is =
    let step : (b : Bool) → (b || list_any test xs) ≡ true → (y : _) × (cond b (Some x) (find test xs) ≡ Some y) =
    elim [ true ↦ λ here. (x, refl) | false ↦ λ there. there_found test xs there ] in
    step (test x) is

-- an entry that is found, and its child
record Found (s : State) (dir : ℕ) (name : List ℕ) (e : EntryRow) (c : Node) : Type 0 where
  entry : IsEntry s.nodes s.entries s.next_cookie e
  dir_is : e.dir ≡ dir
  name_is : e.name ≡ name
  child : node_at s e.child ≡ Some c
  given : e.child ≢ 0
  link : link_of (rows_of_state s) (Some e) ≡ Some (record { cookie = e.cookie; child = row_of s c })

found_entry : (s : State) (dir : ℕ) (name : List ℕ) (e : EntryRow) → Shape s → entry_at s.entries dir name ≡ Some e → (c : Node) × Found s dir name e c
found_entry s dir name e tree at =
    let p = found (IsEntry s.nodes s.entries s.next_cookie) (is_entry dir name) s.entries e tree.entries at in
    let place = and_true (eqb e.dir dir) _ p.1 in
    let c = there_found (has_number e.child) s.nodes p.0.child in
    let one : 1 ≤ c.0.number = (found (IsNode (terms_of s) s.next_node) (has_number e.child) s.nodes c.0 tree.nodes c.1).0.from_one in
    let is : c.0.number ≡ e.child = (node_found s e.child c.0 tree c.1).0 in (
      c.0,
      record {
        entry = p.0;
        dir_is = eqb-true e.dir dir place.0;
        name_is = same_text e.name name (sym place.1);
        child = c.1;
        given = omega arith;
        link = ap (option_map (λ (row : NodeRow). record { cookie = e.cookie; child = row })) (row_found s e.child ∙ ap (option_map (row_of s)) c.1);
      },
    )

dir_at : (s : State) (k : ℕ) (n : Node) → Shape s → node_at s k ≡ Some n → is_dir_at s k ≡ is_dir n.mode
dir_at s k n tree at = step (is_dir n.mode) refl (is_dir_at s k) refl
  where
    step : (b : Bool) → is_dir n.mode ≡ b → (a : Bool) → is_dir_at s k ≡ a → a ≡ b
    step true is a e = sym e ∙ dir_there k n s.nodes at is
    step false is false e = refl
    step false is true e =
        absurd (any_gives (λ m. m.number ≡ k → m ≡ n) (is_dir_of k) ⊥ s.nodes (only_one k n s.nodes tree.nodes_rise at) e
        (λ m one test. (
        let parts = and_true _ _ test in
        let same : is_dir n.mode ≡ true = subst (λ (i : Node). is_dir i.mode ≡ true) (one (eqb-true m.number k parts.0)) parts.1 in
        cc)))

-- what is never above a directory doesn't hold it
none_leads : (es : List EntryRow) (n node dir : ℕ) → ((i : ℕ) → above es i dir ≢ node) → leads_to es n node dir ≡ false
none_leads es zero node dir never = refl
none_leads es (suc n) node dir never = rw (none_leads es n node dir never, ne_eqb (above es n dir) node (never n)) refl

never_holds : (s : State) (node dir : ℕ) → ((i : ℕ) → above s.entries i dir ≢ node) → holds s node dir ≡ false
never_holds s node dir never = ap (λ (b : Bool). is_dir_at s node && b) (none_leads s.entries (length s.nodes) node dir never) ∙ and_false (is_dir_at s node)

held : (s : State) (k dir : ℕ) (n : Node) → Shape s → node_at s k ≡ Some n → (is_dir n.mode && lies_in s n.number dir) ≡ holds s k dir
held s k dir n tree at =
    ap (λ (i : ℕ). is_dir n.mode && lies_in s i dir) (node_found s k n tree at).0
    ∙ ap (λ (b : Bool). b && lies_in s k dir) (sym (dir_at s k n tree at))

-- the child of an entry in a directory is never above it, so it isn't asked there
same_holds : (s : State) (k from dir : ℕ) (n : Node) → Shape s → node_at s k ≡ Some n → ((i : ℕ) → above s.entries i from ≢ k)
    → row_holds (rows_of_state s) (row_of s n) from dir ≡ holds s k dir
same_holds s k from dir n tree at never = step (eqb from dir) refl
  where
    step : (b : Bool) → eqb from dir ≡ b → (is_dir n.mode && (not b && lies_in s n.number dir)) ≡ holds s k dir
    step true is = and_false (is_dir n.mode) ∙ sym (subst (λ (d : ℕ). holds s k d ≡ false) (eqb-true from dir is) (never_holds s k from never))
    step false is = held s k dir n tree at

-- only directories have entries
dirs_alone : (s : State) (k : ℕ) (n : Node) → Shape s → node_at s k ≡ Some n → (is_dir n.mode && has_entries s.entries n.number) ≡ has_entries s.entries k
dirs_alone s k n tree at =
    ap (λ (i : ℕ). is_dir n.mode && has_entries s.entries i) (node_found s k n tree at).0 ∙ step (is_dir n.mode) refl (has_entries s.entries k) refl
  where
    step : (b : Bool) → is_dir n.mode ≡ b → (h : Bool) → has_entries s.entries k ≡ h → (b && h) ≡ h
    step true is h e = refl
    step false is false e = refl
    step false is true e =
        absurd (any_gives (IsEntry s.nodes s.entries s.next_cookie) (λ x. x.dir == k) ⊥ s.entries tree.entries e
        (λ x p same. (
        let there : is_dir_at s k ≡ true = subst (λ (d : ℕ). is_dir_at s d ≡ true) (eqb-true x.dir k same) p.dir in
        let isnt = dir_at s k n tree at in
        cc)))

-- ---- from directory d to directory t

module _ (s : State) (r : Renaming) (d t : Node) (tree : Shape s) (at_d : node_at s d.number ≡ Some d) (at_t : node_at s r.new_dir ≡ Some t)
    (dir_d : is_dir d.mode ≡ true) (dir_t : is_dir t.mode ≡ true)
    (named : is_named s r.new_dir ≡ true) (name_ok : name_fault r.new_name ≡ None) (kept : NodesAreKept s) where
  abbrev link : EntryRow → Node → Link
  link e c = record { cookie = e.cookie; child = row_of s c }

  to_there : is_dir_at s r.new_dir ≡ true
  to_there = dir_at s r.new_dir t tree at_t ∙ dir_t

  from_there : is_dir_at s d.number ≡ true
  from_there = dir_at s d.number d tree at_d ∙ dir_d

  -- no directory is under its own entry's child
  never_above : (dir : ℕ) (name : List ℕ) (e : EntryRow) (c : Node) → Found s dir name e c → entry_at s.entries dir name ≡ Some e → (i : ℕ)
      → above s.entries i dir ≢ e.child
  never_above dir name e c p at =
      not_under_own s.entries (rooted s tree) e.child dir (up_found (is_entry dir name) s.entries e tree.entries_apart at ∙ p.dir_is)
      (subst (λ (k : ℕ). Reaches s.entries k) p.dir_is p.entry.reaches)

  not_own : (dir : ℕ) (name : List ℕ) (e : EntryRow) (c : Node) → Found s dir name e c → entry_at s.entries dir name ≡ Some e → e.child ≢ dir
  not_own dir name e c p at same = never_above dir name e c p at 0 (sym same)

  to_given : r.new_dir ≢ 0
  to_given = node_given s r.new_dir t tree at_t

  -- ---- the node that loses its name

  -- as it is then
  abbrev lost_then : EntryRow → EntryRow → Node → Node
  lost_then e f o = touched r.new_dir r.now (touched d.number r.now (marked e.child r.now (marked f.child r.now (touched f.dir r.now o))))

  lost_found : (e f : EntryRow) (o : Node) → node_at s f.child ≡ Some o → node_at (renamed r d.number e (Some f) s) f.child ≡ Some (lost_then e f o)
  lost_found e f o at =
      let one = found_mapped (touched f.dir r.now) f.child o s.nodes (λ n. refl) at in
      let two = found_mapped (marked f.child r.now) f.child _ _ (λ n. refl) one in
      let three = found_mapped (marked e.child r.now) f.child _ _ (λ n. refl) two in
      let four = found_mapped (touched d.number r.now) f.child _ _ (λ n. refl) three in
      found_mapped (touched r.new_dir r.now) f.child _ _ (λ n. refl) four

  -- the changes, by whether both directories are one
  abbrev changes_by : Link → Link → Bool → List Change
  changes_by source other b =
      lost_changes r.now (Some other) ++ EntryGone source.cookie
      ∷ (cond b (NodePut (dir_row r.now (is_dir_link other) false (row_of s d)) ∷ [])
      (NodePut (dir_row r.now (is_dir_link source) false (row_of s d)) ∷ NodePut (dir_row r.now (is_dir_link other) (is_dir_link source) (row_of s t)) ∷ []))
      ++ NodePut (moved_row r.now r.new_dir source.child)
      ∷ entry_change r.new_dir r.new_name source.child s.next_cookie
      ∷ CountersPut (record (counters_of s) { next_cookie = s.next_cookie + 1 }) ∷ []

  -- the counters that they leave
  counters_then : (source other : Link) (then : State)
      → apply (rows_of_state s) (rename_changes r (counters_of s) (row_of s d) (row_of s t) source (Some other)) ≡ rows_of_state then
      → record (counters_of s) { next_cookie = s.next_cookie + 1 } ≡ counters_of then
  counters_then source other then = step (d.number == r.new_dir)
    where
      step : (b : Bool) → apply (rows_of_state s) (changes_by source other b) ≡ rows_of_state then
          → record (counters_of s) { next_cookie = s.next_cookie + 1 } ≡ counters_of then
      step true rows = ap (λ (x : Rows). x.counters) rows
      step false rows = ap (λ (x : Rows). x.counters) rows

  lost_goes : (e f : EntryRow) (o : Node) → Shape s → Standing s e → Standing s f → e.child ≢ f.child → o.number ≡ f.child
      → goes_unnamed (profile_for (room_of s)) o.number (rows_of_state s) ≡ ((terms_of s).removes && not (is_kept (renamed r d.number e (Some f) s) f.child))
  lost_goes e f o tree stands_e stands_f apart o_is =
      let then = renamed r d.number e (Some f) s in
      let left : List EntryRow = filter (λ x. not (x.cookie == f.cookie)) s.entries in
      let only : AllByRecursion (IsOnly e) left = all_kept (IsOnly e) (λ x. not (x.cookie == f.cookie)) s.entries stands_e.only in
      let there : EntryRow = record { dir = r.new_dir; name = r.new_name; child = e.child; cookie = s.next_cookie } in
      let up : up_of then.entries f.child ≡ 0 =
      up_more (filter (λ x. not (x.cookie == e.cookie)) left) there f.child apart
      ∙ up_less (λ x. not (x.cookie == e.cookie)) left e.child f.child (gone_only e left only) (λ same. apart (sym same))
      ∙ up_gone (λ x. not (x.cookie == f.cookie)) s.entries f.child (left_others f s.entries stands_f.only) in
      ap (λ (p : Profile). (terms p).removes && not (is_used s.handles o.number)) (profile_mapped (room_with (used_of s)) s.capacity)
      ∙ ap (λ (k : ℕ). (terms_of s).removes && not (is_used s.handles k)) o_is
      ∙ ap (λ (b : Bool). (terms_of s).removes && not b) (sym (unnamed_goes then f.child stands_f.entry.not_root up))

  -- ---- RENAME

  free_agrees : (e : EntryRow) (c : Node) → Found s d.number r.old_name e c → entry_at s.entries d.number r.old_name ≡ Some e
      → entry_at s.entries r.new_dir r.new_name ≡ None
      → Agrees s (plan_rename_link r (row_of s d) (row_of s t) (link e c) None (rows_of_state s)) (rename_entry s r d.number e None)
  free_agrees e c p at_e free =
      both_as s (holds s e.child r.new_dir) _ _ _ _ _ (same_holds s e.child d.number r.new_dir c tree p.child (never_above d.number r.old_name e c p at_e))
      (λ _. refused_agrees s tree einval) (λ apart.
      both s (nat_le number_end s.next_cookie) _ _ _ _ (λ _. refused_agrees s tree enospc) (λ room. (
      let never = never_held s e.child r.new_dir tree p.given to_there apart in
      let then = renamed r d.number e None s in
      let only = (standing s (is_entry d.number r.old_name) e tree at_e).only in
      let after : Shape then =
      free_tree s r d t c e tree at_d at_t p.child at_e p.dir_is (not_own d.number r.old_name e c p at_e)
      (λ same. never 0 (sym same)) dir_t named name_ok free never (leb-false _ _ room) in
      let whole : tidied then ≡ then = tidied_whole then (λ removes. kept_renamed s r d.number e (dirs_given s tree) to_given only (all_kept_in s kept removes)) in
      record {
        answer = refl;
        rows =
            free_rows s r d t c e tree at_d at_t p.child at_e p.dir_is (not_own d.number r.old_name e c p at_e) (λ same. never 0 (sym same))
            ∙ ap rows_of_state (sym whole);
        tree = tree_tidied then after;
        same = same_tidied then;
        kept = λ _. kept_tidied then;
      })))

  over_agrees : (e : EntryRow) (c : Node) (f : EntryRow) (o : Node) → Found s d.number r.old_name e c → entry_at s.entries d.number r.old_name ≡ Some e
      → Found s r.new_dir r.new_name f o → entry_at s.entries r.new_dir r.new_name ≡ Some f
      → Agrees s (plan_rename_link r (row_of s d) (row_of s t) (link e c) (Some (link f o)) (rows_of_state s)) (rename_entry s r d.number e (Some f))
  over_agrees e c f o p at_e q at_f =
      both s (eqb e.cookie f.cookie) _ _ _ _ (λ _. record { answer = refl; rows = refl; tree = tree; same = refl; kept = λ all. all }) (λ other.
      both_as s (holds s e.child r.new_dir) _ _ _ _ _ (same_holds s e.child d.number r.new_dir c tree p.child (never_above d.number r.old_name e c p at_e))
      (λ _. refused_agrees s tree einval) (λ apart.
      both_for_as s (place_fault s e.child (Some f)) (link_fault (rows_of_state s) (link e c) (Some (link f o))) _ _ tree
      (ap (λ (b : Bool). kinds_fault b (is_dir o.mode) (is_dir o.mode && has_entries s.entries o.number)) (sym (dir_at s e.child c tree p.child))
      ∙ ap (λ (b : Bool). kinds_fault (is_dir_at s e.child) b (is_dir o.mode && has_entries s.entries o.number)) (sym (dir_at s f.child o tree q.child))
      ∙ ap (kinds_fault (is_dir_at s e.child) (is_dir_at s f.child)) (dirs_alone s f.child o tree q.child)) (λ fits.
      both s (nat_le number_end s.next_cookie) _ _ _ _ (λ _. refused_agrees s tree enospc) (λ room. (
      let never = never_held s e.child r.new_dir tree p.given to_there apart in
      let empty = none_in_empty s.entries f.child (kinds_none _ _ _ fits) in
      let ne = eqb-false e.cookie f.cookie other in
      let differ =
      f_differs s (is_entry r.new_dir r.new_name) (is_entry d.number r.old_name) f e r.new_dir d.number r.new_name r.old_name tree at_f at_e
      (λ same. ne (sym same)) in
      let then = renamed r d.number e (Some f) s in
      let rows =
      over_rows s r d t c o e f tree at_d at_t p.child q.child at_e at_f p.dir_is q.dir_is differ (not_own d.number r.old_name e c p at_e)
      (λ same. never 0 (sym same)) (not_own r.new_dir r.new_name f o q at_f) empty in
      let after : Shape then =
      over_tree s r d t c o e f tree at_d at_t p.child q.child at_e at_f p.dir_is q.dir_is differ (not_own d.number r.old_name e c p at_e)
      (λ same. never 0 (sym same)) (not_own r.new_dir r.new_name f o q at_f) empty dir_t named name_ok q.name_is never (leb-false _ _ room) in
      let o_is : o.number ≡ f.child = (node_found s f.child o tree q.child).0 in
      record {
        answer = refl;
        rows =
            tidied_rows s then f.child (lost_then e f o) (row_of s o) (goes_unnamed (profile_for (room_of s)) o.number (rows_of_state s))
            (record (counters_of s) { next_cookie = s.next_cookie + 1 }) (rename_changes r (counters_of s) (row_of s d) (row_of s t) (link e c) (Some (link f o)))
            after rows (counters_then (link e c) (link f o) then rows) (lost_found e f o q.child) o_is refl
            (λ removes. kept_over s r d.number e f (dirs_given s tree) to_given (standing s (is_entry d.number r.old_name) e tree at_e).only
            (standing s (is_entry r.new_dir r.new_name) f tree at_f).only (all_kept_in s kept removes))
            (lost_goes e f o tree (standing s (is_entry d.number r.old_name) e tree at_e) (standing s (is_entry r.new_dir r.new_name) f tree at_f) differ.child o_is);
        tree = tree_tidied then after;
        same = same_tidied then;
        kept = λ _. kept_tidied then;
      })))))

  rename_agrees : (e : EntryRow) (c : Node) → Found s d.number r.old_name e c → entry_at s.entries d.number r.old_name ≡ Some e → (other : Option EntryRow)
      → entry_at s.entries r.new_dir r.new_name ≡ other
      → Agrees s (plan_rename_link r (row_of s d) (row_of s t) (link e c) (link_of (rows_of_state s) other) (rows_of_state s))
      (rename_entry s r d.number e other)
  rename_agrees e c p at_e None at = free_agrees e c p at_e at
  rename_agrees e c p at_e (Some f) at =
      let o = found_entry s r.new_dir r.new_name f tree at in
      subst (λ (l : Option Link). Agrees s (plan_rename_link r (row_of s d) (row_of s t) (link e c) l (rows_of_state s)) (rename_entry s r d.number e (Some f)))
      (sym o.1.link)
      (over_agrees e c f o.0 p at_e o.1 at)

  -- ---- EXCHANGE

  swap_agrees : (e : EntryRow) (c : Node) (f : EntryRow) (o : Node) → Found s d.number r.old_name e c → entry_at s.entries d.number r.old_name ≡ Some e
      → Found s r.new_dir r.new_name f o → entry_at s.entries r.new_dir r.new_name ≡ Some f
      → Agrees s (plan_exchange_link r (row_of s d) (row_of s t) (link e c) (Some (link f o)) (rows_of_state s)) (exchange_entry s r d.number e (Some f))
  swap_agrees e c f o p at_e q at_f =
      both s (eqb e.cookie f.cookie) _ _ _ _ (λ _. record { answer = refl; rows = refl; tree = tree; same = refl; kept = λ all. all }) (λ other.
      both_as s (holds s e.child r.new_dir || holds s f.child d.number) _ _ _ _ _
      (ap (λ (b : Bool). b || row_holds (rows_of_state s) (row_of s o) r.new_dir d.number)
      (same_holds s e.child d.number r.new_dir c tree p.child (never_above d.number r.old_name e c p at_e))
      ∙ ap (λ (b : Bool). holds s e.child r.new_dir || b)
      (same_holds s f.child r.new_dir d.number o tree q.child (never_above r.new_dir r.new_name f o q at_f)))
      (λ _. refused_agrees s tree einval) (λ apart.
      both s (nat_lt (number_end - 2) s.next_cookie) _ _ _ _ (λ _. refused_agrees s tree enospc) (λ room. (
      let parts = or_false (holds s e.child r.new_dir) (holds s f.child d.number) apart in
      let never_e = never_held s e.child r.new_dir tree p.given to_there parts.0 in
      let never_f = never_held s f.child d.number tree q.given from_there parts.1 in
      let ne = eqb-false e.cookie f.cookie other in
      let few : s.next_cookie ≤ number_end - 2 = ltb-false (number_end - 2) s.next_cookie room in
      record {
        answer = refl;
        rows =
            exchange_rows s r d t c o e f tree at_d at_t p.child q.child at_e at_f p.dir_is q.dir_is ne (not_own d.number r.old_name e c p at_e)
            (λ same. never_e 0 (sym same)) (λ same. never_f 0 (sym same)) (not_own r.new_dir r.new_name f o q at_f);
        tree =
            exchange_tree s r d t c o e f tree at_d at_t p.child q.child at_e at_f p.dir_is q.dir_is ne (not_own d.number r.old_name e c p at_e)
            (λ same. never_e 0 (sym same)) (λ same. never_f 0 (sym same)) (not_own r.new_dir r.new_name f o q at_f) p.name_is q.name_is never_e never_f
            (omega arith);
        same = refl;
        kept =
            kept_by s (exchanged r d.number e f s) refl
            (kept_exchanged s r d.number e f (dirs_given s tree) to_given (node_given s d.number d tree at_d)
            (standing s (is_entry d.number r.old_name) e tree at_e).only (standing s (is_entry r.new_dir r.new_name) f tree at_f).only);
      }))))

  exchange_agrees : (e : EntryRow) (c : Node) → Found s d.number r.old_name e c → entry_at s.entries d.number r.old_name ≡ Some e → (other : Option EntryRow)
      → entry_at s.entries r.new_dir r.new_name ≡ other
      → Agrees s (plan_exchange_link r (row_of s d) (row_of s t) (link e c) (link_of (rows_of_state s) other) (rows_of_state s))
      (exchange_entry s r d.number e other)
  exchange_agrees e c p at_e None at = refused_agrees s tree enoent
  exchange_agrees e c p at_e (Some f) at =
      let o = found_entry s r.new_dir r.new_name f tree at in
      subst (λ (l : Option Link). Agrees s (plan_exchange_link r (row_of s d) (row_of s t) (link e c) l (rows_of_state s))
      (exchange_entry s r d.number e (Some f))) (sym o.1.link)
      (swap_agrees e c f o.0 p at_e o.1 at)

  -- ---- by the mode

  same_some : (other : Option EntryRow) → entry_at s.entries r.new_dir r.new_name ≡ other → is_some (link_of (rows_of_state s) other) ≡ is_some other
  same_some None at = refl
  same_some (Some f) at = ap is_some (found_entry s r.new_dir r.new_name f tree at).1.link

  by_agrees : (e : EntryRow) (c : Node) → Found s d.number r.old_name e c → entry_at s.entries d.number r.old_name ≡ Some e → (other : Option EntryRow)
      → entry_at s.entries r.new_dir r.new_name ≡ other
      → Agrees s (plan_rename_by r (row_of s d) (row_of s t) (link e c) (link_of (rows_of_state s) other) (rows_of_state s)) (rename_by s r d.number e other)
  by_agrees e c p at_e other at =
      both s (is_exchange r.mode) _ _ _ _ (λ _. exchange_agrees e c p at_e other at) (λ _.
      both_as s (is_no_replace r.mode && is_some other) _ _ _ _ _ (ap (λ (b : Bool). is_no_replace r.mode && b) (same_some other at))
      (λ _. refused_agrees s tree eexist) (λ _. rename_agrees e c p at_e other at))

  -- what stands at the new place, also where that is the old one
  same_other : (e : EntryRow) (c : Node) → Found s d.number r.old_name e c → entry_at s.entries d.number r.old_name ≡ Some e
      → other_at r d.number (link e c) (rows_of_state s) ≡ link_of (rows_of_state s) (entry_at s.entries r.new_dir r.new_name)
  same_other e c p at_e = step ((d.number == r.new_dir) && pointwise nat_eq r.old_name r.new_name) refl
    where
      step : (b : Bool) → ((d.number == r.new_dir) && pointwise nat_eq r.old_name r.new_name) ≡ b
          → cond b (Some (link e c)) (link_of (rows_of_state s) (entry_at s.entries r.new_dir r.new_name)) ≡ link_of (rows_of_state s)
          (entry_at s.entries r.new_dir r.new_name)
      step true is =
          let parts = and_true (d.number == r.new_dir) _ is in
          let here = subst (λ (k : ℕ). entry_at s.entries k r.old_name ≡ Some e) (eqb-true d.number r.new_dir parts.0) at_e in
          let there = subst (λ (name : List ℕ). entry_at s.entries r.new_dir name ≡ Some e) (same_text r.old_name r.new_name (sym parts.1)) here in
          sym (ap (link_of (rows_of_state s)) there ∙ p.link)
      step false is = refl

  pub from_agrees : (o : Option EntryRow) → entry_at s.entries d.number r.old_name ≡ o
      → Agrees s (plan_rename_from r (row_of s d) (row_of s t) (link_of (rows_of_state s) o) (rows_of_state s)) (rename_from s r d.number o)
  from_agrees None at = refused_agrees s tree enoent
  from_agrees (Some e) at =
      let c = found_entry s d.number r.old_name e tree at in
      subst (λ (l : Option Link). Agrees s (plan_rename_from r (row_of s d) (row_of s t) l (rows_of_state s)) (rename_from s r d.number (Some e)))
      (sym c.1.link)
      (subst (λ (l : Option Link). Agrees s (plan_rename_by r (row_of s d) (row_of s t) (link e c.0) l (rows_of_state s)) (rename_from s r d.number (Some e)))
      (sym (same_other e c.0 c.1 at))
      (by_agrees e c.0 c.1 at (entry_at s.entries r.new_dir r.new_name) refl))

between_agrees : (s : State) (r : Renaming) (d : Node) → Shape s → NodesAreKept s → node_at s d.number ≡ Some d → (o : Option Node) → node_at s r.new_dir ≡ o
    → Agrees s (plan_rename_between r (row_of s d) (option_map (row_of s) o) (rows_of_state s)) (rename_between s r d o)
between_agrees s r d tree kept at_d None at = refused_agrees s tree estale
between_agrees s r d tree kept at_d (Some t) at =
    both_for s (asked_fault r (is_dir d.mode && is_dir t.mode) (is_named s d.number && is_named s t.number)) _ _ tree (λ none. (
    let asks = asked_none r (is_dir d.mode && is_dir t.mode) (is_named s d.number && is_named s t.number) none in
    let dirs = and_true (is_dir d.mode) (is_dir t.mode) asks.dirs in
    let named =
    subst (λ (k : ℕ). is_named s k ≡ true) (node_found s r.new_dir t tree at).0 (and_true (is_named s d.number) (is_named s t.number) asks.named).1 in
    from_agrees s r d t tree at_d at dirs.0 dirs.1 named asks.new_name kept (entry_at s.entries d.number r.old_name) refl))

-- the row of the new directory is that of the node, also where that is the old one
same_new_dir : (s : State) (k : ℕ) (d : Node) → Shape s → node_at s d.number ≡ Some d
    → new_dir_at k (row_of s d) (rows_of_state s) ≡ option_map (row_of s) (node_at s k)
same_new_dir s k d tree at_d = step (d.number == k) refl
  where
    step : (b : Bool) → (d.number == k) ≡ b → cond b (Some (row_of s d)) (row_at (rows_of_state s) k) ≡ option_map (row_of s) (node_at s k)
    step true is = sym (ap (option_map (row_of s)) (subst (λ (i : ℕ). node_at s i ≡ Some d) (eqb-true d.number k is) at_d))
    step false is = row_found s k

-- RENAME2, and with flags 0 RENAME
pub renaming_agrees : (s : State) (r : Renaming) (d : Node) → Shape s → NodesAreKept s → node_at s d.number ≡ Some d
    → Agrees s (plan_rename r (row_of s d) (rows_of_state s)) (rename s r d)
renaming_agrees s r d tree kept at_d =
    subst (λ (o : Option NodeRow). Agrees s (plan_rename_between r (row_of s d) o (rows_of_state s)) (rename s r d))
    (sym (same_new_dir s r.new_dir d tree at_d)) (between_agrees s r d tree kept at_d (node_at s r.new_dir) refl)
