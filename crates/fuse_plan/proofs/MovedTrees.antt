-- A tree of which entries go, move or change places is a tree.
use Rattle.std.proofs.Common.{◌≡◌, ◌≢◌, ◌<◌, ◌≤◌, ◌+◌, ℕ, suc, Bool, true, false, List, [], ◌∷◌, ◌++◌, Some, None, refl, sym, ap, subst, ◌∙◌, ◌⊎◌, inl, inr, arith}
use Rattle.std.specs.Prelude.{find, filter}
use Rattle.std.specs.List.{AllByRecursion, list_any}
use Rattle.std.proofs.lemmas.Bool.Decides.{eqb_tells}
use Rattle.fuse_rows.specs.Bounds.{number_end}
use Rattle.fuse_rows.specs.declared.rows.EntryRow.{EntryRow}
use Rattle.fuse_rows.specs.Rows.{is_entry}
use Rattle.fuse_tree.specs.State.{State, Shape, IsEntry, Apart, AreApart, Reaches, above, up_of, is_dir_of, name_fault}
use Rattle.fuse_tree.specs.Removing.{without_entry}
use Rattle.fuse_tree.specs.Renaming.{placed}
use Rattle.fuse_plan.proofs.Lists.{all_more, all_both, all_kept, all_grown, apart_filtered, apart_grown, found}
use Rattle.fuse_plan.proofs.Ups.{up_more, reaches_same}
use Rattle.fuse_plan.proofs.Heights.{rooted, not_under_own}
use Rattle.fuse_plan.proofs.Blocks.{space_same}
use Rattle.fuse_plan.proofs.Trees.{entry_moved}
use Rattle.fuse_plan.proofs.Moving.{Differs, others_differ, keeps, kept_differ, up_found, up_kept, up_last, reaches_on}

-- the entries of a tree, in other places
pub tree_entries : (s : State) (fs : List EntryRow) (next : ℕ) → AllByRecursion (IsEntry s.nodes fs next) fs → Apart AreApart fs → s.next_cookie ≤ next
    → next ≤ number_end → Shape s → Shape (record s { entries = fs; next_cookie = next })
tree_entries s fs next entries apart more few tree = record {
  root = tree.root;
  nodes = tree.nodes;
  nodes_rise = tree.nodes_rise;
  entries = entries;
  entries_apart = apart;
  handles = tree.handles;
  handles_rise = tree.handles_rise;
  limits = record {
    nodes = tree.limits.nodes;
    handles = tree.limits.handles;
    next_node = tree.limits.next_node;
    next_fh = tree.limits.next_fh;
    next_cookie = few;
    fh_from_one = tree.limits.fh_from_one;
    cookie_from_three = (let three : 3 ≤ s.next_cookie = tree.limits.cookie_from_three in omega arith);
  };
  space = space_same s (record s { entries = fs; next_cookie = next }) s.capacity refl tree.space;
}

-- ---- an entry moves

module _ (s : State) (test : EntryRow → Bool) (e : EntryRow) (to : ℕ) (name : List ℕ) (tree : Shape s) (at : find test s.entries ≡ Some e) where
  others : AllByRecursion (λ z. (z ≡ e) ⊎ Differs e z) s.entries
  others = others_differ test s.entries e tree.entries_apart at

  abbrev there : EntryRow
  there = record { dir = to; name = name; child = e.child; cookie = s.next_cookie }

  abbrev left : List EntryRow
  left = filter (keeps e.cookie) s.entries

  left_differ : AllByRecursion (Differs e) left
  left_differ = kept_differ s.entries e others

  pub up_moved : (j : ℕ) → j ≢ e.child → up_of (left ++ there ∷ []) j ≡ up_of s.entries j
  up_moved j other = up_more left there j (λ same. other (sym same)) ∙ up_kept s.entries e others j other

  pub up_here : up_of (left ++ there ∷ []) e.child ≡ to
  up_here = up_last left there (all_more (Differs e) (λ z. z.child ≢ e.child) left (λ z p. p.child) left_differ)

  climbs_to : Reaches s.entries to → ((n : ℕ) → above s.entries n to ≢ e.child) → Reaches (left ++ there ∷ []) to
  climbs_to climb apart =
      reaches_same (λ j. (n : ℕ) → above s.entries n j ≢ e.child) s.entries (left ++ there ∷ [])
      (λ j never. (up_moved j (never 0), λ n. never (suc n))) to apart climb

  climbs : Reaches s.entries to → ((n : ℕ) → above s.entries n to ≢ e.child) → (k : ℕ) → Reaches s.entries k → Reaches (left ++ there ∷ []) k
  climbs climb apart k before =
      reaches_on (λ _. Unit {0}) s.entries (left ++ there ∷ [])
      (λ j _. elim (eqb_tells j e.child) [
        | inl here ↦ inr (subst (λ (i : ℕ). Reaches (left ++ there ∷ []) i) (sym (ap (up_of (left ++ there ∷ [])) here.1 ∙ up_here)) (climbs_to climb apart))
        | inr other ↦ inl (up_moved j other.1, tt)
      ]) before.0 k tt before.1

  -- into a directory that isn't under its child
  pub tree_moved : list_any (is_dir_of to) s.nodes ≡ true → Reaches s.entries to → ((n : ℕ) → above s.entries n to ≢ e.child) → name_fault name ≡ None
      → AllByRecursion (λ z. is_entry to name z ≡ false) left → s.next_cookie < number_end → Shape (placed to name e.child (without_entry e.cookie s))
  tree_moved dir climb apart name_ok free room =
      let was : IsEntry s.nodes s.entries s.next_cookie e = (found (IsEntry s.nodes s.entries s.next_cookie) test s.entries e tree.entries at).0 in
      let three : 3 ≤ s.next_cookie = tree.limits.cookie_from_three in
      let more : s.next_cookie ≤ s.next_cookie + 1 = omega arith in
      let old : AllByRecursion (IsEntry s.nodes s.entries s.next_cookie) left =
      all_kept (IsEntry s.nodes s.entries s.next_cookie) (keeps e.cookie) s.entries tree.entries in
      tree_entries s (left ++ there ∷ []) (s.next_cookie + 1)
      (all_grown (IsEntry s.nodes (left ++ there ∷ []) (s.next_cookie + 1)) left there
      (all_more (IsEntry s.nodes s.entries s.next_cookie) (IsEntry s.nodes (left ++ there ∷ []) (s.next_cookie + 1)) left
      (λ z p. entry_moved s.nodes s.nodes s.entries (left ++ there ∷ []) s.next_cookie (s.next_cookie + 1) z (λ is. is) (λ is. is)
      (climbs climb apart z.dir) more p) old)
      (record {
        dir = dir;
        child = was.child;
        not_root = was.not_root;
        name = name_ok;
        reaches = climbs_to climb apart;
        from_three = three;
        below = omega arith;
      }))
      (apart_grown AreApart left there (apart_filtered AreApart (keeps e.cookie) s.entries tree.entries_apart)
      (all_both (λ z. IsEntry s.nodes s.entries s.next_cookie z × Differs e z) (λ z. is_entry to name z ≡ false) (λ z. AreApart z there) left
      (λ z p no. (let lt : z.cookie < s.next_cookie = p.0.below in record { cookie = lt; child = p.1.child; place = no }))
      (all_both (IsEntry s.nodes s.entries s.next_cookie) (Differs e) (λ z. IsEntry s.nodes s.entries s.next_cookie z × Differs e z) left
      (λ z p q. (p, q)) old left_differ) free))
      more (let lt : s.next_cookie < number_end = room in omega arith) tree

-- ---- two children change places

module _ (s : State) (one two : EntryRow → Bool) (e f : EntryRow) (dir to : ℕ) (old new : List ℕ) (tree : Shape s) (at_e : find one s.entries ≡ Some e)
    (at_f : find two s.entries ≡ Some f) (apart : e.cookie ≢ f.cookie) where
  others_e : AllByRecursion (λ z. (z ≡ e) ⊎ Differs e z) s.entries
  others_e = others_differ one s.entries e tree.entries_apart at_e

  others_f : AllByRecursion (λ z. (z ≡ f) ⊎ Differs f z) s.entries
  others_f = others_differ two s.entries f tree.entries_apart at_f

  pub f_differs : Differs e f
  f_differs =
      elim (found (λ z. (z ≡ e) ⊎ Differs e z) two s.entries f others_e at_f).0 [
        | inl same ↦ absurd
            (apart (ap (λ (z : EntryRow). z.cookie) (sym same)))
        | inr other ↦ other
      ]

  e_differs : Differs f e
  e_differs =
      elim (found (λ z. (z ≡ f) ⊎ Differs f z) one s.entries e others_f at_e).0 [
        | inl same ↦ absurd
            (apart (ap (λ (z : EntryRow). z.cookie) same))
        | inr other ↦ other
      ]

  abbrev without_e : List EntryRow
  without_e = filter (keeps e.cookie) s.entries

  abbrev rest : List EntryRow
  rest = filter (keeps f.cookie) without_e

  abbrev there_f : EntryRow
  there_f = record { dir = dir; name = old; child = f.child; cookie = s.next_cookie }

  abbrev there_e : EntryRow
  there_e = record { dir = to; name = new; child = e.child; cookie = s.next_cookie + 1 }

  abbrev after : List EntryRow
  after = (rest ++ there_f ∷ []) ++ there_e ∷ []

  rest_others_f : AllByRecursion (λ z. (z ≡ f) ⊎ Differs f z) without_e
  rest_others_f = all_kept (λ z. (z ≡ f) ⊎ Differs f z) (keeps e.cookie) s.entries others_f

  rest_differ_f : AllByRecursion (Differs f) rest
  rest_differ_f = kept_differ without_e f rest_others_f

  rest_differ_e : AllByRecursion (Differs e) rest
  rest_differ_e = all_kept (Differs e) (keeps f.cookie) without_e (kept_differ s.entries e others_e)

  pub up_others : (j : ℕ) → j ≢ e.child → j ≢ f.child → up_of after j ≡ up_of s.entries j
  up_others j ne nf =
      up_more (rest ++ there_f ∷ []) there_e j (λ same. ne (sym same)) ∙ up_more rest there_f j (λ same. nf (sym same))
      ∙ up_kept without_e f rest_others_f j nf ∙ up_kept s.entries e others_e j ne

  pub up_e : up_of after e.child ≡ to
  up_e =
      up_last (rest ++ there_f ∷ []) there_e
      (all_grown (λ z. z.child ≢ e.child) rest there_f (all_more (Differs e) (λ z. z.child ≢ e.child) rest (λ z p. p.child) rest_differ_e) f_differs.child)

  pub up_f : up_of after f.child ≡ dir
  up_f =
      up_more (rest ++ there_f ∷ []) there_e f.child e_differs.child
      ∙ up_last rest there_f (all_more (Differs f) (λ z. z.child ≢ f.child) rest (λ z p. p.child) rest_differ_f)

  abbrev Never : ℕ → Type 0
  Never j = (n : ℕ) → (above s.entries n j ≢ e.child) × (above s.entries n j ≢ f.child)

  never_climbs : (j : ℕ) → Never j → Reaches s.entries j → Reaches after j
  never_climbs j never climb = reaches_same Never s.entries after (λ k no. (up_others k (no 0).0 (no 0).1, λ n. no (suc n))) j never climb

  climbs_both : Reaches after to → Reaches after dir → (k : ℕ) → Reaches s.entries k → Reaches after k
  climbs_both climb_to climb_dir k before =
      reaches_on (λ _. Unit {0}) s.entries after
      (λ j _. elim (eqb_tells j e.child) [
        | inl is_e ↦ inr (subst (λ (i : ℕ). Reaches after i) (sym (ap (up_of after) is_e.1 ∙ up_e)) climb_to)
        | inr not_e ↦ elim (eqb_tells j f.child) [
          | inl is_f ↦ inr (subst (λ (i : ℕ). Reaches after i) (sym (ap (up_of after) is_f.1 ∙ up_f)) climb_dir)
          | inr not_f ↦ inl (up_others j not_e.1 not_f.1, tt)
        ]
      ]) before.0 k tt before.1

  -- where neither directory is under the child that comes into it
  pub tree_exchanged : e.dir ≡ dir → f.dir ≡ to → e.name ≡ old → f.name ≡ new → ((n : ℕ) → above s.entries n to ≢ e.child)
      → ((n : ℕ) → above s.entries n dir ≢ f.child) → s.next_cookie + 2 ≤ number_end
      → Shape (placed to new e.child (placed dir old f.child (without_entry f.cookie (without_entry e.cookie s))))
  tree_exchanged e_dir f_dir e_name f_name apart_e apart_f room =
      let P = IsEntry s.nodes s.entries s.next_cookie in
      let Q = IsEntry s.nodes after (s.next_cookie + 2) in
      let e_was : P e = (found P one s.entries e tree.entries at_e).0 in
      let f_was : P f = (found P two s.entries f tree.entries at_f).0 in
      let root = rooted s tree in
      let dir_climbs : Reaches s.entries dir = subst (λ (k : ℕ). Reaches s.entries k) e_dir e_was.reaches in
      let to_climbs : Reaches s.entries to = subst (λ (k : ℕ). Reaches s.entries k) f_dir f_was.reaches in
      let under_e = not_under_own s.entries root e.child dir (up_found one s.entries e tree.entries_apart at_e ∙ e_dir) dir_climbs in
      let under_f = not_under_own s.entries root f.child to (up_found two s.entries f tree.entries_apart at_f ∙ f_dir) to_climbs in
      let climb_to = never_climbs to (λ n. (apart_e n, under_f n)) to_climbs in
      let climb_dir = never_climbs dir (λ n. (under_e n, apart_f n)) dir_climbs in
      let three : 3 ≤ s.next_cookie = tree.limits.cookie_from_three in
      let more : s.next_cookie ≤ s.next_cookie + 2 = omega arith in
      let next : s.next_cookie + 2 ≡ s.next_cookie + 1 + 1 = omega arith in
      let old_ones : AllByRecursion P rest = all_kept P (keeps f.cookie) without_e (all_kept P (keeps e.cookie) s.entries tree.entries) in
      let kept_ones : AllByRecursion Q rest =
      all_more P Q rest
      (λ z p. entry_moved s.nodes s.nodes s.entries after s.next_cookie (s.next_cookie + 2) z (λ is. is) (λ is. is)
      (climbs_both climb_to climb_dir z.dir) more p) old_ones in
      let Both : EntryRow → Type 0 = λ z. Differs e z × Differs f z in
      let both : AllByRecursion Both rest = all_both (Differs e) (Differs f) Both rest (λ z p q. (p, q)) rest_differ_e rest_differ_f in
      let first : Q there_f =
      record {
        dir = subst (λ (k : ℕ). list_any (is_dir_of k) s.nodes ≡ true) e_dir e_was.dir;
        child = f_was.child;
        not_root = f_was.not_root;
        name = subst (λ (n : List ℕ). name_fault n ≡ None) e_name e_was.name;
        reaches = climb_dir;
        from_three = three;
        below = omega arith;
      } in
      let second : Q there_e =
      record {
        dir = subst (λ (k : ℕ). list_any (is_dir_of k) s.nodes ≡ true) f_dir f_was.dir;
        child = e_was.child;
        not_root = e_was.not_root;
        name = subst (λ (n : List ℕ). name_fault n ≡ None) f_name f_was.name;
        reaches = climb_to;
        from_three = omega arith;
        below = omega arith;
      } in
      let place_e : (z : EntryRow) → is_entry e.dir e.name z ≡ false → is_entry dir old z ≡ false =
      λ z no. subst (λ (n : List ℕ). is_entry dir n z ≡ false) e_name (subst (λ (k : ℕ). is_entry k e.name z ≡ false) e_dir no) in
      let place_f : (z : EntryRow) → is_entry f.dir f.name z ≡ false → is_entry to new z ≡ false =
      λ z no. subst (λ (n : List ℕ). is_entry to n z ≡ false) f_name (subst (λ (k : ℕ). is_entry k f.name z ≡ false) f_dir no) in
      let place_there : is_entry to new there_f ≡ false = rw (sym e_dir, sym e_name) (place_f e e_differs.place) in
      subst (λ (n : ℕ). Shape (record s { entries = after; next_cookie = n })) next
      (tree_entries s after (s.next_cookie + 2)
      (all_grown Q (rest ++ there_f ∷ []) there_e (all_grown Q rest there_f kept_ones first) second)
      (apart_grown AreApart (rest ++ there_f ∷ []) there_e
      (apart_grown AreApart rest there_f
      (apart_filtered AreApart (keeps f.cookie) without_e (apart_filtered AreApart (keeps e.cookie) s.entries tree.entries_apart))
      (all_both P Both (λ z. AreApart z there_f) rest (λ z p q. record { cookie = p.below; child = q.1.child; place = place_e z q.0.place }) old_ones both))
      (all_grown (λ z. AreApart z there_e) rest there_f
      (all_both P Both (λ z. AreApart z there_e) rest
      (λ z p q. (let lt : z.cookie < s.next_cookie = p.below in record { cookie = omega arith; child = q.0.child; place = place_f z q.1.place })) old_ones both)
      (record { cookie = omega arith; child = f_differs.child; place = place_there })))
      more room tree)
