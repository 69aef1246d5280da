-- An entry that goes: the ways up without it, and the tree that is left.
use Rattle.std.proofs.Common.{◌≡◌, ◌≢◌, ◌<◌, ◌==◌, ℕ, Bool, true, false, cond, not, eqb, List, [], ◌∷◌, Some, refl, sym, ap, subst, inl, inr, arith}
use Rattle.std.specs.Prelude.{find, filter}
use Rattle.std.specs.List.{AllByRecursion}
use Rattle.std.proofs.lemmas.Bool.{ne_eqb, eq-eqb, eqb-true, eqb-false}
use Rattle.fuse_rows.specs.declared.rows.EntryRow.{EntryRow}
use Rattle.fuse_tree.specs.State.{State, Shape, IsEntry, Apart, AreApart, Reaches, up_of}
use Rattle.fuse_plan.proofs.Lists.{all_more, all_both, all_kept, apart_filtered, cond_found, found}
use Rattle.fuse_plan.proofs.Ups.{up_in, reaches_same}
use Rattle.fuse_plan.proofs.Blocks.{space_same}
use Rattle.fuse_plan.proofs.Trees.{entry_moved}

-- ---- going up

-- without entries of node k, every other has the same directory above
pub up_less : (test : EntryRow → Bool) (es : List EntryRow) (k j : ℕ) → AllByRecursion (λ e. test e ≡ false → e.child ≡ k) es → j ≢ k
    → up_of (filter test es) j ≡ up_of es j
up_less test [] k j only ne = refl
up_less test (e ∷ es) k j only ne =
    let rest = up_less test es k j only.1 ne in
    let step : (b : Bool) → test e ≡ b → up_of (cond b (e ∷ filter test es) (filter test es)) j ≡ cond (eqb e.child j) e.dir (up_of es j) =
    elim [
      | true ↦ λ is. ap (λ (r : ℕ). cond (eqb e.child j) e.dir r) rest
      | false ↦ λ is. (
          let child : e.child ≡ k = only.0 is in
          let other : e.child ≢ j = omega arith in
          rw (ne_eqb e.child j other) rest)
    ] in
    step (test e) refl

-- a node has no directory above where none of its entries is left
pub up_gone : (test : EntryRow → Bool) (es : List EntryRow) (k : ℕ) → AllByRecursion (λ e. test e ≡ true → e.child ≢ k) es → up_of (filter test es) k ≡ 0
up_gone test [] k none = refl
up_gone test (e ∷ es) k none =
    let rest = up_gone test es k none.1 in
    let step : (b : Bool) → test e ≡ b → up_of (cond b (e ∷ filter test es) (filter test es)) k ≡ 0 =
    elim [ true ↦ λ is. rw (ne_eqb e.child k (none.0 is)) rest | false ↦ λ is. rest ] in
    step (test e) refl

-- each way up that begins elsewhere stays where the entry of a node without entries goes
pub reaches_less : (test : EntryRow → Bool) (es : List EntryRow) (k : ℕ) → AllByRecursion (λ e. test e ≡ false → e.child ≡ k) es
    → AllByRecursion (λ e. e.dir ≢ k) es → 0 ≢ k → (j : ℕ) → j ≢ k → Reaches es j → Reaches (filter test es) j
reaches_less test es k only dirs pos =
    reaches_same (λ j. j ≢ k) es (filter test es) (λ j ne. (up_less test es k j only ne, up_in (λ i. i ≢ k) es j dirs pos))

-- ---- the tree

-- a tree stays one without the entry of a node in which no entry stands
pub tree_less : (s : State) (test : EntryRow → Bool) (k : ℕ) → AllByRecursion (λ e. test e ≡ false → e.child ≡ k) s.entries
    → AllByRecursion (λ e. e.dir ≢ k) s.entries → 0 ≢ k → Shape s → Shape (record s { entries = filter test s.entries })
tree_less s test k only dirs pos tree = record {
  root = tree.root;
  nodes = tree.nodes;
  nodes_rise = tree.nodes_rise;
  entries = all_kept (IsEntry s.nodes (filter test s.entries) s.next_cookie) test s.entries
      (all_both (IsEntry s.nodes s.entries s.next_cookie) (λ e. e.dir ≢ k) (IsEntry s.nodes (filter test s.entries) s.next_cookie) s.entries
      (λ e p apart. entry_moved s.nodes s.nodes s.entries (filter test s.entries) s.next_cookie s.next_cookie e (λ is. is) (λ is. is)
      (reaches_less test s.entries k only dirs pos e.dir apart) (omega arith) p) tree.entries dirs);
  entries_apart = apart_filtered AreApart test s.entries tree.entries_apart;
  handles = tree.handles;
  handles_rise = tree.handles_rise;
  limits = record {
    nodes = tree.limits.nodes;
    handles = tree.limits.handles;
    next_node = tree.limits.next_node;
    next_fh = tree.limits.next_fh;
    next_cookie = tree.limits.next_cookie;
    fh_from_one = tree.limits.fh_from_one;
    cookie_from_three = tree.limits.cookie_from_three;
  };
  space = space_same s (record s { entries = filter test s.entries }) s.capacity refl tree.space;
}

-- ---- an entry of a tree

-- no other entry has its cookie, and none its child
pub record IsOnly (e x : EntryRow) : Type 0 where
  pub cookie : x.cookie ≡ e.cookie → x ≡ e
  pub child : x.child ≡ e.child → x ≡ e

pub record Standing (s : State) (e : EntryRow) : Type 0 where
  pub entry : IsEntry s.nodes s.entries s.next_cookie e
  pub up : up_of s.entries e.child ≡ e.dir
  pub only : AllByRecursion (IsOnly e) s.entries

only_found : (test : EntryRow → Bool) (es : List EntryRow) (e : EntryRow) → Apart AreApart es → find test es ≡ Some e
    → AllByRecursion (IsOnly e) es × (up_of es e.child ≡ e.dir)
only_found test [] e apart is = absurd cc
only_found test (x ∷ es) e apart is =
    elim (cond_found (test x) x e (find test es) is) [
      | inl h ↦ (
        (
          record { cookie = λ _. h.1; child = λ _. h.1 },
          all_more (AreApart e) (IsOnly e) es (λ y p. later y p) (subst (λ (z : EntryRow). AllByRecursion (AreApart z) es) h.1 apart.0),
        ),
        subst (λ (z : EntryRow). cond (eqb x.child z.child) x.dir (up_of es z.child) ≡ z.dir) h.1 (rw (eq-eqb x.child x.child refl) refl),
      )
      | inr h ↦ (
          let p = (found (AreApart x) test es e apart.0 h.1).0 in
          let rest = only_found test es e apart.1 h.1 in
          ((before p, rest.0), rw (ne_eqb x.child e.child p.child) rest.1))
    ]
  where
    later : (y : EntryRow) → AreApart e y → IsOnly e y
    later y p = let lt : e.cookie < y.cookie = p.cookie in record { cookie = λ same. absurd (omega arith); child = λ same. absurd (p.child (sym same)) }

    before : AreApart x e → IsOnly e x
    before p = let lt : x.cookie < e.cookie = p.cookie in record { cookie = λ same. absurd (omega arith); child = λ same. absurd (p.child same) }

-- what an entry that was found brings with it
pub standing : (s : State) (test : EntryRow → Bool) (e : EntryRow) → Shape s → find test s.entries ≡ Some e → Standing s e
standing s test e tree is =
    let only = only_found test s.entries e tree.entries_apart is in
    record { entry = (found (IsEntry s.nodes s.entries s.next_cookie) test s.entries e tree.entries is).0; up = only.1; only = only.0 }

-- ---- the test for another cookie

-- what fails it has the child of the entry
pub gone_only : (e : EntryRow) (es : List EntryRow) → AllByRecursion (IsOnly e) es
    → AllByRecursion (λ x. not (x.cookie == e.cookie) ≡ false → x.child ≡ e.child) es
gone_only e es only =
    all_more (IsOnly e) (λ x. not (x.cookie == e.cookie) ≡ false → x.child ≡ e.child) es
    (λ x p fails. ap (λ (y : EntryRow). y.child) (p.cookie (eqb-true x.cookie e.cookie (not_false _ fails)))) only
  where
    not_false : (b : Bool) → not b ≡ false → b ≡ true
    not_false true is = refl
    not_false false is = absurd cc

-- and what passes it has another child
pub left_others : (e : EntryRow) (es : List EntryRow) → AllByRecursion (IsOnly e) es
    → AllByRecursion (λ x. not (x.cookie == e.cookie) ≡ true → x.child ≢ e.child) es
left_others e es only =
    all_more (IsOnly e) (λ x. not (x.cookie == e.cookie) ≡ true → x.child ≢ e.child) es
    (λ x p passes same. eqb-false x.cookie e.cookie (not_true _ passes) (ap (λ (y : EntryRow). y.cookie) (p.child same))) only
  where
    not_true : (b : Bool) → not b ≡ true → b ≡ false
    not_true true is = absurd cc
    not_true false is = refl
