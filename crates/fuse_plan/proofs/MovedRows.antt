-- The rows of a state of which nodes come to stand elsewhere, and the times of their directories change.
use Rattle.std.proofs.Common.{◌≡◌, ◌≢◌, ◌+◌, ◌&&◌, ◌||◌, ◌==◌, ℕ, Bool, true, false, cond, eqb, List, [], ◌∷◌, length, map, Some, refl, sym, ap, ◌∙◌, arith}
use Rattle.std.specs.Prelude.{filter}
use Rattle.std.specs.List.{AllByRecursion, list_any}
use Rattle.std.proofs.lemmas.Bool.{ne_eqb, eq-eqb, eqb-true, eqb-false}
use Rattle.fuse_rows.specs.Blocks.{Body}
use Rattle.fuse_wire.specs.declared.moment.Moment.{Moment}
use Rattle.fuse_rows.specs.declared.rows.EntryRow.{EntryRow}
use Rattle.fuse_rows.specs.declared.rows.Full.{Full}
use Rattle.fuse_rows.specs.declared.rows.NodeRow.{NodeRow}
use Rattle.fuse_tree.specs.State.{State, Node, Shape, has_number, is_dir, is_below, node_at, up_of, subdirs_of}
use Rattle.fuse_rows.specs.Rows.{with_row, put_node}
use Rattle.fuse_tree.specs.Rowed.{body_of_node, full_of, row_of}
use Rattle.fuse_plan.proofs.Lists.{all_both, all_more, any_found, count_mapped}
use Rattle.fuse_plan.proofs.Trees.{SamePlace}
use Rattle.fuse_plan.proofs.Puts.{node_found, only_one}
use Rattle.fuse_plan.proofs.GoneRows.{kept_number, put_over, same_rows}
use Rattle.fuse_plan.proofs.MovedCounts.{count_at, one_if}

-- ---- several rows in the place of those of nodes that are there

abbrev pub puts : List NodeRow → List Full → List Full
puts [] fs = fs
puts (row ∷ rows) fs = puts rows (put_node row fs)

-- the row of a node that is there, by G
abbrev pub IsRowOf : State → (Node → Full) → NodeRow → Type 0
IsRowOf s G row = (d : Node) × (node_at s row.node ≡ Some d) × (G d ≡ record { row = row; content = body_of_node d })

-- where each row is that of its node by G, and the other nodes' rows are those by G before
pub puts_meet : (s : State) (G H : Node → Full) (rows : List NodeRow) → Shape s → ((n : Node) → (H n).row.node ≡ n.number)
    → ((n : Node) → (H n).content ≡ body_of_node n)
    → AllByRecursion (IsRowOf s G) rows → AllByRecursion (λ n. list_any (λ row. n.number == row.node) rows ≡ false → H n ≡ G n) s.nodes → puts rows
    (map H s.nodes) ≡ map G s.nodes
puts_meet s G H [] tree numbers contents each others =
    same_rows H G s.nodes (all_more (λ n. false ≡ false → H n ≡ G n) (λ n. H n ≡ G n) s.nodes (λ n p. p refl) others)
puts_meet s G H (row ∷ rows) tree numbers contents each others =
    let d = each.0.0 in
    let at : node_at s row.node ≡ Some d = each.0.1 in
    let is : G d ≡ record { row = row; content = body_of_node d } = each.0.2 in
    let there : list_any (has_number row.node) s.nodes ≡ true = any_found (has_number row.node) s.nodes d at in
    ap (puts rows) (put_over H row s.nodes numbers there)
    ∙ puts_meet s G (λ n. with_row row (H n)) rows tree (λ n. kept_number row (H n) ∙ numbers n) (λ n. kept_content n ∙ contents n) each.1
    (all_both (λ n. n.number ≡ row.node → n ≡ d) (λ n. list_any (λ r. n.number == r.node) (row ∷ rows) ≡ false → H n ≡ G n)
    (λ n. list_any (λ r. n.number == r.node) rows ≡ false → with_row row (H n) ≡ G n) s.nodes
    (λ n one other none. here n d is (one) (λ no. other (rw no none)) (eqb n.number row.node) refl)
    (only_one row.node d s.nodes tree.nodes_rise at) others)
  where
    kept_content : (n : Node) → (with_row row (H n)).content ≡ (H n).content
    kept_content n = step (eqb (H n).row.node row.node)
      where
        step : (b : Bool) → (cond b (record (H n) { row = row }) (H n)).content ≡ (H n).content
        step true = refl
        step false = refl

    tested : (n : Node) → eqb (H n).row.node row.node ≡ eqb n.number row.node
    tested n = ap (λ (i : ℕ). eqb i row.node) (numbers n)

    here : (n d : Node) → G d ≡ record { row = row; content = body_of_node d } → (n.number ≡ row.node → n ≡ d) → (eqb n.number row.node ≡ false → H n ≡ G n)
        → (b : Bool) → eqb n.number row.node ≡ b → with_row row (H n) ≡ G n
    here n d is one other true at =
        let same : n ≡ d = one (eqb-true n.number row.node at) in
        ap (λ (b : Bool). cond b (record (H n) { row = row }) (H n)) (tested n ∙ at)
        ∙ ap (λ (body : Body). record { row = row; content = body }) (contents n ∙ ap body_of_node same) ∙ sym is ∙ ap G (sym same)
    here n d is one other false at = ap (λ (b : Bool). cond b (record (H n) { row = row }) (H n)) (tested n ∙ at) ∙ other at

-- ---- nodes whose times change

-- the times of a directory and the status of a child, where D and C say which they are
abbrev pub timed : (ℕ → Bool) → (ℕ → Bool) → Moment → Node → Node
timed D C now n = record n { mtime = cond (D n.number) now n.mtime; ctime = cond (D n.number || C n.number) now n.ctime }

pub timed_same : (D C : ℕ → Bool) (now : Moment) (n : Node) → SamePlace n (timed D C now n)
timed_same D C now n = record { number = refl; kind = refl }

-- a state with other entries, and with such times
abbrev pub shifted : (ℕ → Bool) → (ℕ → Bool) → Moment → List EntryRow → ℕ → State → State
shifted D C now fs next s = record s { nodes = map (timed D C now) s.nodes; entries = fs; next_cookie = next }

module _ (s : State) (D C : ℕ → Bool) (now : Moment) (fs : List EntryRow) (next : ℕ) where
  abbrev pub then_full : Node → Full
  then_full n = full_of (shifted D C now fs next s) (timed D C now n)

  pub dir_then : (n : Node) (m : ℕ) → D n.number ≡ true → up_of fs n.number ≡ up_of s.entries n.number → subdirs_of (shifted D C now fs next s) n.number ≡ m
      → then_full n ≡ record { row = record (row_of s n) { mtime = now; ctime = now; subdirs = m }; content = body_of_node n }
  dir_then n m is up count = rw (is, up, count) refl

  pub child_then : (n : Node) (k : ℕ) → D n.number ≡ false → C n.number ≡ true → up_of fs n.number ≡ k
      → subdirs_of (shifted D C now fs next s) n.number ≡ subdirs_of s n.number
      → then_full n ≡ record { row = record (row_of s n) { ctime = now; up = k }; content = body_of_node n }
  child_then n k isnt is up count = rw (isnt, is, up, count) refl

  pub other_then : (n : Node) → D n.number ≡ false → C n.number ≡ false → up_of fs n.number ≡ up_of s.entries n.number
      → subdirs_of (shifted D C now fs next s) n.number ≡ subdirs_of s n.number → then_full n ≡ full_of s n
  other_then n isnt is_not up count = rw (isnt, is_not, up, count) refl

  -- ---- what is counted

  alike : (k : ℕ) (ns : List Node) → length (filter (is_below fs k) (map (timed D C now) ns)) ≡ length (filter (is_below fs k) ns)
  alike k ns = count_mapped (is_below fs k) (is_below fs k) (timed D C now) ns (always ns)
    where
      always : (ms : List Node) → AllByRecursion (λ n. is_below fs k (timed D C now n) ≡ is_below fs k n) ms
      always [] = tt
      always (m ∷ ms) = (refl, always ms)

  -- where x alone comes to stand elsewhere
  pub one_shifted : (x : ℕ) (c : Node) (was is k : ℕ) → Shape s → node_at s x ≡ Some c → up_of s.entries x ≡ was → up_of fs x ≡ is
      → ((j : ℕ) → j ≢ x → up_of fs j ≡ up_of s.entries j)
      → subdirs_of (shifted D C now fs next s) k + one_if (is_dir c.mode && eqb was k) ≡ subdirs_of s k + one_if (is_dir c.mode && eqb is k)
  one_shifted x c was is k tree at up_was up_is others =
      let number : c.number ≡ x = (node_found s x c tree at).0 in
      ap (λ (m : ℕ). m + one_if (is_dir c.mode && eqb was k)) (alike k s.nodes)
      ∙ ap (λ (m : ℕ). length (filter (is_below fs k) s.nodes) + one_if (is_dir c.mode && eqb m k)) (sym (ap (up_of s.entries) number ∙ up_was))
      ∙ count_at (is_below fs k) (is_below s.entries k) x c s.nodes tree.nodes_rise at (differ s.nodes)
      ∙ ap (λ (m : ℕ). subdirs_of s k + one_if (is_dir c.mode && eqb m k)) (ap (up_of fs) number ∙ up_is)
    where
      differ : (ns : List Node) → AllByRecursion (λ n. n.number ≢ x → is_below fs k n ≡ is_below s.entries k n) ns
      differ [] = tt
      differ (n ∷ ns) = (λ ne. rw (others n.number ne) refl, differ ns)

  -- where x and y come to stand elsewhere
  pub two_shifted : (x y : ℕ) (c o : Node) (x_was x_is y_was y_is k : ℕ) → Shape s → node_at s x ≡ Some c → node_at s y ≡ Some o → x ≢ y
      → up_of s.entries x ≡ x_was → up_of fs x ≡ x_is → up_of s.entries y ≡ y_was → up_of fs y ≡ y_is
      → ((j : ℕ) → j ≢ x → j ≢ y → up_of fs j ≡ up_of s.entries j)
      → subdirs_of (shifted D C now fs next s) k + one_if (is_dir c.mode && eqb x_was k) + one_if (is_dir o.mode && eqb y_was k) ≡ subdirs_of s k + one_if
      (is_dir c.mode && eqb x_is k) + one_if (is_dir o.mode && eqb y_is k)
  two_shifted x y c o x_was x_is y_was y_is k tree at_x at_y apart x_up x_then y_up y_then others =
      let p : Node → Bool = is_below fs k in
      let q : Node → Bool = is_below s.entries k in
      let mid : Node → Bool = λ n. cond (eqb n.number x) (p n) (q n) in
      let c_is : c.number ≡ x = (node_found s x c tree at_x).0 in
      let o_is : o.number ≡ y = (node_found s y o tree at_y).0 in
      let o_other : o.number ≢ x = λ same. apart (sym same ∙ o_is) in
      let first = count_at mid q x c s.nodes tree.nodes_rise at_x (to_mid s.nodes) in
      let second = count_at p mid y o s.nodes tree.nodes_rise at_y (from_mid s.nodes) in
      let whole = alike k s.nodes in
      let a : one_if (q c) ≡ one_if (is_dir c.mode && eqb x_was k) = ap (λ (m : ℕ). one_if (is_dir c.mode && eqb m k)) (ap (up_of s.entries) c_is ∙ x_up) in
      let b : one_if (mid c) ≡ one_if (is_dir c.mode && eqb x_is k) =
      ap (λ (t : Bool). one_if (cond t (p c) (q c))) (eq-eqb c.number x c_is)
      ∙ ap (λ (m : ℕ). one_if (is_dir c.mode && eqb m k)) (ap (up_of fs) c_is ∙ x_then) in
      let d : one_if (mid o) ≡ one_if (is_dir o.mode && eqb y_was k) =
      ap (λ (t : Bool). one_if (cond t (p o) (q o))) (ne_eqb o.number x o_other)
      ∙ ap (λ (m : ℕ). one_if (is_dir o.mode && eqb m k)) (ap (up_of s.entries) o_is ∙ y_up) in
      let e : one_if (p o) ≡ one_if (is_dir o.mode && eqb y_is k) = ap (λ (m : ℕ). one_if (is_dir o.mode && eqb m k)) (ap (up_of fs) o_is ∙ y_then) in
      summed _ _ (length (filter mid s.nodes)) _ _ _ _ _ _ _ _ _ whole first second a b d e
    where
      to_mid : (ns : List Node)
          → AllByRecursion (λ n. n.number ≢ x → cond (eqb n.number x) (is_below fs k n) (is_below s.entries k n) ≡ is_below s.entries k n) ns
      to_mid [] = tt
      to_mid (n ∷ ns) = (λ ne. rw (ne_eqb n.number x ne) refl, to_mid ns)

      from_mid : (ns : List Node) → AllByRecursion (λ n. n.number ≢ y → is_below fs k n ≡ cond (eqb n.number x) (is_below fs k n) (is_below s.entries k n)) ns
      from_mid [] = tt
      from_mid (n ∷ ns) = (λ ne. step n ne (eqb n.number x) refl, from_mid ns)
        where
          step : (m : Node) → m.number ≢ y → (b : Bool) → eqb m.number x ≡ b → is_below fs k m ≡ cond b (is_below fs k m) (is_below s.entries k m)
          step m ne true at = refl
          step m ne false at = rw (others m.number (eqb-false m.number x at) ne) refl

      summed : (t lp lm lq qc mc mo po a b d e : ℕ) → t ≡ lp → lm + qc ≡ lq + mc → lp + mo ≡ lm + po → qc ≡ a → mc ≡ b → mo ≡ d → po ≡ e
          → t + a + d ≡ lq + b + e
      summed t lp lm lq qc mc mo po a b d e whole first second is_a is_b is_d is_e = omega arith
