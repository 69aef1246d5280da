-- One change after another, and a plan whose changes are made.
use Rattle.std.specs.Prelude.{IsTrue}
use Rattle.std.proofs.Common.{◌≡◌, List, [], ◌∷◌, ◌++◌, Option, refl, sym, ap, subst, ◌∙◌}
use Rattle.fuse_tree.specs.State.{State as TreeState, Tree}
use Rattle.fuse_rows.specs.Rows.{apply, Rows}
use Rattle.fuse_tree.specs.Rowed.{rowed, IsRowed}
use Rattle.fuse_tree.specs.Done.{Done}
use Rattle.fuse_plan.specs.Plan.{Meets}
use Rattle.fuse_plan.specs.declared.planned.Planned.{Planned}
use Rattle.fuse_store_tree.specs.inner.Acting.{ActsInside}
use Rattle.fuse_keeper.specs.declared.fault.StoreFault.{StoreFault}
use Rattle.fuse_store_tables.specs.Faults.{IsOutside}
use Rattle.fuse_store_tree.specs.declared.meta.Meta.{Meta}
use Rattle.fuse_store_tree.specs.Looking.{sees_in, sees_known}
use Rattle.fuse_store_tree.specs.Pieces.{File, ReadsFile}
use Rattle.fuse_store_tree.specs.Store.{Held}
use Rattle.fuse_store_tree.specs.Holding.{store_of}
use Rattle.fuse_store_tree.specs.Knowing.{Knows, HeldForKnown, knowing}
use Rattle.fuse_store_tree.specs.inner.Knowing.{HeldKnown}
use Rattle.fuse_store_tree.specs.inner.Over.{ChangedKnownOver}
use Rattle.fuse_store_tree.specs.inner.Writing.{made_one, made_all, with_changes, with_change}
use Rattle.fuse_rows.specs.declared.rows.Change.{Change}
use Rattle.sqlite.specs.State.{State, HasCleanDisk}
use Rattle.fuse_store_tables.specs.Moves.{InsideAs, IsReady, Stays}
use Rattle.fuse_store_tree.specs.inner.Changing.{LeavesTrees}
use Rattle.fuse_store_tables.specs.inner.Following.{earlier, stays_then}
use Rattle.fuse_store_tree.proofs.AtSize.{tree_rowed}
use Rattle.fuse_store_tree.proofs.KnownSteps.{held_in, known_in, held_for}
use Rattle.fuse_store_tree.proofs.Overs.{over_then}
use Rattle.fuse_store_tree.proofs.Counted.{AreCounted, tree_counted}
use Rattle.fuse_store_tree.proofs.Rooms.{capacity_in, capacity_told, changes_made}
use Rattle.fuse_store_tree.proofs.Sure.{fault_next}
use Rattle.fuse_store_tree.proofs.Turning.{told_in}

made_last : (rows : Rows) (cs : List Change) (c : Change) → made_all rows (cs ++ c ∷ []) ≡ made_one (made_all rows cs) c
made_last rows [] c = refl
made_last rows (x ∷ cs) c = made_last (made_one rows x) cs c

-- one more change
pub known_more : (f g h : File) (m n o : Option Meta) (cs : List Change) (c : Change) (a b d : State) → (IsTrue h.is_clean → IsTrue g.is_clean)
    → ChangedKnownOver f g m n (with_changes cs) a b → ChangedKnownOver g h n o (with_change c) b d
    → ChangedKnownOver f h m o (with_changes (cs ++ c ∷ [])) a d
known_more f g h m n o cs c a b d was p q =
    let both = over_then f g h m n o (with_changes cs) (with_change c) a b d was p q in
    record {
      stays = both.stays;
      within = both.within;
      turns = λ read clean x at. subst (λ r. InsideAs (HeldKnown h.bytes o (record x { rows = r })) d) (sym (made_last x.rows cs c))
          (both.turns read clean x at);
    }

-- the changes of a plan are made as they are
plan_made : (s t : TreeState) (cs : List Change) → Tree t → apply (rowed s) cs ≡ rowed t → t.capacity ≡ s.capacity → made_all (rowed s) cs ≡ apply (rowed s) cs
plan_made s t cs tree is same =
    changes_made (rowed s) cs (ap capacity_in is ∙ capacity_told t ∙ same ∙ sym (capacity_told s)) (subst AreCounted (sym is) (tree_counted t tree))

pub sees_before : (v w : File) (m : Option Meta) (a : State) (rows : Rows) → ReadsFile v w → sees_known w.bytes m a rows → sees_known v.bytes m a rows
sees_before v w m a rows on sees = subst (λ bytes. sees_known bytes m a rows) on.same sees

-- A plan that was made, and its changes made. The plan reads of the data file, and then the changes may list more of it.
module _ (u v w : File) (m n : Option Meta) (a b : State) (on : ReadsFile u v) (leaves : LeavesTrees v a b)
    (knows : HasCleanDisk b → (rows : Rows) → sees_in v.bytes a rows → Knows m rows → Knows n rows) where
  pub acted : (IsTrue w.is_clean → IsTrue v.is_clean) → (o : Option Meta) (d : State) (s : TreeState) (p : Planned) (e : Done) → Tree s
      → e.state.capacity ≡ s.capacity → ChangedKnownOver v w n o (with_changes p.changes) b d
      → (HasCleanDisk b → IsTrue v.is_clean → sees_known v.bytes m a (rowed s) → Meets s p e) → ActsInside (knowing m a u) (knowing o d w) s e p.answer
  acted was o d s p e tree same changed meets clean read x is at right =
      let mid = earlier b d _ changed.stays.survives clean in
      let here = subst (λ bytes. InsideAs (Held bytes x) a) (sym on.same) at in
      let met = meets mid (was read) ((x, here, is), subst (Knows m) is right) in
      let there = leaves.same mid (was read) x (subst IsRowed (sym is) (tree_rowed s tree)) here in
      let after = changed.turns read clean x (known_in v.bytes n x b there (knows mid x.rows (x, here, refl) right)) in
      let made = ap (λ r. made_all r p.changes) is ∙ plan_made s e.state p.changes met.tree met.rows same ∙ met.rows in
      record {
        answer_is = met.answer;
        tree = met.tree;
        inside = subst (λ r. InsideAs (Held w.bytes (record x { rows = r })) d) made (held_in w.bytes o (with_changes p.changes x) d after);
        knows = subst (Knows o) made after.holds.1;
      }

  -- what is held is ready for the changes
  pub ready_then : IsTrue v.is_clean → HasCleanDisk b → IsReady (HeldForKnown u.bytes m) a → IsReady (HeldKnown v.bytes n) b
  ready_then read clean (y, at) =
      let x = store_of y in
      let held = subst (λ bytes. InsideAs (Held bytes x) a) (sym on.same) (told_in u.bytes y a (held_for u.bytes m y a at)) in
      (x, known_in v.bytes n x b (leaves.same clean read x (tree_rowed y.tree at.holds.0.tree) held) (knows clean x.rows (x, held, refl) at.holds.1))

  pub acted_keeps : (d : State) → Stays b d → Stays a d
  acted_keeps d q = stays_then a b d leaves.stays leaves.within q

  pub acted_sure : (d : State) (f : StoreFault) → Stays b d → IsTrue v.is_clean → (HasCleanDisk d → IsReady (HeldKnown v.bytes n) b → IsOutside f)
      → HasCleanDisk d → IsReady (HeldForKnown u.bytes m) a → IsOutside f
  acted_sure d f q read sure = fault_next (HeldForKnown u.bytes m) (HeldKnown v.bytes n) a b d f q (ready_then read) sure
