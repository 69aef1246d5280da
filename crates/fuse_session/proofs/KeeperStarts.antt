-- The starts of a keeper, by the contracts of fuse_keeper.
use Rattle.std.proofs.Common.{◌≡◌, inl, inr, ℕ, List, [], ◌∷◌, None, refl, ◌∙◌}
use Rattle.std.specs.List.{AllByRecursion}
use Rattle.fuse_keeper.specs.History.{after, said}
use Rattle.fuse_keeper.specs.Model.{Model, IsOfGoodState}
use Rattle.fuse_keeper.specs.KeeperState.{KeeperState, OfHeld}
use Rattle.fuse_session.specs.Starts.{records_kept_by, HoldsKept, Starts, HasFewEach, StartsOnce, StartsOften, IsStart}
use Rattle.fuse_session.proofs.Starting.{over_starts}

none_said : (M : Model) (s : M.State) (i : ℕ) → said M s [] i ≡ None
unfolding said
none_said M s i = refl

-- what is held when a start began
begun_holds : (M : Model) → {K : Type 0} (told : K → KeeperState M) (old left : K) (one : StartsOnce told old left)
    → OfHeld (told old) (λ rows records. HoldsKept (told one.begun) (Starts (records_kept_by (told old) records)))
unfolding IsOfGoodState
begun_holds M told old left one rows records held rowed = elim one.begins [
  | inl again ↦ record {
    rows = rows;
    records = records;
    held = again.same one.honest rows records held;
    rowed = rowed;
    so = inl (record { lots = again.lots one.honest rows records held; some = λ i is. is });
  }
  | inr began ↦
      let at = began.at in
      let s = M.cleared (after M at.state at.history) in
      let new = began.begins one.honest at.state at.history at.settled began.stood in
      record {
        rows = new.rows;
        records = new.records;
        held = new.held;
        rowed = (after M s [], new.stands.tree, new.stands.rows_are);
        so = inr (record {
          lots = began.drops one.honest began.stood.rows began.stood.records began.stood.held;
          none = λ i. new.stands.kept i refl ∙ none_said M s i;
        });
      }
]

pub is_start : (M : Model) → {K : Type 0} (told : K → KeeperState M) (old left : K) (one : StartsOnce told old left)
    → OfHeld (told old) (λ rows records. HoldsKept (told left) (IsStart (records_kept_by (told old) records)))
is_start M told old left one rows records held rowed =
    let b = begun_holds M told old left one rows records held rowed in
    let u = one.served b.rows b.records b.held b.rowed in
    record { rows = u.rows; records = u.records; held = u.held; rowed = u.rowed; so = (records_kept_by (told one.begun) b.records, b.so, u.so) }

pub few_often : (M : Model) → {K : Type 0} (told : K → KeeperState M) (old : K) (lefts : List K) → HoldsKept (told old) HasFewEach
    → StartsOften told old lefts → AllByRecursion (λ (left : K). HoldsKept (told left) HasFewEach) lefts
few_often M told old [] few starts = tt
few_often M told old (left ∷ more) few starts =
    let one = is_start M told old left starts.0 few.rows few.records few.held few.rowed in
    let end = records_kept_by (told left) one.records in
    let here : HoldsKept (told left) HasFewEach = record {
      rows = one.rows;
      records = one.records;
      held = one.held;
      rowed = one.rowed;
      so = (over_starts (records_kept_by (told old) few.records) (record { begun = one.so.0; left = end } ∷ []) few.so (one.so.1, one.so.2, tt)).0;
    } in
    (here, few_often M told left more here starts.1)
