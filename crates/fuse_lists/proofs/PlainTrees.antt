-- The tree's plans and mounts, as a file system's.
use Rattle.std.proofs.Common.{◌≡◌, ◌&&◌, ℕ, Bool, true, false, refl, sym, ap, ◌∙◌, arith}
use Rattle.fuse_rows.specs.Origins.{made_at}
use Rattle.fuse_rows.specs.Rows.{profile_for, Rows, apply}
use Rattle.fuse_tree.specs.State.{State, Tree, profile_of, new_store}
use Rattle.fuse_rows.specs.declared.origin.Origin.{Origin}
use Rattle.fuse_rows.specs.Bounds.{default_capacity}
use Rattle.fuse_tree.specs.Do.{done}
use Rattle.fuse_plan.specs.declared.planned.Planned.{Planned}
use Rattle.fuse_plan.specs.Plan.{Meets}
use Rattle.fuse_tree.specs.Laws.{TreeKept, NewStoreIsTree, AnswersFit, LooksStay}
use Rattle.fuse_tree.specs.Rowed.{rowed}
use Rattle.fuse_plan.specs.declared.planning.fault.PlanFault.{PlanFault}
use Rattle.fuse_plan.specs.declared.planning.fault.PlanFault.TheVariants as plans
use Rattle.fuse_tree.specs.Clearing.{cleared_rows, Clearing}
use Rattle.fuse_keeper.specs.Model.{IsOfGoodState, IsSoundModel}
use Rattle.fuse_keeper.specs.History.{Entry}
use Rattle.fuse_keeper.specs.Taking.{ActedOn, Clears}
use Rattle.fuse_keeper.specs.declared.fault.StoreFault.{StoreFault}
use Rattle.fuse_keeper.specs.declared.fault.StoreFault.TheVariants.{Memory}
use Rattle.fuse_request.specs.Act.{opcode_of}
use Rattle.fuse_wire.specs.Opcodes.{fuse_init, fuse_destroy}
use Rattle.fuse_request.specs.Opcodes.{is_performed_for}
use Rattle.fuse_init.specs.Profile.{only_looks, terms}
use Rattle.fuse_init.specs.declared.profile.Profile.{Profile}
use Rattle.fuse_init.specs.declared.profile.Profile.TheVariants.{Plain, Everyday}
use Rattle.fuse_tree.specs.TheTree.{IsGood, tree_of}
use Rattle.fuse_lists.specs.inner.Causing.{CausedByPlan}

-- over the rows of a tree the only fault of a plan in lists is out of memory
pub caused : (p : Profile) (fault : PlanFault) (f : StoreFault) (rows : Rows) → CausedByPlan fault f
    → (fault ≡ plans.NotATree → (s : State) → Tree s → rows ≡ rowed s → ⊥)
    → IsOfGoodState (tree_of p) rows → f ≡ Memory
caused p (plans.Look look) f rows is isnt of_tree = is
caused p plans.Memory f rows is isnt of_tree = is
caused p plans.NotATree f rows is isnt of_tree = unfold IsOfGoodState in absurd (isnt refl of_tree.0 of_tree.1.tree of_tree.2)

-- what a plan makes of the rows of a tree
pub acted : (p : Profile) (s : State) (e : Entry) (rows' : Rows) (planned : Planned) → TreeKept → IsGood p s → Meets s planned (done s e.asked e.moment)
    → rows' ≡ apply (rowed s) planned.changes → ActedOn (tree_of p) s e rows' planned.answer
acted p s e rows' planned kept good meets is =
    let after = kept s e.asked e.moment good.tree in
    record {
      answer_is = meets.answer;
      rows_are = is ∙ meets.rows;
      tree = record { tree = after.0; profile = ap profile_for after.1 ∙ good.profile };
    }

-- where the request is seen, it makes none of them
pub saw : (p : Profile) (s : State) (e : Entry) (rows' : Rows) (planned : Planned) → TreeKept → LooksStay → IsGood p s
    → Meets s planned (done s e.asked e.moment) → only_looks (opcode_of e.asked.act) ≡ true → rows' ≡ rowed s
    → ActedOn (tree_of p) s e rows' planned.answer
saw p s e rows' planned kept stay good meets looks is =
    let after = kept s e.asked e.moment good.tree in
    record {
      answer_is = meets.answer;
      rows_are = is ∙ ap rowed (sym (stay s e.asked e.moment looks));
      tree = record { tree = after.0; profile = ap profile_for after.1 ∙ good.profile };
    }

-- a mount of the tree begins
pub tree_clears : (p : Profile) (rows rows' : Rows) → Clearing → rows' ≡ cleared_rows rows → Clears (tree_of p) rows rows'
tree_clears p rows rows' clearing is s good are =
    let clear = clearing s good.tree in
    (record { tree = clear.0; profile = good.profile }, is ∙ ap cleared_rows are ∙ sym clear.1)

-- a new store is of the profile that is asked for
new_of : (p : Profile) (capacity : ℕ) (from : Origin) → profile_of (new_store p capacity from) ≡ p
new_of Plain capacity from = refl
new_of Everyday capacity from = refl

-- what a profile sees only looks
pub seen_looks : (p : Profile) (number : ℕ) → (terms p).seen number ≡ true → only_looks number ≡ true
seen_looks Plain number seen = absurd (cc seen)
seen_looks Everyday number seen = seen

keeps_init : (p : Profile) → (terms p).seen fuse_init ≡ false
keeps_init Plain = refl
keeps_init Everyday = refl

keeps_destroy : (p : Profile) → (terms p).seen fuse_destroy ≡ false
keeps_destroy Plain = refl
keeps_destroy Everyday = refl

seen_too : (a b : Bool) → (a && b) ≡ true → b ≡ true
seen_too true b is = is
seen_too false b is = absurd (cc is)

-- the model is sound
pub tree_is_sound : (p : Profile) → AnswersFit → NewStoreIsTree → TreeKept → LooksStay → Clearing → IsSoundModel (tree_of p)
tree_is_sound p fit new kept stay clearing = record {
  fits = fit;
  starts = λ now. record { tree = new p default_capacity (made_at now) (omega arith); profile = new_of p default_capacity (made_at now) };
  goes_on = λ s asked now is good. let after = kept s asked now good.tree in record { tree = after.0; profile = ap profile_for after.1 ∙ good.profile };
  stays = λ s asked now seen. stay s asked now (seen_looks p (opcode_of asked.act)
      (seen_too (is_performed_for (tree_of p).service (opcode_of asked.act)) ((terms p).seen (opcode_of asked.act)) seen));
  keeps_init = keeps_init p;
  keeps_destroy = keeps_destroy p;
  clears = λ s good. record { tree = (clearing s good.tree).0; profile = good.profile };
}
