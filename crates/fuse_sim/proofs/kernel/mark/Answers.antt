use Rattle.std.proofs.Common.{◌≡◌, ℕ, List, Vec, length, subst, sym, ap, ◌∙◌, arith}
use Rattle.std.specs.Global.{Global}
use Rattle.std.specs.Vec.{with_items}
use Rattle.std.proofs.lemmas.List.{with_items_is}
use Rattle.fuse_request.specs.Places.{asked_at}
use Rattle.fuse_sim.specs.KeptMessages.{IsOwed}
use Rattle.fuse_sim.specs.inner.Marking.{marked_as_resend}
use Rattle.fuse_sim.proofs.Marks.{marked_owed}
use Rattle.fuse_sim.proofs.kernel.mark.Goals as goal

pub set_bit-requires : goal.set_bit-requires
set_bit-requires c =
    let long = (c.spelled_at.ensures _ _ c.requires.spells).long in
    let same = ap length c.as_mut_slice.ensures.value in
    omega arith

-- the bytes of the message, once they were written back
written : (m : Vec ℕ Global) (old new : List ℕ) → old ≡ m.items → length old ≡ m.len → length new ≡ length old → new ≡ marked_as_resend old
    → (with_items m new).items ≡ marked_as_resend m.items
written m old new before long same is = with_items_is m new (same ∙ long) ∙ is ∙ ap marked_as_resend before

pub returns-clause-owed : goal.returns-clause-owed
returns-clause-owed c =
    let is = written c.args.message.now _ c.set_bit.new.message c.as_mut_slice.ensures.value c.as_mut_slice.ensures.len c.set_bit.auto.message c.set_bit.ensures
    in
    subst IsOwed (sym is) (marked_owed c.spelled_at.ensures _ c.requires).0

pub returns-clause-says : goal.returns-clause-says
returns-clause-says c =
    let is = written c.args.message.now _ c.set_bit.new.message c.as_mut_slice.ensures.value c.as_mut_slice.ensures.len c.set_bit.auto.message c.set_bit.ensures
    in
    ap asked_at is ∙ (marked_owed c.spelled_at.ensures _ c.requires).1
