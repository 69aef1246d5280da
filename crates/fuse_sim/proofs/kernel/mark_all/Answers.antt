use Rattle.std.proofs.Common.{◌≡◌, ◌++◌, ◌∷◌, [], ℕ, List, ◌+◌, ◌<◌, take, length, get_or, sym, ap, ◌∙◌, arith}
use Rattle.std.proofs.lemmas.List.{take_more}
use Rattle.fuse_sim.specs.Pending.{all_again, requests_in}
use Rattle.fuse_sim.proofs.Pendings.{owed_at, marked_more, marked_none, owed_set}
use Rattle.fuse_sim.proofs.kernel.mark_all.Goals as goal

pub loop-place-init : goal.loop-place-init
loop-place-init c = (c.requires.owed, marked_none c.args.pending.now)

pub mark-requires : goal.mark-requires
mark-requires c =
    let place : ℕ = get_or c.args.places.now c.loop-place.place-index 0 in
    let there : place < length c.args.pending.now = c.requires.there c.loop-place.place-index 0 c.loop-place-test.true in
    let within : place < length c.loop-place.pending = omega arith in
    owed_at c.loop-place.pending place _ within c.loop-place.invariant.0

pub loop-place-preserved : goal.loop-place-preserved
loop-place-preserved c =
    let place : ℕ = get_or c.args.places.now c.loop-place.place-index 0 in
    let there : place < length c.args.pending.now = c.requires.there c.loop-place.place-index 0 c.loop-place-test.true in
    let within : place < length c.loop-place.pending = omega arith in
    let more : take (c.loop-place.place-index + 1) c.args.places.now ≡ take c.loop-place.place-index c.args.places.now ++ place ∷ [] =
    take_more c.args.places.now c.loop-place.place-index 0 c.loop-place-test.true in (
      owed_set c.loop-place.pending place c.mark.new.message c.mark.ensures.owed c.loop-place.invariant.0,
      marked_more c.args.pending.now c.loop-place.pending _ place c.index-pending-place.result c.mark.new.message within c.loop-place.invariant.1
          c.mark.ensures.says
          ∙ ap (λ (x : List ℕ). all_again x (requests_in c.args.pending.now)) (sym more),
    )
