use Rattle.std.proofs.Common.{◌≡◌, ◌++◌, ◌∷◌, [], ℕ, List, ◌+◌, ◌<◌, take, map, slice_get, length, get_or, Some, Vec, sym, ap, subst, ◌∙◌}
use Rattle.std.specs.Global.{Global}
use Rattle.std.specs.Option.{option_map}
use Rattle.std.proofs.lemmas.List.{take_more}
use Rattle.fuse_request.specs.Canon.{canon}
use Rattle.fuse_request.specs.Places.{asked_at}
use Rattle.fuse_sim.specs.Pending.{sent_again, requests_in, messages_in}
use Rattle.fuse_sim.specs.KeptMessages.{IsOwed}
use Rattle.fuse_sim.proofs.Pendings.{owed_at, copied_more}
use Rattle.fuse_sim.proofs.kernel.copies_again.Goals as goal

pub mark-requires : goal.mark-requires
mark-requires c =
    let place : ℕ = get_or c.args.places.now c.loop-place.place-index 0 in
    let there : place < length c.args.pending.now = c.requires.there c.loop-place.place-index 0 c.loop-place-test.true in
    let copied = c.in_ok-message.ensures.items ∙ c.as_slice.ensures.value ∙ ap (λ (x : Vec ℕ Global). x.items) c.index-pending-place.is in
    subst IsOwed (sym copied) (owed_at c.args.pending.now place c.index-pending-place.result there c.requires.owed)

pub loop-place-preserved : goal.loop-place-preserved
loop-place-preserved c =
    let place : ℕ = get_or c.args.places.now c.loop-place.place-index 0 in
    let there : place < length c.args.pending.now = c.requires.there c.loop-place.place-index 0 c.loop-place-test.true in
    let copied = c.in_ok-message.ensures.items ∙ c.as_slice.ensures.value ∙ ap (λ (x : Vec ℕ Global). x.items) c.index-pending-place.is in
    let says = c.mark.ensures.says ∙ ap (λ (x : List ℕ). sent_again (asked_at x)) copied in
    let more : take (c.loop-place.place-index + 1) c.args.places.now ≡ take c.loop-place.place-index c.args.places.now ++ place ∷ [] =
    take_more c.args.places.now c.loop-place.place-index 0 c.loop-place-test.true in
    ap (λ v. map (λ (m : List ℕ). Some m) (messages_in v)) c.in_ok-push.ensures.items
    ∙ copied_more c.args.pending.now c.loop-place.messages.items _ place c.index-pending-place.result c.mark.new.message there c.mark.ensures.owed says
    c.loop-place.invariant
    ∙ ap (map (λ (p : ℕ). option_map (λ r. canon (sent_again r)) (slice_get (requests_in c.args.pending.now) p))) (sym more)
