use Rattle.std.proofs.Common.{◌∙◌, ℕ, List, ap, arith, length}
use Rattle.std.proofs.lemmas.List.Folds.{length-flat_map-take}
use Rattle.fuse_session.proofs.Turns.{joined_at}
use Rattle.fuse_session.proofs.messages.length_of.Goals as goal

pub overflow_add-sum : goal.overflow_add-sum
overflow_add-sum c =
    let ms = c.args.messages.now in
    let i = c.loop-message.message-index in
    let m = c.message-item.result in
    let bound = length-flat_map-take (λ (x : List ℕ). x) ms i m c.loop-message-test.true in
    omega (arith, c.loop-message.invariant, c.requires, bound, ap length (c.as_slice.ensures ∙ c.message-item.is))

pub loop-message-preserved : goal.loop-message-preserved
loop-message-preserved c =
    let ms = c.args.messages.now in
    let i = c.loop-message.message-index in
    let m = c.message-item.result in
    omega (arith, c.loop-message.invariant, joined_at ms i m c.loop-message-test.true, ap length (c.as_slice.ensures ∙ c.message-item.is))
