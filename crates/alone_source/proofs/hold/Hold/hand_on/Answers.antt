use Rattle.std.proofs.Common.{◌≤◌, ◌<◌, ℕ, List, length, drop, sym, subst}
use Rattle.alone_source.specs.Holding.{HeldState, HandsOn}
use Rattle.alone_source.proofs.Holds.{held_by, Given, Copied, hands_on}
use Rattle.alone_source.proofs.hold.Hold.hand_on.Goals as goal

pub returns-clause-hands : goal.returns-clause-hands
returns-clause-hands c =
    let s = c.self.inside in
    let n : ℕ = c.copy_some-n.result in
    let piece : List ℕ = c.next_piece-piece.result.now in
    let value = c.as_slice.ensures.value in
    let given : Given s.alone s.is_lost s.waiting.items s.given piece =
    subst (λ (w : List ℕ). Given s.alone s.is_lost w s.given piece) value
    (record {
      within = subst (λ (w : List ℕ). s.given ≤ length w) (sym value) c.self.invariant.within;
      is = c.next_piece-piece.ensures.piece;
      first = c.next_piece-piece.ensures.first;
      some = c.next_piece-piece.ensures.some;
    }) in
    let copied : Copied piece c.copy_some-n.new.buffer n (length c.args.buffer.now) =
    record { count = c.copy_some-n.ensures.count; bytes = c.copy_some-n.ensures.copied; len = c.copy_some-n.ensures.len } in
    let some : 0 < length (drop s.given s.waiting.items) = subst (λ (t : HeldState). 0 < length t.held) (sym c.self.view_is) c.requires.some in
    subst (λ (t : HeldState). HandsOn t (held_by s.alone c.pass-passed.result.is_lost c.pass-passed.new.waiting.items c.pass-passed.result.given) n
    c.copy_some-n.new.buffer) c.self.view_is
    (hands_on s.alone s.is_lost s.waiting c.pass-passed.new.waiting s.given n (length c.args.buffer.now) piece c.copy_some-n.new.buffer
    c.pass-passed.result given copied some c.pass-passed.ensures)
