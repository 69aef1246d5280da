use Rattle.std.proofs.Common.{◌≡◌, ◌≤◌, ◌-◌, length, take, drop, ap, ◌∙◌, arith}
use Rattle.std.proofs.lemmas.List.{length-take-le, length-drop}
use Rattle.alone_source.proofs.Holds.{piece_is, past_begun}
use Rattle.alone_source.proofs.hold.next_piece.Goals as goal

pub slice_bounds-result-count : goal.slice_bounds-result-count
slice_bounds-result-count c =
    (past_begun c.numbers_read.ensures c.cut_steps.ensures c.args.alone c.args.bytes.now c.args.given c.turn_len-len.result c.requires.within
    c.requires.stuck c.turn_len-len.ensures.len).0

pub returns-clause-piece : goal.returns-clause-piece
returns-clause-piece c =
    ap (take (c.turn_len-len.result - c.args.given)) c.split_at.ensures.back
    ∙ piece_is c.args.alone c.args.is_lost c.args.bytes.now c.args.given c.turn_len-len.result c.if-is_lost.false (slice_bounds-result-count c)
    c.turn_len-len.ensures.within c.turn_len-len.ensures.first

pub returns-clause-some : goal.returns-clause-some
returns-clause-some c = λ some.
    let past = (past_begun c.numbers_read.ensures c.cut_steps.ensures c.args.alone c.args.bytes.now c.args.given c.turn_len-len.result
    c.requires.within c.requires.stuck c.turn_len-len.ensures.len).1 some in
    let back : c.split_at.result.1.now ≡ drop c.args.given c.args.bytes.now = c.split_at.ensures.back in
    let held : length c.split_at.result.1.now ≡ length c.args.bytes.now - c.args.given =
    ap length back ∙ length-drop c.args.given c.args.bytes.now in
    let within : c.turn_len-len.result ≤ length c.args.bytes.now = c.turn_len-len.ensures.within in
    let len : length (take (c.turn_len-len.result - c.args.given) c.split_at.result.1.now) ≡ c.turn_len-len.result - c.args.given =
    length-take-le (c.turn_len-len.result - c.args.given) c.split_at.result.1.now (omega arith) in
    omega arith
