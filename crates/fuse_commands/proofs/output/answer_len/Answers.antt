use Rattle.std.proofs.Common.{sym, ap, length, ◌∙◌, arith, length-append}
use Rattle.fuse_commands.proofs.Lines.{len_at_start, bytes_take}
use Rattle.fuse_commands.proofs.output.answer_len.Goals as goal

pub returns-in-Some-clause-first : goal.returns-in-Some-clause-first
returns-in-Some-clause-first c = λ answer others begins parts.
    let read = c.in-Some.ensures in
    let len =
    len_at_start c.one_number.ensures c.args.sent.now c.u32.new.self answer others c.in-Some.len
    (bytes_take 4 c.args.sent.now (λ i. omega (arith, c.type_inv.sent i))) read.0 (sym c.new.ensures ∙ read.1)
    (ap length (sym c.new.ensures) ∙ read.2) begins parts in
    omega (arith, len, c.clamp.ensures, begins.four, ap length parts, length-append answer others)
