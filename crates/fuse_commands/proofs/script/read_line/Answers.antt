use Rattle.std.proofs.lemmas.Result.{err_from_is_err_and}
use Rattle.fuse_commands.proofs.script.read_line.Goals as goal

pub returns-in_err-event_of-clause-form : goal.returns-in_err-event_of-clause-form
returns-in_err-event_of-clause-form c =
    let p = err_from_is_err_and c.from_residual.result c.from_residual.ensures.1 in
    rw (p.1, p.2) (λ is. (λ nothing. let test = c.if-is_skipped.ensures.1 nothing in cc, c.in_err-event_of.ensures.form is))
