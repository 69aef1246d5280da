use Rattle.std.proofs.lemmas.Result.{err_from_is_err_and}
use Rattle.fuse_commands.proofs.Scripted.{no_event, no_message}
use Rattle.fuse_commands.proofs.script.event_of.Goals as goal

pub returns-in_default-clause-form : goal.returns-in_default-clause-form
returns-in_default-clause-form c = λ _. no_event c.args.line.now c.in_default.ensures.only

pub returns-in_err-message_of-clause-form : goal.returns-in_err-message_of-clause-form
returns-in_err-message_of-clause-form c =
    let p = err_from_is_err_and c.from_residual.result c.from_residual.ensures.1 in
    rw (p.1, p.2)
    (λ is. no_message c.args.line.now c.in-Some.text.now (λ fate secs text p. (c.in-Some.ensures.only fate secs text p).2)
    (c.in_err-message_of.ensures.form is))
