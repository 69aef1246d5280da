use Rattle.guest_talk.proofs.talk.Talk.begin.Goals as goal

pub returns-in-Ok-clause-ok : goal.returns-in-Ok-clause-ok
returns-in-Ok-clause-ok g c =
    let out = c.in_ok-out.ensures.ok in record { says = out.says; sends = c.in-Ok.ensures.ok _ out.written }

pub returns-clause-err : goal.returns-clause-err
returns-clause-err g c =
    let out = c.in_ok-out.ensures.ok in (out.says, c.in-Err.ensures.err _ out.written)
