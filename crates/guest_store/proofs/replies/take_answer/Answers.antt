use Rattle.std.proofs.Common.{[], Result, Err, refl, ap, sym, subst, ◌∙◌}
use Rattle.std.proofs.lemmas.Result.{err_from_is_err_and}
use Rattle.fuse_answer.specs.Said.{Said}
use Rattle.fuse_keeper.specs.declared.fault.StoreFault.{StoreFault}
use Rattle.sqlite.specs.Held.{state}
use Rattle.fuse_guest.specs.Pairs.{changed_pairs}
use Rattle.guest_frames.specs.Borrowed.{answer_content, changes_left}
use Rattle.guest_talk.specs.Answered.{said_by}
use Rattle.guest_store.specs.inner.Acting.{answering}
use Rattle.guest_store.specs.inner.Changing.{changing}
use Rattle.guest_store.specs.inner.Stepping.{Steps, with_talk}
use Rattle.guest_store.proofs.Acts.{answered, step_then_stops}
use Rattle.guest_store.proofs.Stepping.{step_fails}
use Rattle.guest_store.proofs.replies.take_answer.Goals as goal

pub returns-in-Err : goal.returns-in-Err
returns-in-Err g c = λ t.
    let G = g.G.Guested.GUEST in
    step_fails G (changing G (λ ps. changed_pairs (changes_left c.content-content.result.changes) ps)) (answering G (said_by c.args.answer.now))
    (with_talk (state g.S.Store c.args.conn.now) t) (with_talk (state g.S.Store c.make_changes.new.conn) t) c.in-Err.fault (c.in-Err.ensures t) (λ w safe. tt) (λ all w. ([], refl))

pub returns : goal.returns
returns g c = λ t.
    let G = g.G.Guested.GUEST in
    answered G (answer_content c.content-content.result) (said_by c.args.answer.now)
    (with_talk (state g.S.Store c.args.conn.now) t) (with_talk (state g.S.Store c.make_changes.new.conn) t) _ c.content-content.ensures.said
    (ap (λ body. record { errno = c.content-content.result.error; body = body }) (c.from_vec.ensures ∙ c.in_ok-body.ensures.items)) (c.in-Ok.ensures t)

pub returns-in_err-body : goal.returns-in_err-body
returns-in_err-body g c = λ t.
    let G = g.G.Guested.GUEST in
    let p = err_from_is_err_and c.from_residual.result c.from_residual.ensures.1 in
    subst (λ (r : Result Said StoreFault). Steps {A = Said} G (answering G (said_by c.args.answer.now))
    (with_talk (state g.S.Store c.args.conn.now) t) (with_talk (state g.S.Store c.make_changes.new.conn) t) r) (sym (p.1 ∙ ap (λ (s : StoreFault). Err s) p.2))
    (step_then_stops G (changing G (λ ps. changed_pairs (changes_left c.content-content.result.changes) ps)) (answering G (said_by c.args.answer.now))
    (with_talk (state g.S.Store c.args.conn.now) t) (with_talk (state g.S.Store c.make_changes.new.conn) t) tt (c.in-Ok.ensures t) (λ w. ([], refl)))
