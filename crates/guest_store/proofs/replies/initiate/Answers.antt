use Rattle.std.proofs.Common.{[], Result, Ok, Err, ap, refl, sym, subst, ◌∙◌}
use Rattle.std.proofs.lemmas.Result.{err_from_is_err_and}
use Rattle.fuse_keeper.specs.declared.fault.StoreFault.{StoreFault}
use Rattle.guest_store.specs.inner.Stepping.{Steps}
use Rattle.guest_store.proofs.Acts.{step_then_stops}
use Rattle.fuse_answer.specs.Bodies.{init_bytes}
use Rattle.fuse_answer.specs.Said.{Said}
use Rattle.fuse_request.specs.Act.{asked}
use Rattle.fuse_guest.specs.Service.{served_bits}
use Rattle.guest_store.specs.Keeping.{store_of}
use Rattle.guest_store.specs.inner.Acting.{replying}
use Rattle.guest_store.proofs.Initiating.{agreeing, initiated, initiating, no_errno, not_agreed, some_errno}
use Rattle.guest_store.proofs.Stepping.{step_err}
use Rattle.guest_store.proofs.Tables.{settings_step, statement_err}
use Rattle.guest_store.proofs.replies.initiate.Goals as goal

pub returns-then-ne : goal.returns-then-ne
returns-then-ne g c =
    let tell = store_of g.S.Store g.R.Read.remaining g.W.Write.contents in
    let G = g.G.Guested.GUEST in
    not_agreed G c.args.deaths (asked c.args.request.now) c.args.now (init_bytes c.args.out) c.args.settings (tell c.args.store.now) (tell c.reply.new.store) c.in-Ok.answer c.in-Ok.ensures
    (some_errno c.in-Ok.answer.errno c.answer.inside.errno.0 c.ne.result (sym (ap (λ (s : Said). s.errno) c.answer.view_is)) c.ne.ensures c.if-ne.true)

pub returns-in-Ok-write_settings : goal.returns-in-Ok-write_settings
returns-in-Ok-write_settings g c =
    let tell = store_of g.S.Store g.R.Read.remaining g.W.Write.contents in
    let G = g.G.Guested.GUEST in
    let d = record c.reply.new.store { pairs = record c.reply.new.store.pairs { conn = c.write_settings.new.conn } } in
    initiated G c.args.deaths (asked c.args.request.now) c.args.now (init_bytes c.args.out) c.args.settings (tell c.args.store.now) (tell c.reply.new.store) c.in-Ok.answer c.in-Ok.ensures c.served_bits-pledged.result (tell d)
    c.in_ok-init_answer-in-Ok-write_settings.field-0 tt
    (no_errno c.in-Ok.answer.errno c.answer.inside.errno.0 c.ne.result (sym (ap (λ (s : Said). s.errno) c.answer.view_is)) c.ne.ensures c.if-ne.false) (c.served_bits-pledged.ensures ∙ ap served_bits c.ready.ensures)
    c.in_ok-init_answer-in-Ok-write_settings.ensures
    (settings_step G c.args.settings c.served_bits-pledged.result (tell c.reply.new.store).tables (tell d).tables (tell d).talk tt c.in-Ok-write_settings.ensures.fit)

pub returns : goal.returns
returns g c =
    let tell = store_of g.S.Store g.R.Read.remaining g.W.Write.contents in
    let G = g.G.Guested.GUEST in
    let d = record c.reply.new.store { pairs = record c.reply.new.store.pairs { conn = c.write_settings.new.conn } } in
    let e = agreeing G {X = Unit {0}} c.args.settings c.served_bits-pledged.result in
    step_err G (replying G c.args.deaths (asked c.args.request.now) c.args.now) e (tell c.args.store.now) (tell c.reply.new.store) (tell d) c.in-Ok.answer c.in-Ok.ensures
    (initiating G c.args.deaths (asked c.args.request.now) c.args.now (init_bytes c.args.out) c.args.settings) c.from.result
    (statement_err G e (tell c.reply.new.store).tables (tell d).tables (tell d).talk c.in-Err-write_settings.error c.from.result c.from.ensures
    c.in-Err-write_settings.ensures.made.stays) (λ w told safe. tt) (λ all w told. ([], refl))

-- there is no memory for the answer
pub returns-in_err-init_answer-in-Ok-write_settings : goal.returns-in_err-init_answer-in-Ok-write_settings
returns-in_err-init_answer-in-Ok-write_settings g c =
    let tell = store_of g.S.Store g.R.Read.remaining g.W.Write.contents in
    let G = g.G.Guested.GUEST in
    let d = record c.reply.new.store { pairs = record c.reply.new.store.pairs { conn = c.write_settings.new.conn } } in
    let e = initiating G c.args.deaths (asked c.args.request.now) c.args.now (init_bytes c.args.out) c.args.settings in
    let said : Said = record { errno = 0; body = init_bytes c.args.out } in
    let all : Steps {A = Said} G e (tell c.args.store.now) (tell d) (Ok said) =
    initiated G c.args.deaths (asked c.args.request.now) c.args.now (init_bytes c.args.out) c.args.settings (tell c.args.store.now) (tell c.reply.new.store) c.in-Ok.answer c.in-Ok.ensures c.served_bits-pledged.result (tell d)
    said tt
    (no_errno c.in-Ok.answer.errno c.answer.inside.errno.0 c.ne.result (sym (ap (λ (s : Said). s.errno) c.answer.view_is)) c.ne.ensures c.if-ne.false) (c.served_bits-pledged.ensures ∙ ap served_bits c.ready.ensures)
    refl
    (settings_step G c.args.settings c.served_bits-pledged.result (tell c.reply.new.store).tables (tell d).tables (tell d).talk tt c.in-Ok-write_settings.ensures.fit) in
    let p = err_from_is_err_and c.from_residual.result c.from_residual.ensures.1 in
    subst (λ (r : Result Said StoreFault). Steps {A = Said} G e (tell c.args.store.now) (tell d) r) (sym (p.1 ∙ ap (λ (s : StoreFault). Err s) p.2))
    (step_then_stops {A = Said} {B = Said} G e e (tell c.args.store.now) (tell d) said all (λ w. ([], refl)))
