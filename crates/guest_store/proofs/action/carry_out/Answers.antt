use Rattle.std.proofs.Common.{sym, subst}
use Rattle.fuse_request.specs.Act.{asked}
use Rattle.fuse_answer.specs.Said.{Said}
use Rattle.guest_store.specs.Keeping.{store_of}
use Rattle.guest_store.specs.declared.deciding.Decision.{Decision}
use Rattle.guest_store.specs.inner.Acting.{carrying}
use Rattle.guest_store.specs.inner.Stepping.{Steps}
use Rattle.guest_store.proofs.action.carry_out.Goals as goal

pub returns-in-Ask : goal.returns-in-Ask
returns-in-Ask g c =
    let tell = store_of g.S.Store g.R.Read.remaining g.W.Write.contents in
    let G = g.G.Guested.GUEST in
    subst (λ (d : Decision). Steps {A = Said} G (carrying G c.args.deaths (asked c.args.request.now) c.args.now d) (tell c.args.store.now) (tell c.reply.new.store) c.reply.result) (sym c.in-Ask.is)
    c.reply.ensures

pub returns-in-Negotiate : goal.returns-in-Negotiate
returns-in-Negotiate g c =
    let tell = store_of g.S.Store g.R.Read.remaining g.W.Write.contents in
    let G = g.G.Guested.GUEST in
    subst (λ (d : Decision). Steps {A = Said} G (carrying G c.args.deaths (asked c.args.request.now) c.args.now d) (tell c.args.store.now) (tell c.initiate.new.store) c.initiate.result) (sym c.in-Negotiate.is)
    c.initiate.ensures
