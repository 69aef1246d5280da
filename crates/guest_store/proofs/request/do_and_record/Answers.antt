use Rattle.std.specs.Prelude.{⊤}
use Rattle.std.proofs.Common.{refl, sym}
use Rattle.fuse_keeper.specs.Group.{entry_of}
use Rattle.guest_store.specs.Group.{with_record}
use Rattle.guest_store.specs.Keeping.{store_of}
use Rattle.guest_store.specs.inner.Acting.{acting, recording}
use Rattle.guest_store.specs.inner.Stepping.{making}
use Rattle.guest_store.specs.Asks.{asks_one}
use Rattle.guest_store.proofs.Asked.{first_all, no_more}
use Rattle.guest_store.proofs.Acts.{did_record}
use Rattle.guest_store.proofs.Stepping.{step_err, step_fails}
use Rattle.guest_store.proofs.request.do_and_record.Goals as goal

pub returns-in-Ok-record-clause-steps : goal.returns-in-Ok-record-clause-steps
returns-in-Ok-record-clause-steps g c =
    let tell = store_of g.S.Store g.R.Read.remaining g.W.Write.contents in
    let G = g.G.Guested.GUEST in
    let e = entry_of (c.args.request.now, c.args.now) in
    let d = record c.do_request.new.store { pairs = record c.do_request.new.store.pairs { conn = c.record.new.conn } } in
    did_record G c.args.deaths c.args.lot c.of-id.result.0 e (tell c.args.store.now) (tell c.do_request.new.store) (tell d) c.in-Ok.answer tt _ c.of-id.ensures refl
    c.in-Ok.ensures (c.in-Ok-record.ensures (tell c.do_request.new.store).talk)

pub returns-in-Err-record-clause-steps : goal.returns-in-Err-record-clause-steps
returns-in-Err-record-clause-steps g c =
    let tell = store_of g.S.Store g.R.Read.remaining g.W.Write.contents in
    let G = g.G.Guested.GUEST in
    let e = entry_of (c.args.request.now, c.args.now) in
    let d = record c.do_request.new.store { pairs = record c.do_request.new.store.pairs { conn = c.record.new.conn } } in
    step_err G (acting G c.args.deaths e) (making G (λ y. with_record c.of-id.result.0 c.args.lot c.in-Ok.answer y) (λ y (r : Unit {0}). ⊤)) (tell c.args.store.now)
    (tell c.do_request.new.store) (tell d) c.in-Ok.answer c.in-Ok.ensures (recording G c.args.deaths c.args.lot e) c.in-Err-record.fault
    (c.in-Err-record.ensures (tell c.do_request.new.store).talk) (λ w told safe. tt)
    (λ all w told. first_all _ (asks_one G.ready c.args.deaths e w.state) (sym (no_more (asks_one G.ready c.args.deaths e w.state))))

pub returns-in-Err-clause-steps : goal.returns-in-Err-clause-steps
returns-in-Err-clause-steps g c =
    let tell = store_of g.S.Store g.R.Read.remaining g.W.Write.contents in
    let G = g.G.Guested.GUEST in
    let e = entry_of (c.args.request.now, c.args.now) in
    step_fails G (acting G c.args.deaths e) (recording G c.args.deaths c.args.lot e) (tell c.args.store.now) (tell c.do_request.new.store) c.in-Err.fault
    c.in-Err.ensures (λ w safe. tt) (λ all w. first_all (asks_one G.ready c.args.deaths e w.state) _ refl)
