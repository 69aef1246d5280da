use Rattle.std.proofs.Common.{◌≡◌, Option, refl, sym, ap, ◌∙◌}
use Rattle.std.proofs.lemmas.Result.{IfOk-weaker}
use Rattle.fuse_answer.specs.Said.{Said}
use Rattle.fuse_keeper.specs.Group.{entry_of}
use Rattle.fuse_keeper.specs.History.{entry_id}
use Rattle.guest_store.specs.Holding.{records_of}
use Rattle.guest_store.specs.Asks.{asks_one, asks_unless}
use Rattle.guest_store.specs.Keeping.{store_of}
use Rattle.guest_store.specs.StoreState.{held_as}
use Rattle.guest_store.specs.inner.Acting.{keeping}
use Rattle.guest_store.specs.inner.Stepping.{making}
use Rattle.guest_store.proofs.Stepping.{step_fails}
use Rattle.guest_store.proofs.Acts.{acts, repeats}
use Rattle.guest_store.proofs.Tables.{found_err, look_ok}
use Rattle.guest_store.proofs.request.keep_one.Goals as goal

pub returns-in-Ok-Some-clause-steps : goal.returns-in-Ok-Some-clause-steps
returns-in-Ok-Some-clause-steps g c =
    let tell = store_of g.S.Store g.R.Read.remaining g.W.Write.contents in
    let G = g.G.Guested.GUEST in
    let e = entry_of (c.args.request.now, c.args.now) in
    let b = record c.args.store.now { pairs = record c.args.store.now.pairs { conn = c.find_answer.new.conn } } in
    repeats G c.args.deaths c.args.lot e (tell c.args.store.now) (tell b) c.in-Ok-Some.field-0 c.in-Ok-Some.answer _ c.in-Ok-Some.field-0-is refl
    (look_ok G (λ y (r : Option Said). r ≡ records_of y.kept (entry_id e)) (tell c.args.store.now).tables (tell b).tables (tell b).talk c.in-Ok-Some.field-0
    c.in-Ok-Some.ensures.looks (λ honest n y at. c.in-Ok-Some.ensures.value honest.0 (held_as G n y) at ∙ ap (records_of y.kept) c.of-id.ensures))

pub returns-in-Ok-None-clause-steps : goal.returns-in-Ok-None-clause-steps
returns-in-Ok-None-clause-steps g c =
    let tell = store_of g.S.Store g.R.Read.remaining g.W.Write.contents in
    let G = g.G.Guested.GUEST in
    let e = entry_of (c.args.request.now, c.args.now) in
    let b = record c.args.store.now { pairs = record c.args.store.now.pairs { conn = c.find_answer.new.conn } } in
    acts G c.args.deaths c.args.lot e (tell c.args.store.now) (tell b) (tell c.do_and_record.new.store) c.in-Ok-None.field-0 c.do_and_record.result c.in-Ok-None.field-0-is
    (look_ok G (λ y (r : Option Said). r ≡ records_of y.kept (entry_id e)) (tell c.args.store.now).tables (tell b).tables (tell b).talk c.in-Ok-None.field-0
    c.in-Ok-None.ensures.looks (λ honest n y at. c.in-Ok-None.ensures.value honest.0 (held_as G n y) at ∙ ap (records_of y.kept) c.of-id.ensures)) c.do_and_record.ensures.steps

pub returns-in-Err-clause-steps : goal.returns-in-Err-clause-steps
returns-in-Err-clause-steps g c =
    let tell = store_of g.S.Store g.R.Read.remaining g.W.Write.contents in
    let G = g.G.Guested.GUEST in
    let e = entry_of (c.args.request.now, c.args.now) in
    let b = record c.args.store.now { pairs = record c.args.store.now.pairs { conn = c.find_answer.new.conn } } in
    let effect = making G (λ y. y) (λ y (r : Option Said). r ≡ records_of y.kept (entry_id e)) in
    step_fails G effect (keeping G c.args.deaths c.args.lot e) (tell c.args.store.now) (tell b) c.in-Err.fault
    (found_err G effect (tell c.args.store.now).tables (tell b).tables (tell b).talk c.of-id.result.0 c.in-Err.fault c.in-Err.ensures.fails c.in-Err.ensures.plain
    c.in-Err.ensures.fault) (λ w safe. tt) (λ all w. (asks_unless (records_of w.kept (entry_id e)) (asks_one G.ready c.args.deaths e w.state), refl))

-- what was done newly is no repeat
pub returns-in-Ok-None-clause-silent : goal.returns-in-Ok-None-clause-silent
returns-in-Ok-None-clause-silent g c = IfOk-weaker c.do_and_record.result _ _ (λ done new is. absurd (let no = sym new ∙ is in cc)) c.do_and_record.ensures.new
