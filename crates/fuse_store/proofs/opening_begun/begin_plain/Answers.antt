use Rattle.std.proofs.Common.{◌≡◌, None, refl, sym, ◌∙◌}
use Rattle.sqlite.specs.Held.{state}
use Rattle.fuse_store_tables.specs.Saying.{IsTabled}
use Rattle.fuse_store_tables.specs.inner.Following.{earlier}
use Rattle.fuse_store.specs.Starting.{begun_for}
use Rattle.fuse_store.specs.TableKeeper.{disk_in, parts_state}
use Rattle.fuse_store.proofs.CurrentOpenings.{fails_now, named_now}
use Rattle.fuse_store.proofs.DoneOpenings.{SetsUp, looked, opens_less}
use Rattle.fuse_store.proofs.FailedOpenings.{FailsToSetUp}
use Rattle.fuse_store.proofs.Reopening.{is_undone, once_seen}
use Rattle.fuse_store.proofs.StoresFound.{few_plain, not_both}
use Rattle.fuse_store.proofs.opening_begun.begin_plain.Goals as goal

pub returns-in-Ok-clause-opens : goal.returns-in-Ok-clause-opens
returns-in-Ok-clause-opens g c =
    let a = state g.S.Store c.args.parts.conn in
    let b = state g.S.Store c.set_up_begun.new.conn in
    let it = c.in-Ok.ensures in
    let s : SetsUp c.in-Ok.profile begun_for None a b = record {
      ok = it.begun;
      profile = it.profile;
      was = it.was;
      whole = it.whole;
      tabled = it.tabled;
      clean = earlier a b _ it.crash;
    } in
    looked g.S.Store g.D.Disk c.in-Ok.profile begun_for (parts_state g.S.Store g.D.Disk c.args.parts) _ _ _ _ _ c.look_over.ensures.known
    c.look_over.ensures.conn c.look_over.ensures.file
    (opens_less c.in-Ok.profile begun_for None a b (disk_in g.D.Disk c.args.parts.disk) s c.law_of_rest.ensures.rests
    (λ clean. few_plain c.in-Ok.profile a.now.schema c.requires.few (it.numbered clean refl)))

pub returns-in-Ok-clause-rows : goal.returns-in-Ok-clause-rows
returns-in-Ok-clause-rows g c = λ number.
    let a = state g.S.Store c.args.parts.conn in
    let b = state g.S.Store c.set_up_begun.new.conn in
    let it = c.in-Ok.ensures in
    rw c.look_over.ensures.conn (named_now number a b (λ clean. c.requires.current (earlier a b _ it.crash clean) (it.was clean).1) it.rows.done
    (λ clean. it.ended clean (it.was clean).1) (once_seen a b _ it.once))

pub returns-in-Err-clause-refused : goal.returns-in-Err-clause-refused
returns-in-Err-clause-refused g c =
    let a = state g.S.Store c.args.parts.conn in
    let b = state g.S.Store c.set_up_begun.new.conn in
    let it = c.in-Err.ensures in
    let f = c.in-Err.fault in
    let s : FailsToSetUp begun_for IsTabled None None a b f = record {
      crash = it.crash;
      kept = it.kept;
      says = it.says;
      refused = it.refused;
      alone = it.alone;
      ended = it.ended;
      undone = is_undone a b f it.undone it.once;
    } in
    fails_now begun_for IsTabled None None a b (disk_in g.D.Disk c.args.parts.disk) f s c.law_of_rest.ensures.rests
    (λ clean outside. c.requires.current (earlier a b _ it.crash clean) outside) (λ clean file z was ready is. it.fault clean file z was ready) (λ many. not_both a.now.schema many c.requires.few)
