use Rattle.std.proofs.Common.{subst}
use Rattle.std.specs.Prelude.{IsTrue}
use Rattle.std.proofs.lemmas.Result.{IfOk-weaker, IfErr-weaker}
use Rattle.fuse_store.specs.TableKeeper.{disk_in}
use Rattle.fuse_files.proofs.Looks.{clean_disk}
use Rattle.fuse_files.proofs.summing.summary_for.Goals as goal

pub returns-in-Plain-clause-so : goal.returns-in-Plain-clause-so
returns-in-Plain-clause-so g c = λ clean good.
    let last = c.read_summary-summary.new.keeper in
    let whole = clean_disk g.D.Disk last.look.contents.file (subst (λ d. IsTrue (disk_in g.D.Disk d).is_clean) c.into_parts.ensures.disk good) in
    rw c.in-Plain.is (IfOk-weaker c.read_summary-summary.result _ _ (λ it so. so (clean last.look.conn, whole)) c.read_summary-summary.ensures.so)

pub returns-in-Plain-clause-fault : goal.returns-in-Plain-clause-fault
returns-in-Plain-clause-fault g c = λ clean good.
    let last = c.read_summary-summary.new.keeper in
    let whole = clean_disk g.D.Disk last.look.contents.file (subst (λ d. IsTrue (disk_in g.D.Disk d).is_clean) c.into_parts.ensures.disk good) in
    rw c.in-Plain.is (IfErr-weaker c.read_summary-summary.result _ _ (λ f so. so (clean last.look.conn, whole)) c.read_summary-summary.ensures.fault)

pub returns-in-Plain-clause-honest : goal.returns-in-Plain-clause-honest
returns-in-Plain-clause-honest g c = λ clean good.
    let last = c.read_summary-summary.new.keeper in
    let whole = clean_disk g.D.Disk last.look.contents.file (subst (λ d. IsTrue (disk_in g.D.Disk d).is_clean) c.into_parts.ensures.disk good) in
    rw c.in-Plain.is (c.read_summary-summary.ensures.honest (clean last.look.conn, whole))

pub returns-in-Everyday-clause-so : goal.returns-in-Everyday-clause-so
returns-in-Everyday-clause-so g c = λ clean good.
    let last = c.read_summary-summary-in-Everyday.new.keeper in
    let whole = clean_disk g.D.Disk last.look.contents.file (subst (λ d. IsTrue (disk_in g.D.Disk d).is_clean) c.into_parts-in-Everyday.ensures.disk good) in
    rw c.in-Everyday.is (IfOk-weaker c.read_summary-summary-in-Everyday.result _ _ (λ it so. so (clean last.look.conn, whole)) c.read_summary-summary-in-Everyday.ensures.so)

pub returns-in-Everyday-clause-fault : goal.returns-in-Everyday-clause-fault
returns-in-Everyday-clause-fault g c = λ clean good.
    let last = c.read_summary-summary-in-Everyday.new.keeper in
    let whole = clean_disk g.D.Disk last.look.contents.file (subst (λ d. IsTrue (disk_in g.D.Disk d).is_clean) c.into_parts-in-Everyday.ensures.disk good) in
    rw c.in-Everyday.is (IfErr-weaker c.read_summary-summary-in-Everyday.result _ _ (λ f so. so (clean last.look.conn, whole)) c.read_summary-summary-in-Everyday.ensures.fault)

pub returns-in-Everyday-clause-honest : goal.returns-in-Everyday-clause-honest
returns-in-Everyday-clause-honest g c = λ clean good.
    let last = c.read_summary-summary-in-Everyday.new.keeper in
    let whole = clean_disk g.D.Disk last.look.contents.file (subst (λ d. IsTrue (disk_in g.D.Disk d).is_clean) c.into_parts-in-Everyday.ensures.disk good) in
    rw c.in-Everyday.is (c.read_summary-summary-in-Everyday.ensures.honest (clean last.look.conn, whole))
