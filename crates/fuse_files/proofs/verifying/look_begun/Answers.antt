use Rattle.std.proofs.Common.{subst, sym, ◌∙◌}
use Rattle.std.specs.Prelude.{IsTrue}
use Rattle.std.proofs.lemmas.Result.{IfErr-weaker}
use Rattle.sqlite.specs.Held.{state}
use Rattle.fuse_data.specs.State.{state_in}
use Rattle.fuse_store_tree.specs.Store.{records_of}
use Rattle.fuse_store.specs.Starting.{begun_for}
use Rattle.fuse_store.specs.TableKeeper.{parts_state}
use Rattle.fuse_store.specs.StoreKeeper.{own_conn}
use Rattle.fuse_files.proofs.Looks.{honest_kept, ok_of_2, quiet_fails, refused_in}
use Rattle.std.proofs.Common.{◌≡◌, refl}
use Rattle.std.specs.Prelude.{IsErrAnd}
use Rattle.fuse_store_tables.specs.Saying.{IsTabled}
use Rattle.fuse_files.specs.StoreVerified.{rows_begun, IsStoreEnding}
use Rattle.fuse_files.proofs.Verified.{of_store, nothing_of_store}
use Rattle.fuse_files.proofs.verifying.look_begun.Goals as goal

pub returns-in-Ok-clause-looks : goal.returns-in-Ok-clause-looks
returns-in-Ok-clause-looks g c =
    let opened = c.in-Ok.ensures in
    ok_of_2 c.look_in.result _ _ _ (λ look file sees clean good.
    let honest = honest_kept g.S.Store g.D.Disk c.in-Ok.keeper (clean (own_conn c.in-Ok.keeper)) (subst (λ f. IsTrue (state_in g.D.Disk f).is_clean) file good) in
    record {
      sees = λ z was. sees clean (rows_begun z) (records_of (begun_for z).kept) (opened.holds honest z was);
      tabled = opened.tabled honest;
    }) c.look_in.ensures.file c.look_in.ensures.sees

pub returns-in-Ok-clause-fails : goal.returns-in-Ok-clause-fails
returns-in-Ok-clause-fails g c =
    IfErr-weaker c.look_in.result _ _ (λ e quiet clean good. quiet_fails (parts_state g.S.Store g.D.Disk c.args.parts) e.ending quiet) c.look_in.ensures.quiet

pub returns-in-Ok-clause-fault : goal.returns-in-Ok-clause-fault
returns-in-Ok-clause-fault g c = IfErr-weaker c.look_in.result _ _ (λ e quiet. nothing_of_store e.ending quiet) c.look_in.ensures.quiet

pub returns-clause-fails : goal.returns-clause-fails
returns-clause-fails g c =
    refused_in begun_for IsTabled g.S.Store g.D.Disk (parts_state g.S.Store g.D.Disk c.args.parts) c.open_begun.result c.in-Err.fault c.in-Err.field-0-1.disk _ c.open_begun.ensures.refused
    (subst (λ r. IsErrAnd r (λ p. (p.0 ≡ c.in-Err.fault) × (p.1.disk ≡ c.in-Err.field-0-1.disk))) (sym c.in-Err.is) (refl, refl)) c.of.ensures

pub returns-clause-fault : goal.returns-clause-fault
returns-clause-fault g c = subst IsStoreEnding (sym c.of.ensures) (of_store c.in-Err.fault)
