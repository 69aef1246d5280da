use Rattle.std.proofs.Common.{subst, sym, ◌∙◌}
use Rattle.std.specs.Prelude.{IsTrue}
use Rattle.std.proofs.lemmas.Result.{IfErr-weaker}
use Rattle.sqlite.specs.Held.{state}
use Rattle.fuse_data.specs.State.{state_in}
use Rattle.fuse_store_tree.specs.Store.{records_of}
use Rattle.fuse_store.specs.Opening.{opened_for}
use Rattle.fuse_store.specs.TableKeeper.{parts_state}
use Rattle.fuse_store.specs.StoreKeeper.{own_conn}
use Rattle.fuse_files.proofs.Looks.{honest_kept, ok_of_2, quiet_fails}
use Rattle.fuse_files.specs.StoreShown.{rows_in}
use Rattle.fuse_files.proofs.Written.{nothing_cut}
use Rattle.fuse_files.proofs.showing.look_at.Goals as goal

pub returns-in-Ok-clause-looks : goal.returns-in-Ok-clause-looks
returns-in-Ok-clause-looks g c =
    let opened = c.in-Ok.ensures in
    ok_of_2 c.look_in.result _ _ _ (λ look file sees clean good.
    let honest = honest_kept g.S.Store g.D.Disk c.in-Ok.keeper (clean (own_conn c.in-Ok.keeper)) (subst (λ f. IsTrue (state_in g.D.Disk f).is_clean) file good) in
    record {
      sees = λ z was. sees clean (rows_in z) (records_of (opened_for z).kept) (opened.holds honest z was);
      tabled = opened.tabled honest;
    }) c.look_in.ensures.file c.look_in.ensures.sees

pub returns-in-Ok-clause-fails : goal.returns-in-Ok-clause-fails
returns-in-Ok-clause-fails g c =
    IfErr-weaker c.look_in.result _ _ (λ e quiet clean good. quiet_fails (parts_state g.S.Store g.D.Disk c.args.parts) e.ending quiet) c.look_in.ensures.quiet

pub returns-in-Ok-clause-cut : goal.returns-in-Ok-clause-cut
returns-in-Ok-clause-cut g c = IfErr-weaker c.look_in.result _ _ (λ e quiet. nothing_cut e.ending quiet) c.look_in.ensures.quiet
