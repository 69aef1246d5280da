use Rattle.std.proofs.Common.{List, ℕ, length, refl, sym, ap, subst, ◌∙◌}
use Rattle.std.specs.Io.KnownBytes.{Appends}
use Rattle.fuse_store.specs.TableKeeper.{parts_state}
use Rattle.fuse_store_tree.specs.Store.{records_of}
use Rattle.fuse_store.specs.Opening.{opened_for}
use Rattle.fuse_files.specs.StoreShown.{MayCutShort, IsSummary, Sums, SumsUp, rows_in}
use Rattle.fuse_files.proofs.Looks.{not_shown}
use Rattle.fuse_files.proofs.Sunk.{held_after}
use Rattle.fuse_files.proofs.Summed.{nothing_summed, not_summed, good_held}
use Rattle.fuse_files.proofs.Written.{a_summary, store_cut, text_none, text_part, text_whole}
use Rattle.fuse_files.proofs.summing.summary_of.Goals as goal

pub returns-in-Err-clause-shown : goal.returns-in-Err-clause-shown
returns-in-Err-clause-shown g c = λ clean good.
    let fails = c.in-Err.ensures.fails clean good in
    not_shown (λ z. Sums z _ _ _) _ _ fails (λ z was. nothing_summed z _ _ (fails.outside z was))

pub returns-in-Err-summary-clause-shown : goal.returns-in-Err-summary-clause-shown
returns-in-Err-summary-clause-shown g c = λ clean good.
    let told = c.summary_for-summary.ensures in
    let opened = told.honest clean good in
    let all = told.fault clean good in
    let plain = rw c.in-Err-summary.is at told.plain in
    let fault = rw c.in-Err-summary.is at all in
    not_summed (parts_state g.S.Store g.D.Disk c.args.parts) _ _ _ c.of.ensures (c.in-Ok.ensures.tabled opened) plain
    (λ z was. fault _ _ (c.in-Ok.ensures.holds opened z was))

pub returns-in-Ok-show_summary-clause-shown : goal.returns-in-Ok-show_summary-clause-shown
returns-in-Ok-show_summary-clause-shown g c = λ clean good.
    let told = c.summary_for-summary.ensures in
    let opened = told.honest clean good in
    let all = told.so clean good in
    let version = rw c.in-Ok-summary.is at told.version in
    let so = rw c.in-Ok-summary.is at all in
    let out = c.in-Ok-show_summary.ensures.shown in
    let held_now = held_after g.W.Sink.contents g.W.Sink.was_written g.W.Sink.was_flushed g.met.W.Sink.appended g.met.W.Sink.kept _ _ _ _ out in
    record {
      shown = λ z was.
          let held = c.in-Ok.ensures.holds opened z was in
          record {
            summary = c.in-Ok-summary.summary;
            version = version ∙ c.version_of-version.ensures _ z was;
            so =
                subst (λ (lots : List ℕ). SumsUp (rows_in z) (records_of (opened_for z).kept) (length lots) c.in-Ok-summary.summary)
                (c.in-Ok.ensures.lots opened z was).numbers
                (so _ _ held (good_held g.S.Store g.D.Disk c.rows_tell_state.ensures c.in-Ok.keeper z _ held (c.in-Ok.ensures.profile opened z was)));
            written = subst (Appends _ _) out.so held_now;
          };
      says = c.in-Ok.ensures.tabled opened;
    }

pub returns-in-Err-show_summary-clause-shown : goal.returns-in-Err-show_summary-clause-shown
returns-in-Err-show_summary-clause-shown g c = λ clean good.
    let told = c.summary_for-summary.ensures in
    let opened = told.honest clean good in
    let all = told.so clean good in
    let version = rw c.in-Ok-summary.is at told.version in
    let so = rw c.in-Ok-summary.is at all in
    let out = c.in-Err-show_summary.ensures.shown in
    let held_now = held_after g.W.Sink.contents g.W.Sink.was_written g.W.Sink.was_flushed g.met.W.Sink.appended g.met.W.Sink.kept _ _ _ _ out in
    record {
      shown = λ z was.
          let held = c.in-Ok.ensures.holds opened z was in
          record {
            summary = c.in-Ok-summary.summary;
            version = version ∙ c.version_of-version.ensures _ z was;
            so =
                subst (λ (lots : List ℕ). SumsUp (rows_in z) (records_of (opened_for z).kept) (length lots) c.in-Ok-summary.summary)
                (c.in-Ok.ensures.lots opened z was).numbers
                (so _ _ held (good_held g.S.Store g.D.Disk c.rows_tell_state.ensures c.in-Ok.keeper z _ held (c.in-Ok.ensures.profile opened z was)));
            written = (out.bytes, held_now, out.so);
          };
      says = c.in-Ok.ensures.tabled opened;
    }

pub returns-in-Err-clause-written : goal.returns-in-Err-clause-written
returns-in-Err-clause-written g c = text_none g.W.Sink.was_written g.W.Sink.was_flushed IsSummary _ _ c.in-Err.ensures.cut _ a_summary

pub returns-in-Err-summary-clause-written : goal.returns-in-Err-summary-clause-written
returns-in-Err-summary-clause-written g c =
    text_none g.W.Sink.was_written g.W.Sink.was_flushed IsSummary _ _ (subst MayCutShort (sym c.of.ensures) (store_cut c.in-Err-summary.fault)) _ a_summary

pub returns-in-Ok-show_summary-clause-written : goal.returns-in-Ok-show_summary-clause-written
returns-in-Ok-show_summary-clause-written g c =
    text_whole g.W.Sink.was_written g.W.Sink.was_flushed IsSummary _ _ _ (c.in-Ok-summary.summary, refl) c.in-Ok-show_summary.ensures.shown

pub returns-in-Err-show_summary-clause-written : goal.returns-in-Err-show_summary-clause-written
returns-in-Err-show_summary-clause-written g c =
    text_part g.W.Sink.was_written g.W.Sink.was_flushed IsSummary _ _ _ _ (c.in-Ok-summary.summary, refl) c.in-Err-show_summary.ensures.fault c.in-Err-show_summary.ensures.shown
