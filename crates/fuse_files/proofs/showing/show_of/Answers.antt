use Rattle.std.proofs.Common.{sym, subst}
use Rattle.fuse_store.specs.TableKeeper.{parts_state}
use Rattle.fuse_files.specs.StoreShown.{IsTextOf, OutputsAs, Shows, ShowsText}
use Rattle.fuse_files.specs.declared.showing.Show.{Show}
use Rattle.fuse_files.specs.inner.Showing.{ShowsOver}
use Rattle.fuse_files.proofs.showing.show_of.Goals as goal

pub returns-in-Summary-clause-shown : goal.returns-in-Summary-clause-shown
returns-in-Summary-clause-shown g c = λ clean good.
    let old = g.W.Sink.contents c.args.writer.now in
    let new = g.W.Sink.contents c.summary_of.new.writer in
    subst (λ (what : Show). ShowsOver (λ z. Shows what z old new c.summary_of.result.ending) (parts_state g.S.Store g.D.Disk c.args.parts) c.summary_of.result.ending)
    (sym c.in-Summary.is) (c.summary_of.ensures.shown clean good)

pub returns-in-Directory-clause-shown : goal.returns-in-Directory-clause-shown
returns-in-Directory-clause-shown g c = λ clean good.
    let old = g.W.Sink.contents c.args.writer.now in
    let new = g.W.Sink.contents c.list_of.new.writer in
    subst (λ (what : Show). ShowsOver (λ z. Shows what z old new c.list_of.result.ending) (parts_state g.S.Store g.D.Disk c.args.parts) c.list_of.result.ending)
    (sym c.in-Directory.is) (c.list_of.ensures.shown clean good)

pub returns-in-File-clause-shown : goal.returns-in-File-clause-shown
returns-in-File-clause-shown g c = λ clean good.
    let old = g.W.Sink.contents c.args.writer.now in
    let new = g.W.Sink.contents c.print_of.new.writer in
    subst (λ (what : Show). ShowsOver (λ z. Shows what z old new c.print_of.result.ending) (parts_state g.S.Store g.D.Disk c.args.parts) c.print_of.result.ending)
    (sym c.in-File.is) (c.print_of.ensures.shown clean good)

pub returns-in-Summary-clause-written : goal.returns-in-Summary-clause-written
returns-in-Summary-clause-written g c =
    subst (λ (what : Show). OutputsAs g.W.Sink.was_written g.W.Sink.was_flushed c.args.writer.now c.summary_of.new.writer (ShowsText (IsTextOf what) c.summary_of.result.ending)) (sym c.in-Summary.is)
    c.summary_of.ensures.written

pub returns-in-Directory-clause-written : goal.returns-in-Directory-clause-written
returns-in-Directory-clause-written g c =
    subst (λ (what : Show). OutputsAs g.W.Sink.was_written g.W.Sink.was_flushed c.args.writer.now c.list_of.new.writer (ShowsText (IsTextOf what) c.list_of.result.ending)) (sym c.in-Directory.is)
    c.list_of.ensures.written

pub returns-in-File-clause-written : goal.returns-in-File-clause-written
returns-in-File-clause-written g c =
    subst (λ (what : Show). OutputsAs g.W.Sink.was_written g.W.Sink.was_flushed c.args.writer.now c.print_of.new.writer (ShowsText (IsTextOf what) c.print_of.result.ending)) (sym c.in-File.is)
    c.print_of.ensures.written
