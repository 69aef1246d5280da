use Rattle.std.proofs.Common.{List, ℕ, [], Err, inl, refl, sym, subst, ap, ◌∙◌}
use Rattle.std.specs.Prelude.{⊤, IsTrue}
use Rattle.std.proofs.KnownBytes.{Appends-nil}
use Rattle.sqlite.specs.Held.{state}
use Rattle.fuse_tree.specs.declared.look.LookFault.TheVariants.{Failed}
use Rattle.fuse_store_tree.specs.Knowing.{KnownTables, knowing}
use Rattle.fuse_store_tree.specs.Viewing.{view_in}
use Rattle.fuse_store.specs.TableKeeper.{disk_in, parts_state}
use Rattle.fuse_show.specs.declared.fault.ShowFault.TheVariants.{Look}
use Rattle.fuse_show.specs.Listing.{AreLines}
use Rattle.fuse_show.specs.Paths.{names_of}
use Rattle.fuse_show.specs.Shown.{ShowsListing}
use Rattle.fuse_files.specs.StoreShown.{rows_in, OutputsAs, ShowsText}
use Rattle.fuse_files.specs.inner.Showing.{showing_ending, shown_ending}
use Rattle.fuse_commands.specs.declared.ending.Ending.{Ending}
use Rattle.fuse_files.proofs.Looks.{seen, of_tree, not_shown, ends_as, over, hushed, clean_before, clean_disk}
use Rattle.fuse_files.proofs.Sunk.{held_after, nothing_held}
use Rattle.fuse_files.proofs.Written.{text_none, text_shown, lines_text}
use Rattle.fuse_files.proofs.showing.list_of.Goals as goal

pub returns-in-Err-clause-shown : goal.returns-in-Err-clause-shown
returns-in-Err-clause-shown g c = λ clean good.
    let fails = c.in-Err.ensures.fails clean good in
    not_shown _ _ _ fails (λ z was. record { shown = Err (Look Failed); bytes = []; written = Appends-nil _; lists = inl refl; ends = fails.outside z was })

pub returns-clause-shown : goal.returns-clause-shown
returns-clause-shown g c = λ clean good.
    let first = c.in-Ok.look in
    let last = c.show_listing-shown.new.look in
    let r = c.show_listing-shown.result in
    let a : KnownTables = knowing first.known (state g.S.Store first.conn) (view_in g.D.Disk first.contents) in
    let b : KnownTables = knowing last.known (state g.S.Store last.conn) (view_in g.D.Disk last.contents) in
    let looked = c.show_listing-shown.ensures.looked in
    let out = c.show_listing-shown.ensures.shown in
    let held = held_after g.W.Sink.contents g.W.Sink.was_written g.W.Sink.was_flushed g.met.W.Sink.appended g.met.W.Sink.kept _ _ _ _ out in
    let good_last = clean_disk g.D.Disk last.contents.file (subst (λ d. IsTrue (disk_in g.D.Disk d).is_clean) c.shown_over.ensures.disk good) in
    let at = c.in-Ok.ensures.looks clean (clean_before r a b _ _ _ _ looked.looks looked.fails good_last) in
    let ended = c.shown_over.ensures.ending ∙ c.ending_of_shown.ensures ∙ ap (λ f. shown_ending (showing_ending f) r) c.take-fault.ensures.value in
    over a b _ _ r c.in-Ok.ensures.begins looked.fails _ ended (parts_state g.S.Store g.D.Disk c.args.parts) at (clean last.conn) good_last looked.fault _ (λ z was.
    let sees = at.sees z was in
    record {
      shown = r;
      bytes = out.bytes;
      written = held;
      lists =
          subst (λ (path : List ℕ). ShowsListing (rows_in z) (names_of path) out.bytes r) c.as_bytes.ensures.value
          (out.so.so (clean out.so.seen.conn, out.so.looks.1.file.clean good_last) (rows_in z) (of_tree (rows_in z) _ _ sees)
          (seen (rows_in z) _ _ sees first.known first.last c.in-Ok.ensures.unknown c.in-Ok.ensures.fresh));
      ends = ends_as a b _ _ r c.in-Ok.ensures.begins looked.fails _ ended (parts_state g.S.Store g.D.Disk c.args.parts) at (clean last.conn) good_last looked.fault z was;
    })

pub returns-clause-silent : goal.returns-clause-silent
returns-clause-silent g c =
    let first = c.in-Ok.look in
    let last = c.show_listing-shown.new.look in
    let r = c.show_listing-shown.result in
    let a : KnownTables = knowing first.known (state g.S.Store first.conn) (view_in g.D.Disk first.contents) in
    let b : KnownTables = knowing last.known (state g.S.Store last.conn) (view_in g.D.Disk last.contents) in
    let ended = c.shown_over.ensures.ending ∙ c.ending_of_shown.ensures ∙ ap (λ f. shown_ending (showing_ending f) r) c.take-fault.ensures.value in
    hushed a b _ _ r c.in-Ok.ensures.begins c.show_listing-shown.ensures.looked.fails _ ended _ _
    (nothing_held g.W.Sink.contents g.W.Sink.was_written g.W.Sink.was_flushed g.met.W.Sink.appended g.met.W.Sink.kept _ _ r c.show_listing-shown.ensures.silent)

pub returns-in-Err-clause-written : goal.returns-in-Err-clause-written
returns-in-Err-clause-written g c = text_none g.W.Sink.was_written g.W.Sink.was_flushed AreLines _ _ c.in-Err.ensures.cut [] ([], refl)

pub returns-clause-written : goal.returns-clause-written
returns-clause-written g c =
    subst (λ (e : Ending). OutputsAs g.W.Sink.was_written g.W.Sink.was_flushed c.args.writer.now c.show_listing-shown.new.writer (ShowsText AreLines e))
    (sym (c.shown_over.ensures.ending ∙ c.ending_of_shown.ensures))
    (text_shown g.W.Sink.was_written g.W.Sink.was_flushed AreLines _ _ c.show_listing-shown.result _ _ (λ bytes so. lines_text bytes c.show_listing-shown.result so) c.show_listing-shown.ensures.written)
