use Rattle.std.proofs.Common.{◌≡◌, ◌∙◌, ap, sym, subst}
use Rattle.std.specs.Prelude.{IsTrue}
use Rattle.sqlite.specs.Held.{state}
use Rattle.fuse_store_tables.specs.Faults.{IsOutside}
use Rattle.fuse_store_tree.specs.Knowing.{KnownTables, knowing}
use Rattle.fuse_store_tree.specs.Viewing.{view_in}
use Rattle.fuse_store.specs.TableKeeper.{disk_in, parts_state}
use Rattle.fuse_commands.specs.Endings.{store_ending}
use Rattle.fuse_files.specs.StoreShown.{OutputsAs, SaysSo}
use Rattle.fuse_files.specs.StoreVerified.{rows_begun}
use Rattle.fuse_files.specs.inner.Verifying.{VerifiesOver, IsUnsaidOver, IsCountedOver, walk_ending}
use Rattle.fuse_files.proofs.Ends.{says_nothing, outside_so, of_sql}
use Rattle.fuse_files.proofs.Looks.{seen, of_tree, ready, clean_disk, plain_after}
use Rattle.fuse_files.proofs.Verified.{outside_after, look_of_store, told_look, verdict_none, verdict_walk, verdict_more, of_store, walk_so, verdict_so}
use Rattle.fuse_files.proofs.verifying.verify_of.Goals as goal

pub returns-in-Err-clause-verified : goal.returns-in-Err-clause-verified
returns-in-Err-clause-verified g c = λ clean good.
    let s = parts_state g.S.Store g.D.Disk c.args.parts in
    let unsaid : IsUnsaidOver s c.in-Err.shown.ending = (c.in-Err.ensures.fault, (c.in-Err.ensures.fails clean good).outside) in
    verdict_none g.W.Sink.was_written g.W.Sink.was_flushed {Unsaid = IsUnsaidOver s} _ _ unsaid

pub returns-in-Err-clause-says : goal.returns-in-Err-clause-says
returns-in-Err-clause-says g c = λ clean good. (c.in-Err.ensures.fails clean good).says

pub returns-in-Err-verify_tree-clause-verified : goal.returns-in-Err-verify_tree-clause-verified
returns-in-Err-verify_tree-clause-verified g c = λ clean good.
    let s = parts_state g.S.Store g.D.Disk c.args.parts in
    let walk = c.in-Err-verify_tree.ensures in
    let w = c.in-Err-verify_tree.walk in
    let first = c.in-Ok.look in
    let last = c.verify_tree.new.look in
    let a : KnownTables = knowing first.known (state g.S.Store first.conn) (view_in g.D.Disk first.contents) in
    let b : KnownTables = knowing last.known (state g.S.Store last.conn) (view_in g.D.Disk last.contents) in
    let good_last = clean_disk g.D.Disk last.contents.file (subst (λ d. IsTrue (disk_in g.D.Disk d).is_clean) c.shown_over.ensures.disk good) in
    let at = c.in-Ok.ensures.looks clean (walk.walked.fails.file.clean good_last) in
    let ended = c.shown_over.ensures.ending ∙ c.ending_of_walk.ensures ∙ ap (λ f. walk_ending f w) c.take-fault.ensures.value in
    subst (λ e. OutputsAs g.W.Sink.was_written g.W.Sink.was_flushed c.args.writer.now c.verify_tree.new.writer (VerifiesOver s e)) (sym ended)
    (verdict_walk g.W.Sink.was_written g.W.Sink.was_flushed {Unsaid = IsUnsaidOver s} {Counted = IsCountedOver s} _ _ w last.fault (tt, λ z was. tt) (λ x is. (
      look_of_store _,
      λ z was.
          outside_after a b _ _ x c.in-Ok.ensures.begins (clean last.conn) good_last (ready (rows_begun z) _ _ (at.sees z was)) walk.walked.fails
          (told_look _ w x is walk.walked.tells),
    )) walk.found)

pub returns-in-Err-verify_tree-clause-says : goal.returns-in-Err-verify_tree-clause-says
returns-in-Err-verify_tree-clause-says g c = λ clean good.
    let walk = c.in-Err-verify_tree.ensures in
    let w = c.in-Err-verify_tree.walk in
    let first = c.in-Ok.look in
    let last = c.verify_tree.new.look in
    let a : KnownTables = knowing first.known (state g.S.Store first.conn) (view_in g.D.Disk first.contents) in
    let b : KnownTables = knowing last.known (state g.S.Store last.conn) (view_in g.D.Disk last.contents) in
    let good_last = clean_disk g.D.Disk last.contents.file (subst (λ d. IsTrue (disk_in g.D.Disk d).is_clean) c.shown_over.ensures.disk good) in
    let at = c.in-Ok.ensures.looks clean (walk.walked.fails.file.clean good_last) in
    let ended = c.shown_over.ensures.ending ∙ c.ending_of_walk.ensures ∙ ap (λ f. walk_ending f w) c.take-fault.ensures.value in
    let plain = plain_after a b _ _ c.in-Ok.ensures.begins walk.walked.fails in
    subst (SaysSo (state g.S.Store c.args.parts.conn).now) (sym ended) (walk_so (state g.S.Store c.args.parts.conn).now at.tabled last.fault w plain)

pub returns-in-Ok-strays-clause-verified : goal.returns-in-Ok-strays-clause-verified
returns-in-Ok-strays-clause-verified g c = λ clean good.
    let s = parts_state g.S.Store g.D.Disk c.args.parts in
    let walk = c.in-Ok-verify_tree.ensures in
    let last = c.verify_tree.new.look in
    let over = c.shown_over-in-Ok-strays.ensures in
    let good_last = clean_disk g.D.Disk last.contents.file (subst (λ d. IsTrue (disk_in g.D.Disk d).is_clean) over.disk good) in
    let at = c.in-Ok.ensures.looks clean (walk.walked.looks.file.clean good_last) in
    subst (λ e. OutputsAs g.W.Sink.was_written g.W.Sink.was_flushed c.args.writer.now c.write_verdict-ending.new.writer (VerifiesOver s e)) (sym over.ending)
    (subst (λ w. OutputsAs g.W.Sink.was_written g.W.Sink.was_flushed w c.write_verdict-ending.new.writer (VerifiesOver s c.write_verdict-ending.result)) walk.silent
    (verdict_more g.W.Sink.was_written g.W.Sink.was_flushed {Unsaid = λ _. ⊥} {Counted = λ t. t ≡ c.in-Ok-verify_tree.tally}
    {Unsaid' = IsUnsaidOver s} {Counted' = IsCountedOver s} _ _ _ (λ e no. absurd no) (λ t same.
    subst (IsCountedOver s) (sym same) (λ z was.
    let sees = at.sees z was in
    walk.counted (clean last.conn, good_last) (rows_begun z) (of_tree (rows_begun z) _ _ sees)
    (seen (rows_begun z) _ _ sees _ _ c.in-Ok.ensures.unknown c.in-Ok.ensures.fresh))) c.write_verdict-ending.ensures))

pub returns-in-Ok-strays-clause-says : goal.returns-in-Ok-strays-clause-says
returns-in-Ok-strays-clause-says g c = λ clean good.
    let walk = c.in-Ok-verify_tree.ensures in
    let last = c.verify_tree.new.look in
    let over = c.shown_over-in-Ok-strays.ensures in
    let good_last = clean_disk g.D.Disk last.contents.file (subst (λ d. IsTrue (disk_in g.D.Disk d).is_clean) over.disk good) in
    let at = c.in-Ok.ensures.looks clean (walk.walked.looks.file.clean good_last) in
    subst (SaysSo (state g.S.Store c.args.parts.conn).now) (sym over.ending)
    (verdict_so _ _ (state g.S.Store c.args.parts.conn).now at.tabled c.write_verdict-ending.result c.write_verdict-ending.ensures)

pub returns-in-Err-strays-clause-verified : goal.returns-in-Err-strays-clause-verified
returns-in-Err-strays-clause-verified g c = λ clean good.
    let s = parts_state g.S.Store g.D.Disk c.args.parts in
    let walk = c.in-Ok-verify_tree.ensures in
    let outside = subst IsOutside (sym c.from.ensures) (of_sql c.in-Err-strays.error) in
    let unsaid : IsUnsaidOver s (store_ending c.from.result) = (of_store c.from.result, λ z was. says_nothing c.from.result outside) in
    subst (λ e. OutputsAs g.W.Sink.was_written g.W.Sink.was_flushed c.args.writer.now c.verify_tree.new.writer (VerifiesOver s e)) (sym c.shown_over-in-Err-strays.ensures.ending)
    (subst (λ w. OutputsAs g.W.Sink.was_written g.W.Sink.was_flushed w c.verify_tree.new.writer (VerifiesOver s c.of.result)) walk.silent
    (verdict_none g.W.Sink.was_written g.W.Sink.was_flushed {Unsaid = IsUnsaidOver s} _ _ (subst (IsUnsaidOver s) (sym c.of.ensures) unsaid)))

pub returns-in-Err-strays-clause-says : goal.returns-in-Err-strays-clause-says
returns-in-Err-strays-clause-says g c = λ clean good.
    let outside = subst IsOutside (sym c.from.ensures) (of_sql c.in-Err-strays.error) in
    let d = (state g.S.Store c.args.parts.conn).now in
    subst (SaysSo d) (sym (c.shown_over-in-Err-strays.ensures.ending ∙ c.of.ensures)) (outside_so d c.from.result outside)
