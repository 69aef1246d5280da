use Rattle.std.proofs.Common.{◌≡◌, ◌++◌, ◌+◌, ℕ, List, take, drop, refl, sym, ap, ◌∙◌}
use Rattle.std.specs.Prelude.{Err}
use Rattle.std.specs.List.{flat_map, AllByRecursion}
use Rattle.fuse_rows.specs.Rows.{Rows}
use Rattle.fuse_tree.specs.RowsOfTrees.{LeadsToRow}
use Rattle.fuse_show.specs.Listing.{line_of_entry}
use Rattle.fuse_show.specs.Looks.{ReadOff, ReadUpTo, look_fault_in}
use Rattle.fuse_show.specs.inner.Writing.{WritesOut}
use Rattle.fuse_show.proofs.AnyLines.{lines_none, lines_then, lines_part}
use Rattle.fuse_show.proofs.Lines.{all_at}
use Rattle.fuse_show.proofs.Looking.{up_to_here, up_to_after, read_off}
use Rattle.fuse_show.proofs.Sinking.{Took, takes_none, took_more, took_stop, took_all, each_more, each_in, each_all, part_in}
use Rattle.fuse_show.proofs.listing.show_entries.Goals as goal

pub loop-entry-init : goal.loop-entry-init
loop-entry-init g c = record {
  fault = c.requires;
  looks = g.met.L.Look.still _;
  lines = record { bytes = _; takes = takes_none g.W.Sink.was_written _; so = λ clean rows is sees shown. refl };
  any = record { bytes = _; takes = takes_none g.W.Sink.was_written _; so = lines_none };
}

pub loop-entry-preserved : goal.loop-entry-preserved
loop-entry-preserved g c =
    let before = c.loop-entry.invariant in
    let one = c.in-Ok.ensures in
    let looks = one.looked.looks refl in
    let at = sym c.entry-item.is in
    let i = c.loop-entry.entry-index in
    let es = c.args.entries.now in
    let e = c.entry-item.result in
    record {
      fault = one.looked.fault;
      looks = g.met.L.Look.and_then _ _ _ before.looks looks;
      lines = took_more g.W.Sink.was_written _ _ _ _ _ _ _ before.lines one.line (λ xs ys so is. λ clean rows rowed sees shown.
          let now = read_off (g.L.Look.is_clean) (g.L.Look.looks) (g.L.Look.fails) (g.L.Look.sees) g.met.L.Look.and_then g.met.L.Look.was_clean g.met.L.Look.kept _ _ _ is in
          let clean_before = g.met.L.Look.was_clean _ _ looks clean in
          let sees_before = g.met.L.Look.kept _ _ before.looks clean_before rows sees in
          let here = all_at (LeadsToRow rows) es i e shown c.loop-entry-test.true at in
          ap (λ (x : List ℕ). x ++ ys) (so clean_before rows rowed sees shown)
          ∙ ap (λ (y : List ℕ). flat_map (line_of_entry rows) (take i es) ++ y) (now clean rows rowed sees_before here)
          ∙ each_more (line_of_entry rows) es i e e c.loop-entry-test.true at);
      any = took_more g.W.Sink.was_written _ _ _ _ _ _ _ before.any one.written (λ xs ys p q. lines_then xs ys p q);
    }

pub returns-in-Err : goal.returns-in-Err
returns-in-Err g c =
    let before = c.loop-entry.invariant in
    let one = c.in-Err.ensures in
    let at = sym c.entry-item.is in
    let i = c.loop-entry.entry-index in
    let es = c.args.entries.now in
    let e = c.entry-item.result in
    record {
      lines = took_stop g.W.Sink.was_written _ _ _ c.in-Err.fault _ _ _ before.lines one.line (λ xs ys so is.
          up_to_after (g.L.Look.is_clean) (g.L.Look.looks) (g.L.Look.fails) (g.L.Look.sees) g.met.L.Look.and_then g.met.L.Look.was_clean g.met.L.Look.kept _ _ _ _ _ _ _
          before.looks so is (λ rows rowed p q shown.
          let here = all_at (LeadsToRow rows) es i e shown c.loop-entry-test.true at in
          let rest : List ℕ = flat_map (line_of_entry rows) (drop (i + 1) es) in
          let same : flat_map (line_of_entry rows) es ≡ xs ++ (line_of_entry rows e ++ rest) =
          each_in (line_of_entry rows) es i e e c.loop-entry-test.true at ∙ ap (λ (x : List ℕ). x ++ (line_of_entry rows e ++ rest)) (sym (p shown)) in
          (part_in xs ys (line_of_entry rows e) rest (flat_map (line_of_entry rows) es) same (q here).0, (q here).1)));
      written = took_stop g.W.Sink.was_written _ _ _ c.in-Err.fault _ _ _ before.any one.written (λ xs ys p q. lines_part xs ys p q);
      looked = record {
        fault = one.looked.fault;
        looks = λ none. g.met.L.Look.and_then _ _ _ before.looks (one.looked.looks none);
        fails = g.met.L.Look.and_fails _ _ _ before.looks one.looked.fails;
      };
      reasons = one.reasons;
    }

pub returns : goal.returns
returns g c =
    let before = c.loop-entry.invariant in
    record {
      lines = took_all g.W.Sink.was_written _ _ _ _ _ before.lines (λ xs so.
          up_to_here (g.L.Look.is_clean) (g.L.Look.looks) (g.L.Look.fails) (g.L.Look.sees) (λ s. g.met.L.Look.or_less s s (g.met.L.Look.still s)) _ _ _ _ before.looks (λ clean rows is sees shown.
          so clean rows is sees shown ∙ each_all (line_of_entry rows) c.args.entries.now c.loop-entry.entry-index c.loop-entry-test.false));
      written = took_all g.W.Sink.was_written _ _ _ _ _ before.any (λ xs p. p);
      looked = record { fault = before.fault; looks = λ _. before.looks; fails = tt };
      reasons = tt;
    }
