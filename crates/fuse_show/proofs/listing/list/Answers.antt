use Rattle.std.proofs.Common.{◌≡◌, ◌++◌, refl, subst, Option, ℕ, List, Some, ◌∙◌, ap}
use Rattle.fuse_show.specs.Listing.{listing}
use Rattle.fuse_show.specs.inner.Pages.{lines_left}
use Rattle.fuse_show.proofs.AnyLines.{lines_none, lines_then, lines_part}
use Rattle.fuse_show.proofs.Looking.{up_to_here, up_to_after, read_off}
use Rattle.fuse_show.proofs.Pages.{all_left, pages_more, pages_part, pages_all}
use Rattle.fuse_show.proofs.Sinking.{takes_none, took_more, took_stop, took_all}
use Rattle.fuse_show.proofs.listing.list.Goals as goal

pub loop-left-init : goal.loop-left-init
loop-left-init g c = record {
  fault = c.requires;
  looks = g.met.L.Look.still _;
  lines = record { bytes = _; takes = takes_none g.W.Sink.was_written _; so = λ clean rows is sees. all_left c.rows_of_trees.ensures rows c.args.dir is };
  any = record { bytes = _; takes = takes_none g.W.Sink.was_written _; so = lines_none };
}

pub loop-left-preserved : goal.loop-left-preserved
loop-left-preserved g c =
    let before = c.loop-left.invariant in
    let one = c.in-Ok.ensures in
    let looks = one.looked.looks refl in
    record {
      fault = one.looked.fault;
      looks = g.met.L.Look.and_then _ _ _ before.looks looks;
      lines = took_more g.W.Sink.was_written _ _ _ c.in-Ok.rest _ _ _ before.lines one.page (λ xs ys so is. λ clean rows rowed sees.
          let now = read_off (g.L.Look.is_clean) (g.L.Look.looks) (g.L.Look.fails) (g.L.Look.sees) g.met.L.Look.and_then g.met.L.Look.was_clean g.met.L.Look.kept _ _ _ is in
          let clean_before = g.met.L.Look.was_clean _ _ looks clean in
          let sees_before = g.met.L.Look.kept _ _ before.looks clean_before rows sees in
          let was : listing rows c.args.dir ≡ xs ++ lines_left rows c.args.dir (Some c.in-Some.after) =
          so clean_before rows rowed sees ∙ ap (λ (o : Option ℕ). xs ++ lines_left rows c.args.dir o) c.in-Some.is in
          pages_more (listing rows c.args.dir) xs (lines_left rows c.args.dir (Some c.in-Some.after)) ys (lines_left rows c.args.dir c.in-Ok.rest) was
          (now clean rows rowed sees_before));
      any = took_more g.W.Sink.was_written _ _ _ c.in-Ok.rest _ _ _ before.any one.written (λ xs ys p q. lines_then xs ys p q);
    }

pub returns-in-Err : goal.returns-in-Err
returns-in-Err g c =
    let before = c.loop-left.invariant in
    let one = c.in-Err.ensures in
    record {
      listed = took_stop g.W.Sink.was_written _ _ _ c.in-Err.fault _ _ _ before.lines one.page (λ xs ys so is.
          up_to_after (g.L.Look.is_clean) (g.L.Look.looks) (g.L.Look.fails) (g.L.Look.sees) g.met.L.Look.and_then g.met.L.Look.was_clean g.met.L.Look.kept _ _ _ _ _ _ _
          before.looks so is (λ rows rowed p q.
          let was : listing rows c.args.dir ≡ xs ++ lines_left rows c.args.dir (Some c.in-Some.after) =
          p ∙ ap (λ (o : Option ℕ). xs ++ lines_left rows c.args.dir o) c.in-Some.is in
          (pages_part (listing rows c.args.dir) xs (lines_left rows c.args.dir (Some c.in-Some.after)) ys was q.0, q.1)));
      written = took_stop g.W.Sink.was_written _ _ _ c.in-Err.fault _ _ _ before.any one.written (λ xs ys p q. lines_part xs ys p q);
      looked = record {
        fault = one.looked.fault;
        looks = λ none. g.met.L.Look.and_then _ _ _ before.looks (one.looked.looks none);
        fails = g.met.L.Look.and_fails _ _ _ before.looks one.looked.fails;
      };
      reasons = one.reasons;
    }

pub returns : goal.returns
returns g c =
    let before = c.loop-left.invariant in
    record {
      listed = took_all g.W.Sink.was_written _ _ _ _ _ before.lines (λ xs so.
          up_to_here (g.L.Look.is_clean) (g.L.Look.looks) (g.L.Look.fails) (g.L.Look.sees) (λ s. g.met.L.Look.or_less s s (g.met.L.Look.still s)) _ _ _ _ before.looks (λ clean rows is sees.
          pages_all (listing rows c.args.dir) xs
          (so clean rows is sees ∙ ap (λ (o : Option ℕ). xs ++ lines_left rows c.args.dir o) c.in_default.is)));
      written = took_all g.W.Sink.was_written _ _ _ _ _ before.any (λ xs p. p);
      looked = record { fault = before.fault; looks = λ _. before.looks; fails = tt };
      reasons = tt;
    }
