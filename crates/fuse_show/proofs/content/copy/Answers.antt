use Rattle.std.proofs.Common.{◌≡◌, ◌++◌, ◌+◌, ℕ, List, take, Some, refl, sym, ap, subst, ◌∙◌, arith}
use Rattle.std.specs.Prelude.{Result, Err}
use Rattle.std.proofs.lemmas.Result.{err_from_is_err_and}
use Rattle.fuse_rows.specs.Rows.{Rows, row_at}
use Rattle.fuse_show.specs.Sinks.{IsPartOf}
use Rattle.fuse_show.specs.declared.fault.ShowFault.{ShowFault}
use Rattle.fuse_show.specs.inner.Writing.{WritesOut}
use Rattle.fuse_show.specs.Content.{content_at}
use Rattle.fuse_show.specs.declared.fault.ShowFault.TheVariants.{NotATree}
use Rattle.fuse_show.proofs.Failing.{look_cut}
use Rattle.fuse_show.proofs.Lines.{take_sum, piece_all, piece_part, taken_part}
use Rattle.fuse_show.proofs.Looking.{up_to_here}
use Rattle.fuse_show.proofs.Sinking.{takes_none, took_more, took_stop, took_all, puts_none}
use Rattle.fuse_show.proofs.Trees.{sized_right, small}
use Rattle.fuse_show.proofs.content.copy.Goals as goal

pub returns-in_err-bytes-clause-copied : goal.returns-in_err-bytes-clause-copied
returns-in_err-bytes-clause-copied g c =
    let before = c.loop-offset.invariant in
    let p = err_from_is_err_and c.from_residual.result c.from_residual.ensures.1 in
    look_cut g.W.Sink.was_written (g.L.Look.is_clean) (g.L.Look.looks) (g.L.Look.fails) (g.L.Look.sees) _ _ c.args.look.now c.loop-offset.look _ c.from_residual.result _
    (λ (rows : Rows) (bytes : List ℕ) (r : Result (Unit {0}) ShowFault). row_at rows c.args.row.now.node ≡ Some c.args.row.now
    → WritesOut (content_at rows c.args.row.now.node) bytes r)
    _ before.bytes before.looks c.in_err-bytes.ensures.fails (p.1 ∙ ap Err p.2) (λ xs so clean rows is sees found.
    (taken_part (content_at rows c.args.row.now.node) xs c.loop-offset.offset (so clean rows is sees found), refl))

pub returns-in-Err-clause-copied : goal.returns-in-Err-clause-copied
returns-in-Err-clause-copied g c =
    let before = c.loop-offset.invariant in
    let looks = c.in_ok-bytes.ensures.looks in
    took_stop g.W.Sink.was_written _ _ _ c.in-Err.fault _ _ _ before.bytes c.in-Err.ensures.put (λ xs ys so is.
    up_to_here (g.L.Look.is_clean) (g.L.Look.looks) (g.L.Look.fails) (g.L.Look.sees) (λ s. g.met.L.Look.or_less s s (g.met.L.Look.still s)) _ _ _ _ (g.met.L.Look.and_then _ _ _ before.looks looks) (λ clean rows rowed sees found.
    let clean_before = g.met.L.Look.was_clean _ _ looks clean in
    let sees_before = g.met.L.Look.kept _ _ before.looks clean_before rows sees in
    let piece = c.in_ok-bytes.ensures.bytes clean rows rowed sees_before in (
      piece_part (content_at rows c.args.row.now.node) xs ys c.loop-offset.offset c.piece_of-len.result (so clean_before rows rowed sees found)
          (subst (IsPartOf ys) (c.as_slice.ensures ∙ piece) is.0),
      is.1,
    )))

pub loop-offset-init : goal.loop-offset-init
loop-offset-init g c = record {
  fault = c.requires;
  looks = g.met.L.Look.still _;
  within = omega arith;
  bytes = record { bytes = _; takes = takes_none g.W.Sink.was_written _; so = λ clean rows is sees found. refl };
}

pub loop-offset-preserved : goal.loop-offset-preserved
loop-offset-preserved g c =
    let before = c.loop-offset.invariant in
    let looks = c.in_ok-bytes.ensures.looks in
    record {
      fault = c.in_ok-bytes.ensures.fault;
      looks = g.met.L.Look.and_then _ _ _ before.looks looks;
      within = omega (arith, c.piece_of-len.ensures.within);
      bytes = took_more g.W.Sink.was_written _ _ _ _ _ _ _ before.bytes c.in-Ok.ensures.put (λ xs ys so is. λ clean rows rowed sees found.
          let clean_before = g.met.L.Look.was_clean _ _ looks clean in
          let sees_before = g.met.L.Look.kept _ _ before.looks clean_before rows sees in
          let piece = c.in_ok-bytes.ensures.bytes clean rows rowed sees_before in
          let content = content_at rows c.args.row.now.node in
          let o = c.loop-offset.offset in
          ap (λ (x : List ℕ). x ++ ys) (so clean_before rows rowed sees found)
          ∙ ap (λ (y : List ℕ). take o content ++ y) (is ∙ c.as_slice.ensures ∙ piece)
          ∙ take_sum o c.piece_of-len.result content
          ∙ ap (λ (n : ℕ). take (o + n) content) (sym c.from-offset.ensures));
    }

pub returns : goal.returns
returns g c =
    let before = c.loop-offset.invariant in
    record {
      copied = took_all g.W.Sink.was_written _ _ _ _ _ before.bytes (λ xs so.
          up_to_here (g.L.Look.is_clean) (g.L.Look.looks) (g.L.Look.fails) (g.L.Look.sees) (λ s. g.met.L.Look.or_less s s (g.met.L.Look.still s)) _ _ _ _ before.looks (λ clean rows is sees found.
          let size = sized_right c.rows_of_trees.ensures rows c.args.row.now.node c.args.row.now is found in
          so clean rows is sees found ∙ piece_all (content_at rows c.args.row.now.node) c.loop-offset.offset (omega arith)));
      looked = record { fault = before.fault; looks = λ _. before.looks; fails = tt };
      large = λ more. absurd (omega (arith, more, c.if-row-gt-MAX_FILE.false));
      reasons = tt;
    }

pub returns-then-row-gt-MAX_FILE-clause-copied : goal.returns-then-row-gt-MAX_FILE-clause-copied
returns-then-row-gt-MAX_FILE-clause-copied g c =
    puts_none g.W.Sink.was_written _ NotATree _ refl
    (up_to_here (g.L.Look.is_clean) (g.L.Look.looks) (g.L.Look.fails) (g.L.Look.sees) (λ s. g.met.L.Look.or_less s s (g.met.L.Look.still s)) _ _ _ _ (g.met.L.Look.still _) (λ clean rows is sees found.
    let less = small c.rows_of_trees.ensures rows c.args.row.now.node c.args.row.now is found in absurd (omega arith)))
