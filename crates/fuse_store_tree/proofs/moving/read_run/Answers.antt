use Rattle.std.proofs.Common.{◌≡◌, ◌≤◌, ◌<◌, ◌+◌, ℕ, refl, arith, ◌∙◌}
use Rattle.fuse_store_tree.specs.inner.Showing.{ShowsBlock}
use Rattle.fuse_store_tree.proofs.MoveSteps.{run_stored, some_more}
use Rattle.fuse_store_tree.proofs.moving.read_run.Goals as goal

pub returns-in-Ok-read_stored-clause-stored : goal.returns-in-Ok-read_stored-clause-stored
returns-in-Ok-read_stored-clause-stored g c = λ clean read.
    let file = (g.C.Contents.file c.read_stored.new.contents).bytes in
    some_more c.whole_run.result _ _
    (λ v same k at sound.
    let shows : (block : ℕ) → c.args.first ≤ block → block < c.args.first + c.args.count
    → ShowsBlock c.args.node block c.in-Ok.stored.rows.items c.in-Ok.stored.pieces.items k =
    λ block low high. c.in-Ok.ensures.value clean file k at sound block low high in
    run_stored file k c.args.node c.args.first c.args.count v.items sound
    (same
    ∙ c.in-Ok-read_stored.ensures.value read c.args.node k (λ block low high. shows block (omega (arith, low)) (omega (arith, high))) sound)
    (c.if-not-are_written.ensures refl file c.args.node k shows)) c.whole_run.ensures.same
