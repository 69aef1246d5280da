use Rattle.std.proofs.Common.{subst, sym, ap, append-nil, ◌∙◌, ◌++◌}
use Rattle.std.specs.Io.KnownBytes.{Consumes}
use Rattle.fuse_commands.specs.inner.Input.{left_to}
use Rattle.fuse_commands.proofs.Simulations.{read_none, read_more, all_read}
use Rattle.fuse_commands.proofs.input.read_all.Goals as goal

pub loop-input-init : goal.loop-input-init
loop-input-init g c =
    subst (λ o. Consumes o (left_to g.R.Read.remaining c.in_ok-pieces.pieces) c.new-input.result.items) c.in_ok-pieces.ensures.ok
    (read_none _ _ c.new-input.ensures.items)

pub returns-clause-ok : goal.returns-clause-ok
returns-clause-ok g c =
    let end = c.in_ok-read.ensures.end c.if-branch.false in
    let input = c.loop-input.input.items in
    let after = sym (ap (λ x. input ++ x) end.0 ∙ append-nil input) in
    all_read _ _ _ (read_more _ _ _ _ _ _ c.loop-input.invariant c.in_ok-read.ensures.came after) end.1

pub loop-input-preserved : goal.loop-input-preserved
loop-input-preserved g c =
    read_more _ _ _ _ _ _ c.loop-input.invariant c.in_ok-read.ensures.came
    (c.in_ok-extend_from_slice.ensures.items ∙ ap (λ x. c.loop-input.input.items ++ x) c.piece.ensures.piece)
