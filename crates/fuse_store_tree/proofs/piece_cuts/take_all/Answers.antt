use Rattle.std.proofs.Common.{true, arith, sym, ◌∙◌}
use Rattle.sqlite.specs.Held.{state}
use Rattle.fuse_store_tree.proofs.PieceSteps.{all_taken, all_sure, none_second}
use Rattle.fuse_store_tree.proofs.Steps.{on_ok}
use Rattle.fuse_store_tree.proofs.piece_cuts.take_all.Goals as goal

pub returns-in-Second-clause-taken : goal.returns-in-Second-clause-taken
returns-in-Second-clause-taken g c file =
    none_second true file _ c.args.gone.now (state g.S.Store c.args.conn.now) (λ k at. sym (c.layout_of.ensures.value k at.holds) ∙ c.in-Second.is)

pub returns-in-Third-clause-taken : goal.returns-in-Third-clause-taken
returns-in-Third-clause-taken g c =
    on_ok c.take_slices.result _ _ (λ p file. all_taken true file c.args.node _ c.args.gone.now c.take_slices.new.gone (state g.S.Store c.args.conn.now)
    (state g.S.Store c.take_slices.new.conn) (omega arith) (λ k at. sym (c.layout_of.ensures.value k at.holds) ∙ c.in-Third.is) (p file)) c.take_slices.ensures.taken

pub returns-in-Third-clause-fault : goal.returns-in-Third-clause-fault
returns-in-Third-clause-fault g c clean =
    all_sure c.args.node _ (state g.S.Store c.args.conn.now) c.take_slices.result (omega arith) (λ k at. sym (c.layout_of.ensures.value k at.holds) ∙ c.in-Third.is)
    (c.take_slices.ensures.fault clean)
