use Rattle.std.proofs.Common.{refl, sym, ap, ◌∙◌}
use Rattle.fuse_lists.specs.PlainRows.{rows_of}
use Rattle.fuse_rows.specs.Rows.{Rows, apply}
use Rattle.fuse_init.specs.declared.profile.Profile.{Profile}
use Rattle.fuse_init.specs.Profile.{terms}
use Rattle.fuse_lists.proofs.PlainTrees.{acted, saw, caused, seen_looks}
use Rattle.fuse_lists.proofs.plain_tree.PlainTreeFileSystem.act.Goals as goal

pub returns-in-Err-clause-fault : goal.returns-in-Err-clause-fault
returns-in-Err-clause-fault g c = λ of_tree.
    caused g.P.Profiled.PROFILE c.in-Err.fault c.fault_of_plan.result (rows_of c.args.self.now.rows) c.fault_of_plan.ensures
    (λ is s tree are. c.in-Err.ensures.not_a_tree is tt s tree are) of_tree

pub returns-then-sees_requests-clause-acts : goal.returns-then-sees_requests-clause-acts
returns-then-sees_requests-clause-acts g c = λ s good are.
    let p = g.P.Profiled.PROFILE in
    let seen = sym (ap (λ n. (terms p).seen n) c.opcode.ensures) ∙ ap (λ (q : Profile). (terms q).seen c.opcode.result) (sym c.PROFILE.ensures)
    ∙ sym c.sees_requests.ensures ∙ c.if-sees_requests.true in
    saw p s _ _ c.in-Ok.planned c.tree_kept.ensures c.looks_stay.ensures good (c.in-Ok.ensures.meets tt s good.tree are) (seen_looks p _ seen)
    (sym (c.in-Ok.ensures.looks refl) ∙ are)

pub returns-then-sees_requests-clause-same : goal.returns-then-sees_requests-clause-same
returns-then-sees_requests-clause-same g c = λ seen. sym (c.in-Ok.ensures.looks refl)

pub returns-clause-acts : goal.returns-clause-acts
returns-clause-acts g c = λ s good are.
    acted g.P.Profiled.PROFILE s _ _ c.in-Ok.planned c.tree_kept.ensures good (c.in-Ok.ensures.meets tt s good.tree are)
    (c.in_ok-apply_all.ensures.ok ∙ ap (λ (rows : Rows). apply rows c.in-Ok.planned.changes) (sym (c.in-Ok.ensures.looks refl) ∙ are))

pub returns-clause-same : goal.returns-clause-same
returns-clause-same g c = λ seen.
    let p = g.P.Profiled.PROFILE in
    let kept = sym (ap (λ n. (terms p).seen n) c.opcode.ensures) ∙ ap (λ (q : Profile). (terms q).seen c.opcode.result) (sym c.PROFILE.ensures)
    ∙ sym c.sees_requests.ensures ∙ c.if-sees_requests.false in
    absurd (let clash = sym seen ∙ kept in cc)
