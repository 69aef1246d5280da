use Rattle.std.proofs.Common.{◌++◌, List, ℕ, ap, ◌∙◌, arith}
use Rattle.std.proofs.lemmas.List.{take-replicate}
use Rattle.std.proofs.lemmas.Result.{on_ok_weaker}
use Rattle.fuse_wire.proofs.field.put_zeros.Goals as goal

pub returns-clause-ok : goal.returns-clause-ok
returns-clause-ok c =
    let zeros = take-replicate c.args.n 255 0 (omega arith) in
    on_ok_weaker c.put_bytes.result (λ e. e ∙ ap (λ (x : List ℕ). c.args.out.now.items ++ x) zeros) c.put_bytes.ensures.ok
