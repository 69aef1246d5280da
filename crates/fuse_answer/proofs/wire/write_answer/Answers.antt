use Rattle.std.proofs.Common.{ap, append_assoc}
use Rattle.fuse_answer.specs.Said.{Said}
use Rattle.fuse_answer.specs.Wire.{wire}
use Rattle.fuse_answer.proofs.Forms.{on_ok}
use Rattle.fuse_answer.proofs.wire.write_answer.Goals as goal

pub returns-else-is_err-clause-ok : goal.returns-else-is_err-clause-ok
unfolding wire
returns-else-is_err-clause-ok c =
    let a = c.in_ok-put_bytes.ensures.ok in
    let d = c.head_of.ensures in
    let s = c.as_slice.ensures in
    let body = ap (λ (x : Said). x.body) c.answer.view_is in
    let regroup = append_assoc c.args.out.now.items c.head_of.result c.as_slice.result.now in
    on_ok c.put_bytes-written.result _ _ (λ e. cc) c.put_bytes-written.ensures.ok
