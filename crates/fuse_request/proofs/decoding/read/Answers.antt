use Rattle.std.proofs.Common.{◌≡◌, ◌-◌, ◌*◌, take, drop, length, subst, sym, arith}
use Rattle.fuse_wire.specs.Bytes.{IsBytes}
use Rattle.std.proofs.lemmas.Result.{err_from_is_err_and}
use Rattle.std.proofs.lemmas.List.{take_all, length-drop}
use Rattle.fuse_request.specs.Act.{act}
use Rattle.fuse_request.specs.Spelling.{parts}
use Rattle.fuse_request.proofs.Heads.{read_spelled, body_faulty}
use Rattle.fuse_request.proofs.decoding.read.Goals as goal

pub returns-clause-found : goal.returns-clause-found
returns-clause-found c =
    let m = c.args.message.now in
    let op = c.in_ok-op.ensures in
    let rest_is : take (length m - 40) (drop 40 m) ≡ drop 40 m = take_all (length m - 40) (drop 40 m) (omega (arith, length-drop 40 m)) in
    let bytes : IsBytes (take (length (drop 40 m) - 8 * c.in-Some.raw.total_extlen) (drop 40 m)) = c.numbers_read.ensures.prefix_bytes _ _
    (c.numbers_read.ensures.rest_bytes 40 m (λ i. omega (arith, c.type_inv.message i))) in
    let body_is = rw rest_is at c.split_at.ensures.front in
    let laid = c.layouts_stand.ensures.placed (parts (act c.in_ok-op.op)) c.split_at.result.0.now (subst IsBytes (sym body_is) bytes) op.2 in
    read_spelled c.numbers_read.ensures m c.in-Some.raw (act c.in_ok-op.op) c.split_at.result.0.now c.split_at.result.1.now c.in-Some.ensures.laid
    c.if-raw-message.false (rw rest_is at c.if-rest-ext_len.false) body_is (rw rest_is at c.split_at.ensures.back) op.0 laid op.1

pub returns-in_err-op-clause-fault : goal.returns-in_err-op-clause-fault
returns-in_err-op-clause-fault c =
    let m = c.args.message.now in
    let rest_is : take (length m - 40) (drop 40 m) ≡ drop 40 m = take_all (length m - 40) (drop 40 m) (omega (arith, length-drop 40 m)) in
    let p = err_from_is_err_and c.from_residual.result c.from_residual.ensures.1 in
    rw (p.1, p.2) (body_faulty m c.in-Some.raw c.split_at.result.0.now _ c.in-Some.ensures.fields c.if-raw-message.false (rw rest_is at c.if-rest-ext_len.false)
    (rw rest_is at c.split_at.ensures.front) c.in_err-op.ensures)
