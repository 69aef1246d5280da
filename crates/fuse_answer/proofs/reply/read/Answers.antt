use Rattle.std.proofs.Common.{◌≡◌, ◌-◌, List, ℕ, take, drop, length, sym, refl, ap, subst, inl, inr, ◌∙◌, arith}
use Rattle.std.proofs.lemmas.List.{take_all, length-drop, nil_from_length}
use Rattle.std.proofs.lemmas.Bool.{eqb-true}
use Rattle.std.proofs.lemmas.Result.{err_from_is_err_and}
use Rattle.fuse_answer.specs.Replies.{kind_of, most_of, HoldsBody, IsAtMost, reply_content, BodyFault}
use Rattle.fuse_answer.proofs.Answering.{answered, body_fault}
use Rattle.fuse_answer.proofs.reply.read.Goals as goal

pub returns-then-errno-ne0-clause-found : goal.returns-then-errno-ne0-clause-found
returns-then-errno-ne0-clause-found c =
    let m = c.args.bytes.now in
    let rest : take (length m - 16) (drop 16 m) ≡ drop 16 m = take_all (length m - 16) (drop 16 m) (omega (arith, length-drop 16 m)) in
    answered c.numbers_read.ensures c.args.opcode c.args.size _ m (λ i. omega (arith, c.type_inv.bytes i)) c.if-bytes-lt-SIZE.false
    (sym c.u32_at.ensures ∙ c.if-u32_at-bytes.false) c.errno_at-errno.ensures
    c.u64_at-unique.ensures (inr (
      c.if-errno-ne0.true,
      c.if-errno-gt-MAX_ERRNO.false,
      refl,
      nil_from_length (drop 16 m) (ap length (sym rest) ∙ eqb-true _ 0 (sym c.if-not-is_empty.ensures)),
    ))

pub returns-in_err-body-clause-fault : goal.returns-in_err-body-clause-fault
returns-in_err-body-clause-fault c =
    let p = err_from_is_err_and c.from_residual.result c.from_residual.ensures.1 in
    let m = c.args.bytes.now in
    let rest : take (length m - 16) (drop 16 m) ≡ drop 16 m = take_all (length m - 16) (drop 16 m) (omega (arith, length-drop 16 m)) in
    let fault = subst (λ (b : List ℕ). BodyFault c.args.opcode c.args.size b c.in_err-body.field-0.0) rest c.in_err-body.ensures in
    rw (p.1, p.2) (
    body_fault c.args.opcode c.args.size m c.in_err-body.field-0.0 (c.if-bytes-lt-SIZE.false, sym c.u32_at.ensures ∙ c.if-u32_at-bytes.false)
    (sym c.errno_at-errno.ensures ∙ c.if-errno-ne0.false) fault
    )

pub returns-clause-found : goal.returns-clause-found
returns-clause-found c =
    let m = c.args.bytes.now in
    let rest : take (length m - 16) (drop 16 m) ≡ drop 16 m = take_all (length m - 16) (drop 16 m) (omega (arith, length-drop 16 m)) in
    answered c.numbers_read.ensures c.args.opcode c.args.size _ m (λ i. omega (arith, c.type_inv.bytes i)) c.if-bytes-lt-SIZE.false
    (sym c.u32_at.ensures ∙ c.if-u32_at-bytes.false)
    (sym c.if-errno-ne0.false ∙ c.errno_at-errno.ensures) c.u64_at-unique.ensures
    (
    let held = subst (λ (b : List ℕ). HoldsBody (kind_of c.args.opcode c.args.size) (reply_content c.in_ok-body.body) b
    × IsAtMost (most_of c.args.opcode c.args.size) (length b)) rest c.in_ok-body.ensures in
    inl (refl, held.0, held.1)
    )
