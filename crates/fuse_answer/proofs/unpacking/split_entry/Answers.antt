use Rattle.std.proofs.Common.{◌≡◌, ℕ, ◌+◌, ◌-◌, take, drop, length, ap, ◌∙◌, arith}
use Rattle.std.proofs.lemmas.List.{take_all, length-drop}
use Rattle.fuse_answer.proofs.Listings.{leading_laid}
use Rattle.fuse_answer.proofs.unpacking.split_entry.Goals as goal

pub returns-clause-laid : goal.returns-clause-laid
returns-clause-laid c =
    let b = c.args.bytes.now in
    let n : ℕ = c.u32_at-name_len.result in
    let len : ℕ = c.packed_len-len.result in
    let name_len : (24 + n) - 24 ≡ n = omega arith in
    let follows : take (length b - len) (drop len b) ≡ drop len b = take_all (length b - len) (drop len b) (omega (arith, length-drop len b)) in
    leading_laid c.layouts_stand.ensures b c.u64_at.result c.u64_at-2.result n c.u32_at.result _ _ (λ i. omega (arith, c.type_inv.bytes i))
    c.if-bytes-lt-NAME_AT.false
    c.u64_at.ensures c.u64_at-2.ensures c.u32_at-name_len.ensures c.u32_at.ensures (omega (arith, c.if-name_len-eq0.false)) c.if-name_len-gt-MAX_NAME.false
    (rw c.packed_len-len.ensures at c.if-bytes-len.false) (ap (λ (k : ℕ). take k (drop 24 b)) name_len)
    (follows ∙ ap (λ (k : ℕ). drop k b) c.packed_len-len.ensures)
