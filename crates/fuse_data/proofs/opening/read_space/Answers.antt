use Rattle.std.proofs.Common.{◌≡◌, List, ℕ, length, refl, sym, subst, ap, ◌∙◌, arith}
use Rattle.sqlite_disk.specs.Disk.{Holds}
use Rattle.fuse_data.proofs.Keepings.{header_len}
use Rattle.fuse_data.proofs.Openings.{other_header, header_read, read_counts}
use Rattle.fuse_data.proofs.opening.read_space.Goals as goal

pub returns-in-Err-read_at-clause-faults : goal.returns-in-Err-read_at-clause-faults
returns-in-Err-read_at-clause-faults g c =
    read_counts _ _ _ _ c.in-Ok.ensures.faults c.in-Err-read_at.ensures.faults (λ clean.
    let size = c.in-Ok.ensures.len clean in
    let seen = ap length c.in-Ok.ensures.seen in
    let head = header_len c.args.store in
    let items = ap length c.in_ok-header.ensures in
    omega (arith, size, seen, head, items, c.if-len.false, c.len-2.ensures))

pub returns-then-not-are_same-clause-cause : goal.returns-then-not-are_same-clause-cause
returns-then-not-are_same-clause-cause g c = (
  sym c.may_be_used.ensures ∙ c.if-not-may_be_used.false,
  λ clean has.
      let held = c.in_default.ensures.read clean (omega arith) in
      let there = subst (λ (f : List ℕ). Holds f 0 c.read_at.new.buf) c.in-Ok.ensures.seen held in
      let size : length c.read_at.new.buf ≡ 32 = omega (arith, c.read_at.auto.buf) in
      other_header _ c.read_at.new.buf c.as_slice.result.now c.args.store (c.as_slice.ensures.value ∙ c.in_ok-header.ensures) size there c.if-not-are_same.ensures.1 has,
)

pub returns-clause-header : goal.returns-clause-header
returns-clause-header g c clean =
    let held = c.in_default.ensures.read clean (omega arith) in
    let there = subst (λ (f : List ℕ). Holds f 0 c.read_at.new.buf) c.in-Ok.ensures.seen held in
    header_read _ c.read_at.new.buf c.as_slice.result.now c.args.store (c.as_slice.ensures.value ∙ c.in_ok-header.ensures) (c.if-not-are_same.ensures.0 refl) there
