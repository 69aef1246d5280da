use Rattle.std.proofs.Common.{length, ◌-◌, drop, sym, subst, arith, length-drop, List, ℕ}
use Rattle.std.proofs.lemmas.List.{length-take-le}
use Rattle.fuse_data.specs.State.{state_of}
use Rattle.guest_values.specs.inner.Writing.{IsNewValue}
use Rattle.guest_values.proofs.Results.{if_ok}
use Rattle.guest_values.proofs.Writes.{two_joined}
use Rattle.guest_values.proofs.writing.write_blocks.Goals as goal

pub slice_bounds-write_two-end : goal.slice_bounds-write_two-end
slice_bounds-write_two-end g c = sym (length-take-le 131072 c.args.blocks.now (omega (arith, c.if-blocks-le-PIECE.false)))

pub write_two-requires-clause-full : goal.write_two-requires-clause-full
write_two-requires-clause-full g c = length-take-le 131072 c.args.blocks.now (omega (arith, c.if-blocks-le-PIECE.false))

pub write_two-requires-clause-size : goal.write_two-requires-clause-size
write_two-requires-clause-size g c =
    let more = c.if-blocks-le-PIECE.false in
    let left = length-drop 131072 c.args.blocks.now in
    let front = length-take-le 131072 c.args.blocks.now (omega (arith, more)) in
    let rest = length-take-le (length c.args.blocks.now - 131072) (drop 131072 c.args.blocks.now) (omega (arith, left)) in
    omega (arith, front, rest, more, c.requires.size)

pub returns-clause-put : goal.returns-clause-put
returns-clause-put g c =
    if_ok _ _ c.write_two.result (λ v put. subst (λ (b : List ℕ). IsNewValue c.args.len b v (state_of g.D.Disk c.args.file.now) (state_of g.D.Disk c.write_two.new.file))
    (two_joined 131072 c.args.blocks.now) put) c.write_two.ensures.put
