use Rattle.std.proofs.Common.{refl, arith}
use Rattle.fuse_store_tables.proofs.CountedFit.{used_is, no_room, room_fault}
use Rattle.fuse_store_tables.proofs.everyday.count_used.Goals as goal

pub returns-in-Some-clause-value : goal.returns-in-Some-clause-value
returns-in-Some-clause-value c =
    used_is c.args.copies.now c.as_slice.result.now c.as_slice-2.result.now c.as_slice.ensures.value c.as_slice-2.ensures.value c.in_ok-capacity.capacity
    c.in-Some.used c.in_ok-capacity.ensures.value c.in-Some.ensures.small c.in-Some.ensures.value

pub returns-in-None-clause-fault : goal.returns-in-None-clause-fault
returns-in-None-clause-fault c =
    no_room c.args.copies.now c.as_slice.result.now c.as_slice-2.result.now c.as_slice.ensures.value c.as_slice-2.ensures.value c.in_ok-capacity.capacity
    c.in_ok-capacity.ensures.value (c.in-None.ensures.beyond refl)

pub returns-in-Some-clause-small : goal.returns-in-Some-clause-small
returns-in-Some-clause-small c = let low = c.in-Some.ensures.small in let high = c.in_ok-capacity.ensures.small in omega (arith, low, high)

pub returns-in_err-capacity-clause-fault : goal.returns-in_err-capacity-clause-fault
returns-in_err-capacity-clause-fault c =
    room_fault c.args.copies.now c.as_slice.result.now c.as_slice.ensures.value _ c.from_residual.result c.from_residual.ensures.1 c.in_err-capacity.ensures.fault
