use Rattle.std.proofs.Common.{◌≡◌, length, sym, arith, rules}
use Rattle.fuse_data.specs.declared.extent.Extent.{Extent}
use Rattle.fuse_data.specs.declared.gaps.Gap.{Gap}
use Rattle.fuse_data.proofs.Keepings.{disjoint, same_bytes, held_whole}
use Rattle.fuse_data.proofs.Writes.{Found, heads, placed, found_free, found_kept, found_after, offset_fits, taken_in_use, taken_others}
use Rattle.fuse_data.proofs.data_file.DataFile.write.Goals as goal

pub returns-in-Err-clause-kept : goal.returns-in-Err-clause-kept
returns-in-Err-clause-kept g c =
    let p : Extent = record { count = c.in-Some.count; place = c.begin-place.result; sum = c.sum_of_bytes-sum.result } in
    let f : Found c.args.self.now.space c.in-Some-find.i p (length c.args.bytes.now) = record { blocks = c.in-Some-find.ensures.some; begins = c.begin-place.ensures.value; low = c.begin-place.ensures.low; high = c.begin-place.ensures.high; some = c.in-Some.ensures.some.0; few = c.in-Some.ensures.some.1; size = c.in-Some.ensures.some.2 } in
    found_kept c.args.self.now.space c.in-Some-find.i p (length c.args.bytes.now) _ _ f c.write_at.ensures.others

pub returns-in-Err-clause-crash : goal.returns-in-Err-clause-crash
returns-in-Err-clause-crash g c =
    let p : Extent = record { count = c.in-Some.count; place = c.begin-place.result; sum = c.sum_of_bytes-sum.result } in
    let f : Found c.args.self.now.space c.in-Some-find.i p (length c.args.bytes.now) = record { blocks = c.in-Some-find.ensures.some; begins = c.begin-place.ensures.value; low = c.begin-place.ensures.low; high = c.begin-place.ensures.high; some = c.in-Some.ensures.some.0; few = c.in-Some.ensures.some.1; size = c.in-Some.ensures.some.2 } in
    found_after c.args.self.now.space c.in-Some-find.i p (length c.args.bytes.now) _ _ f c.write_at.ensures.crash

pub take-requires-clause-head : goal.take-requires-clause-head
take-requires-clause-head g c =
    let p : Extent = record { count = c.in-Some.count; place = c.begin-place.result; sum = c.sum_of_bytes-sum.result } in
    let f : Found c.args.self.now.space c.in-Some-find.i p (length c.args.bytes.now) = record { blocks = c.in-Some-find.ensures.some; begins = c.begin-place.ensures.value; low = c.begin-place.ensures.low; high = c.begin-place.ensures.high; some = c.in-Some.ensures.some.0; few = c.in-Some.ensures.some.1; size = c.in-Some.ensures.some.2 } in
    heads c.args.self.now.space c.in-Some-find.i p (length c.args.bytes.now) f

pub returns-clause-whole : goal.returns-clause-whole
returns-clause-whole g c =
    let p : Extent = record { count = c.in-Some.count; place = c.begin-place.result; sum = c.sum_of_bytes-sum.result } in
    let f : Found c.args.self.now.space c.in-Some-find.i p (length c.args.bytes.now) = record { blocks = c.in-Some-find.ensures.some; begins = c.begin-place.ensures.value; low = c.begin-place.ensures.low; high = c.begin-place.ensures.high; some = c.in-Some.ensures.some.0; few = c.in-Some.ensures.some.1; size = c.in-Some.ensures.some.2 } in
    held_whole _ c.args.bytes.now p (placed c.args.self.now.space c.in-Some-find.i p (length c.args.bytes.now) f) f.size (λ i. omega (arith, c.type_inv.bytes i)) (sym c.sum_of_bytes-sum.ensures) (c.in_default-write_at.ensures.written (omega (arith, f.size, f.some)))

pub returns-clause-bytes : goal.returns-clause-bytes
returns-clause-bytes g c =
    let p : Extent = record { count = c.in-Some.count; place = c.begin-place.result; sum = c.sum_of_bytes-sum.result } in
    let f : Found c.args.self.now.space c.in-Some-find.i p (length c.args.bytes.now) = record { blocks = c.in-Some-find.ensures.some; begins = c.begin-place.ensures.value; low = c.begin-place.ensures.low; high = c.begin-place.ensures.high; some = c.in-Some.ensures.some.0; few = c.in-Some.ensures.some.1; size = c.in-Some.ensures.some.2 } in
    same_bytes _ c.args.bytes.now p f.size (c.in_default-write_at.ensures.written (omega (arith, f.size, f.some)))

pub returns-clause-size : goal.returns-clause-size
returns-clause-size g c =
    let p : Extent = record { count = c.in-Some.count; place = c.begin-place.result; sum = c.sum_of_bytes-sum.result } in
    let f : Found c.args.self.now.space c.in-Some-find.i p (length c.args.bytes.now) = record { blocks = c.in-Some-find.ensures.some; begins = c.begin-place.ensures.value; low = c.begin-place.ensures.low; high = c.begin-place.ensures.high; some = c.in-Some.ensures.some.0; few = c.in-Some.ensures.some.1; size = c.in-Some.ensures.some.2 } in
    let torn = c.write_at.ensures.others in
    let held = c.in_default-write_at.ensures.written (omega (arith, f.size, f.some)) in
    omega (arith, torn.no_shorter, torn.no_longer, held.within, f.size)

pub returns-clause-free : goal.returns-clause-free
returns-clause-free g c =
    let p : Extent = record { count = c.in-Some.count; place = c.begin-place.result; sum = c.sum_of_bytes-sum.result } in
    let f : Found c.args.self.now.space c.in-Some-find.i p (length c.args.bytes.now) = record { blocks = c.in-Some-find.ensures.some; begins = c.begin-place.ensures.value; low = c.begin-place.ensures.low; high = c.begin-place.ensures.high; some = c.in-Some.ensures.some.0; few = c.in-Some.ensures.some.1; size = c.in-Some.ensures.some.2 } in
    found_free c.args.self.now.space c.in-Some-find.i p (length c.args.bytes.now) f

pub returns-clause-in_use : goal.returns-clause-in_use
returns-clause-in_use g c =
    let p : Extent = record { count = c.in-Some.count; place = c.begin-place.result; sum = c.sum_of_bytes-sum.result } in
    let f : Found c.args.self.now.space c.in-Some-find.i p (length c.args.bytes.now) = record { blocks = c.in-Some-find.ensures.some; begins = c.begin-place.ensures.value; low = c.begin-place.ensures.low; high = c.begin-place.ensures.high; some = c.in-Some.ensures.some.0; few = c.in-Some.ensures.some.1; size = c.in-Some.ensures.some.2 } in
    taken_in_use p _ _ c.take.ensures

pub returns-clause-kept : goal.returns-clause-kept
returns-clause-kept g c =
    let p : Extent = record { count = c.in-Some.count; place = c.begin-place.result; sum = c.sum_of_bytes-sum.result } in
    let f : Found c.args.self.now.space c.in-Some-find.i p (length c.args.bytes.now) = record { blocks = c.in-Some-find.ensures.some; begins = c.begin-place.ensures.value; low = c.begin-place.ensures.low; high = c.begin-place.ensures.high; some = c.in-Some.ensures.some.0; few = c.in-Some.ensures.some.1; size = c.in-Some.ensures.some.2 } in
    found_kept c.args.self.now.space c.in-Some-find.i p (length c.args.bytes.now) _ _ f c.write_at.ensures.others

pub returns-clause-crash : goal.returns-clause-crash
returns-clause-crash g c =
    let p : Extent = record { count = c.in-Some.count; place = c.begin-place.result; sum = c.sum_of_bytes-sum.result } in
    let f : Found c.args.self.now.space c.in-Some-find.i p (length c.args.bytes.now) = record { blocks = c.in-Some-find.ensures.some; begins = c.begin-place.ensures.value; low = c.begin-place.ensures.low; high = c.begin-place.ensures.high; some = c.in-Some.ensures.some.0; few = c.in-Some.ensures.some.1; size = c.in-Some.ensures.some.2 } in
    found_after c.args.self.now.space c.in-Some-find.i p (length c.args.bytes.now) _ _ f c.write_at.ensures.crash

pub returns-clause-others : goal.returns-clause-others
returns-clause-others g c q used =
    let p : Extent = record { count = c.in-Some.count; place = c.begin-place.result; sum = c.sum_of_bytes-sum.result } in
    let f : Found c.args.self.now.space c.in-Some-find.i p (length c.args.bytes.now) = record { blocks = c.in-Some-find.ensures.some; begins = c.begin-place.ensures.value; low = c.begin-place.ensures.low; high = c.begin-place.ensures.high; some = c.in-Some.ensures.some.0; few = c.in-Some.ensures.some.1; size = c.in-Some.ensures.some.2 } in
    taken_others p q _ _ c.take.ensures used

pub returns-clause-apart : goal.returns-clause-apart
returns-clause-apart g c q q_placed used =
    let p : Extent = record { count = c.in-Some.count; place = c.begin-place.result; sum = c.sum_of_bytes-sum.result } in
    let f : Found c.args.self.now.space c.in-Some-find.i p (length c.args.bytes.now) = record { blocks = c.in-Some-find.ensures.some; begins = c.begin-place.ensures.value; low = c.begin-place.ensures.low; high = c.begin-place.ensures.high; some = c.in-Some.ensures.some.0; few = c.in-Some.ensures.some.1; size = c.in-Some.ensures.some.2 } in
    disjoint c.args.self.now.space p q f.some q_placed.some (found_free c.args.self.now.space c.in-Some-find.i p (length c.args.bytes.now) f) used

pub overflow_mul-place : goal.overflow_mul-place
overflow_mul-place g c =
    let p : Extent = record { count = c.in-Some.count; place = c.begin-place.result; sum = c.sum_of_bytes-sum.result } in
    let f : Found c.args.self.now.space c.in-Some-find.i p (length c.args.bytes.now) = record { blocks = c.in-Some-find.ensures.some; begins = c.begin-place.ensures.value; low = c.begin-place.ensures.low; high = c.begin-place.ensures.high; some = c.in-Some.ensures.some.0; few = c.in-Some.ensures.some.1; size = c.in-Some.ensures.some.2 } in
    let low = placed c.args.self.now.space c.in-Some-find.i p (length c.args.bytes.now) f in
    let fits = offset_fits c.begin-place.result (omega (arith, low.low)) in search rules

pub returns-clause-lowest : goal.returns-clause-lowest
returns-clause-lowest g c q same free =
    let d : Gap = record { from = 0; to = 0 } in
    let first = c.in-Some-find.ensures.first q d (omega (arith, same, c.in-Some.ensures.some.0)) same free in
    let begins = c.begin-place.ensures.value d in
    omega arith

pub returns-in-Err-clause-reach : goal.returns-in-Err-clause-reach
returns-in-Err-clause-reach g c q free size =
    let d : Gap = record { from = 0; to = 0 } in
    let n = c.in-Some.ensures.some in
    let same : q.count ≡ c.in-Some.count = omega (arith, size, n.2) in
    let first = c.in-Some-find.ensures.first q d (omega (arith, same, n.0)) same free in
    let begins = c.begin-place.ensures.value d in
    let longest = c.write_at.ensures.others.no_longer in
    omega (arith, longest, first, begins, same, n.2)

pub returns-clause-reach : goal.returns-clause-reach
returns-clause-reach g c q free size =
    let d : Gap = record { from = 0; to = 0 } in
    let n = c.in-Some.ensures.some in
    let same : q.count ≡ c.in-Some.count = omega (arith, size, n.2) in
    let first = c.in-Some-find.ensures.first q d (omega (arith, same, n.0)) same free in
    let begins = c.begin-place.ensures.value d in
    let longest = c.write_at.ensures.others.no_longer in
    omega (arith, longest, first, begins, same, n.2)
