use Rattle.std.proofs.Common.{map, get_or, [], None, arith}
use Rattle.std.proofs.lemmas.List.{length-map, get_or-map}
use Rattle.fuse_answer.specs.declared.plus.PlusDirent.{PlusDirent}
use Rattle.fuse_answer.specs.PlusEntries.{plus_of}
use Rattle.fuse_answer.proofs.PlusPackings.{plus_more, plus_before}
use Rattle.fuse_answer.proofs.plus.put_fitting_plus.Goals as goal

-- what stands past the end
abbrev none : PlusDirent
none = record { entry_out = None; dirent = record { ino = 0; off = 0; kind = 0; name = record { ref_ptr = (0, 0); now = [] } } }

pub returns-then-plus_len-size-clause-longest : goal.returns-then-plus_len-size-clause-longest
returns-then-plus_len-size-clause-longest c =
    let ds = c.args.entries.now in
    let n = c.loop-taken.taken in
    let d = get_or ds n none in
    let long = length-map ds plus_of in
    plus_before (map plus_of ds) c.args.size n c.loop-taken.body.items (plus_of d) (omega (arith, long, c.loop-taken-test.true))
    (get_or-map plus_of ds n none (plus_of d) c.loop-taken-test.true)
    c.loop-taken.invariant (omega (arith, c.if-plus_len-size.true, c.len.ensures, c.plus_len.ensures, c.loop-taken.body.ok))

pub loop-taken-preserved : goal.loop-taken-preserved
loop-taken-preserved c =
    let ds = c.args.entries.now in
    let n = c.loop-taken.taken in
    let d = get_or ds n none in
    let long = length-map ds plus_of in
    plus_more c.layouts_stand.ensures (map plus_of ds) c.args.size n c.loop-taken.body.items c.put_plus.new.out.items (plus_of d)
    (omega (arith, long, c.loop-taken-test.true))
    (get_or-map plus_of ds n none (plus_of d) c.loop-taken-test.true) c.loop-taken.invariant
    (omega (arith, c.if-plus_len-size.false, c.len.ensures, c.plus_len.ensures, c.loop-taken.body.ok)) c.in_ok-put_plus.ensures
