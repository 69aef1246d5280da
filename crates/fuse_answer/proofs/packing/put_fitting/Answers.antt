use Rattle.std.proofs.Common.{map, get_or, [], arith}
use Rattle.std.proofs.lemmas.List.{length-map, get_or-map}
use Rattle.std.proofs.lemmas.List.Elements.{All-get_or}
use Rattle.fuse_answer.specs.declared.dirent.Dirent.{Dirent}
use Rattle.fuse_answer.specs.Entries.{directory_entry_of, IsNamed}
use Rattle.fuse_answer.proofs.Packings.{filled_more, longest_before}
use Rattle.fuse_answer.proofs.packing.put_fitting.Goals as goal

-- what stands past the end
abbrev none : Dirent
none = record { ino = 0; off = 0; kind = 0; name = record { ref_ptr = (0, 0); now = [] } }

pub returns-then-packed_len-size-clause-longest : goal.returns-then-packed_len-size-clause-longest
returns-then-packed_len-size-clause-longest c =
    let ds = c.args.entries.now in
    let n = c.loop-taken.taken in
    let d = get_or ds n none in
    let long = length-map ds directory_entry_of in
    longest_before (map directory_entry_of ds) c.args.size n c.loop-taken.body.items (directory_entry_of d) (omega (arith, long, c.loop-taken-test.true))
    (get_or-map directory_entry_of ds n none (directory_entry_of d) c.loop-taken-test.true)
    c.loop-taken.invariant (omega (arith, c.if-packed_len-size.true, c.len.ensures, c.packed_len.ensures, c.loop-taken.body.ok))

pub loop-taken-preserved : goal.loop-taken-preserved
loop-taken-preserved c =
    let ds = c.args.entries.now in
    let n = c.loop-taken.taken in
    let d = get_or ds n none in
    let long = length-map ds directory_entry_of in
    let named = All-get_or (λ d. IsNamed (directory_entry_of d)) ds n none c.loop-taken-test.true c.requires.named in
    filled_more c.layouts_stand.ensures (map directory_entry_of ds) c.args.size n c.loop-taken.body.items c.put_dirent.new.out.items (directory_entry_of d)
    (omega (arith, long, c.loop-taken-test.true))
    (get_or-map directory_entry_of ds n none (directory_entry_of d) c.loop-taken-test.true) c.loop-taken.invariant named c.in_ok-put_dirent.ensures.fits
    (omega (arith, c.if-packed_len-size.false, c.len.ensures, c.packed_len.ensures, c.loop-taken.body.ok)) c.in_ok-put_dirent.ensures.ok
