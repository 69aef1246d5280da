use Rattle.std.proofs.Common.{◌++◌, ap, arith, sym, ◌∙◌}
use Rattle.std.proofs.Common.{None, Some}
use Rattle.fuse_store_tree.proofs.Steps.{on_ok}
use Rattle.fuse_store_tree.proofs.Looks.{map_err}
use Rattle.fuse_store_tree.proofs.BlockParts.{zeros_part, piece_part, piece_whole, is_zero, not_zero}
use Rattle.fuse_store_tree.proofs.range_reads.append_other.Goals as goal

pub returns-in-None-clause-value : goal.returns-in-None-clause-value
returns-in-None-clause-value g c read =
    let file = (g.C.Contents.file c.args.contents.now).bytes in
    on_ok c.append_zeros.result _ _ (λ is node k none shows sound. is ∙ ap (λ l. c.args.out.now.items ++ l)
    (zeros_part file k node c.args.here _ _ shows sound c.args.count None none (sym (rw c.as_slice.ensures.value at c.in-None.ensures.value)) tt
    c.requires.within)) c.append_zeros.ensures.appended

pub returns-then-piece-eq0-clause-value : goal.returns-then-piece-eq0-clause-value
returns-then-piece-eq0-clause-value g c read =
    let file = (g.C.Contents.file c.args.contents.now).bytes in
    let zero = c.if-piece-eq0.true in
    on_ok c.append_zeros-then-piece-eq0.result _ _ (λ is node k none shows sound. is ∙ ap (λ l. c.args.out.now.items ++ l)
    (zeros_part file k node c.args.here _ _ shows sound c.args.count (Some c.in-Some.piece) none
    (sym (rw c.as_slice.ensures.value at c.in-Some.ensures.value)) (is_zero c.in-Some.piece.place zero) c.requires.within))
    c.append_zeros-then-piece-eq0.ensures.appended

pub returns-else-piece-eq0-clause-value : goal.returns-else-piece-eq0-clause-value
returns-else-piece-eq0-clause-value g c read =
    let file = (g.C.Contents.file c.append_of.new.contents).bytes in
    let placed = c.if-piece-eq0.false in
    on_ok c.append_of.result _ _ (λ is node k none shows sound. is ∙ ap (λ l. c.args.out.now.items ++ l)
    (piece_part file k node c.args.here _ _ shows sound c.in-Some.piece c.args.count none
    (sym (rw c.as_slice.ensures.value at c.in-Some.ensures.value)) (not_zero c.in-Some.piece.place placed) c.requires.within))
    (c.append_of.ensures.appended read)

pub returns-else-piece-eq0-clause-fault : goal.returns-else-piece-eq0-clause-fault
returns-else-piece-eq0-clause-fault g c read =
    let file = (g.C.Contents.file c.append_of.new.contents).bytes in
    let placed = c.if-piece-eq0.false in
    map_err c.append_of.result _ _ (λ f told node k shows sound. told (piece_whole file k node c.args.here _ _ shows sound c.in-Some.piece
    (sym (rw c.as_slice.ensures.value at c.in-Some.ensures.value)) (not_zero c.in-Some.piece.place placed))) (c.append_of.ensures.fault read)
