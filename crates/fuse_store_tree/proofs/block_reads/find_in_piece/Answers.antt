use Rattle.std.proofs.Common.{ap, sym, ◌∙◌}
use Rattle.sqlite.specs.Held.{state}
use Rattle.fuse_store_tree.specs.inner.Reading.{whole_of}
use Rattle.fuse_store_tree.proofs.Looks.{map_ok, map_err, always_ok, always_err}
use Rattle.fuse_store_tree.proofs.BlockParts.{no_piece_stored, piece_bytes_told, piece_there, piece_nowhere, piece_in_file}
use Rattle.fuse_store_tree.proofs.block_reads.find_in_piece.Goals as goal

pub returns-in-Ok-None-clause-value : goal.returns-in-Ok-None-clause-value
returns-in-Ok-None-clause-value g c clean read =
    let file = (g.C.Contents.file c.args.contents.now).bytes in
    map_ok c.unwritten.result _ _ (λ f is k at sound. is ∙ sym (ap whole_of (no_piece_stored file k c.args.node c.args.block (rw c.in-Ok-None.field-0-is at (c.in-Ok-None.ensures.value clean file k at sound)))))
    c.unwritten.ensures.value

pub returns-in-Ok-None-clause-written : goal.returns-in-Ok-None-clause-written
returns-in-Ok-None-clause-written g c clean =
    map_ok c.unwritten.result _ _ (λ f is file k at sound. is ∙ piece_nowhere k c.args.node c.args.block (rw c.in-Ok-None.field-0-is at (c.in-Ok-None.ensures.value clean file k at sound)))
    c.unwritten.ensures.written

pub returns-in-Ok-None-clause-looks : goal.returns-in-Ok-None-clause-looks
returns-in-Ok-None-clause-looks g c = always_ok c.unwritten.result _ c.in-Ok-None.ensures.looks

pub returns-in-Ok-None-clause-fails : goal.returns-in-Ok-None-clause-fails
returns-in-Ok-None-clause-fails g c = always_err c.unwritten.result _ c.in-Ok-None.ensures.looks.stays

pub returns-in-Ok-None-clause-fault : goal.returns-in-Ok-None-clause-fault
returns-in-Ok-None-clause-fault g c clean read = map_err c.unwritten.result _ _ (λ f out k at sound. out) c.unwritten.ensures.fault

pub returns-in-Ok-Some-clause-value : goal.returns-in-Ok-Some-clause-value
returns-in-Ok-Some-clause-value g c clean read =
    let file = (g.C.Contents.file c.find_in.new.contents).bytes in
    map_ok c.find_in.result _ _ (λ f told k at sound. piece_bytes_told file k c.args.node c.args.block c.in-Ok-Some.piece f.bytes.items (rw c.in-Ok-Some.field-0-is at (c.in-Ok-Some.ensures.value clean file k at sound)) told)
    (c.find_in.ensures.value read)

pub returns-in-Ok-Some-clause-written : goal.returns-in-Ok-Some-clause-written
returns-in-Ok-Some-clause-written g c clean =
    map_ok c.find_in.result _ _ (λ f is file k at sound. is ∙ piece_there k c.args.node c.args.block c.in-Ok-Some.piece (rw c.in-Ok-Some.field-0-is at (c.in-Ok-Some.ensures.value clean file k at sound)))
    c.find_in.ensures.written

pub returns-in-Ok-Some-clause-looks : goal.returns-in-Ok-Some-clause-looks
returns-in-Ok-Some-clause-looks g c = always_ok c.find_in.result _ c.in-Ok-Some.ensures.looks

pub returns-in-Ok-Some-clause-fails : goal.returns-in-Ok-Some-clause-fails
returns-in-Ok-Some-clause-fails g c = always_err c.find_in.result _ c.in-Ok-Some.ensures.looks.stays

pub returns-in-Ok-Some-clause-fault : goal.returns-in-Ok-Some-clause-fault
returns-in-Ok-Some-clause-fault g c clean read =
    let file = (g.C.Contents.file c.find_in.new.contents).bytes in
    map_err c.find_in.result _ _ (λ f told k at sound.
    let p = piece_in_file file k c.args.node c.args.block c.in-Ok-Some.piece (rw c.in-Ok-Some.field-0-is at (c.in-Ok-Some.ensures.value clean file k at sound)) sound in
    told p.0 p.1 p.2) (c.find_in.ensures.fault read)
