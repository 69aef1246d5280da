use Rattle.sqlite.specs.Held.{state}
use Rattle.fuse_store_tables.specs.inner.Following.{stays_then}
use Rattle.fuse_store_tree.specs.inner.Laws.{read_then}
use Rattle.fuse_store_tree.specs.inner.Relisting.{IsAny, Split}
use Rattle.fuse_store_tree.proofs.PieceSteps.{of_clean, range_taken, range_sure, relists_fault, relists_later}
use Rattle.fuse_store_tree.proofs.Steps.{on_ok, on_error}
use Rattle.fuse_store_tree.proofs.piece_cuts.take_range.Goals as goal

pub returns-in-Ok-split_at-clause-reads : goal.returns-in-Ok-split_at-clause-reads
returns-in-Ok-split_at-clause-reads g c =
    read_then (g.C.Contents.file c.args.contents.now) (g.C.Contents.file c.split_at.new.contents) (g.C.Contents.file c.split_at-2.new.contents)
    c.split_at.ensures.reads c.split_at-2.ensures.reads

pub returns-in-Ok-split_at-clause-taken : goal.returns-in-Ok-split_at-clause-taken
returns-in-Ok-split_at-clause-taken g c =
    let v = g.C.Contents.file c.split_at.new.contents in
    let f = g.C.Contents.file c.split_at-2.new.contents in
    let a = state g.S.Store c.args.conn.now in
    let b = state g.S.Store c.split_at.new.conn in
    let d = state g.S.Store c.split_at-2.new.conn in
    let e = state g.S.Store c.take_slices.new.conn in
    on_ok c.take_slices.result _ _ (λ p. range_taken f.is_clean f.bytes c.args.node c.args.from c.args.to c.args.gone.now c.take_slices.new.gone a b d e
    (relists_later v f IsAny (λ bytes. Split bytes c.args.node c.args.from) a b c.split_at-2.ensures.reads c.in-Ok.ensures.split) c.in-Ok-split_at.ensures.split
    (of_clean f.is_clean f.bytes _ _ d e (p f.bytes))) c.take_slices.ensures.taken

pub returns-in-Ok-split_at-clause-fails : goal.returns-in-Ok-split_at-clause-fails
returns-in-Ok-split_at-clause-fails g c =
    let a = state g.S.Store c.args.conn.now in
    let b = state g.S.Store c.split_at.new.conn in
    let d = state g.S.Store c.split_at-2.new.conn in
    let e = state g.S.Store c.take_slices.new.conn in
    let p = c.in-Ok.ensures.split in
    let q = c.in-Ok-split_at.ensures.split in
    on_error c.take_slices.result _ _ (λ s. stays_then a b e p.stays p.within (stays_then b d e q.stays q.within s)) c.take_slices.ensures.fails

pub returns-in-Ok-split_at-clause-fault : goal.returns-in-Ok-split_at-clause-fault
returns-in-Ok-split_at-clause-fault g c clean read =
    let v = g.C.Contents.file c.split_at.new.contents in
    let f = g.C.Contents.file c.split_at-2.new.contents in
    let a = state g.S.Store c.args.conn.now in
    let b = state g.S.Store c.split_at.new.conn in
    let d = state g.S.Store c.split_at-2.new.conn in
    let e = state g.S.Store c.take_slices.new.conn in
    range_sure f.is_clean f.bytes c.args.node c.args.from c.args.to a b d e c.take_slices.result
    (relists_later v f IsAny (λ bytes. Split bytes c.args.node c.args.from) a b c.split_at-2.ensures.reads c.in-Ok.ensures.split) c.in-Ok-split_at.ensures.split
    c.take_slices.ensures.fails c.take_slices.ensures.fault read clean

pub returns-in-Err-split_at-clause-reads : goal.returns-in-Err-split_at-clause-reads
returns-in-Err-split_at-clause-reads g c =
    read_then (g.C.Contents.file c.args.contents.now) (g.C.Contents.file c.split_at.new.contents) (g.C.Contents.file c.split_at-2.new.contents)
    c.split_at.ensures.reads c.split_at-2.ensures.reads

pub returns-in-Err-split_at-clause-fails : goal.returns-in-Err-split_at-clause-fails
returns-in-Err-split_at-clause-fails g c =
    let p = c.in-Ok.ensures.split in
    stays_then (state g.S.Store c.args.conn.now) (state g.S.Store c.split_at.new.conn) (state g.S.Store c.split_at-2.new.conn) p.stays p.within
    c.in-Err-split_at.ensures.fails

pub returns-in-Err-split_at-clause-fault : goal.returns-in-Err-split_at-clause-fault
returns-in-Err-split_at-clause-fault g c clean read k at sound third =
    let v = g.C.Contents.file c.split_at.new.contents in
    let f = g.C.Contents.file c.split_at-2.new.contents in
    let a = state g.S.Store c.args.conn.now in
    let b = state g.S.Store c.split_at.new.conn in
    let d = state g.S.Store c.split_at-2.new.conn in
    relists_fault f.is_clean f.bytes IsAny (Split f.bytes c.args.node c.args.from) IsAny a b d c.in-Err-split_at.fault
    (relists_later v f IsAny (λ bytes. Split bytes c.args.node c.args.from) a b c.split_at-2.ensures.reads c.in-Ok.ensures.split) c.in-Err-split_at.ensures.fails
    (λ m k sound so q. (q.same.sound, tt)) (λ now m is so inside. c.in-Err-split_at.ensures.fault now read m inside is) read clean k sound tt at
