use Rattle.std.proofs.Common.{◌++◌, ◌∷◌, [], ap, sym, subst, take, ◌∙◌}
use Rattle.std.proofs.lemmas.List.{take_more}
use Rattle.sqlite.specs.Held.{state}
use Rattle.fuse_rows.specs.Columns.{FitsChange}
use Rattle.fuse_store_tables.specs.inner.Following.{stays_then}
use Rattle.fuse_store_tree.specs.inner.Knowing.{HeldKnown}
use Rattle.fuse_store_tree.specs.inner.Preparing.{AreMadeOf}
use Rattle.fuse_store_tree.specs.inner.Over.{ChangedKnownOver}
use Rattle.fuse_store_tree.specs.inner.Writing.{with_change, with_changes}
use Rattle.fuse_store_tree.proofs.Changes.{known_more}
use Rattle.fuse_store_tree.proofs.KnownSteps.{ready_known}
use Rattle.fuse_store_tree.proofs.Overs.{widens_then}
use Rattle.fuse_store_tree.proofs.Sure.{fault_next, one_of}
use Rattle.fuse_store_tree.proofs.plan_changes.make_all.Goals as goal

pub returns-in-Err-clause-widens : goal.returns-in-Err-clause-widens
returns-in-Err-clause-widens g c =
    widens_then (g.C.Contents.file c.args.contents.now) (g.C.Contents.file c.loop-change.contents) (g.C.Contents.file c.make_change.new.contents)
    c.loop-change.invariant.widens c.in-Err.ensures.widens

pub returns-in-Err-clause-fails : goal.returns-in-Err-clause-fails
returns-in-Err-clause-fails g c =
    let made = c.loop-change.invariant.changed in
    stays_then (state g.S.Store c.args.conn.now) (state g.S.Store c.loop-change.conn) (state g.S.Store c.make_change.new.conn) made.stays made.within
    c.in-Err.ensures.fails

pub loop-change-preserved : goal.loop-change-preserved
loop-change-preserved g c =
    let a = state g.S.Store c.args.conn.now in
    let b = state g.S.Store c.loop-change.conn in
    let d = state g.S.Store c.make_change.new.conn in
    let f = g.C.Contents.file c.args.contents.now in
    let v = g.C.Contents.file c.loop-change.contents in
    let w = g.C.Contents.file c.make_change.new.contents in
    let cs = c.args.changes.now in
    let i = c.loop-change.change-index in
    let x = c.change-item.result in
    let m = c.args.known in
    let n = c.after_change-last.result in
    record {
      widens = widens_then f v w c.loop-change.invariant.widens c.in-Ok.ensures.widens;
      changed =
          subst (λ l. ChangedKnownOver f w m n (with_changes l) a d) (sym (take_more cs i x c.loop-change-test.true ∙ ap (λ y. take i cs ++ y ∷ []) (sym c.change-item.is)))
          (known_more f v w m c.loop-change.last n (take i cs) x a b d c.in-Ok.ensures.widens.clean c.loop-change.invariant.changed
          (subst (λ k. ChangedKnownOver v w c.loop-change.last k (with_change x) b d) (sym c.after_change-last.ensures) c.in-Ok.ensures.changed));
    }

pub returns-in-Err-clause-fault : goal.returns-in-Err-clause-fault
returns-in-Err-clause-fault g c fits read =
    let a = state g.S.Store c.args.conn.now in
    let b = state g.S.Store c.loop-change.conn in
    let d = state g.S.Store c.make_change.new.conn in
    let f = g.C.Contents.file c.args.contents.now in
    let v = g.C.Contents.file c.loop-change.contents in
    let cs = c.args.changes.now in
    let i = c.loop-change.change-index in
    let m = c.args.known in
    let n = c.loop-change.last in
    let fits_one : FitsChange c.change-item.result = subst FitsChange (sym c.change-item.is)
    (one_of FitsChange cs i c.change-item.result fits c.loop-change-test.true) in
    fault_next (HeldKnown f.bytes m) (HeldKnown v.bytes n) a b d c.in-Err.fault c.in-Err.ensures.fails
    (λ clean (x, at). (with_changes (take i cs) x, c.loop-change.invariant.changed.turns (c.in-Err.ensures.widens.clean read) clean x at))
    (λ clean ready. c.in-Err.ensures.fault fits_one read clean (ready_known v.bytes n b ready))

pub make_change-requires : goal.make_change-requires
make_change-requires g c =
    let made = c.args.made.now in
    subst (λ bytes. AreMadeOf bytes made.at made.bytes.now made.pieces.now) (sym c.loop-change.invariant.widens.contents.seen) c.requires
