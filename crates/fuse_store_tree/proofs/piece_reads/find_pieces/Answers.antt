use Rattle.std.proofs.Common.{◌≡◌, ◌≤◌, refl, arith}
use Rattle.sqlite.specs.Held.{state}
use Rattle.fuse_store_tables.specs.inner.Following.{earlier}
use Rattle.fuse_store_tree.specs.inner.Laws.{looked_then, looked_clean, looked_still, looked_fails}
use Rattle.fuse_store_tree.proofs.Looks.{always_err}
use Rattle.fuse_store_tree.proofs.Members.{pushed_long}
use Rattle.fuse_store_tree.proofs.LastPieces.{found_first, found_next, found_all}
use Rattle.fuse_store_tree.proofs.piece_reads.find_pieces.Goals as goal

pub pieces-init : goal.pieces-init
pieces-init g c = record {
  node = refl;
  from = refl;
  end = omega arith;
  few = rw c.new-found.ensures.items (omega arith);
  looks = looked_still (state g.S.Store c.args.conn.now);
  value = λ clean file k at sound. found_first c.args.node c.args.to c.new-found.result.items k c.new-found.ensures.items;
}

pub pieces-preserved : goal.pieces-preserved
pieces-preserved g c =
    let a = state g.S.Store c.args.conn.now in
    let b = state g.S.Store c.pieces.conn in
    let d = state g.S.Store c.find_last.new.conn in
    let before = c.pieces.invariant in
    let begins = rw c.in-Ok-Some.field-0-is at c.in-Ok-Some.ensures.begins in
    let test = c.pieces-test.true in
    let long = pushed_long c.pieces.found.items _ c.in-Ok-Some.piece c.in_ok-push-in-Ok-Some.ensures.items in
    record {
      node = refl;
      from = refl;
      end = omega (arith, before.end, begins);
      few = omega (arith, before.few, begins, test, long);
      looks = looked_then a b d before.looks c.in-Ok-Some.ensures.looks;
      value = λ clean file k at sound.
          let mid = looked_clean b d c.in-Ok-Some.ensures.looks clean in
          found_next c.args.node c.pieces.end c.args.to c.pieces.found.items _ k c.in-Ok-Some.piece sound.1.own (omega (arith, test))
          (before.value mid file k at sound)
          (rw c.in-Ok-Some.field-0-is at (c.in-Ok-Some.ensures.value clean k (before.looks.same mid k at) sound.0)) c.in_ok-push-in-Ok-Some.ensures.items;
    }

pub returns-in-Ok-None-clause-value : goal.returns-in-Ok-None-clause-value
returns-in-Ok-None-clause-value g c clean file k at sound block from low =
    let b = state g.S.Store c.pieces.conn in
    let d = state g.S.Store c.find_last.new.conn in
    let before = c.pieces.invariant in
    let mid = looked_clean b d c.in-Ok-None.ensures.looks clean in
    let test = c.pieces-test.true in
    found_all c.args.node c.pieces.end c.args.to c.pieces.found.items k.pieces (omega (arith, test)) (before.value mid file k at sound)
    (rw c.in-Ok-None.field-0-is at (c.in-Ok-None.ensures.value clean k (before.looks.same mid k at) sound.0)) block low

pub returns-in-Ok-None-clause-looks : goal.returns-in-Ok-None-clause-looks
returns-in-Ok-None-clause-looks g c =
    looked_then (state g.S.Store c.args.conn.now) (state g.S.Store c.pieces.conn) (state g.S.Store c.find_last.new.conn) c.pieces.invariant.looks
    c.in-Ok-None.ensures.looks

pub returns-in-Err-clause-fails : goal.returns-in-Err-clause-fails
returns-in-Err-clause-fails g c =
    looked_fails (state g.S.Store c.args.conn.now) (state g.S.Store c.pieces.conn) (state g.S.Store c.find_last.new.conn) c.pieces.invariant.looks
    c.in-Err.ensures.fails

pub returns-in-Err-clause-fault : goal.returns-in-Err-clause-fault
returns-in-Err-clause-fault g c clean k at fits =
    let b = state g.S.Store c.pieces.conn in
    let d = state g.S.Store c.find_last.new.conn in
    c.in-Err.ensures.fault clean k (c.pieces.invariant.looks.same (earlier b d _ c.in-Err.ensures.fails.survives clean) k at) fits

pub returns-in_err-push-in-Ok-Some-clause-fails : goal.returns-in_err-push-in-Ok-Some-clause-fails
returns-in_err-push-in-Ok-Some-clause-fails g c =
    always_err c.from_residual.result _
    (looked_then (state g.S.Store c.args.conn.now) (state g.S.Store c.pieces.conn) (state g.S.Store c.find_last.new.conn) c.pieces.invariant.looks
    c.in-Ok-Some.ensures.looks).stays

pub returns-clause-value : goal.returns-clause-value
returns-clause-value g c clean file k at sound block from low =
    let before = c.pieces.invariant in
    let test = c.pieces-test.false in
    (before.value clean file k at sound).each block (omega (arith, test, from)) low
