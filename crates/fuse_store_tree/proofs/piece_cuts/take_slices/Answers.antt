use Rattle.std.proofs.Common.{refl, arith, true, []}
use Rattle.sqlite.specs.Held.{state}
use Rattle.fuse_store_tree.proofs.PieceSteps.{none_yet, more_taken, later_fault, relists_fails, up_to}
use Rattle.fuse_store_tree.proofs.piece_cuts.take_slices.Goals as goal

pub slices-init : goal.slices-init
slices-init g c = record {
  node = refl;
  to = refl;
  begin = omega arith;
  end = c.requires.order;
  taken = λ file. none_yet true file c.args.node c.args.from c.args.to c.args.gone.now (state g.S.Store c.args.conn.now);
}

pub slices-preserved : goal.slices-preserved
slices-preserved g c =
    let on = c.in-Ok.ensures.on in
    let low = c.slices.invariant.begin in
    record {
      node = refl;
      to = refl;
      begin = omega (arith, on.0, low);
      end = on.1;
      taken = λ file. more_taken true file c.args.node c.args.from c.args.to c.slices.at c.in-Ok.next c.args.gone.now c.slices.gone c.take_slice.new.gone
          (state g.S.Store c.args.conn.now) (state g.S.Store c.slices.conn) (state g.S.Store c.take_slice.new.conn) low on.0 (c.slices.invariant.taken file)
          (c.in-Ok.ensures.taken file);
    }

pub returns-clause-taken : goal.returns-clause-taken
returns-clause-taken g c file =
    up_to true file c.args.node c.args.from c.args.to c.slices.at c.args.gone.now c.slices.gone (state g.S.Store c.args.conn.now) (state g.S.Store c.slices.conn)
    c.slices.invariant.end c.slices-test.false (c.slices.invariant.taken file)

pub returns-in-Err-clause-fails : goal.returns-in-Err-clause-fails
returns-in-Err-clause-fails g c =
    relists_fails true [] _ _ (state g.S.Store c.args.conn.now) (state g.S.Store c.slices.conn) (state g.S.Store c.take_slice.new.conn)
    (c.slices.invariant.taken []) c.in-Err.ensures.fails

pub returns-in-Err-clause-fault : goal.returns-in-Err-clause-fault
returns-in-Err-clause-fault g c clean file k sound cut at =
    later_fault true file c.args.node c.args.from c.args.to c.slices.at c.args.gone.now c.slices.gone (state g.S.Store c.args.conn.now) (state g.S.Store c.slices.conn)
    (state g.S.Store c.take_slice.new.conn) c.in-Err.fault c.slices.invariant.begin (c.slices.invariant.taken file) c.in-Err.ensures.fails
    (λ clean m sound cut at. c.in-Err.ensures.fault clean file m sound cut at) refl clean k sound cut at
