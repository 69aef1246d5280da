use Rattle.std.proofs.Common.{◌≡◌, ◌-◌, refl, sym, ap, subst, arith, ◌∙◌, [], length, take, drop}
use Rattle.std.proofs.Math.Seq.{take-length}
use Rattle.fuse_store_tree.specs.inner.Changing.{Turned}
use Rattle.std.proofs.lemmas.List.{length-drop, take_all}
use Rattle.sqlite.specs.Held.{state}
use Rattle.fuse_keeper.specs.Group.{ids_of}
use Rattle.fuse_store_tree.specs.Group.{without_settled}
use Rattle.fuse_store_tree.proofs.Turning.{turned_keeps}
use Rattle.fuse_store_tree.proofs.Records.{settled_on}
use Rattle.fuse_store_tree.proofs.settled_ids.settle.Goals as goal

pub returns-in-Err-clause-fails : goal.returns-in-Err-clause-fails
returns-in-Err-clause-fails g c =
    turned_keeps [] (without_settled (ids_of (take c.rest.done c.args.ids.now))) (state g.S.Store c.args.conn.now) (state g.S.Store c.rest.conn)
    (state g.S.Store c.forget_first.new.conn) (c.rest.invariant.turned []) c.in-Err.ensures.fails

pub rest-preserved : goal.rest-preserved
rest-preserved g c =
    let left = drop c.rest.done c.args.ids.now in
    let all : take (length c.args.ids.now - c.rest.done) left ≡ left =
    ap (λ n. take n left) (sym (length-drop c.rest.done c.args.ids.now)) ∙ take-length left in
    record {
      ids = refl;
      done = omega (arith, c.in-Ok.ensures.count.1, ap length all, length-drop c.rest.done c.args.ids.now, c.rest.invariant.done);
      turned = λ file. settled_on file c.args.ids.now c.rest.done c.in-Ok.count (state g.S.Store c.args.conn.now) (state g.S.Store c.rest.conn)
          (state g.S.Store c.forget_first.new.conn) (c.rest.invariant.turned file) (subst (λ l. Turned file (without_settled (ids_of (take c.in-Ok.count l)))
          (state g.S.Store c.rest.conn) (state g.S.Store c.forget_first.new.conn)) all (c.in-Ok.ensures.turned file));
    }

pub returns-clause-turned : goal.returns-clause-turned
returns-clause-turned g c = λ file.
    subst (λ l. Turned file (without_settled (ids_of l)) (state g.S.Store c.args.conn.now) (state g.S.Store c.rest.conn))
    (take_all c.rest.done c.args.ids.now c.rest-test.false) (c.rest.invariant.turned file)
