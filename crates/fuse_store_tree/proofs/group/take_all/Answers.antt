use Rattle.std.proofs.Common.{arith, subst, sym, take, map}
use Rattle.std.proofs.lemmas.Grind.{common_steps}
use Rattle.std.proofs.lemmas.List.{take_all, length-map}
use Rattle.sqlite.specs.Held.{state}
use Rattle.fuse_keeper.specs.Group.{entries_of}
use Rattle.fuse_tree.specs.TheTree.{tree_of}
use Rattle.fuse_store_tree.specs.inner.Laws.{read_then, still_read}
use Rattle.fuse_store_tree.specs.inner.Over.{TurnedOver}
use Rattle.fuse_store_tree.specs.Group.{with_group}
use Rattle.fuse_store_tree.specs.Knowing.{HeldForKnown}
use Rattle.fuse_store_tree.proofs.Looks.{always_err}
use Rattle.fuse_store_tree.proofs.GroupsOver.{AreDonesOver, took_over, dones_over, seen_at, made_at_place}
use Rattle.fuse_store_tree.specs.inner.Preparing.{AreMadeOf}
use Rattle.fuse_store_tree.proofs.Overs.{widens_then, still_widens, turned_over_keeps}
use Rattle.fuse_store_tree.proofs.Sure.{fault_next}
use Rattle.fuse_store_tree.proofs.group.take_all.Goals as goal

pub returns-in-Err-clause-fails : goal.returns-in-Err-clause-fails
returns-in-Err-clause-fails g c =
    turned_over_keeps _ _ c.args.look.now.known c.loop-one.look.known (with_group (tree_of c.args.profile).service c.args.lot (entries_of (take c.loop-one.one-index c.args.group.now)))
    (state g.S.Store c.args.look.now.conn) (state g.S.Store c.loop-one.look.conn) (state g.S.Store c.take_one.new.look.conn) c.loop-one.invariant.turned
    c.in-Err.ensures.fails

pub returns-in_err-push-clause-fails : goal.returns-in_err-push-clause-fails
returns-in_err-push-clause-fails g c =
    always_err c.from_residual.result _ (turned_over_keeps _ _ c.args.look.now.known c.loop-one.look.known
    (with_group (tree_of c.args.profile).service c.args.lot (entries_of (take c.loop-one.one-index c.args.group.now))) (state g.S.Store c.args.look.now.conn)
    (state g.S.Store c.loop-one.look.conn) (state g.S.Store c.take_one.new.look.conn) c.loop-one.invariant.turned c.in-Ok.ensures.turned.stays)

pub loop-one-preserved : goal.loop-one-preserved
loop-one-preserved g c =
    let a = state g.S.Store c.args.look.now.conn in
    let b = state g.S.Store c.loop-one.look.conn in
    let d = state g.S.Store c.take_one.new.look.conn in
    let f = g.C.Contents.file c.args.look.now.contents in
    let h = g.C.Contents.file c.loop-one.look.contents in
    let j = g.C.Contents.file c.take_one.new.look.contents in
    let m = c.args.look.now.known in
    let n = c.loop-one.look.known in
    let o = c.take_one.new.look.known in
    let V = (tree_of c.args.profile).service in
    record {
      at = omega (arith, c.loop-one.invariant.at);
      widens = widens_then f h j c.loop-one.invariant.widens c.in-Ok.ensures.widens;
      reads = λ none. read_then f h j (c.loop-one.invariant.reads none)
          (c.in-Ok.ensures.reads (seen_at V c.args.group.now c.loop-one.one-index _ c.loop-one-test.true none));
      turned = took_over f h j V m n o c.args.lot c.args.group.now c.loop-one.one-index _ a b d c.loop-one-test.true c.in-Ok.ensures.widens.clean
          c.loop-one.invariant.turned c.in-Ok.ensures.turned;
      dones = dones_over f h j V m n o c.args.lot c.args.group.now c.loop-one.one-index _ a b d c.loop-one.dones.items c.push.new.self.items c.in-Ok.done
          c.loop-one-test.true c.in-Ok.ensures.widens.clean c.loop-one.invariant.turned c.loop-one.invariant.dones c.in-Ok.ensures.turned c.in-Ok.ensures.done
          c.in_ok-push.ensures.items;
      count = grind (arith, common_steps);
      ready = c.in-Ok.ensures.ready;
    }

pub returns-clause-turned : goal.returns-clause-turned
returns-clause-turned g c =
    subst (λ l. TurnedOver (g.C.Contents.file c.args.look.now.contents) (g.C.Contents.file c.loop-one.look.contents) c.args.look.now.known c.loop-one.look.known
    (with_group (tree_of c.args.profile).service c.args.lot (entries_of l)) (state g.S.Store c.args.look.now.conn)
    (state g.S.Store c.loop-one.look.conn)) (take_all c.loop-one.one-index c.args.group.now c.loop-one-test.false) c.loop-one.invariant.turned

pub returns-clause-dones : goal.returns-clause-dones
returns-clause-dones g c =
    subst (λ l. AreDonesOver (g.C.Contents.file c.args.look.now.contents) (g.C.Contents.file c.loop-one.look.contents) (tree_of c.args.profile).service
    c.args.look.now.known c.args.lot (entries_of l) (state g.S.Store c.args.look.now.conn) (state g.S.Store c.loop-one.look.conn)
    c.loop-one.dones.items) (take_all c.loop-one.one-index c.args.group.now c.loop-one-test.false) c.loop-one.invariant.dones

pub returns-in-Err-clause-fault : goal.returns-in-Err-clause-fault
returns-in-Err-clause-fault g c = λ read.
    let f = g.C.Contents.file c.args.look.now.contents in
    let h = g.C.Contents.file c.loop-one.look.contents in
    let before = with_group (tree_of c.args.profile).service c.args.lot (entries_of (take c.loop-one.one-index c.args.group.now)) in
    fault_next (HeldForKnown f.bytes c.args.look.now.known) (HeldForKnown h.bytes c.loop-one.look.known) (state g.S.Store c.args.look.now.conn)
    (state g.S.Store c.loop-one.look.conn) (state g.S.Store c.take_one.new.look.conn) c.in-Err.fault c.in-Err.ensures.fails
    (λ mid (z, there). (before z, c.loop-one.invariant.turned.turns (c.in-Err.ensures.widens.clean read) mid z there)) (c.in-Err.ensures.fault read)

pub take_one-requires-clause-made : goal.take_one-requires-clause-made
take_one-requires-clause-made g c =
    let seen = (g.C.Contents.file c.args.look.now.contents).contents.seen in
    let made = c.made_for-made.result in
    subst (λ bytes. AreMadeOf bytes made.at made.bytes.now made.pieces.now) (sym c.loop-one.invariant.widens.contents.seen)
    (c.made_for-made.ensures seen (made_at_place seen c.args.group.now (map (λ v. v.items) c.args.made.now) c.loop-one.i c.loop-one.one-index _ c.made_at.result.now
    c.loop-one.invariant.at c.loop-one-test.true (λ low. c.made_at.ensures.there (omega (arith, low, length-map c.args.made.now (λ v. v.items))))
    (λ high. c.made_at.ensures.none (omega (arith, high, length-map c.args.made.now (λ v. v.items)))) c.requires.made))

-- ---- a group of which none is kept only reads

pub returns-in-Err-clause-reads : goal.returns-in-Err-clause-reads
returns-in-Err-clause-reads g c = λ none.
    read_then (g.C.Contents.file c.args.look.now.contents) (g.C.Contents.file c.loop-one.look.contents) (g.C.Contents.file c.take_one.new.look.contents)
    (c.loop-one.invariant.reads none)
    (c.in-Err.ensures.reads (seen_at (tree_of c.args.profile).service c.args.group.now c.loop-one.one-index _ c.loop-one-test.true none))

pub returns-in_err-push-clause-reads : goal.returns-in_err-push-clause-reads
returns-in_err-push-clause-reads g c = λ none.
    read_then (g.C.Contents.file c.args.look.now.contents) (g.C.Contents.file c.loop-one.look.contents) (g.C.Contents.file c.take_one.new.look.contents)
    (c.loop-one.invariant.reads none)
    (c.in-Ok.ensures.reads (seen_at (tree_of c.args.profile).service c.args.group.now c.loop-one.one-index _ c.loop-one-test.true none))
