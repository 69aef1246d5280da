use Rattle.std.proofs.Common.{refl, ap, sym, subst, None}
use Rattle.sqlite.specs.Held.{state}
use Rattle.fuse_tree.specs.Rowed.{rowed}
use Rattle.fuse_store_tables.specs.Moves.{IsReady}
use Rattle.fuse_store_tree.specs.Holding.{store_of}
use Rattle.fuse_store_tree.specs.Knowing.{knowing, HeldForKnown}
use Rattle.fuse_store_tree.specs.Group.{done_newly}
use Rattle.fuse_store_tree.proofs.Changes.{sees_before}
use Rattle.fuse_store_tree.proofs.Turning.{told_in}
use Rattle.fuse_store_tree.proofs.KnownSteps.{held_for}
use Rattle.fuse_store_tree.proofs.Overs.{turned_over_of}
use Rattle.fuse_store_tree.proofs.Records.{looked_on}
use Rattle.fuse_store_tree.proofs.Sure.{no_plan, no_plan_plain}
use Rattle.fuse_store_tree.proofs.request.see_one.Goals as goal

pub returns-in-Ok-clause-reads : goal.returns-in-Ok-clause-reads
returns-in-Ok-clause-reads g c = (c.in-Ok.ensures.looks (refl {a = None})).file

pub returns-in-Err-clause-reads : goal.returns-in-Err-clause-reads
returns-in-Err-clause-reads g c = rw c.take_fault.ensures.contents c.in-Err.ensures.fails.file

pub returns-in-Ok-clause-turned : goal.returns-in-Ok-clause-turned
returns-in-Ok-clause-turned g c =
    let looks = c.in-Ok.ensures.looks (refl {a = None}) in
    let a = state g.S.Store c.args.look.now.conn in
    let b = state g.S.Store c.plan.new.look.conn in
    let m = c.args.look.now.known in
    let n = c.plan.new.look.known in
    let w = g.C.Contents.file c.plan.new.look.contents in
    turned_over_of (g.C.Contents.file c.args.look.now.contents) w m n (λ y. y) a b looks.file
    (looked_on w m n a b looks.looked (λ clean. looks.knows clean w.bytes))

pub returns-in-Ok-clause-done : goal.returns-in-Ok-clause-done
returns-in-Ok-clause-done g c = λ clean read y at.
    let a = state g.S.Store c.args.look.now.conn in
    let bytes = (g.C.Contents.file c.args.look.now.contents).bytes in
    let held = held_for bytes c.args.look.now.known y a at in
    ap done_newly (c.in-Ok.ensures.meets (clean, read) y.tree held.holds.tree
    (((store_of y, told_in bytes y a held, refl), at.holds.1), λ is_rowed. tt)).answer

pub returns-in-Err-clause-fails : goal.returns-in-Err-clause-fails
returns-in-Err-clause-fails g c = rw c.take_fault.ensures.conn c.in-Err.ensures.fails.stays

pub returns-in-Err-clause-fault : goal.returns-in-Err-clause-fault
returns-in-Err-clause-fault g c =
    let a = state g.S.Store c.args.look.now.conn in
    let f = g.C.Contents.file c.args.look.now.contents in
    let w = g.C.Contents.file c.plan.new.look.contents in
    let m = c.args.look.now.known in
    rw (c.take_fault.ensures.conn, c.take_fault.ensures.contents, c.fault_of_plan.ensures, c.take_fault.ensures.was)
    (λ read clean ready. no_plan c.in-Err.fault c.args.look.now.fault c.plan.new.look.fault (knowing m a f)
    (knowing c.plan.new.look.known (state g.S.Store c.plan.new.look.conn) w) c.requires.ready c.in-Err.ensures.fault c.in-Err.ensures.fails
    (λ not_tree clean read s tree sees. c.in-Err.ensures.not_a_tree not_tree (clean, read) s tree
    (sees_before f w m a (rowed s) c.in-Err.ensures.fails.file sees, λ is_rowed. tt)) clean read
    (subst (λ bytes. IsReady (HeldForKnown bytes m) a) (sym c.in-Err.ensures.fails.file.same) ready))

pub returns-in-Err-clause-plain : goal.returns-in-Err-clause-plain
returns-in-Err-clause-plain g c =
    rw (c.fault_of_plan.ensures, c.take_fault.ensures.was)
    (no_plan_plain c.in-Err.fault c.args.look.now.fault c.plan.new.look.fault
    (knowing c.args.look.now.known (state g.S.Store c.args.look.now.conn) (g.C.Contents.file c.args.look.now.contents))
    (knowing c.plan.new.look.known (state g.S.Store c.plan.new.look.conn) (g.C.Contents.file c.plan.new.look.contents))
    c.requires.ready c.in-Err.ensures.fails)
