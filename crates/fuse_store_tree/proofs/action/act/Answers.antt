use Rattle.std.proofs.Common.{refl, sym, subst, None}
use Rattle.sqlite.specs.Held.{state}
use Rattle.fuse_request.specs.Act.{asked}
use Rattle.fuse_tree.specs.Do.{done}
use Rattle.fuse_tree.specs.Rowed.{rowed}
use Rattle.fuse_store_tables.specs.Moves.{IsReady}
use Rattle.fuse_store_tree.specs.Store.{Held}
use Rattle.fuse_store_tree.specs.inner.Preparing.{AreMadeOf}
use Rattle.fuse_store_tree.specs.Knowing.{knowing, HeldForKnown}
use Rattle.fuse_store_tree.proofs.Changes.{acted, acted_keeps, acted_sure, sees_before}
use Rattle.fuse_store_tree.proofs.Overs.{widens_of, widens_then}
use Rattle.fuse_store_tree.proofs.AtSize.{trees_then}
use Rattle.fuse_store_tree.proofs.KnownSteps.{ready_for_known, held_for}
use Rattle.fuse_store_tables.specs.inner.Following.{earlier, inside_then}
use Rattle.fuse_store_tree.specs.inner.Laws.{looked_ready, looked_fails, read_then}
use Rattle.fuse_store_tree.specs.Holding.{store_of}
use Rattle.fuse_store_tree.proofs.Turning.{told_in}
use Rattle.fuse_store_tree.proofs.Sure.{no_plan, no_plan_plain, ready_held}
use Rattle.fuse_store_tree.proofs.action.act.Goals as goal

-- ---- the data file

pub returns-in-Ok-make_all-clause-widens : goal.returns-in-Ok-make_all-clause-widens
returns-in-Ok-make_all-clause-widens g c =
    let f = g.C.Contents.file c.args.look.now.contents in
    let seen = g.C.Contents.file c.plan.new.look.contents in
    let h = g.C.Contents.file c.clear_gap.new.contents in
    widens_then f h (g.C.Contents.file c.make_all.new.contents)
    (widens_of f h (read_then f seen h (c.in-Ok.ensures.looks (refl {a = None})).file c.in-Ok-clear_gap.ensures.reads)) c.in-Ok-make_all.ensures.widens

pub returns-in-Err-make_all-clause-widens : goal.returns-in-Err-make_all-clause-widens
returns-in-Err-make_all-clause-widens g c =
    let f = g.C.Contents.file c.args.look.now.contents in
    let seen = g.C.Contents.file c.plan.new.look.contents in
    let h = g.C.Contents.file c.clear_gap.new.contents in
    widens_then f h (g.C.Contents.file c.make_all.new.contents)
    (widens_of f h (read_then f seen h (c.in-Ok.ensures.looks (refl {a = None})).file c.in-Ok-clear_gap.ensures.reads)) c.in-Err-make_all.ensures.widens

pub returns-in-Err-clear_gap-clause-widens : goal.returns-in-Err-clear_gap-clause-widens
returns-in-Err-clear_gap-clause-widens g c =
    let f = g.C.Contents.file c.args.look.now.contents in
    let seen = g.C.Contents.file c.plan.new.look.contents in
    let h = g.C.Contents.file c.clear_gap.new.contents in
    widens_of f h (read_then f seen h (c.in-Ok.ensures.looks (refl {a = None})).file c.in-Err-clear_gap.ensures.reads)

pub returns-in-Err-clause-widens : goal.returns-in-Err-clause-widens
returns-in-Err-clause-widens g c =
    rw c.take_fault.ensures.contents (widens_of (g.C.Contents.file c.args.look.now.contents) (g.C.Contents.file c.plan.new.look.contents) c.in-Err.ensures.fails.file)

-- ---- the tables

pub returns-in-Ok-make_all-clause-acts : goal.returns-in-Ok-make_all-clause-acts
returns-in-Ok-make_all-clause-acts g c = λ s tree.
    let a = state g.S.Store c.args.look.now.conn in
    let b = state g.S.Store c.plan.new.look.conn in
    let d = state g.S.Store c.clear_gap.new.conn in
    let f = g.C.Contents.file c.args.look.now.contents in
    let seen = g.C.Contents.file c.plan.new.look.contents in
    let h = g.C.Contents.file c.clear_gap.new.contents in
    let looks = c.in-Ok.ensures.looks (refl {a = None}) in
    let leaves = c.in-Ok-clear_gap.ensures.same in
    let reads = read_then f seen h looks.file c.in-Ok-clear_gap.ensures.reads in
    acted f h (g.C.Contents.file c.make_all.new.contents) c.args.look.now.known c.plan.new.look.known a d reads (trees_then h a b d looks.looked leaves)
    (λ mid. looks.knows (earlier b d _ leaves.stays.survives mid) h.bytes) c.in-Ok-make_all.ensures.widens.clean
    c.in-Ok-make_all.known (state g.S.Store c.make_all.new.conn) s c.in-Ok.planned (done s (asked c.args.request.now) c.args.now) tree
    (c.tree_kept.ensures s (asked c.args.request.now) c.args.now tree).1
    (rw c.as_slice-changes.ensures at c.in-Ok-make_all.ensures.changed)
    (λ mid read sees. c.in-Ok.ensures.meets (earlier b d _ leaves.stays.survives mid, c.in-Ok-clear_gap.ensures.reads.clean read) s tree
    (sees_before f h c.args.look.now.known a (rowed s) reads sees, λ is_rowed. tt))

pub returns-in-Ok-make_all-clause-keeps : goal.returns-in-Ok-make_all-clause-keeps
returns-in-Ok-make_all-clause-keeps g c =
    let a = state g.S.Store c.args.look.now.conn in
    let b = state g.S.Store c.plan.new.look.conn in
    let d = state g.S.Store c.clear_gap.new.conn in
    let f = g.C.Contents.file c.args.look.now.contents in
    let seen = g.C.Contents.file c.plan.new.look.contents in
    let h = g.C.Contents.file c.clear_gap.new.contents in
    let looks = c.in-Ok.ensures.looks (refl {a = None}) in
    let leaves = c.in-Ok-clear_gap.ensures.same in
    acted_keeps f h h c.args.look.now.known c.plan.new.look.known a d (read_then f seen h looks.file c.in-Ok-clear_gap.ensures.reads)
    (trees_then h a b d looks.looked leaves) (λ mid. looks.knows (earlier b d _ leaves.stays.survives mid) h.bytes) (state g.S.Store c.make_all.new.conn)
    c.in-Ok-make_all.ensures.changed.stays

pub returns-in-Err-make_all-clause-keeps : goal.returns-in-Err-make_all-clause-keeps
returns-in-Err-make_all-clause-keeps g c =
    let a = state g.S.Store c.args.look.now.conn in
    let b = state g.S.Store c.plan.new.look.conn in
    let d = state g.S.Store c.clear_gap.new.conn in
    let f = g.C.Contents.file c.args.look.now.contents in
    let seen = g.C.Contents.file c.plan.new.look.contents in
    let h = g.C.Contents.file c.clear_gap.new.contents in
    let looks = c.in-Ok.ensures.looks (refl {a = None}) in
    let leaves = c.in-Ok-clear_gap.ensures.same in
    acted_keeps f h h c.args.look.now.known c.plan.new.look.known a d (read_then f seen h looks.file c.in-Ok-clear_gap.ensures.reads)
    (trees_then h a b d looks.looked leaves) (λ mid. looks.knows (earlier b d _ leaves.stays.survives mid) h.bytes) (state g.S.Store c.make_all.new.conn)
    c.in-Err-make_all.ensures.fails

pub returns-in-Ok-make_all-clause-within : goal.returns-in-Ok-make_all-clause-within
returns-in-Ok-make_all-clause-within g c =
    let a = state g.S.Store c.args.look.now.conn in
    let d = state g.S.Store c.clear_gap.new.conn in
    let made = c.in-Ok-make_all.ensures.changed in
    inside_then a d (state g.S.Store c.make_all.new.conn)
    (trees_then (g.C.Contents.file c.clear_gap.new.contents) a (state g.S.Store c.plan.new.look.conn) d (c.in-Ok.ensures.looks (refl {a = None})).looked
    c.in-Ok-clear_gap.ensures.same).within
    made.stays.survives made.within

pub returns-in-Err-clear_gap-clause-keeps : goal.returns-in-Err-clear_gap-clause-keeps
returns-in-Err-clear_gap-clause-keeps g c =
    let a = state g.S.Store c.args.look.now.conn in
    let d = state g.S.Store c.clear_gap.new.conn in
    looked_fails a (state g.S.Store c.plan.new.look.conn) d (c.in-Ok.ensures.looks (refl {a = None})).looked c.in-Err-clear_gap.ensures.fails

pub returns-in-Err-clear_gap-clause-sure : goal.returns-in-Err-clear_gap-clause-sure
returns-in-Err-clear_gap-clause-sure g c read clean at =
    let a = state g.S.Store c.args.look.now.conn in
    let b = state g.S.Store c.plan.new.look.conn in
    let f = g.C.Contents.file c.args.look.now.contents in
    let seen = g.C.Contents.file c.plan.new.look.contents in
    let h = g.C.Contents.file c.clear_gap.new.contents in
    let looks = c.in-Ok.ensures.looks (refl {a = None}) in
    let mid = earlier b (state g.S.Store c.clear_gap.new.conn) _ c.in-Err-clear_gap.ensures.fails.survives clean in
    let ready = ready_for_known f.bytes c.args.look.now.known a at in
    c.in-Err-clear_gap.ensures.fault read clean
    (subst (λ bytes. IsReady (Held bytes) b) (sym (read_then f seen h looks.file c.in-Err-clear_gap.ensures.reads).same)
    (ready_held f.bytes b (looked_ready a b looks.looked mid f.bytes ready)))

pub returns-in-Err-clause-keeps : goal.returns-in-Err-clause-keeps
returns-in-Err-clause-keeps g c =
    rw c.take_fault.ensures.conn c.in-Err.ensures.fails.stays

pub returns-in-Err-make_all-clause-sure : goal.returns-in-Err-make_all-clause-sure
returns-in-Err-make_all-clause-sure g c read clean (y, at) =
    let a = state g.S.Store c.args.look.now.conn in
    let b = state g.S.Store c.plan.new.look.conn in
    let d = state g.S.Store c.clear_gap.new.conn in
    let e = state g.S.Store c.make_all.new.conn in
    let f = g.C.Contents.file c.args.look.now.contents in
    let seen = g.C.Contents.file c.plan.new.look.contents in
    let h = g.C.Contents.file c.clear_gap.new.contents in
    let m = c.args.look.now.known in
    let leaves = c.in-Ok-clear_gap.ensures.same in
    let late = earlier d e _ c.in-Err-make_all.ensures.fails.survives clean in
    let mid = earlier b d _ leaves.stays.survives late in
    let looks = c.in-Ok.ensures.looks (refl {a = None}) in
    let was = c.in-Err-make_all.ensures.widens.clean read in
    let meets = c.in-Ok.ensures.meets (mid, c.in-Ok-clear_gap.ensures.reads.clean was) y.tree at.holds.0.tree
    (((store_of y, told_in f.bytes y a (held_for f.bytes m y a at), refl), at.holds.1), λ is_rowed. tt) in
    acted_sure f h h m c.plan.new.look.known a d (read_then f seen h looks.file c.in-Ok-clear_gap.ensures.reads) (trees_then h a b d looks.looked leaves)
    (λ first. looks.knows (earlier b d _ leaves.stays.survives first) h.bytes)
    e c.in-Err-make_all.fault c.in-Err-make_all.ensures.fails was ((rw c.as_slice-changes.ensures at c.in-Err-make_all.ensures.fault) meets.fits read) clean (y, at)

pub returns-in-Err-clause-sure : goal.returns-in-Err-clause-sure
returns-in-Err-clause-sure g c =
    let a = state g.S.Store c.args.look.now.conn in
    let f = g.C.Contents.file c.args.look.now.contents in
    let w = g.C.Contents.file c.plan.new.look.contents in
    let m = c.args.look.now.known in
    rw (c.take_fault.ensures.conn, c.take_fault.ensures.contents, c.fault_of_plan.ensures, c.take_fault.ensures.was)
    (λ read clean ready. no_plan c.in-Err.fault c.args.look.now.fault c.plan.new.look.fault (knowing m a f)
    (knowing c.plan.new.look.known (state g.S.Store c.plan.new.look.conn) w) c.requires.ready c.in-Err.ensures.fault c.in-Err.ensures.fails
    (λ not_tree clean read s tree sees. c.in-Err.ensures.not_a_tree not_tree (clean, read) s tree
    (sees_before f w m a (rowed s) c.in-Err.ensures.fails.file sees, λ is_rowed. tt)) clean read
    (subst (λ bytes. IsReady (HeldForKnown bytes m) a) (sym c.in-Err.ensures.fails.file.same) ready))

pub returns-in-Err-clause-plain : goal.returns-in-Err-clause-plain
returns-in-Err-clause-plain g c =
    rw (c.fault_of_plan.ensures, c.take_fault.ensures.was)
    (no_plan_plain c.in-Err.fault c.args.look.now.fault c.plan.new.look.fault
    (knowing c.args.look.now.known (state g.S.Store c.args.look.now.conn) (g.C.Contents.file c.args.look.now.contents))
    (knowing c.plan.new.look.known (state g.S.Store c.plan.new.look.conn) (g.C.Contents.file c.plan.new.look.contents))
    c.requires.ready c.in-Err.ensures.fails)

pub make_all-requires : goal.make_all-requires
make_all-requires g c =
    let f = g.C.Contents.file c.args.look.now.contents in
    let seen = g.C.Contents.file c.plan.new.look.contents in
    let h = g.C.Contents.file c.clear_gap.new.contents in
    let made = c.args.made.now in
    let reads = read_then f seen h (c.in-Ok.ensures.looks (refl {a = None})).file c.in-Ok-clear_gap.ensures.reads in
    subst (λ bytes. AreMadeOf bytes made.at made.bytes.now made.pieces.now) (sym reads.contents.seen) c.requires.made
