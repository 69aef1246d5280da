use Rattle.std.proofs.Common.{◌≡◌, subst}
use Rattle.sqlite.specs.Held.{state}
use Rattle.fuse_keeper.specs.Group.{entries_of}
use Rattle.fuse_tree.specs.TheTree.{tree_of}
use Rattle.fuse_store_tables.specs.inner.Following.{earlier}
use Rattle.fuse_store_tree.specs.Group.{with_group, dones_of}
use Rattle.fuse_store_tables.specs.Moves.{IsReady}
use Rattle.fuse_store_tree.specs.Knowing.{HeldForKnown}
use Rattle.fuse_store_tree.specs.inner.Knowing.{InsideKnown}
use Rattle.fuse_store_tree.proofs.Overs.{turned_known_of}
use Rattle.fuse_store_tree.proofs.Groups.{group_seen}
use Rattle.fuse_store_tree.proofs.Whole.{begun_for, begins_nothing, nothing_for, nothing_then, gone_back, seen_back, failed_nothing, open_back, open_nothing, told_back}
use Rattle.fuse_store_tree.proofs.seeing.see_inside.Goals as goal

pub returns-in-Err-clause-nothing : goal.returns-in-Err-clause-nothing
returns-in-Err-clause-nothing g c = begins_nothing (state g.S.Store c.args.look.now.conn) (state g.S.Store c.begin.new.conn) _ c.in-Err.ensures

pub returns-in-Err-clause-performs : goal.returns-in-Err-clause-performs
returns-in-Err-clause-performs g c = λ read.
    failed_nothing (g.C.Contents.file c.args.look.now.contents) c.args.look.now.known c.args.look.now.known (state g.S.Store c.args.look.now.conn) (state g.S.Store c.begin.new.conn) c.from.result
    (returns-in-Err-clause-nothing g c)

pub returns-in-Err-clause-open : goal.returns-in-Err-clause-open
returns-in-Err-clause-open g c =
    open_nothing (state g.S.Store c.args.look.now.conn) (state g.S.Store c.begin.new.conn) c.from.result (returns-in-Err-clause-nothing g c)

pub returns-in-Err-take_all-clause-nothing : goal.returns-in-Err-take_all-clause-nothing
returns-in-Err-take_all-clause-nothing g c =
    nothing_for (state g.S.Store c.args.look.now.conn) (state g.S.Store c.begin.new.conn) (state g.S.Store c.take_all.new.look.conn) _ c.in-Ok.ensures
    c.in-Err-take_all.ensures.fails

pub returns-in-Err-take_all-clause-performs : goal.returns-in-Err-take_all-clause-performs
returns-in-Err-take_all-clause-performs g c = λ read.
    failed_nothing (g.C.Contents.file c.take_all.new.look.contents) c.args.look.now.known c.take_all.new.look.known (state g.S.Store c.args.look.now.conn) (state g.S.Store c.take_all.new.look.conn)
    c.in-Err-take_all.fault (returns-in-Err-take_all-clause-nothing g c)

pub returns-in-Err-take_all-clause-open : goal.returns-in-Err-take_all-clause-open
returns-in-Err-take_all-clause-open g c =
    open_nothing (state g.S.Store c.args.look.now.conn) (state g.S.Store c.take_all.new.look.conn) c.in-Err-take_all.fault
    (returns-in-Err-take_all-clause-nothing g c)

pub returns-in-Err-take_all-clause-fault : goal.returns-in-Err-take_all-clause-fault
returns-in-Err-take_all-clause-fault g c = λ read clean y at.
    let b = state g.S.Store c.begin.new.conn in
    let mid = earlier b (state g.S.Store c.take_all.new.look.conn) _ c.in-Err-take_all.ensures.fails.survives clean in
    let w = g.C.Contents.file c.take_all.new.look.contents in
    let m = c.args.look.now.known in
    c.in-Err-take_all.ensures.fault read clean (subst (λ bytes. IsReady (HeldForKnown bytes m) b) (c.in-Err-take_all.ensures.reads c.requires.seen).same
    (y, begun_for w m (state g.S.Store c.args.look.now.conn) b _ c.in-Ok.ensures mid y at))

pub returns-in-Ok-go_back-clause-nothing : goal.returns-in-Ok-go_back-clause-nothing
returns-in-Ok-go_back-clause-nothing g c =
    let a = state g.S.Store c.args.look.now.conn in
    let d = state g.S.Store c.take_all.new.look.conn in
    nothing_then a d (state g.S.Store c.go_back.new.conn)
    (nothing_for a (state g.S.Store c.begin.new.conn) d _ c.in-Ok.ensures c.in-Ok-take_all.ensures.turned.stays) c.in-Ok-go_back.ensures.commits

pub returns-in-Err-go_back-clause-nothing : goal.returns-in-Err-go_back-clause-nothing
returns-in-Err-go_back-clause-nothing g c =
    let a = state g.S.Store c.args.look.now.conn in
    let d = state g.S.Store c.take_all.new.look.conn in
    nothing_then a d (state g.S.Store c.go_back.new.conn)
    (nothing_for a (state g.S.Store c.begin.new.conn) d _ c.in-Ok.ensures c.in-Ok-take_all.ensures.turned.stays) c.in-Err-go_back.ensures.commits

pub returns-in-Err-go_back-clause-performs : goal.returns-in-Err-go_back-clause-performs
returns-in-Err-go_back-clause-performs g c = λ read.
    failed_nothing (g.C.Contents.file c.take_all.new.look.contents) c.args.look.now.known c.take_all.new.look.known (state g.S.Store c.args.look.now.conn) (state g.S.Store c.go_back.new.conn)
    c.from-in-Err-go_back.result (returns-in-Err-go_back-clause-nothing g c)

pub returns-in-Err-go_back-clause-open : goal.returns-in-Err-go_back-clause-open
returns-in-Err-go_back-clause-open g c =
    open_nothing (state g.S.Store c.args.look.now.conn) (state g.S.Store c.go_back.new.conn) c.from-in-Err-go_back.result
    (returns-in-Err-go_back-clause-nothing g c)

pub returns-in-Ok-go_back-clause-performs : goal.returns-in-Ok-go_back-clause-performs
returns-in-Ok-go_back-clause-performs g c = λ read.
    let V = (tree_of c.args.profile).service in
    let es = entries_of c.args.group.now in
    let w = g.C.Contents.file c.take_all.new.look.contents in
    seen_back w c.args.look.now.known c.take_all.new.look.known (with_group V 0 es) (state g.S.Store c.args.look.now.conn) (state g.S.Store c.begin.new.conn)
    (state g.S.Store c.take_all.new.look.conn) (state g.S.Store c.go_back.new.conn) _ _ c.in-Ok-take_all.dones (λ z. group_seen V 0 es z c.requires.seen)
    c.in-Ok.ensures read
    (turned_known_of (g.C.Contents.file c.args.look.now.contents) w c.args.look.now.known c.take_all.new.look.known (with_group V 0 es)
    (state g.S.Store c.begin.new.conn) (state g.S.Store c.take_all.new.look.conn) (c.in-Ok-take_all.ensures.reads c.requires.seen) c.in-Ok-take_all.ensures.turned)
    c.in-Ok-go_back.ensures

pub returns-in-Ok-go_back-clause-open : goal.returns-in-Ok-go_back-clause-open
returns-in-Ok-go_back-clause-open g c =
    let a = state g.S.Store c.args.look.now.conn in
    let d = state g.S.Store c.take_all.new.look.conn in
    open_back a d (state g.S.Store c.go_back.new.conn) _ c.in-Ok-take_all.dones
    (nothing_for a (state g.S.Store c.begin.new.conn) d _ c.in-Ok.ensures c.in-Ok-take_all.ensures.turned.stays) c.in-Ok-go_back.ensures

pub returns-in-Ok-go_back-clause-alone : goal.returns-in-Ok-go_back-clause-alone
returns-in-Ok-go_back-clause-alone g c =
    let a = state g.S.Store c.args.look.now.conn in
    let d = state g.S.Store c.take_all.new.look.conn in
    gone_back a d (state g.S.Store c.go_back.new.conn) _
    (nothing_for a (state g.S.Store c.begin.new.conn) d _ c.in-Ok.ensures c.in-Ok-take_all.ensures.turned.stays) c.in-Ok-go_back.ensures

pub returns-in-Ok-go_back-clause-dones : goal.returns-in-Ok-go_back-clause-dones
returns-in-Ok-go_back-clause-dones g c = λ read.
    told_back (g.C.Contents.file c.take_all.new.look.contents) c.args.look.now.known (λ y. c.in-Ok-take_all.dones.items ≡ dones_of (tree_of c.args.profile).service 0 (entries_of c.args.group.now) y)
    (state g.S.Store c.args.look.now.conn) (state g.S.Store c.begin.new.conn) (state g.S.Store c.take_all.new.look.conn)
    (state g.S.Store c.go_back.new.conn) _ _ c.in-Ok.ensures c.in-Ok-take_all.ensures.turned.stays (λ clean z at. c.in-Ok-take_all.ensures.dones clean read z
    (subst (λ bytes. InsideKnown bytes c.args.look.now.known z (state g.S.Store c.begin.new.conn)) (c.in-Ok-take_all.ensures.reads c.requires.seen).same at))
    c.in-Ok-go_back.ensures

pub returns-in-Err-take_all-clause-reads : goal.returns-in-Err-take_all-clause-reads
returns-in-Err-take_all-clause-reads g c = c.in-Err-take_all.ensures.reads c.requires.seen

pub returns-in-Err-go_back-clause-reads : goal.returns-in-Err-go_back-clause-reads
returns-in-Err-go_back-clause-reads g c = c.in-Ok-take_all.ensures.reads c.requires.seen

pub returns-in-Ok-go_back-clause-reads : goal.returns-in-Ok-go_back-clause-reads
returns-in-Ok-go_back-clause-reads g c = c.in-Ok-take_all.ensures.reads c.requires.seen
