use Rattle.std.proofs.Common.{◌≡◌, [], cond, true, false, sym, ap, ◌∙◌, Ok, Err}
use Rattle.sqlite.specs.Held.{state}
use Rattle.fuse_keeper.specs.Group.{ids_of, entries_of}
use Rattle.fuse_keeper.specs.History.{kept_of}
use Rattle.fuse_tree.specs.TheTree.{tree_of}
use Rattle.fuse_store_tree.specs.Group.{keeps_nothing, transacted, performed, all_dones}
use Rattle.fuse_store_tree.specs.StoreState.{store_in}
use Rattle.fuse_store_tree.specs.Viewing.{shown, view_in}
use Rattle.fuse_store_tree.proofs.Resting.{seen_served, seen_failed, seen_told, seen_sound, usable_seen, unusable_seen, store_as, store_fails_as}
use Rattle.fuse_store_tree.proofs.Settled.{nothing_kept, seen_dones}
use Rattle.fuse_store_tree.proofs.Whole.{alone_once}
use Rattle.fuse_store_tree.proofs.transaction.perform.Goals as goal

-- ---- where nothing is to be kept

pub returns-in-Ok-clause-serves : goal.returns-in-Ok-clause-serves
returns-in-Ok-clause-serves g c =
    let V = (tree_of c.args.profile).service in
    let ids = ids_of c.args.settled.now in
    let es = entries_of c.args.group.now in
    let none : keeps_nothing (kept_of V es) ids ≡ true = sym c.only_sees.ensures ∙ c.if-only_sees.true in
    let empty : c.new.result.items ≡ [] = search in
    let old = store_in g.S.Store g.D.Disk c.args.look.now.conn c.args.look.now.contents.file in
    seen_served c.args.look.now.known c.see_at_rest.new.look.known (performed V c.args.lot ids es) old
    (store_in g.S.Store g.D.Disk c.see_at_rest.new.look.conn c.see_at_rest.new.look.contents.file) (view_in g.D.Disk c.see_at_rest.new.look.contents).bytes
    (g.met.S.Store.settled c.args.look.now.conn.store) c.in-Ok.ensures.reads.contents
    (c.in-Ok.ensures.reads.same ∙ ap (λ l. shown old.contents.gaps l old.contents.seen) empty) c.in-Ok.ensures.alone
    (λ z. ap (λ b. cond b z (transacted V c.args.lot ids es z)) none) c.in-Ok.dones _ c.in-Ok.ensures.serves

pub returns-in-Err-clause-serves : goal.returns-in-Err-clause-serves
returns-in-Err-clause-serves g c =
    let V = (tree_of c.args.profile).service in
    let ids = ids_of c.args.settled.now in
    let es = entries_of c.args.group.now in
    let none : keeps_nothing (kept_of V es) ids ≡ true = sym c.only_sees.ensures ∙ c.if-only_sees.true in
    let empty : c.new.result.items ≡ [] = search in
    let old = store_in g.S.Store g.D.Disk c.args.look.now.conn c.args.look.now.contents.file in
    seen_failed c.args.look.now.known c.see_at_rest.new.look.known (performed V c.args.lot ids es) old
    (store_in g.S.Store g.D.Disk c.see_at_rest.new.look.conn c.see_at_rest.new.look.contents.file) (view_in g.D.Disk c.see_at_rest.new.look.contents).bytes
    (g.met.S.Store.settled c.args.look.now.conn.store) c.in-Err.ensures.reads.contents
    (c.in-Err.ensures.reads.same ∙ ap (λ l. shown old.contents.gaps l old.contents.seen) empty) c.in-Err.ensures.alone
    (λ z. ap (λ b. cond b z (transacted V c.args.lot ids es z)) none) c.in-Err.fault c.in-Err.fault c.in-Err.ensures.serves

pub returns-in-Ok-clause-usable : goal.returns-in-Ok-clause-usable
returns-in-Ok-clause-usable g c =
    usable_seen (store_in g.S.Store g.D.Disk c.args.look.now.conn c.args.look.now.contents.file)
    (store_in g.S.Store g.D.Disk c.see_at_rest.new.look.conn c.see_at_rest.new.look.contents.file) c.in-Ok.dones _ c.in-Ok.ensures.reads.contents c.in-Ok.ensures.open

pub returns-in-Err-clause-usable : goal.returns-in-Err-clause-usable
returns-in-Err-clause-usable g c =
    unusable_seen (store_in g.S.Store g.D.Disk c.args.look.now.conn c.args.look.now.contents.file)
    (store_in g.S.Store g.D.Disk c.see_at_rest.new.look.conn c.see_at_rest.new.look.contents.file) c.in-Err.fault c.in-Err.fault c.in-Err.ensures.reads.contents c.in-Err.ensures.open

pub returns-in-Ok-clause-dones : goal.returns-in-Ok-clause-dones
returns-in-Ok-clause-dones g c =
    let V = (tree_of c.args.profile).service in
    let ids = ids_of c.args.settled.now in
    let es = entries_of c.args.group.now in
    let none : keeps_nothing (kept_of V es) ids ≡ true = sym c.only_sees.ensures ∙ c.if-only_sees.true in
    let kept = nothing_kept (kept_of V es) ids none in
    let empty : c.new.result.items ≡ [] = search in
    let old = store_in g.S.Store g.D.Disk c.args.look.now.conn c.args.look.now.contents.file in
    seen_told c.args.look.now.known c.see_at_rest.new.look.known (performed V c.args.lot ids es) old
    (store_in g.S.Store g.D.Disk c.see_at_rest.new.look.conn c.see_at_rest.new.look.contents.file) (view_in g.D.Disk c.see_at_rest.new.look.contents).bytes
    (g.met.S.Store.settled c.args.look.now.conn.store) c.in-Ok.ensures.reads.contents
    (c.in-Ok.ensures.reads.same ∙ ap (λ l. shown old.contents.gaps l old.contents.seen) empty) c.in-Ok.ensures.alone
    (λ z. ap (λ b. cond b z (transacted V c.args.lot ids es z)) none)
    (λ y. c.in-Ok.dones.items ≡ all_dones V c.args.lot ids es y)
    (λ read clean y at. c.in-Ok.ensures.dones read clean y at ∙ sym (seen_dones V c.args.lot 0 ids es y kept.0))

pub returns-in-Err-clause-sound : goal.returns-in-Err-clause-sound
returns-in-Err-clause-sound g c = λ nothing.
    let V = (tree_of c.args.profile).service in
    let ids = ids_of c.args.settled.now in
    let es = entries_of c.args.group.now in
    let none : keeps_nothing (kept_of V es) ids ≡ true = sym c.only_sees.ensures ∙ c.if-only_sees.true in
    let empty : c.new.result.items ≡ [] = search in
    let old = store_in g.S.Store g.D.Disk c.args.look.now.conn c.args.look.now.contents.file in
    seen_sound c.args.look.now.known c.see_at_rest.new.look.known (performed V c.args.lot ids es) old
    (store_in g.S.Store g.D.Disk c.see_at_rest.new.look.conn c.see_at_rest.new.look.contents.file) (view_in g.D.Disk c.see_at_rest.new.look.contents).bytes
    (g.met.S.Store.settled c.args.look.now.conn.store) c.in-Err.ensures.reads.contents
    (c.in-Err.ensures.reads.same ∙ ap (λ l. shown old.contents.gaps l old.contents.seen) empty) c.in-Err.ensures.alone
    (λ z. ap (λ b. cond b z (transacted V c.args.lot ids es z)) none) c.in-Err.fault c.in-Err.ensures.fault

pub returns-in-Err-clause-fault : goal.returns-in-Err-clause-fault
returns-in-Err-clause-fault g c = λ honest y at left.
    let V = (tree_of c.args.profile).service in
    let ids = ids_of c.args.settled.now in
    let es = entries_of c.args.group.now in
    let none : keeps_nothing (kept_of V es) ids ≡ true = sym c.only_sees.ensures ∙ c.if-only_sees.true in
    let empty : c.new.result.items ≡ [] = search in
    let old = store_in g.S.Store g.D.Disk c.args.look.now.conn c.args.look.now.contents.file in
    seen_sound c.args.look.now.known c.see_at_rest.new.look.known (performed V c.args.lot ids es) old
    (store_in g.S.Store g.D.Disk c.see_at_rest.new.look.conn c.see_at_rest.new.look.contents.file) (view_in g.D.Disk c.see_at_rest.new.look.contents).bytes
    (g.met.S.Store.settled c.args.look.now.conn.store) c.in-Err.ensures.reads.contents
    (c.in-Err.ensures.reads.same ∙ ap (λ l. shown old.contents.gaps l old.contents.seen) empty) c.in-Err.ensures.alone
    (λ z. ap (λ b. cond b z (transacted V c.args.lot ids es z)) none) c.in-Err.fault c.in-Err.ensures.fault honest y at

pub returns-in-Ok-clause-once : goal.returns-in-Ok-clause-once
returns-in-Ok-clause-once g c =
    alone_once (state g.S.Store c.args.look.now.conn) (state g.S.Store c.see_at_rest.new.look.conn) (Ok _) c.in-Ok.ensures.alone

pub returns-in-Err-clause-once : goal.returns-in-Err-clause-once
returns-in-Err-clause-once g c =
    alone_once (state g.S.Store c.args.look.now.conn) (state g.S.Store c.see_at_rest.new.look.conn) (Err c.in-Err.fault) c.in-Err.ensures.alone

pub returns-in-Ok-clause-reads : goal.returns-in-Ok-clause-reads
returns-in-Ok-clause-reads g c = λ nothing. c.in-Ok.ensures.reads.contents

pub returns-in-Err-clause-reads : goal.returns-in-Err-clause-reads
returns-in-Err-clause-reads g c = λ nothing. c.in-Err.ensures.reads.contents

-- ---- else it is a transaction

pub returns-in-Ok-commit_anew-clause-serves : goal.returns-in-Ok-commit_anew-clause-serves
returns-in-Ok-commit_anew-clause-serves g c =
    let V = (tree_of c.args.profile).service in
    let ids = ids_of c.args.settled.now in
    let es = entries_of c.args.group.now in
    let some : keeps_nothing (kept_of V es) ids ≡ false = sym c.only_sees.ensures ∙ c.if-only_sees.false in
    store_as c.args.look.now.known c.commit_anew.new.look.known (transacted V c.args.lot ids es) (performed V c.args.lot ids es)
    (store_in g.S.Store g.D.Disk c.args.look.now.conn c.args.look.now.contents.file)
    (store_in g.S.Store g.D.Disk c.commit_anew.new.look.conn c.commit_anew.new.look.contents.file) c.in-Ok-commit_anew.transacted _
    (λ z. ap (λ b. cond b z (transacted V c.args.lot ids es z)) (sym some)) c.in-Ok-commit_anew.ensures.serves

pub returns-in-Err-commit_anew-clause-serves : goal.returns-in-Err-commit_anew-clause-serves
returns-in-Err-commit_anew-clause-serves g c =
    let V = (tree_of c.args.profile).service in
    let ids = ids_of c.args.settled.now in
    let es = entries_of c.args.group.now in
    let some : keeps_nothing (kept_of V es) ids ≡ false = sym c.only_sees.ensures ∙ c.if-only_sees.false in
    store_fails_as c.args.look.now.known c.commit_anew.new.look.known (transacted V c.args.lot ids es) (performed V c.args.lot ids es)
    (store_in g.S.Store g.D.Disk c.args.look.now.conn c.args.look.now.contents.file)
    (store_in g.S.Store g.D.Disk c.commit_anew.new.look.conn c.commit_anew.new.look.contents.file) c.in-Err-commit_anew.fault
    (λ z. ap (λ b. cond b z (transacted V c.args.lot ids es z)) (sym some)) c.in-Err-commit_anew.ensures.serves
