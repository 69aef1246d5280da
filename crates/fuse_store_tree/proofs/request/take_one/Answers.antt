use Rattle.std.proofs.Common.{sym, ap, ◌∙◌}
use Rattle.sqlite.specs.Held.{state}
use Rattle.fuse_keeper.specs.Group.{entry_of}
use Rattle.fuse_tree.specs.TheTree.{tree_of}
use Rattle.fuse_store_tree.proofs.Steps.{on_ok}
use Rattle.fuse_store_tree.proofs.Looks.{map_ok}
use Rattle.fuse_store_tree.proofs.Overs.{widens_of}
use Rattle.fuse_store_tree.proofs.Records.{took_seen, done_seen}
use Rattle.fuse_store_tree.proofs.request.take_one.Goals as goal

pub returns-then-sees_requests-clause-turned : goal.returns-then-sees_requests-clause-turned
returns-then-sees_requests-clause-turned g c =
    let V = (tree_of c.args.profile).service in
    let seen = sym (ap V.sees c.opcode.ensures) ∙ sym c.sees_requests.ensures ∙ c.if-sees_requests.true in
    on_ok c.see_one.result _ _ (took_seen (g.C.Contents.file c.args.look.now.contents) (g.C.Contents.file c.see_one.new.look.contents) V c.args.look.now.known c.see_one.new.look.known c.args.lot (entry_of (c.args.request.now, c.args.now))
    (state g.S.Store c.args.look.now.conn) (state g.S.Store c.see_one.new.look.conn) seen) c.see_one.ensures.turned

pub returns-then-sees_requests-clause-done : goal.returns-then-sees_requests-clause-done
returns-then-sees_requests-clause-done g c = λ clean read.
    let V = (tree_of c.args.profile).service in
    let seen = sym (ap V.sees c.opcode.ensures) ∙ sym c.sees_requests.ensures ∙ c.if-sees_requests.true in
    map_ok c.see_one.result _ _ (λ done told y at. told y at ∙ done_seen V c.args.lot (entry_of (c.args.request.now, c.args.now)) y seen)
    (c.see_one.ensures.done clean read)

pub returns-then-sees_requests-clause-widens : goal.returns-then-sees_requests-clause-widens
returns-then-sees_requests-clause-widens g c =
    widens_of (g.C.Contents.file c.args.look.now.contents) (g.C.Contents.file c.see_one.new.look.contents) c.see_one.ensures.reads

pub returns-else-sees_requests-clause-reads : goal.returns-else-sees_requests-clause-reads
returns-else-sees_requests-clause-reads g c = λ seen.
    let V = (tree_of c.args.profile).service in
    absurd (let kept = sym seen ∙ sym (ap V.sees c.opcode.ensures) ∙ sym c.sees_requests.ensures ∙ c.if-sees_requests.false in cc)

pub keep_one-requires : goal.keep_one-requires
keep_one-requires g c =
    let V = (tree_of c.args.profile).service in
    record {
      ready = c.requires.ready;
      lot = c.requires.lot;
      made = c.requires.made;
      kept = sym (ap V.sees c.opcode.ensures) ∙ sym c.sees_requests.ensures ∙ c.if-sees_requests.false;
    }
