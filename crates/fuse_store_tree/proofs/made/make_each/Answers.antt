use Rattle.std.proofs.Common.{◌≡◌, ◌∙◌, map, arith, ap}
use Rattle.std.proofs.lemmas.List.{map-append, length-map}
use Rattle.std.proofs.lemmas.Grind.{common_steps}
use Rattle.fuse_data.specs.State.{state_of}
use Rattle.fuse_keeper.specs.Group.{entries_of}
use Rattle.fuse_store_tree.proofs.Asides.{aside_then, each_kept, made_more, no_items}
use Rattle.fuse_store_tree.proofs.made.make_each.Goals as goal

pub returns-in-Err-clause-aside : goal.returns-in-Err-clause-aside
returns-in-Err-clause-aside g c =
    aside_then (state_of g.D.Disk c.args.file.now) (state_of g.D.Disk c.loop-one.file) (state_of g.D.Disk c.make_for.new.file)
    c.args.written.now.items c.loop-one.written.items c.make_for.new.written.items c.loop-one.invariant.aside c.make_for.ensures.aside

pub returns-in_err-push-in-Ok-clause-aside : goal.returns-in_err-push-in-Ok-clause-aside
returns-in_err-push-in-Ok-clause-aside g c =
    aside_then (state_of g.D.Disk c.args.file.now) (state_of g.D.Disk c.loop-one.file) (state_of g.D.Disk c.make_for.new.file)
    c.args.written.now.items c.loop-one.written.items c.make_for.new.written.items c.loop-one.invariant.aside c.make_for.ensures.aside

pub loop-one-preserved : goal.loop-one-preserved
loop-one-preserved g c =
    let s = state_of g.D.Disk c.loop-one.file in
    let t = state_of g.D.Disk c.make_for.new.file in
    let ws = c.loop-one.written.items in
    let us = c.make_for.new.written.items in
    let more = c.make_for.ensures.aside in
    record {
      aside = aside_then (state_of g.D.Disk c.args.file.now) s t c.args.written.now.items ws us c.loop-one.invariant.aside more;
      idle = λ none. c.in-Ok.ensures.idle none ∙ c.loop-one.invariant.idle (no_items ws us more.grows none);
      count = grind (arith, common_steps);
      made = made_more t us c.args.group.now (map (λ v. v.items) c.loop-one.made.items) (map (λ v. v.items) c.push.new.self.items) c.in-Ok.pieces.items c.loop-one.one-index _
          c.loop-one-test.true (length-map c.loop-one.made.items (λ v. v.items) ∙ c.loop-one.invariant.count)
          (ap (map (λ v. v.items)) c.in_ok-push-in-Ok.ensures.items ∙ map-append (λ v. v.items) c.loop-one.made.items _)
          (each_kept s t ws us (entries_of c.args.group.now) (map (λ v. v.items) c.loop-one.made.items) more c.loop-one.invariant.made) c.in-Ok.ensures.made;
    }
