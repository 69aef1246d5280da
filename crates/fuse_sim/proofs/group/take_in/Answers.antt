use Rattle.std.proofs.Common.{◌≡◌, ◌∷◌, ◌++◌, [], ap, ◌∙◌, arith}
use Rattle.fuse_request.specs.declared.class.Class.{Class}
use Rattle.fuse_request.specs.Classes.{class_for}
use Rattle.fuse_keeper.specs.Model.{serving}
use Rattle.fuse_sim.specs.declared.group.Group.{Group}
use Rattle.fuse_sim.proofs.Gathered.{joins_kept, joins_bare}
use Rattle.fuse_sim.proofs.group.take_in.Goals.{in-Some+else-len-eq-MAX_GROUP+in_ok-push, in_default}
use Rattle.fuse_sim.proofs.group.take_in.Goals as goal

pub returns-clause-joins : goal.returns-clause-joins
returns-clause-joins g c = λ _.
    let M = serving g.service g.K.Keeper.model in
    let e = c.args.event.now in
    let old = c.args.group.now in
    let new : Group = record { classes = c.push-2.new.self; taken = c.match-read_one.group.taken; died = c.is_after_commit-group.result } in
    let fit = c.stands_apart.ensures.fit c.if-stands_apart.false in
    let goes = c.stands_apart.ensures.goes c.if-stands_apart.false in
    let class : c.classify-class.result ≡ class_for M.service e.bytes = c.classify-class.ensures ∙ ap (λ V. class_for V c.as_slice.result.now) c.requires.1
    ∙ ap (class_for g.service) c.as_slice.ensures in
    elim c.match-read_one.branch [
      | in-Some+else-len-eq-MAX_GROUP+in_ok-push w ↦
          joins_kept M c.performed_have_ids.ensures e old new w.in-Some.one c.if-group.false fit goes
          w.in-Some.ensures.entry w.in-Some.ensures.kept (λ full. grind (arith, full, w.len.ensures, w.if-len-eq-MAX_GROUP.false))
          (c.in_ok-push-2.ensures.items ∙ ap (λ g. g.classes.items ++ c.classify-class.result ∷ []) w.group-is
          ∙ ap (λ (k : Class). old.classes.items ++ k ∷ []) class)
          (ap (λ g. g.taken.items) w.group-is ∙ w.in_ok-push.ensures.items) (c.is_after_commit-group.ensures.dies goes) c.is_after_commit-group.ensures.died
      | in_default w ↦
          joins_bare M e old new c.if-group.false fit goes
          w.in_default.ensures.entry
          (c.in_ok-push-2.ensures.items ∙ ap (λ g. g.classes.items ++ c.classify-class.result ∷ []) w.group-is
          ∙ ap (λ (k : Class). old.classes.items ++ k ∷ []) class)
          (ap (λ g. g.taken.items) w.group-is) (c.is_after_commit-group.ensures.dies goes) c.is_after_commit-group.ensures.died
    ]

pub read_one-requires : goal.read_one-requires
read_one-requires g c =
    let class = c.classify-class.ensures ∙ ap (λ V. class_for V c.as_slice.result.now) c.requires.1 ∙ ap (class_for g.service) c.as_slice.ensures in
    (c.stands_apart.ensures.message c.if-stands_apart.false, class)
