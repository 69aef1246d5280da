use Rattle.std.proofs.Common.{◌∙◌, sym}
use Rattle.fuse_keeper.specs.Group.{ids_of}
use Rattle.fuse_keeper.specs.Stands.{without}
use Rattle.fuse_keeper.specs.Plain.{mapped}
use Rattle.fuse_keeper.proofs.Overlays.{known_added, known_settled, known_old}
use Rattle.fuse_keeper.proofs.group.known.Goals as goal

pub returns-in-Some : goal.returns-in-Some
returns-in-Some c = known_added c.args.added.now (without (ids_of c.args.settled.now) (mapped c.args.records.now)) c.args.id c.in-Some.answer.now
    c.in-Some.ensures

pub returns-then-is_among : goal.returns-then-is_among
returns-then-is_among c = known_settled c.args.added.now (ids_of c.args.settled.now) (mapped c.args.records.now) c.args.id c.in_default.ensures
    (sym c.is_among.ensures ∙ c.if-is_among.true)

pub returns : goal.returns
returns c = known_old c.args.added.now (ids_of c.args.settled.now) (mapped c.args.records.now) c.args.id _ c.in_default.ensures
    (sym c.is_among.ensures ∙ c.if-is_among.false) c.get.ensures.value
