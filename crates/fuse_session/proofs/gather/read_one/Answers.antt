use Rattle.std.proofs.Common.{◌≡◌, ap, subst}
use Rattle.fuse_wire.specs.declared.moment.Moment.{Moment}
use Rattle.fuse_request.specs.declared.class.Class.TheVariants.{Silent, Bare}
use Rattle.fuse_request.specs.Classes.{class_for}
use Rattle.fuse_session.specs.Processed.{performed_if, message_entry, moment_if}
use Rattle.fuse_session.proofs.gather.read_one.Goals as goal

pub returns-in-Silent-clause-entry : goal.returns-in-Silent-clause-entry
returns-in-Silent-clause-entry g c =
    let t : Moment = record { secs = 0; nanos = 0 } in
    let class : Silent ≡ class_for g.service c.args.message.now = cc (c.in-Silent.is, c.requires.1.1) in
    let k = c.args.clock.now in (
      t,
      ap (λ k. performed_if k (message_entry c.args.message.now t)) class,
      subst (λ x. g.C.Clock.gave k k (moment_if x t)) class
          ((g.met.C.Clock.logged).none k),
    )

pub returns-in-Bare-clause-entry : goal.returns-in-Bare-clause-entry
returns-in-Bare-clause-entry g c =
    let t : Moment = record { secs = 0; nanos = 0 } in
    let class : Bare c.in-Bare.field-0 ≡ class_for g.service c.args.message.now = cc (c.in-Bare.is, c.requires.1.1) in
    let k = c.args.clock.now in (
      t,
      ap (λ k. performed_if k (message_entry c.args.message.now t)) class,
      subst (λ x. g.C.Clock.gave k k (moment_if x t)) class
          ((g.met.C.Clock.logged).none k),
    )
