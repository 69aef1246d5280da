use Rattle.fuse_keeper.specs.Stands.{Records}
use Rattle.fuse_session.proofs.Standing.{looked_firm}
use Rattle.fuse_session.proofs.resend.resume.Goals as goal

pub returns-then-not-may_be_asked-clause-firm : goal.returns-then-not-may_be_asked-clause-firm
returns-then-not-may_be_asked-clause-firm g c = λ honest rows (records : Records) held.
    looked_firm g.K.Keeper.model (g.K.Keeper.told c.args.keeper.now) (g.K.Keeper.told c.settings.new.self) rows records
    (g.met.K.Keeper.sound c.settings.new.self) (c.in-Ok.ensures.looked.same honest) c.in-Ok.ensures.looked.whole c.in-Ok.ensures.looked.crash held

pub returns-in-Ok-send_whole-clause-firm : goal.returns-in-Ok-send_whole-clause-firm
returns-in-Ok-send_whole-clause-firm g c = λ honest rows (records : Records) held.
    looked_firm g.K.Keeper.model (g.K.Keeper.told c.args.keeper.now) (g.K.Keeper.told c.settings.new.self) rows records
    (g.met.K.Keeper.sound c.settings.new.self) (c.in-Ok.ensures.looked.same honest) c.in-Ok.ensures.looked.whole c.in-Ok.ensures.looked.crash held

pub returns-in-Err-send_whole-clause-firm : goal.returns-in-Err-send_whole-clause-firm
returns-in-Err-send_whole-clause-firm g c = λ honest rows (records : Records) held.
    looked_firm g.K.Keeper.model (g.K.Keeper.told c.args.keeper.now) (g.K.Keeper.told c.settings.new.self) rows records
    (g.met.K.Keeper.sound c.settings.new.self) (c.in-Ok.ensures.looked.same honest) c.in-Ok.ensures.looked.whole c.in-Ok.ensures.looked.crash held
