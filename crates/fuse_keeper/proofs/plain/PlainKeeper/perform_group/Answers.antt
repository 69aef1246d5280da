use Rattle.std.proofs.Common.{◌∙◌}
use Rattle.fuse_keeper.specs.History.{kept_of}
use Rattle.fuse_keeper.specs.Group.{entries_of, ids_of}
use Rattle.fuse_keeper.specs.Stands.{without}
use Rattle.fuse_keeper.specs.Plain.{mapped}
use Rattle.fuse_keeper.proofs.Overlays.{performed_settled, others_stay, over-same, without-same}
use Rattle.fuse_keeper.proofs.InARow.{kept_taken}
use Rattle.fuse_keeper.proofs.plain.PlainKeeper.perform_group.Goals as goal

pub returns-clause-ok : goal.returns-clause-ok
returns-clause-ok g c = λ s h t so within fresh.
    performed_settled g.F.FileSystem.model (g.F.FileSystem.held c.args.self.now.rows) (mapped c.args.self.now.records)
    (ids_of c.args.settled.now) c.in_ok-taken.taken.draft.added.items
    (g.F.FileSystem.held c.in_ok-taken.taken.draft.rows) (mapped c.reserve.new.self) (mapped c.settle.new.records)
    (record { state = s; history = h; settled = t })
    (entries_of c.args.group.now) c.in_ok-taken.taken.dones.items within so
    (λ rest. c.in_ok-taken.ensures.performed s h t rest fresh) c.reserve.ensures.entries.2 c.settle.ensures

pub returns-clause-acts : goal.returns-clause-acts
returns-clause-acts g c =
    kept_taken g.F.FileSystem.model (g.F.FileSystem.held c.args.self.now.rows) (mapped c.args.self.now.records) (ids_of c.args.settled.now)
    c.in_ok-taken.taken.draft.added.items (g.F.FileSystem.held c.in_ok-taken.taken.draft.rows) (mapped c.reserve.new.self) (mapped c.settle.new.records)
    (entries_of c.args.group.now) c.in_ok-taken.taken.dones.items c.in_ok-taken.ensures.taken c.reserve.ensures.entries.2 c.settle.ensures

pub returns-clause-others : goal.returns-clause-others
returns-clause-others g c = λ i isnt.
    let settled = ids_of c.args.settled.now in
    let added = c.in_ok-taken.taken.draft.added.items in
    c.settle.ensures i
    ∙ over-same added (without settled (mapped c.reserve.new.self)) (without settled (mapped c.args.self.now.records)) i
    (without-same settled (mapped c.reserve.new.self) (mapped c.args.self.now.records) i (c.reserve.ensures.entries.2 i))
    ∙ others_stay settled (mapped c.args.self.now.records) added (kept_of g.F.FileSystem.model.service (entries_of c.args.group.now)) c.in_ok-taken.ensures.ids i isnt
