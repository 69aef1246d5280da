use Rattle.std.proofs.Common.{inr}
use Rattle.fuse_keeper.specs.Plain.{mapped}
use Rattle.fuse_keeper.proofs.Keeping.{left_new, mount_begins, none_mapped}
use Rattle.fuse_keeper.proofs.plain.PlainKeeperKeeper.begin_mount.Goals as goal

pub returns-clause-ok : goal.returns-clause-ok
returns-clause-ok g c = λ honest s h t so.
    mount_begins g.F.FileSystem.model (g.F.FileSystem.held c.args.self.now.rows) (mapped c.args.self.now.records) (g.F.FileSystem.held c.begin_mount.new.self)
    (mapped c.clear.new.self) s h t c.begin_mount.ensures
    (none_mapped c.clear.new.self c.clear.ensures.empty) so

pub returns-clause-crash : goal.returns-clause-crash
returns-clause-crash g c = λ s h t so firm.
    let begun = mount_begins g.F.FileSystem.model (g.F.FileSystem.held c.args.self.now.rows) (mapped c.args.self.now.records)
    (g.F.FileSystem.held c.begin_mount.new.self) (mapped c.clear.new.self) s h t c.begin_mount.ensures
    (none_mapped c.clear.new.self c.clear.ensures.empty) so in
    (tt, λ x r left. inr (left_new g.F.FileSystem.model (g.F.FileSystem.held c.begin_mount.new.self) (mapped c.clear.new.self) x r _ _ _ begun left))
