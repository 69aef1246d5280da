use Rattle.std.proofs.Common.{subst}
use Rattle.std.specs.Prelude.{IfSome}
use Rattle.fuse_store_files.specs.Left.{LeavesOpening}
use Rattle.fuse_store_files.specs.Files.{FilesStand}
use Rattle.fuse_sim.specs.inner.FilesLived.{ran_nothing}
use Rattle.fuse_files.proofs.FileRuns.{file_lives, resumed_how}
use Rattle.fuse_files.proofs.Refused.{still_stands}
use Rattle.fuse_files.proofs.lives.runs_are_file_lives.Goals as goal

pub returns-clause-served : goal.returns-clause-served
returns-clause-served g c = λ x task run served image left. file_lives g.P.Profiled.PROFILE _ x task run served c.runs_are_lives.ensures image left

pub returns-clause-refused : goal.returns-clause-refused
returns-clause-refused g c = λ x task run refused resumes image left at stand new.
    ran_nothing (FilesStand g.P.Profiled.PROFILE) at image
    (still_stands g.P.Profiled.PROFILE task.first at stand g.E.Disk task.number run.left image
    (subst (λ how. IfSome run.left (LeavesOpening g.E.Disk how task.first)) (resumed_how g.C.Clock.gave task x.clock x.clock' refused.how resumes refused.opens) refused.crash) left)
