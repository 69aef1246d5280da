use Rattle.fuse_sim.specs.inner.FilesLived.{files_lived}
use Rattle.fuse_store_files.specs.Files.{FilesStand}
use Rattle.fuse_files.proofs.FileRuns.{first_runs}
use Rattle.fuse_files.proofs.lives.files_live.Goals as goal

pub returns-clause-whole : goal.returns-clause-whole
returns-clause-whole g c = files_lived c.lives.ensures.in_a_row c.lives.ensures.once c.lives.ensures.send (FilesStand g.P.Profiled.PROFILE)

pub returns-clause-before : goal.returns-clause-before
returns-clause-before g c = λ s first later n mount.
    let stand = FilesStand g.P.Profiled.PROFILE in
    files_lived c.lives.ensures.in_a_row c.lives.ensures.once c.lives.ensures.send stand s first _ (mount.0, first_runs stand s first.left later n mount.1)
