use Rattle.fuse_files.proofs.Looks.{good_memory}
use Rattle.fuse_files.proofs.showing.show_inside.Goals as goal

pub returns-clause-shown : goal.returns-clause-shown
returns-clause-shown g c = λ clean sure z was.
    (c.show_of-ending.ensures.shown clean (good_memory g.D.Disk sure c.show_of-ending.result.disk)).shown z (was.0, was.1, was.2 _)

pub returns-clause-says : goal.returns-clause-says
returns-clause-says g c = λ clean sure. (c.show_of-ending.ensures.shown clean (good_memory g.D.Disk sure c.show_of-ending.result.disk)).says
