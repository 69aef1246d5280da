use Rattle.std.proofs.Common.{refl}
use Rattle.fuse_store_files.proofs.crashing.crash_data.Goals as goal

pub returns-in-Some-clause-crashed : goal.returns-in-Some-clause-crashed
returns-in-Some-clause-crashed g c = rw c.in-Some.is (
    let e = c.crash_once.ensures in record { once = e.crashed; left = e.left; settled = e.settled; clean = e.clean })

pub returns-in-None-clause-crashed : goal.returns-in-None-clause-crashed
returns-in-None-clause-crashed g c = rw c.in-None.is (record { once = tt; left = refl; settled = λ c is. is; clean = λ clean. clean })
