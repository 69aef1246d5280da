use Rattle.std.proofs.Common.{Result, Ok, Err, OnOk}
use Rattle.fuse_store_files.proofs.crash_keeper.CrashKeeperKeeper.perform.Goals as goal

-- what holds without a condition holds under one
under_any : {X E : Type 0} (A B C : Type 0) (r : Result X E) → OnOk r (A → B) → OnOk r (A → C → B)
under_any A B C (Ok x) so = λ a c. so a
under_any A B C (Err e) so = tt

pub returns-clause-firm : goal.returns-clause-firm
returns-clause-firm g c = under_any _ _ _ c.perform.result c.perform.ensures.firm
