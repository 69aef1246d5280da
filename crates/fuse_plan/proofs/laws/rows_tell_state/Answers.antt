use Rattle.fuse_plan.proofs.Telling.{rows_tell}
use Rattle.fuse_plan.proofs.laws.rows_tell_state.Goals as goal

pub returns : goal.returns
returns c = rows_tell
