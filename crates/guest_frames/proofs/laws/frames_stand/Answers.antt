use Rattle.guest_frames.proofs.Whole.{frames_stand}
use Rattle.guest_frames.proofs.laws.frames_stand.Goals as goal

pub returns : goal.returns
returns c = frames_stand c.numbers_read.ensures c.layouts_stand.ensures
