use Rattle.fuse_data.proofs.Parts.{all_placed, all_apart}
use Rattle.fuse_data.proofs.laws.by_place_is_apart.Goals as goal

pub returns : goal.returns
returns c listed h = (all_placed listed h, all_apart 1 listed h)
