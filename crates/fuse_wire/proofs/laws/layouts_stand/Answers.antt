use Rattle.fuse_wire.proofs.Layouts as layouts
use Rattle.fuse_wire.proofs.laws.layouts_stand.Goals as goal

pub returns : goal.returns
returns c = layouts.layouts_stand
