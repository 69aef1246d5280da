use Rattle.fuse_request.proofs.Canons as canons
use Rattle.fuse_request.proofs.laws.canon_spells.Goals as goal

pub returns : goal.returns
returns c = canons.canon_spells c.layouts_stand.ensures
