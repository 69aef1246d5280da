use Rattle.fuse_guest.proofs.Fits.{fit}
use Rattle.fuse_guest.proofs.laws.replies_fit.Goals as goal

pub returns : goal.returns
returns c = fit c.layouts_stand.ensures
