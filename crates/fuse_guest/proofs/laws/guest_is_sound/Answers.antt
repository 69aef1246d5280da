use Rattle.fuse_guest.proofs.Sound.{sound}
use Rattle.fuse_guest.proofs.laws.guest_is_sound.Goals as goal

pub returns : goal.returns
returns g c = sound c.record_sizes.ensures g.G.Guested.GUEST
