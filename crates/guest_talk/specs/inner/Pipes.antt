-- What a read or a write of a pipe that failed says of the guest (defined by this project).
use Rattle.fuse_guest.specs.declared.fault.TalkFault.{TalkFault}
use Rattle.fuse_guest.specs.declared.fault.TalkFault.TheVariants as faults

-- the guest ended, or nothing came or went in time
abbrev pub IsPipeFault : TalkFault → Type 0
IsPipeFault faults.Ended = Unit {0}
IsPipeFault faults.Hangs = Unit {0}
IsPipeFault _ = ⊥
