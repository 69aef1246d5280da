-- The cases of INIT, computed.
use Rattle.std.proofs.Common.{refl}
use Rattle.fuse_wire.specs.Bytes.{le}
use Rattle.fuse_answer.specs.Bodies.{init_bytes}
use Rattle.fuse_answer.specs.Wire.{wire, wire_head}
use Rattle.spec_tests.specs.inner.InitCases.{InitAgreed, InitShort, InitNewerMajor, InitTooOld, NewerMinor, ExtIn16, InitKernel}

pub init_agreed : InitAgreed
unfolding le init_bytes wire wire_head
init_agreed = (refl, refl, refl)

pub init_short : InitShort
unfolding le init_bytes wire wire_head
init_short = (refl, refl, refl)

pub init_newer_major : InitNewerMajor
unfolding le init_bytes
init_newer_major = (λ r f g. refl, refl)

pub init_too_old : InitTooOld
unfolding le wire wire_head
init_too_old = (λ r f g. refl, λ r f g. refl, λ r. refl, refl)

pub newer_minor : NewerMinor
unfolding le init_bytes
newer_minor = (refl, refl)

pub ext_in_16 : ExtIn16
ext_in_16 r = refl

pub init_kernel : InitKernel
unfolding le init_bytes wire wire_head
init_kernel = (refl, refl, refl, refl)
