-- Seen requests change nothing.
use Rattle.std.proofs.Common.{◌≡◌, true, Option, None, refl}
use Rattle.fuse_init.specs.declared.settings.Settings.{Settings}
use Rattle.fuse_request.specs.Act.{Act, Asked, opcode_of}
use Rattle.fuse_request.specs.Act as acts
use Rattle.five_files.specs.Asking.{only_looks, offer_of, agreed_after}

offers_none : (act : Act) → only_looks (opcode_of act) ≡ true → offer_of act ≡ None
offers_none (acts.Init offer) looks = absurd (cc looks)
offers_none _ looks = refl

pub looks_stay : (agreed : Option Settings) (asked : Asked) → only_looks (opcode_of asked.act) ≡ true → agreed_after agreed asked ≡ agreed
unfolding agreed_after
looks_stay agreed asked looks = rw (offers_none asked.act looks) refl
