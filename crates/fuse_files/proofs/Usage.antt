-- The fault of a store is no wrong command line.
use Rattle.std.proofs.Common.{◌≡◌}
use Rattle.fuse_keeper.specs.declared.fault.StoreFault.{StoreFault}
use Rattle.fuse_keeper.specs.declared.fault.StoreFault.TheVariants.{Memory, Sql, NotAStore, Version, Damaged, Guest}
use Rattle.fuse_commands.specs.Endings.{status_of, store_ending}

pub no_usage : (f : StoreFault) → status_of (store_ending f) ≡ 2 → ⊥
no_usage Memory is = absurd (cc is)
no_usage (Sql e) is = absurd (cc is)
no_usage NotAStore is = absurd (cc is)
no_usage (Version n) is = absurd (cc is)
no_usage Damaged is = absurd (cc is)
no_usage Guest is = absurd (cc is)
