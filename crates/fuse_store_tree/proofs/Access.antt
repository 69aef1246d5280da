-- The number of an access mode.
use Rattle.std.proofs.Common.{ℕ, ◌<◌, ◌^◌, arith}
use Rattle.fuse_wire.specs.declared.access_mode.AccessMode.{AccessMode}
use Rattle.fuse_wire.specs.declared.access_mode.AccessMode.TheVariants.{ReadOnly, WriteOnly, ReadWrite}
use Rattle.fuse_store_tables.specs.Content.{access_code}

pub access_small : (a : AccessMode) → access_code a < 2 ^ 32
access_small ReadOnly = omega arith
access_small WriteOnly = omega arith
access_small ReadWrite = omega arith
