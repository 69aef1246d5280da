-- Faults of `sqlite` as faults of a store (defined by this project).
use Rattle.std.specs.Prelude.{Bool, true, false, if◌then◌else◌}
use Rattle.sqlite.specs.declared.error.Error.{Error}
use Rattle.sqlite.specs.declared.error.Error.TheVariants.{SqliteFailure}
use Rattle.sqlite.specs.declared.error.ErrorCode.{ErrorCode}
use Rattle.sqlite.specs.declared.error.ErrorCode.TheVariants.{OutOfMemory}
use Rattle.fuse_keeper.specs.declared.fault.StoreFault.{StoreFault}
use Rattle.fuse_keeper.specs.declared.fault.StoreFault.TheVariants.{Memory, Sql}

abbrev pub is_want : ErrorCode → Bool
is_want OutOfMemory = true
is_want _ = false

-- the error is out of memory
abbrev pub is_memory : Error → Bool
is_memory (SqliteFailure code) = is_want code
is_memory _ = false

-- out of memory is passed on as such
abbrev pub fault_of : Error → StoreFault
fault_of e = if is_memory e then Memory else Sql e
