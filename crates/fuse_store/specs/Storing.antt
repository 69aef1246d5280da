-- The fault of a file that is not opened (defined by this project).
use Rattle.sqlite.specs.declared.error.Error.{Error}
use Rattle.sqlite.specs.declared.error.Error.TheVariants.{SqliteFailure}
use Rattle.sqlite.specs.declared.error.ErrorCode.{ErrorCode}
use Rattle.sqlite.specs.declared.error.ErrorCode.TheVariants.{NotADatabase}
use Rattle.fuse_keeper.specs.declared.fault.StoreFault.{StoreFault}
use Rattle.fuse_keeper.specs.declared.fault.StoreFault.TheVariants.{NotAStore}
use Rattle.fuse_keeper.specs.Faults.{fault_of}

abbrev pub fault_of_code : ErrorCode → StoreFault
fault_of_code NotADatabase = NotAStore
fault_of_code code = fault_of (SqliteFailure code)

-- a file that is no database is no store
abbrev pub opening_fault : Error → StoreFault
opening_fault (SqliteFailure code) = fault_of_code code
opening_fault e = fault_of e
