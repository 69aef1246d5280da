-- Faults of the data file, as faults of the store (defined by this project). Its disk fails as that of the tables does.
use Rattle.sqlite.specs.declared.error.Error.TheVariants.{SqliteFailure}
use Rattle.sqlite.specs.declared.error.ErrorCode.TheVariants.{SystemIoFailure, Closed, DiskFull}
use Rattle.fuse_data.specs.declared.fault.DataFault.{DataFault}
use Rattle.fuse_data.specs.declared.fault.DataFault.TheVariants as data_faults
use Rattle.fuse_keeper.specs.declared.fault.StoreFault.{StoreFault}
use Rattle.fuse_keeper.specs.declared.fault.StoreFault.TheVariants.{Memory, Sql, Damaged}

abbrev pub fault_of_data : DataFault → StoreFault
fault_of_data (data_faults.Disk e) = Sql (SqliteFailure SystemIoFailure)
fault_of_data data_faults.Unusable = Sql (SqliteFailure Closed)
fault_of_data data_faults.Full = Sql (SqliteFailure DiskFull)
fault_of_data data_faults.Memory = Memory
fault_of_data _ = Damaged
