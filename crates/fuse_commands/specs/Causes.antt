-- Why a database failed: its errors, as far as a user can do something about them (defined by this project).
use Rattle.sqlite.specs.declared.error.Error.{Error}
use Rattle.sqlite.specs.declared.error.Error.TheVariants.{SqliteFailure}
use Rattle.sqlite.specs.declared.error.ErrorCode.{ErrorCode}
use Rattle.sqlite.specs.declared.error.ErrorCode.TheVariants as code
use Rattle.fuse_commands.specs.declared.cause.Cause.{Cause}
use Rattle.fuse_commands.specs.declared.cause.Cause.TheVariants.{CannotOpen, InUse, NoRoom, InputOutput, Corrupt, Other}

abbrev pub code_cause : ErrorCode → Cause
code_cause code.CannotOpen = CannotOpen
code_cause code.DatabaseBusy = InUse
code_cause code.DiskFull = NoRoom
code_cause code.SystemIoFailure = InputOutput
code_cause code.DatabaseCorrupt = Corrupt
code_cause _ = Other

abbrev pub cause_of : Error → Cause
cause_of (SqliteFailure c) = code_cause c
cause_of _ = Other
