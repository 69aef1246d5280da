-- The results of reads and writes of a FUSE device, by their error numbers (fuse(4); Linux: fs/fuse/dev.c).
use Rattle.std.specs.Prelude.{ℕ, ℤ, pos, int_lt, unsigned_abs, ◌||◌, ◌==◌, if◌then◌else◌, Option, Some, None, Result, Ok, Err}
use Rattle.std.specs.IoError.{raw_os_error}
use Rattle.std.specs.declared.io.Error.{Error}
use Rattle.fuse_session.specs.declared.port.Received.{Received}
use Rattle.fuse_session.specs.declared.port.Received.TheVariants.{Got, End, Failed as ReceiveFailed}
use Rattle.fuse_session.specs.declared.port.Sent.{Sent}
use Rattle.fuse_session.specs.declared.port.Sent.TheVariants.{Took, Gone, Failed}

-- error numbers (Linux: asm-generic/errno-base.h)
abbrev pub enoent_number : ℕ
enoent_number = 2

abbrev pub eintr_number : ℕ
eintr_number = 4

abbrev pub eagain_number : ℕ
eagain_number = 11

abbrev pub enodev_number : ℕ
enodev_number = 19

-- the number with which the system refused; none where it wasn't the system that did
abbrev pub system_number_in : Option ℤ → Option ℕ
system_number_in None = None
system_number_in (Some code) = if int_lt code (pos 0) then None else Some (unsigned_abs code)

abbrev pub os_number : Error → Option ℕ
os_number e = system_number_in (raw_os_error e)

-- a read refused with a number: the file system is unmounted; or no request came, since it had ended before it was read,
-- a signal came first, or none waits; or it failed
abbrev pub read_refused : Option ℕ → Received
read_refused None = ReceiveFailed
read_refused (Some n) = if n == enodev_number then End else (if (n == enoent_number || n == eintr_number) || n == eagain_number then Got 0 else ReceiveFailed)

-- a write refused with a number: nobody waits for this answer any more, or it failed
abbrev pub write_refused : Option ℕ → Sent
write_refused None = Failed
write_refused (Some n) = if n == enoent_number then Gone else Failed

-- the result of a receive, by that of the read
abbrev pub read_told : Result ℕ Error → Received
read_told (Ok n) = if n == 0 then End else Got n
read_told (Err e) = read_refused (os_number e)

-- the result of a send, by that of the write
abbrev pub write_told : Result ℕ Error → Sent
write_told (Ok n) = Took n
write_told (Err e) = write_refused (os_number e)
