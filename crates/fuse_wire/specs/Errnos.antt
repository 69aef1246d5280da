-- The error numbers that answers bear (Linux: asm-generic/errno-base.h and errno.h).
use Rattle.fuse_wire.specs.declared.errno.Errno.{Errno}

abbrev pub enoent : Errno
enoent = record { 0 = 2 }

abbrev pub ebadf : Errno
ebadf = record { 0 = 9 }

abbrev pub eexist : Errno
eexist = record { 0 = 17 }

abbrev pub enotdir : Errno
enotdir = record { 0 = 20 }

abbrev pub eisdir : Errno
eisdir = record { 0 = 21 }

abbrev pub einval : Errno
einval = record { 0 = 22 }

abbrev pub enfile : Errno
enfile = record { 0 = 23 }

abbrev pub efbig : Errno
efbig = record { 0 = 27 }

abbrev pub enospc : Errno
enospc = record { 0 = 28 }

abbrev pub enametoolong : Errno
enametoolong = record { 0 = 36 }

abbrev pub enosys : Errno
enosys = record { 0 = 38 }

abbrev pub enotempty : Errno
enotempty = record { 0 = 39 }

abbrev pub eproto : Errno
eproto = record { 0 = 71 }

abbrev pub estale : Errno
estale = record { 0 = 116 }
