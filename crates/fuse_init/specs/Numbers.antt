-- The numbers of INIT: the version that is spoken (fuse.h: FUSE_KERNEL_VERSION, FUSE_KERNEL_MINOR_VERSION), and own choices.
use Rattle.std.specs.Prelude.{ℕ}

abbrev pub kernel_version : ℕ
kernel_version = 7

abbrev pub kernel_minor_version : ℕ
kernel_minor_version = 40

-- the oldest minor that is served
abbrev pub oldest_minor : ℕ
oldest_minor = 23

-- how many requests may be in the background, and from how many on the server is congested
abbrev pub background_limit : ℕ
background_limit = 12

abbrev pub congestion_limit : ℕ
congestion_limit = 9

-- how many bytes a WRITE carries at most
abbrev pub write_limit : ℕ
write_limit = 131072

-- the steps of times in nanoseconds
abbrev pub time_step : ℕ
time_step = 1
