-- How long a kernel may keep what it is answered (defined by this project).
use Rattle.std.specs.Prelude.{ℕ, Bool, if◌then◌else◌}
use Rattle.fuse_answer.specs.declared.records.Attr.{Attr}
use Rattle.fuse_answer.specs.declared.records.EntryOut.{EntryOut}
use Rattle.fuse_init.specs.Profile.{terms}
use Rattle.fuse_rows.specs.Bounds.{valid_seconds, kept_seconds, absent_seconds}
use Rattle.fuse_tree.specs.declared.agreement.Agreement.{Agreement}
use Rattle.fuse_tree.specs.State.{State, profile_of}
use Rattle.fuse_rows.specs.Rows.{Rows, profile_at}

-- what a store says to each request: its profile, and the settings of INIT
abbrev pub agreement_of : State → Agreement
agreement_of s = record { profile = profile_of s; settings = s.settings }

-- the same of its rows
abbrev pub agreement_at : Rows → Agreement
agreement_at rows = record { profile = profile_at rows; settings = rows.settings }

-- the kernel keeps names and their absence
abbrev pub keeps : Agreement → Bool
keeps a = (terms a.profile).keeps

-- for how many seconds it may keep an entry
abbrev pub valid_of : Agreement → ℕ
valid_of a = if keeps a then kept_seconds else valid_seconds

-- the absence of a name: a change whose request was dropped with its caller may have made it, so the kernel keeps it for a short time
abbrev pub no_attr : Attr
no_attr = record {
  ino = 0;
  size = 0;
  blocks = 0;
  atime = 0;
  mtime = 0;
  ctime = 0;
  atimensec = 0;
  mtimensec = 0;
  ctimensec = 0;
  mode = 0;
  nlink = 0;
  uid = 0;
  gid = 0;
  rdev = 0;
  blksize = 0;
  flags = 0;
}

abbrev pub absent_entry : EntryOut
absent_entry = record { nodeid = 0; generation = 0; entry_valid = absent_seconds; attr_valid = 0; entry_valid_nsec = 0; attr_valid_nsec = 0; attr = no_attr }
