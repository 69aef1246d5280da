-- Cases of records and answers (fuse.h), in hexadecimal as outside examples print them.
use Rattle.std.specs.Prelude.{◌≡◌, ℕ, List, [], ◌∷◌, ◌++◌, pos, negsuc, replicate, codes}
use Rattle.fuse_wire.specs.Bytes.{le}
use Rattle.spec_tests.specs.inner.Hex.{hex}
use Rattle.fuse_wire.specs.Errnos.{enoent, ebadf, eexist, enotdir, eisdir, einval, enfile, efbig, enospc, enametoolong, enosys, enotempty, eproto, estale}
use Rattle.fuse_answer.specs.declared.records.Attr.{Attr}
use Rattle.fuse_answer.specs.declared.records.EntryOut.{EntryOut}
use Rattle.fuse_answer.specs.declared.records.AttrOut.{AttrOut}
use Rattle.fuse_answer.specs.declared.init_out.InitOut.{InitOut}
use Rattle.fuse_answer.specs.Bodies.{header_bytes, attr_bytes, entry_bytes, attr_out_bytes, open_bytes, write_bytes, init_bytes}
use Rattle.fuse_answer.specs.Entries.{DirectoryEntry, entries_bytes}
use Rattle.fuse_answer.specs.Wire.{negated, wire_head, wire}
use Rattle.fuse_answer.specs.Notice.{resend_bytes}

-- the error field of each refusal
abbrev pub ErrorFields : Type 0
ErrorFields =
    (le 4 (negated enoent.0) ≡ hex (codes "feffffff"))
    × (le 4 (negated ebadf.0) ≡ hex (codes "f7ffffff"))
    × (le 4 (negated eexist.0) ≡ hex (codes "efffffff"))
    × (le 4 (negated enotdir.0) ≡ hex (codes "ecffffff"))
    × (le 4 (negated eisdir.0) ≡ hex (codes "ebffffff"))
    × (le 4 (negated einval.0) ≡ hex (codes "eaffffff"))
    × (le 4 (negated enfile.0) ≡ hex (codes "e9ffffff"))
    × (le 4 (negated efbig.0) ≡ hex (codes "e5ffffff"))
    × (le 4 (negated enospc.0) ≡ hex (codes "e4ffffff"))
    × (le 4 (negated enametoolong.0) ≡ hex (codes "dcffffff"))
    × (le 4 (negated enosys.0) ≡ hex (codes "daffffff"))
    × (le 4 (negated enotempty.0) ≡ hex (codes "d9ffffff"))
    × (le 4 (negated eproto.0) ≡ hex (codes "b9ffffff"))
    × (le 4 (negated estale.0) ≡ hex (codes "8cffffff"))

-- headers alone: LOOKUP of a missing name, and the resend notice
abbrev pub Headers : Type 0
Headers =
    (header_bytes (record { len = 16; error = negsuc 1; unique = 4 }) ≡ hex (codes "10000000 feffffff 0400000000000000"))
    × (header_bytes (record { len = 16; error = pos 7; unique = 0 }) ≡ hex (codes "10000000 07000000 0000000000000000"))
    × (resend_bytes ≡ hex (codes "10000000 07000000 0000000000000000"))

-- refusals, of requests and of a resend
abbrev pub Refusals : Type 0
Refusals =
    (wire enoent.0 [] 4 ≡ hex (codes "10000000 feffffff 0400000000000000"))
    × (wire enoent.0 [] 0x8000000000000004 ≡ hex (codes "10000000 feffffff 0400000000000080"))
    × (wire eproto.0 [] 2 ≡ hex (codes "10000000 b9ffffff 0200000000000000"))

-- READ of three bytes, its resend, and the header alone
abbrev pub Reads : Type 0
Reads =
    (wire 0 (hex (codes "6f6e65")) 10 ≡ hex (codes "13000000 00000000 0a00000000000000 6f6e65"))
    × (wire 0 (hex (codes "6f6e65")) 0x800000000000000a ≡ hex (codes "13000000 00000000 0a00000000000080 6f6e65"))
    × (wire_head 0 3 10 ≡ hex (codes "13000000 00000000 0a00000000000000"))

-- a directory made at second 1,000
abbrev pub directory : Attr
directory = record {
  ino = 2;
  size = 0;
  blocks = 0;
  atime = 1000;
  mtime = 1000;
  ctime = 1000;
  atimensec = 0;
  mtimensec = 0;
  ctimensec = 0;
  mode = 0o040755;
  nlink = 2;
  uid = 1000;
  gid = 1000;
  rdev = 0;
  blksize = 4096;
  flags = 0;
}

abbrev pub made : EntryOut
made = record {
  nodeid = 2;
  generation = 0;
  entry_valid = 1;
  attr_valid = 1;
  entry_valid_nsec = 0;
  attr_valid_nsec = 0;
  attr = directory;
}

abbrev pub asked : AttrOut
asked = record { attr_valid = 1; attr_valid_nsec = 0; attr = directory }

abbrev pub directory_bytes : List ℕ
directory_bytes =
    hex (codes "0200000000000000") ++ replicate 8 0 ++ replicate 8 0
    ++ hex (codes "e803000000000000 e803000000000000 e803000000000000") ++ replicate 12 0
    ++ hex (codes "ed410000 02000000 e8030000 e8030000 00000000 00100000 00000000")

abbrev pub made_bytes : List ℕ
made_bytes =
    hex (codes "0200000000000000") ++ replicate 8 0 ++ hex (codes "0100000000000000 0100000000000000") ++ replicate 8 0
    ++ directory_bytes

-- MKDIR, its resend and GETATTR
abbrev pub FirstRun : Type 0
FirstRun =
    (attr_bytes directory ≡ directory_bytes)
    × (wire 0 (entry_bytes made) 6 ≡ hex (codes "90000000 00000000 0600000000000000") ++ made_bytes)
    × (wire 0 (entry_bytes made) 0x8000000000000006 ≡ hex (codes "90000000 00000000 0600000000000080") ++ made_bytes)
    × (wire 0 (attr_out_bytes asked) 8 ≡ hex (codes "78000000 00000000 0800000000000000 0100000000000000") ++ replicate 8 0 ++ directory_bytes)

-- OPEN, resent after a crash, and WRITE of three bytes
abbrev pub OpenAndWrite : Type 0
OpenAndWrite =
    (wire 0 (open_bytes (record { fh = 1; open_flags = 0; backing_id = pos 0 })) 0x8000000000000006
    ≡ hex (codes "20000000 00000000 0600000000000080 0100000000000000 00000000 00000000"))
    × (wire 0 (write_bytes (record { size = 3 })) 12 ≡ hex (codes "18000000 00000000 0c00000000000000 03000000 00000000"))
    × (open_bytes (record { fh = 1; open_flags = 0; backing_id = negsuc 1 }) ≡ hex (codes "0100000000000000 00000000 feffffff"))

-- INIT with these offered and agreed flags
abbrev pub init : ℕ → ℕ → InitOut
init flags flags2 = record {
  major = 7;
  minor = 40;
  max_readahead = 0x20000;
  flags = flags;
  max_background = 12;
  congestion_threshold = 9;
  max_write = 0x20000;
  time_gran = 1;
  max_pages = 0;
  map_alignment = 0;
  flags2 = flags2;
  max_stack_depth = 0;
}

abbrev pub init_answer : List ℕ → List ℕ → List ℕ
init_answer flags flags2 =
    hex (codes "50000000 00000000 0200000000000000 07000000 28000000 00000200") ++ flags
    ++ hex (codes "0c000900 00000200 01000000 00000000") ++ flags2 ++ hex (codes "00000000") ++ replicate 24 0

abbrev pub Inits : Type 0
Inits =
    (wire 0 (init_bytes (init 0x40000021 0x80)) 2 ≡ init_answer (hex (codes "21000040")) (hex (codes "80000000")))
    × (wire 0 (init_bytes (init 0x21 0)) 2 ≡ init_answer (hex (codes "21000000")) (hex (codes "00000000")))

-- the first two entries of the root
abbrev pub dots : List DirectoryEntry
dots =
    record { ino = 1; off = 1; kind = 4; name = codes "." }
    ∷ record { ino = 1; off = 2; kind = 4; name = codes ".." }
    ∷ []

abbrev pub Listing : Type 0
Listing =
    entries_bytes dots
    ≡ hex (codes "0100000000000000 0100000000000000 01000000 04000000 2e00000000000000 0100000000000000 0200000000000000 02000000 04000000 2e2e000000000000")
