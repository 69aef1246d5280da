-- Worked examples (defined by this project): `done` of INIT, of the first run, and of a name that is missing.
use Rattle.std.specs.Prelude.{◌≡◌, ◌+◌, ◌^◌, ℕ, List, [], ◌∷◌, Option, Some, None, replicate, codes}
use Rattle.fuse_wire.specs.declared.moment.Moment.{Moment}
use Rattle.fuse_wire.specs.declared.errno.Errno.{Errno}
use Rattle.fuse_wire.specs.Errnos.{enoent, eexist, einval, enametoolong, enosys, enospc, eproto, estale}
use Rattle.fuse_request.specs.Act.{Act, Asked}
use Rattle.fuse_request.specs.Act as acts
use Rattle.fuse_answer.specs.Said.{Said}
use Rattle.fuse_answer.specs.Bodies.{entry_bytes, attr_out_bytes}
use Rattle.fuse_answer.specs.declared.records.Attr.{Attr}
use Rattle.fuse_init.specs.declared.settings.Settings.{Settings}
use Rattle.fuse_init.specs.declared.profile.Profile.TheVariants as profiles
use Rattle.fuse_rows.specs.Origins.{made_at}
use Rattle.fuse_rows.specs.Blocks.{with_touched, below_size}
use Rattle.fuse_tree.specs.State.{State, new_store, used_of}
use Rattle.fuse_tree.specs.Space.{newly_written}
use Rattle.fuse_tree.specs.Done.{sectors_for}
use Rattle.fuse_tree.specs.Do.{done}

abbrev pub at : ℕ → Moment
at secs = record { secs = secs; nanos = 0 }

-- with the uid, gid and pid of the worked examples
abbrev pub asks : ℕ → ℕ → Act → Asked
asks unique nodeid a = record { header = record { unique = unique; nodeid = nodeid; uid = 1000; gid = 1000; pid = 77 }; act = a; ext = [] }

abbrev pub says : List ℕ → Said
says body = record { errno = 0; body = body }

abbrev pub refuses : Errno → Said
refuses errno = record { errno = errno.0; body = [] }

-- ---- INIT, in a store made at second 0

abbrev pub init_act : ℕ → ℕ → ℕ → Option ℕ → Act
init_act major minor flags flags2 = acts.Init (record { major = major; minor = minor; max_readahead = 131072; flags = flags; flags2 = flags2 })

abbrev pub after_init : State → Act → State
after_init s a = (done s (asks 2 0 a) (at 1000)).state

abbrev pub unmounted : State
unmounted = new_store profiles.Plain 0 (made_at (at 0))

-- init-agreed, on which the other examples stand
abbrev pub first : State
first = after_init unmounted (init_act 7 40 0x40002021 (Some 0x80))

abbrev pub agrees : ℕ → ℕ → Option Settings
agrees minor flags = Some (record { minor = minor; max_readahead = 131072; flags = record { 0 = flags } })

abbrev pub Inits : Type 0
Inits =
    (first.settings ≡ agrees 40 (2 ^ 0 + 2 ^ 5 + 2 ^ 30 + 2 ^ 39))
    × ((after_init first (init_act 7 31 0x21 None)).settings ≡ agrees 31 (2 ^ 0 + 2 ^ 5))
    × ((after_init unmounted (init_act 8 0 0x21 None)).settings ≡ None)
    × ((after_init first (init_act 8 0 0x21 None)).settings ≡ first.settings)
    × ((done unmounted (asks 2 0 (init_act 7 22 0x21 None)) (at 1000)).said ≡ refuses eproto)
    × ((done unmounted (asks 4 1 (acts.Getattr 0 0)) (at 1000)).said ≡ refuses eproto)
    × ((done unmounted (asks 4 9 acts.Destroy) (at 1000)).said ≡ refuses eproto)

-- ---- first-run: MKDIR of `a` at 1000 s

abbrev pub mkdir_a : Act
mkdir_a = acts.Mkdir 0o755 0o022 (codes "a")

abbrev pub made : State
made = (done first (asks 6 1 mkdir_a) (at 1000)).state

-- the attributes of `a`
abbrev pub attr_a : Attr
attr_a = record {
  ino = 2;
  size = 0;
  blocks = 0;
  atime = 1000;
  mtime = 1000;
  ctime = 1000;
  atimensec = 0;
  mtimensec = 0;
  ctimensec = 0;
  mode = 0o040755;
  nlink = 2;
  uid = 1000;
  gid = 1000;
  rdev = 0;
  blksize = 4096;
  flags = 0;
}

abbrev pub entry_a : List ℕ
entry_a = entry_bytes (record { nodeid = 2; generation = 0; entry_valid = 1; attr_valid = 1; entry_valid_nsec = 0; attr_valid_nsec = 0; attr = attr_a })

abbrev pub FirstRun : Type 0
FirstRun =
    ((done first (asks 6 1 mkdir_a) (at 1000)).said ≡ says entry_a)
    × ((done made (asks 8 2 (acts.Getattr 0 0)) (at 1000)).said ≡ says (attr_out_bytes (record { attr_valid = 1; attr_valid_nsec = 0; attr = attr_a })))
    × ((done made (asks 10 1 (acts.Lookup (codes "a"))) (at 1000)).said ≡ says entry_a)
    × ((done made (asks 12 1 mkdir_a) (at 1000)).said ≡ refuses eexist)

-- ---- missing-lookup, and the names and nodes that are refused

abbrev pub lookup_of : ℕ → List ℕ → Said
lookup_of nodeid name = (done first (asks 4 nodeid (acts.Lookup name)) (at 1000)).said

abbrev pub Refusals : Type 0
Refusals =
    (lookup_of 1 (codes "hello") ≡ refuses enoent)
    × (lookup_of 1 [] ≡ refuses einval)
    × (lookup_of 1 (codes ".") ≡ refuses einval)
    × (lookup_of 1 (codes "..") ≡ refuses einval)
    × (lookup_of 1 (codes "a/b") ≡ refuses einval)
    × (lookup_of 1 (replicate 256 97) ≡ refuses enametoolong)
    × (lookup_of 1 (replicate 255 97) ≡ refuses enoent)
    × (lookup_of 2 (codes "hello") ≡ refuses estale)
    × ((done first (asks 4 1 (acts.Further 35 [])) (at 1000)).said ≡ refuses enosys)

-- ---- written blocks: those that bytes touch, those that a size leaves, and what an everyday store of two blocks counts

abbrev pub Blocks : Type 0
Blocks =
    (with_touched 4095 2 [] ≡ 0 ∷ 1 ∷ [])
    × (with_touched 5000 1 (0 ∷ 1 ∷ 7 ∷ []) ≡ 0 ∷ 1 ∷ 7 ∷ [])
    × (with_touched 8192 4096 (0 ∷ 7 ∷ []) ≡ 0 ∷ 2 ∷ 7 ∷ [])
    × (with_touched 5000 0 (7 ∷ []) ≡ 7 ∷ [])
    × (newly_written 4095 4098 (1 ∷ 5 ∷ []) ≡ 2)
    × (below_size 4097 (0 ∷ 1 ∷ 2 ∷ []) ≡ 0 ∷ 1 ∷ [])
    × (below_size 4096 (0 ∷ 1 ∷ 2 ∷ []) ≡ 0 ∷ [])
    × (below_size 40960 (0 ∷ 1 ∷ 2 ∷ []) ≡ 0 ∷ 1 ∷ 2 ∷ [])
    × (sectors_for None 513 ≡ 2)
    × (sectors_for (Some 3) 513 ≡ 24)

abbrev pub everyday_of : ℕ → State
everyday_of capacity = after_init (new_store profiles.Everyday capacity (made_at (at 0))) (init_act 7 40 0x40002021 (Some 0x80))

-- a file in the root, open for writing: node 2, fh 1
abbrev pub with_file : State → State
with_file s =
    (done (done s (asks 6 1 (acts.Mknod 0o100644 0 0o022 (codes "f"))) (at 1000)).state (asks 8 2 (acts.OpenFile 2 0)) (at 1000)).state

abbrev pub write_act : ℕ → List ℕ → Act
write_act offset payload = acts.Write 1 offset 0 0 0 payload

abbrev pub Counted : Type 0
Counted =
    (used_of (done (with_file (everyday_of 1)) (asks 10 2 (write_act 0 (codes "ab"))) (at 1000)).state ≡ 1)
    × ((done (with_file (everyday_of 0)) (asks 10 2 (write_act 0 (codes "ab"))) (at 1000)).said ≡ refuses enospc)
    × ((done (with_file (everyday_of 0)) (asks 10 2 (write_act 0 [])) (at 1000)).said.errno ≡ 0)
    × (used_of (with_file (everyday_of 1)) ≡ 0)
