-- Cases of messages with bytes from outside (fuse.h): missing-lookup, name-ends, first-run, rename-bytes, write-bytes and
-- exchange.
use Rattle.std.specs.Prelude.{◌≡◌, ℕ, List, [], ◌∷◌, ◌++◌, Some, None, codes, replicate}
use Rattle.spec_tests.specs.inner.Hex.{hex}
use Rattle.fuse_wire.specs.Opcodes.{fuse_forget, fuse_mkdir, fuse_rename, fuse_init, fuse_destroy, fuse_batch_forget}
use Rattle.fuse_request.specs.declared.request.InHeader.{InHeader}
use Rattle.fuse_request.specs.declared.decoding.Malformed.TheVariants.{HeaderShort, LenDiffers, BodyLength, NoNul, AfterNul, CountDiffers}
use Rattle.fuse_request.specs.Act.{Asked, Lookup, Mkdir, Rename, Write, Rename2}
use Rattle.fuse_request.specs.Spelling.{Spells}
use Rattle.fuse_request.specs.Faults.{body_fault, first_fault}
use Rattle.fuse_request.specs.Canon.{canon}

-- node 1, uid 1000, gid 1000, pid 77, no extensions
abbrev pub tail : List ℕ
tail = 1 ∷ 0 ∷ 0 ∷ 0 ∷ 0 ∷ 0 ∷ 0 ∷ 0 ∷ 0xe8 ∷ 3 ∷ 0 ∷ 0 ∷ 0xe8 ∷ 3 ∷ 0 ∷ 0 ∷ 0x4d ∷ 0 ∷ 0 ∷ 0 ∷ 0 ∷ 0 ∷ 0 ∷ 0 ∷ []

-- LOOKUP of this length with unique 4
abbrev pub lookup_head : ℕ → List ℕ
lookup_head len = len ∷ 0 ∷ 0 ∷ 0 ∷ 1 ∷ 0 ∷ 0 ∷ 0 ∷ 4 ∷ 0 ∷ 0 ∷ 0 ∷ 0 ∷ 0 ∷ 0 ∷ 0 ∷ tail

-- MKDIR of this length with unique 6
abbrev pub mkdir_head : ℕ → List ℕ
mkdir_head len = len ∷ 0 ∷ 0 ∷ 0 ∷ 9 ∷ 0 ∷ 0 ∷ 0 ∷ 6 ∷ 0 ∷ 0 ∷ 0 ∷ 0 ∷ 0 ∷ 0 ∷ 0 ∷ tail

abbrev pub header : ℕ → InHeader
header unique = record { unique = unique; nodeid = 1; uid = 1000; gid = 1000; pid = 77 }

abbrev pub hello : List ℕ
hello = 0x68 ∷ 0x65 ∷ 0x6c ∷ 0x6c ∷ 0x6f ∷ []

abbrev pub Faults : Type 0
Faults =
    (first_fault (lookup_head 46 ++ hello ++ 0 ∷ []) ≡ None)
    × (first_fault (lookup_head 45 ++ hello) ≡ Some NoNul)
    × (first_fault (lookup_head 47 ++ hello ++ 0 ∷ 0 ∷ []) ≡ Some AfterNul)
    × (first_fault (lookup_head 46 ++ hello) ≡ Some LenDiffers)
    × (first_fault (0x2c ∷ 0 ∷ []) ≡ Some HeaderShort)

-- LOOKUP `hello`
abbrev pub lookup_hello : Asked
lookup_hello = record { header = header 4; act = Lookup hello; ext = [] }

abbrev pub lookup_bytes : List ℕ
lookup_bytes = lookup_head 46 ++ hello ++ 0 ∷ []

abbrev pub MissingLookup : Type 0
MissingLookup = (canon lookup_hello ≡ lookup_bytes) × Spells lookup_hello lookup_bytes

-- MKDIR `a`, mode 0o755, umask 0o022
abbrev pub mkdir_a : Asked
mkdir_a = record { header = header 6; act = Mkdir 0o755 0o022 (0x61 ∷ []); ext = [] }

abbrev pub mkdir_bytes : List ℕ
mkdir_bytes = mkdir_head 50 ++ 0xed ∷ 1 ∷ 0 ∷ 0 ∷ 0x12 ∷ 0 ∷ 0 ∷ 0 ∷ 0x61 ∷ 0 ∷ []

abbrev pub FirstRun : Type 0
FirstRun = (canon mkdir_a ≡ mkdir_bytes) × Spells mkdir_a mkdir_bytes

-- RENAME `a` to `b`
abbrev pub rename_a : Asked
rename_a = record { header = header 4; act = Rename 1 (0x61 ∷ []) (0x62 ∷ []); ext = [] }

abbrev pub rename_text : List ℕ
rename_text = hex (codes "34000000 0c000000 0400000000000000 0100000000000000 e8030000 e8030000 4d000000 00000000 0100000000000000 6100 6200")

abbrev pub RenameBytes : Type 0
RenameBytes = (canon rename_a ≡ rename_text) × Spells rename_a rename_text

-- WRITE `one` at 0
abbrev pub write_one : Asked
write_one = record { header = record { unique = 8; nodeid = 2; uid = 1000; gid = 1000; pid = 77 }; act = Write 1 0 0 0 2 (0x6f ∷ 0x6e ∷ 0x65 ∷ []); ext = [] }

abbrev pub write_text : List ℕ
write_text =
    hex (codes "53000000 10000000 0800000000000000 0200000000000000 e8030000 e8030000 4d000000 00000000")
    ++ hex (codes "0100000000000000 0000000000000000 03000000 00000000 0000000000000000 02000000 00000000 6f6e65")

abbrev pub WriteBytes : Type 0
WriteBytes = (canon write_one ≡ write_text) × Spells write_one write_text

-- the exchange of `a` and `b`
abbrev pub exchange_a : Asked
exchange_a = record { header = header 8; act = Rename2 1 2 (0x61 ∷ []) (0x62 ∷ []); ext = [] }

abbrev pub exchange_text : List ℕ
exchange_text =
    hex (codes "3c000000 2d000000 0800000000000000 0100000000000000 e8030000 e8030000 4d000000 00000000 0100000000000000 02000000 00000000 6100 6200")

abbrev pub Exchange : Type 0
Exchange = (canon exchange_a ≡ exchange_text) × Spells exchange_a exchange_text

-- bodies, by their opcodes
abbrev pub BodyFaults : Type 0
BodyFaults =
    (body_fault fuse_init (replicate 24 0) ≡ Some BodyLength)
    × (body_fault fuse_init (replicate 16 0) ≡ None)
    × (body_fault fuse_init (replicate 64 0) ≡ None)
    × (body_fault fuse_rename (hex (codes "0100000000000000 6100 62")) ≡ Some NoNul)
    × (body_fault fuse_rename (hex (codes "0100000000000000 6100 6200 63")) ≡ Some AfterNul)
    × (body_fault fuse_batch_forget (2 ∷ replicate 39 0) ≡ None)
    × (body_fault fuse_batch_forget (3 ∷ replicate 39 0) ≡ Some CountDiffers)
    × (body_fault fuse_batch_forget (hex (codes "00000010 00000000")) ≡ Some CountDiffers)
    × (body_fault fuse_destroy (0 ∷ []) ≡ Some BodyLength)
    × (body_fault fuse_forget (replicate 7 0) ≡ Some BodyLength)
    × (body_fault fuse_mkdir (replicate 4 0) ≡ Some BodyLength)
    × (body_fault 35 (0 ∷ []) ≡ None)
