-- The request that stands in a message at the places of its opcode (fuse.h: fuse_in_header and the request bodies).
use Rattle.std.specs.Prelude.{◌≡◌, ◌≤◌, ◌-◌, ◌==◌, ℕ, zero, suc, if◌then◌else◌, List, [], ◌∷◌, length, drop, Option, Some, None}
use Rattle.std.specs.Option.{unwrap_or}
use Rattle.fuse_wire.specs.Bytes.{number_of, after_nul}
use Rattle.fuse_request.specs.Lengths.{compat_init_in_size, mknod_in_size, mkdir_in_size, rename_in_size, rename2_in_size, write_in_size, batch_forget_in_size}
use Rattle.fuse_wire.specs.Opcodes.{fuse_lookup, fuse_forget, fuse_getattr, fuse_setattr, fuse_mknod, fuse_mkdir, fuse_unlink, fuse_rmdir, fuse_rename}
use Rattle.fuse_wire.specs.Opcodes.{fuse_open, fuse_read, fuse_write, fuse_release, fuse_init, fuse_opendir, fuse_readdir, fuse_releasedir, fuse_interrupt}
use Rattle.fuse_wire.specs.Opcodes.{fuse_destroy, fuse_batch_forget, fuse_rename2}
use Rattle.fuse_wire.specs.Bounds.{min_message_len}
use Rattle.fuse_request.specs.declared.request.InHeader.{InHeader}
use Rattle.fuse_request.specs.declared.request.InitIn.{InitIn}
use Rattle.fuse_request.specs.declared.request.ReadIn.{ReadIn}
use Rattle.fuse_request.specs.declared.request.ReleaseIn.{ReleaseIn}
use Rattle.fuse_request.specs.declared.request.SetattrIn.{SetattrIn}
use Rattle.fuse_request.specs.Header.{raw_of, ext_len, body_of}
use Rattle.fuse_request.specs.Act.{Act, Lookup, Forget, Getattr, Setattr, Mknod, Mkdir, Unlink, Rmdir, Rename, OpenFile, Read, Write, Release, Init, OpenDir}
use Rattle.fuse_request.specs.Act.{ReadDir, ReleaseDir, Interrupt, Destroy, BatchForget, Rename2, Further, Asked, opcode_of}
use Rattle.fuse_request.specs.Spelling.{Spells}

-- the first name
abbrev pub before_nul : List ℕ → List ℕ
before_nul [] = []
before_nul (zero ∷ b) = []
before_nul (suc n ∷ b) = suc n ∷ before_nul b

-- the second
abbrev pub second_name : List ℕ → List ℕ
second_name b = before_nul (unwrap_or (after_nul b) [])

abbrev pub setattr_at : List ℕ → SetattrIn
setattr_at b = record {
  valid = number_of 4 b;
  fh = number_of 8 (drop 8 b);
  size = number_of 8 (drop 16 b);
  lock_owner = number_of 8 (drop 24 b);
  atime = number_of 8 (drop 32 b);
  mtime = number_of 8 (drop 40 b);
  ctime = number_of 8 (drop 48 b);
  atimensec = number_of 4 (drop 56 b);
  mtimensec = number_of 4 (drop 60 b);
  ctimensec = number_of 4 (drop 64 b);
  mode = number_of 4 (drop 68 b);
  uid = number_of 4 (drop 76 b);
  gid = number_of 4 (drop 80 b);
}

abbrev pub read_at : List ℕ → ReadIn
read_at b = record {
  fh = number_of 8 b;
  offset = number_of 8 (drop 8 b);
  size = number_of 4 (drop 16 b);
  read_flags = number_of 4 (drop 20 b);
  lock_owner = number_of 8 (drop 24 b);
  flags = number_of 4 (drop 32 b);
}

abbrev pub release_at : List ℕ → ReleaseIn
release_at b = record {
  fh = number_of 8 b;
  flags = number_of 4 (drop 8 b);
  release_flags = number_of 4 (drop 12 b);
  lock_owner = number_of 8 (drop 16 b);
}

abbrev pub init_with : List ℕ → Option ℕ → InitIn
init_with b flags2 = record {
  major = number_of 4 b;
  minor = number_of 4 (drop 4 b);
  max_readahead = number_of 4 (drop 8 b);
  flags = number_of 4 (drop 12 b);
  flags2 = flags2;
}

-- the shorter one ends before flags2
abbrev pub init_at : List ℕ → InitIn
init_at b = init_with b (if length b == compat_init_in_size then None else Some (number_of 4 (drop 16 b)))

-- each opcode of the profile, with the request that its body says
abbrev pub places : List (ℕ × (List ℕ → Act))
places =
    (fuse_lookup, λ b. Lookup (before_nul b))
    ∷ (fuse_forget, λ b. Forget (number_of 8 b))
    ∷ (fuse_getattr, λ b. Getattr (number_of 4 b) (number_of 8 (drop 8 b)))
    ∷ (fuse_setattr, λ b. Setattr (setattr_at b))
    ∷ (fuse_mknod, λ b. Mknod (number_of 4 b) (number_of 4 (drop 4 b)) (number_of 4 (drop 8 b)) (before_nul (drop mknod_in_size b)))
    ∷ (fuse_mkdir, λ b. Mkdir (number_of 4 b) (number_of 4 (drop 4 b)) (before_nul (drop mkdir_in_size b)))
    ∷ (fuse_unlink, λ b. Unlink (before_nul b))
    ∷ (fuse_rmdir, λ b. Rmdir (before_nul b))
    ∷ (fuse_rename, λ b. Rename (number_of 8 b) (before_nul (drop rename_in_size b)) (second_name (drop rename_in_size b)))
    ∷ (fuse_open, λ b. OpenFile (number_of 4 b) (number_of 4 (drop 4 b)))
    ∷ (fuse_read, λ b. Read (read_at b))
    ∷ (
      fuse_write,
      λ b. Write (number_of 8 b) (number_of 8 (drop 8 b)) (number_of 4 (drop 20 b)) (number_of 8 (drop 24 b)) (number_of 4 (drop 32 b))
          (drop write_in_size b),
    )
    ∷ (fuse_release, λ b. Release (release_at b))
    ∷ (fuse_init, λ b. Init (init_at b))
    ∷ (fuse_opendir, λ b. OpenDir (number_of 4 b) (number_of 4 (drop 4 b)))
    ∷ (fuse_readdir, λ b. ReadDir (read_at b))
    ∷ (fuse_releasedir, λ b. ReleaseDir (release_at b))
    ∷ (fuse_interrupt, λ b. Interrupt (number_of 8 b))
    ∷ (fuse_destroy, λ b. Destroy)
    ∷ (fuse_batch_forget, λ b. BatchForget (drop batch_forget_in_size b))
    ∷ (fuse_rename2, λ b. Rename2 (number_of 8 b) (number_of 4 (drop 8 b)) (before_nul (drop rename2_in_size b)) (second_name (drop rename2_in_size b)))
    ∷ []

-- by the row of this number, and else by none
abbrev pub at_row : {A : Type 0} → A → ℕ → List (ℕ × A) → A
at_row other number [] = other
at_row other number (row ∷ rows) = if number == row.0 then row.1 else at_row other number rows

abbrev pub act_at : ℕ → List ℕ → Act
act_at opcode b = at_row (Further opcode) opcode places b

abbrev pub header_at : List ℕ → InHeader
header_at m = record {
  unique = (raw_of m).unique;
  nodeid = (raw_of m).nodeid;
  uid = (raw_of m).uid;
  gid = (raw_of m).gid;
  pid = (raw_of m).pid;
}

unfoldable pub act_in : List ℕ → Act
act_in m = act_at (raw_of m).opcode (body_of m)

unfoldable pub ext_in : List ℕ → List ℕ
ext_in m = drop (length m - ext_len m) m

abbrev pub asked_at : List ℕ → Asked
asked_at m = record { header = header_at m; act = act_in m; ext = ext_in m }

-- the message has a header, with the opcode of the request, and says it at the places of that opcode
pub record StandsAtPlaces (v : Asked) (m : List ℕ) : Type 0 where
  pub long : min_message_len ≤ length m
  pub opcode : (raw_of m).opcode ≡ opcode_of v.act
  pub says : asked_at m ≡ v

-- so does every message that spells the request
abbrev pub SpelledAt : Type 0
SpelledAt = (v : Asked) (m : List ℕ) → Spells v m → StandsAtPlaces v m
