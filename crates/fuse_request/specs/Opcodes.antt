-- The requests of the profile (fuse.h; the choice is own).
use Rattle.std.specs.Prelude.{◌==◌, ◌&&◌, ◌||◌, ℕ, Bool, false, not, if◌then◌else◌, List, [], ◌∷◌, Option, Some, None, is_some, codes}
use Rattle.std.specs.Option.{option_map}
use Rattle.fuse_request.specs.declared.decoding.Malformed.{Malformed}
use Rattle.fuse_request.specs.Lengths.{forget_in_size, getattr_in_size, setattr_in_size, mknod_in_size, mkdir_in_size, rename_in_size, rename2_in_size}
use Rattle.fuse_request.specs.Lengths.{open_in_size, read_in_size, write_in_size, release_in_size, interrupt_in_size, batch_forget_in_size, forget_one_size}
use Rattle.fuse_wire.specs.Opcodes.{fuse_lookup, fuse_forget, fuse_getattr, fuse_setattr, fuse_mknod, fuse_mkdir, fuse_unlink, fuse_rmdir, fuse_rename}
use Rattle.fuse_wire.specs.Opcodes.{fuse_open, fuse_read, fuse_write, fuse_release, fuse_init, fuse_opendir, fuse_readdir, fuse_releasedir, fuse_interrupt}
use Rattle.fuse_wire.specs.Opcodes.{fuse_destroy, fuse_batch_forget, fuse_rename2, silent}
use Rattle.fuse_request.specs.Bodies.{fixed, at_least, name_body_fault, names_fault, counted_units, init_fault}

-- an opcode: its number, its name, and the fault of a body
pub record Opcode : Type 0 where
  pub number : ℕ
  pub name : List ℕ
  pub fault : List ℕ → Option Malformed

abbrev pub row : ℕ → List ℕ → (List ℕ → Option Malformed) → Opcode
row number name fault = record { number = number; name = name; fault = fault }

abbrev pub profile : List Opcode
profile =
    row fuse_lookup (codes "LOOKUP") name_body_fault
    ∷ row fuse_forget (codes "FORGET") (fixed forget_in_size)
    ∷ row fuse_getattr (codes "GETATTR") (fixed getattr_in_size)
    ∷ row fuse_setattr (codes "SETATTR") (fixed setattr_in_size)
    ∷ row fuse_mknod (codes "MKNOD") (at_least mknod_in_size name_body_fault)
    ∷ row fuse_mkdir (codes "MKDIR") (at_least mkdir_in_size name_body_fault)
    ∷ row fuse_unlink (codes "UNLINK") name_body_fault
    ∷ row fuse_rmdir (codes "RMDIR") name_body_fault
    ∷ row fuse_rename (codes "RENAME") (at_least rename_in_size names_fault)
    ∷ row fuse_open (codes "OPEN") (fixed open_in_size)
    ∷ row fuse_read (codes "READ") (fixed read_in_size)
    ∷ row fuse_write (codes "WRITE") (counted_units write_in_size 16 1)
    ∷ row fuse_release (codes "RELEASE") (fixed release_in_size)
    ∷ row fuse_init (codes "INIT") init_fault
    ∷ row fuse_opendir (codes "OPENDIR") (fixed open_in_size)
    ∷ row fuse_readdir (codes "READDIR") (fixed read_in_size)
    ∷ row fuse_releasedir (codes "RELEASEDIR") (fixed release_in_size)
    ∷ row fuse_interrupt (codes "INTERRUPT") (fixed interrupt_in_size)
    ∷ row fuse_destroy (codes "DESTROY") (fixed 0)
    ∷ row fuse_batch_forget (codes "BATCH_FORGET") (counted_units batch_forget_in_size 0 forget_one_size)
    ∷ row fuse_rename2 (codes "RENAME2") (at_least rename2_in_size names_fault)
    ∷ []

abbrev pub find : ℕ → List Opcode → Option Opcode
find number [] = None
find number (o ∷ os) = if number == o.number then Some o else find number os

abbrev pub in_profile : ℕ → Bool
in_profile opcode = is_some (find opcode profile)

abbrev pub name_of : ℕ → Option (List ℕ)
name_of opcode = option_map (λ o. o.name) (find opcode profile)

-- opcodes outside the profile that a file system serves; what it holds of others says nothing
abbrev pub OpcodeSet : Type 0
OpcodeSet = ℕ → Bool

abbrev pub no_others : OpcodeSet
no_others opcode = false

-- the opcodes outside the profile that a file system serves, and the opcodes, of those or of the profile, whose requests it sees:
-- they change nothing and leave no record. What it sees of others says nothing
pub record Service : Type 0 where
  pub serves : OpcodeSet
  pub sees : OpcodeSet

-- the profile alone, of which nothing is seen
abbrev pub profile_alone : Service
profile_alone = record { serves = no_others; sees = no_others }

-- it is of the profile or served beside it
abbrev pub is_served : Service → ℕ → Bool
is_served V opcode = V.serves opcode || in_profile opcode

-- requests of this opcode are performed: well-formed messages of it are kept or seen
abbrev pub is_performed_for : Service → ℕ → Bool
is_performed_for V opcode = not (silent opcode) && is_served V opcode

abbrev pub is_seen_for : Service → ℕ → Bool
is_seen_for V opcode = is_performed_for V opcode && V.sees opcode

abbrev pub is_kept_for : Service → ℕ → Bool
is_kept_for V opcode = is_performed_for V opcode && not (V.sees opcode)

abbrev pub fault_by : Option Opcode → List ℕ → Option Malformed
fault_by None b = None
fault_by (Some o) b = o.fault b
