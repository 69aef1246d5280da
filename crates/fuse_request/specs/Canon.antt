-- The one spelling of a request whose unused bytes are 0, and which requests may be encoded (defined by this project).
use Rattle.std.specs.Prelude.{◌≡◌, ◌+◌, ◌*◌, ◌/◌, ◌%◌, ◌==◌, ◌&&◌, ℕ, Bool, true, not, List, ◌++◌, length}
use Rattle.std.specs.List.{list_any}
use Rattle.fuse_wire.specs.Layout.{form, HasForm}
use Rattle.fuse_wire.specs.Bounds.{min_message_len}
use Rattle.fuse_request.specs.Lengths.{forget_one_size}
use Rattle.fuse_request.specs.Opcodes.{in_profile}
use Rattle.fuse_request.specs.Act.{Act, Lookup, Mknod, Mkdir, Unlink, Rmdir, Rename, BatchForget, Rename2, Further, Asked}
use Rattle.fuse_request.specs.Spelling.{parts, header_parts, IsSpellable, Spells}

abbrev pub len_of : Asked → ℕ
len_of v = min_message_len + (length (form (parts v.act)) + length v.ext)

abbrev pub canon : Asked → List ℕ
canon v = form (header_parts (len_of v) (length v.ext / 8) v) ++ (form (parts v.act) ++ v.ext)

-- it has a spelling
pub record HasCanon (v : Asked) : Type 0 where
  pub header : HasForm (header_parts (len_of v) (length v.ext / 8) v)
  pub body : HasForm (parts v.act)
  pub ext : length v.ext ≡ 8 * (length v.ext / 8)
  pub named : IsSpellable v.act

abbrev pub CanonSpells : Type 0
CanonSpells = (v : Asked) → HasCanon v → Spells v (canon v)

-- ---- what may be encoded

abbrev pub no_nul : List ℕ → Bool
no_nul name = not (list_any (λ b. b == 0) name)

abbrev pub sayable_act : Act → Bool
sayable_act (Lookup name) = no_nul name
sayable_act (Mknod mode rdev umask name) = no_nul name
sayable_act (Mkdir mode umask name) = no_nul name
sayable_act (Unlink name) = no_nul name
sayable_act (Rmdir name) = no_nul name
sayable_act (Rename new_dir old_name new_name) = no_nul old_name && no_nul new_name
sayable_act (Rename2 new_dir flags old_name new_name) = no_nul old_name && no_nul new_name
sayable_act (BatchForget items) = length items % forget_one_size == 0
sayable_act (Further opcode body) = not (in_profile opcode)
sayable_act _ = true

-- names hold no NUL, the extensions are whole units of 8 bytes, the items of BATCH_FORGET are whole, and no opcode of the
-- profile is unsupported
abbrev pub sayable : Asked → Bool
sayable v = sayable_act v.act && length v.ext % 8 == 0
