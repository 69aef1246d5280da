-- The bytes of a body spell one act, and have no fault.
use Rattle.std.proofs.Common.{◌≡◌, ℕ, ◌*◌, ◌-◌, ◌==◌, Bool, true, false, cond, subst, List, [], ◌∷◌, length, drop, map, Option, Some, None, refl, sym, ap}
use Rattle.std.proofs.Common.{◌∙◌, arith}
use Rattle.std.specs.Prelude.{is_some}
use Rattle.std.proofs.lemmas.List.{length-drop}
use Rattle.fuse_wire.specs.Bytes.{number_of}
use Rattle.fuse_wire.specs.Layout.{Lays}
use Rattle.fuse_wire.specs.Laws.{LayoutsStand, NamesEnd}
use Rattle.fuse_request.specs.declared.request.InitIn.{InitIn}
use Rattle.fuse_request.specs.declared.request.ReadIn.{ReadIn}
use Rattle.fuse_request.specs.declared.request.ReleaseIn.{ReleaseIn}
use Rattle.fuse_request.specs.declared.request.SetattrIn.{SetattrIn}
use Rattle.fuse_request.specs.Bodies.{name_body_fault, names_fault}
use Rattle.fuse_request.specs.Opcodes.{Opcode, profile, find, fault_by}
use Rattle.fuse_request.specs.Act.{Act, Lookup, Forget, Getattr, Setattr, Mknod, Mkdir, Unlink, Rmdir, Rename, OpenFile, Read, Write, Release, Init, OpenDir}
use Rattle.fuse_request.specs.Act.{ReadDir, ReleaseDir, Interrupt, Destroy, BatchForget, Rename2, Further, opcode_of}
use Rattle.fuse_request.specs.Spelling.{parts, IsSpellable, setattr_parts, open_in_parts, read_parts, release_parts}
use Rattle.fuse_request.specs.Faults.{body_fault}
use Rattle.fuse_request.specs.Places.{places, at_row, act_at, setattr_at, read_at, release_at}
use Rattle.fuse_request.proofs.Laid.{all_bytes}
use Rattle.fuse_request.proofs.BodyFaults.{fixed_none, at_least_after, counted_none, one_name, both_names}

-- the laws of the wire that are used here
abbrev pub Laws : Type 0
Laws = LayoutsStand × NamesEnd

-- one act, and no fault
abbrev pub IsOne : Act → List ℕ → Type 0
IsOne a b = (act_at (opcode_of a) b ≡ a) × (body_fault (opcode_of a) b ≡ None)

-- ---- bodies of names alone

one_lookup : Laws → (name b : List ℕ) → Lays (parts (Lookup name)) b → IsOne (Lookup name) b
one_lookup laws name b h = let n = one_name laws.1 name b h in (ap Lookup n.0, n.1)

one_unlink : Laws → (name b : List ℕ) → Lays (parts (Unlink name)) b → IsOne (Unlink name) b
one_unlink laws name b h = let n = one_name laws.1 name b h in (ap Unlink n.0, n.1)

one_rmdir : Laws → (name b : List ℕ) → Lays (parts (Rmdir name)) b → IsOne (Rmdir name) b
one_rmdir laws name b h = let n = one_name laws.1 name b h in (ap Rmdir n.0, n.1)

-- ---- fixed bodies

one_forget : Laws → (nlookup : ℕ) (b : List ℕ) → Lays (parts (Forget nlookup)) b → IsOne (Forget nlookup) b
one_forget laws nlookup b h = let p = laws.0.stands (parts (Forget nlookup)) b h in (ap Forget (sym p.0), fixed_none 8 b p.1)

one_interrupt : Laws → (unique : ℕ) (b : List ℕ) → Lays (parts (Interrupt unique)) b → IsOne (Interrupt unique) b
one_interrupt laws unique b h = let p = laws.0.stands (parts (Interrupt unique)) b h in (ap Interrupt (sym p.0), fixed_none 8 b p.1)

one_destroy : Laws → (b : List ℕ) → Lays (parts Destroy) b → IsOne Destroy b
one_destroy laws b h = (refl, fixed_none 0 b (ap length h))

one_getattr : Laws → (flags fh : ℕ) (b : List ℕ) → Lays (parts (Getattr flags fh)) b → IsOne (Getattr flags fh) b
one_getattr laws flags fh b h = let p = laws.0.stands (parts (Getattr flags fh)) b h in (rw (p.0, p.1.0) refl, fixed_none 16 b p.1.1)

setattr_placed : Laws → (x : SetattrIn) (b : List ℕ) → Lays (setattr_parts x) b → (setattr_at b ≡ x) × (length b ≡ 88)
setattr_placed laws x b h =
    let p = laws.0.stands (setattr_parts x) b h in
    let q = p.1.1.1.1.1.1.1 in (
      rw (p.0, p.1.0, p.1.1.0, p.1.1.1.0, p.1.1.1.1.0, p.1.1.1.1.1.0, p.1.1.1.1.1.1.0, q.0, q.1.0, q.1.1.0, q.1.1.1.0, q.1.1.1.1.0, q.1.1.1.1.1.0) refl,
      q.1.1.1.1.1.1,
    )

one_setattr : Laws → (x : SetattrIn) (b : List ℕ) → Lays (parts (Setattr x)) b → IsOne (Setattr x) b
one_setattr laws x b h = let p = setattr_placed laws x b h in (ap Setattr p.0, fixed_none 88 b p.1)

one_open : Laws → (flags open_flags : ℕ) (b : List ℕ) → Lays (open_in_parts flags open_flags) b → IsOne (OpenFile flags open_flags) b
one_open laws flags open_flags b h = let p = laws.0.stands (open_in_parts flags open_flags) b h in (rw (p.0, p.1.0) refl, fixed_none 8 b p.1.1)

one_open_dir : Laws → (flags open_flags : ℕ) (b : List ℕ) → Lays (open_in_parts flags open_flags) b → IsOne (OpenDir flags open_flags) b
one_open_dir laws flags open_flags b h = let p = laws.0.stands (open_in_parts flags open_flags) b h in (rw (p.0, p.1.0) refl, fixed_none 8 b p.1.1)

pub read_placed : Laws → (x : ReadIn) (b : List ℕ) → Lays (read_parts x) b → (read_at b ≡ x) × (length b ≡ 40)
read_placed laws x b h =
    let p = laws.0.stands (read_parts x) b h in
    (rw (p.0, p.1.0, p.1.1.0, p.1.1.1.0, p.1.1.1.1.0, p.1.1.1.1.1.0) refl, p.1.1.1.1.1.1)

one_read : Laws → (x : ReadIn) (b : List ℕ) → Lays (read_parts x) b → IsOne (Read x) b
one_read laws x b h = let p = read_placed laws x b h in (ap Read p.0, fixed_none 40 b p.1)

one_read_dir : Laws → (x : ReadIn) (b : List ℕ) → Lays (read_parts x) b → IsOne (ReadDir x) b
one_read_dir laws x b h = let p = read_placed laws x b h in (ap ReadDir p.0, fixed_none 40 b p.1)

release_placed : Laws → (x : ReleaseIn) (b : List ℕ) → Lays (release_parts x) b → (release_at b ≡ x) × (length b ≡ 24)
release_placed laws x b h =
    let p = laws.0.stands (release_parts x) b h in
    (rw (p.0, p.1.0, p.1.1.0, p.1.1.1.0) refl, p.1.1.1.1)

one_release : Laws → (x : ReleaseIn) (b : List ℕ) → Lays (release_parts x) b → IsOne (Release x) b
one_release laws x b h = let p = release_placed laws x b h in (ap Release p.0, fixed_none 24 b p.1)

one_release_dir : Laws → (x : ReleaseIn) (b : List ℕ) → Lays (release_parts x) b → IsOne (ReleaseDir x) b
one_release_dir laws x b h = let p = release_placed laws x b h in (ap ReleaseDir p.0, fixed_none 24 b p.1)

-- INIT's two lengths
abbrev init_by : (major minor max_readahead flags : ℕ) (flags2 : Option ℕ) → InitIn
init_by major minor max_readahead flags flags2 = record { major = major; minor = minor; max_readahead = max_readahead; flags = flags; flags2 = flags2 }

one_init_by : Laws → (major minor max_readahead flags : ℕ) (flags2 : Option ℕ) (b : List ℕ)
    → Lays (parts (Init (init_by major minor max_readahead flags flags2))) b → IsOne (Init (init_by major minor max_readahead flags flags2)) b
one_init_by laws major minor max_readahead flags None b h =
    let p = laws.0.stands (parts (Init (init_by major minor max_readahead flags None))) b h in
    (rw (p.1.1.1.1, p.0, p.1.0, p.1.1.0, p.1.1.1.0) refl, rw p.1.1.1.1 refl)
one_init_by laws major minor max_readahead flags (Some flags2) b h =
    let p = laws.0.stands (parts (Init (init_by major minor max_readahead flags (Some flags2)))) b h in
    let q = p.1.1.1.1 in
    (rw (q.1, p.0, p.1.0, p.1.1.0, p.1.1.1.0, q.0) refl, rw q.1 refl)

one_init : Laws → (x : InitIn) (b : List ℕ) → Lays (parts (Init x)) b → IsOne (Init x) b
one_init laws x b h = one_init_by laws x.major x.minor x.max_readahead x.flags x.flags2 b h

-- ---- numbers, and then names

one_mknod : Laws → (mode rdev umask : ℕ) (name b : List ℕ) → Lays (parts (Mknod mode rdev umask name)) b → IsOne (Mknod mode rdev umask name) b
one_mknod laws mode rdev umask name b h =
    let p = laws.0.stands (parts (Mknod mode rdev umask name)) b h in
    let q = p.1.1.1 in
    let n = one_name laws.1 name (drop 16 b) q.1 in
    (rw (p.0, p.1.0, p.1.1.0, n.0) refl, at_least_after 16 name_body_fault b q.0 ∙ n.1)

one_mkdir : Laws → (mode umask : ℕ) (name b : List ℕ) → Lays (parts (Mkdir mode umask name)) b → IsOne (Mkdir mode umask name) b
one_mkdir laws mode umask name b h =
    let p = laws.0.stands (parts (Mkdir mode umask name)) b h in
    let q = p.1.1 in
    let n = one_name laws.1 name (drop 8 b) q.1 in
    (rw (p.0, p.1.0, n.0) refl, at_least_after 8 name_body_fault b q.0 ∙ n.1)

one_rename : Laws → (new_dir : ℕ) (old_name new_name b : List ℕ) → Lays (parts (Rename new_dir old_name new_name)) b
    → IsOne (Rename new_dir old_name new_name) b
one_rename laws new_dir old_name new_name b h =
    let p = laws.0.stands (parts (Rename new_dir old_name new_name)) b h in
    let q = p.1 in
    let n = both_names laws.1 old_name new_name (drop 8 b) q.1 in
    (rw (p.0, n.0, n.1) refl, at_least_after 8 names_fault b q.0 ∙ n.2)

one_rename2 : Laws → (new_dir flags : ℕ) (old_name new_name b : List ℕ) → Lays (parts (Rename2 new_dir flags old_name new_name)) b
    → IsOne (Rename2 new_dir flags old_name new_name) b
one_rename2 laws new_dir flags old_name new_name b h =
    let p = laws.0.stands (parts (Rename2 new_dir flags old_name new_name)) b h in
    let q = p.1.1 in
    let n = both_names laws.1 old_name new_name (drop 16 b) q.1 in
    (rw (p.0, p.1.0, n.0, n.1) refl, at_least_after 16 names_fault b q.0 ∙ n.2)

-- ---- numbers, and then bytes

one_write : Laws → (fh offset write_flags lock_owner flags : ℕ) (payload b : List ℕ) → Lays (parts (Write fh offset write_flags lock_owner flags payload)) b
    → IsOne (Write fh offset write_flags lock_owner flags payload) b
one_write laws fh offset write_flags lock_owner flags payload b h =
    let p = laws.0.stands (parts (Write fh offset write_flags lock_owner flags payload)) b h in
    let q = p.1.1.1.1.1.1 in
    let all = all_bytes payload (drop 40 b) q.1 in
    let size = p.1.1.0 in
    let count : 1 * number_of 4 (drop 16 b) ≡ length b - 40 = omega (arith, size, q.0, ap length all, length-drop 40 b) in
    (rw (p.0, p.1.0, p.1.1.1.0, p.1.1.1.1.0, p.1.1.1.1.1.0, all) refl, counted_none 40 16 1 b q.0 count)

one_batch_forget : Laws → (items b : List ℕ) → Lays (parts (BatchForget items)) b → IsSpellable (BatchForget items) → IsOne (BatchForget items) b
one_batch_forget laws items b h whole =
    let p = laws.0.stands (parts (BatchForget items)) b h in
    let q = p.1 in
    let all = all_bytes items (drop 8 b) q.1 in
    let n = p.0 in
    let count : 16 * number_of 4 b ≡ length b - 8 = omega (arith, n, whole, q.0, ap length all, length-drop 8 b) in
    (ap BatchForget all, counted_none 8 0 16 b q.0 count)

-- ---- outside the profile

row_step : {A : Type 0} (same : Bool) (o : Opcode) (found : Option Opcode) (here more other : A) → cond {A = Option Opcode} same (Some o) found ≡ None
    → (found ≡ None → more ≡ other) → cond same here more ≡ other
row_step true o found here more other none rest = absurd cc
row_step false o found here more other none rest = rest none

-- a number that is in no row has none
no_row : {A : Type 0} (other : A) (number : ℕ) (rows : List (ℕ × A)) (os : List Opcode) → map (λ row. row.0) rows ≡ map (λ o. o.number) os
    → find number os ≡ None → at_row other number rows ≡ other
no_row other number [] os e none = refl
no_row other number (row ∷ rows) [] e none = absurd cc
no_row other number (row ∷ rows) (o ∷ os) e none =
    let first : row.0 ≡ o.number = cc in
    let rest : map (λ row. row.0) rows ≡ map (λ o. o.number) os = cc in
    subst (λ n. cond (number == n) row.1 (at_row other number rows) ≡ other) (sym first)
    (row_step (number == o.number) o (find number os) row.1 (at_row other number rows) other none (no_row other number rows os rest))

not_found : {A : Type 0} (o : Option A) → is_some o ≡ false → o ≡ None
not_found None e = refl
not_found (Some x) e = absurd cc

one_further : Laws → (opcode : ℕ) (body b : List ℕ) → Lays (parts (Further opcode body)) b → IsSpellable (Further opcode body)
    → IsOne (Further opcode body) b
one_further laws opcode body b h named =
    let none = not_found (find opcode profile) named in
    let other = no_row (Further opcode) opcode places profile refl none in
    (ap (λ (f : List ℕ → Act). f b) other ∙ ap (Further opcode) (all_bytes body b h), ap (λ (o : Option Opcode). fault_by o b) none)

pub one_act : Laws → (a : Act) (b : List ℕ) → Lays (parts a) b → IsSpellable a → IsOne a b
one_act laws (Lookup name) b h named = one_lookup laws name b h
one_act laws (Forget nlookup) b h named = one_forget laws nlookup b h
one_act laws (Getattr flags fh) b h named = one_getattr laws flags fh b h
one_act laws (Setattr x) b h named = one_setattr laws x b h
one_act laws (Mknod mode rdev umask name) b h named = one_mknod laws mode rdev umask name b h
one_act laws (Mkdir mode umask name) b h named = one_mkdir laws mode umask name b h
one_act laws (Unlink name) b h named = one_unlink laws name b h
one_act laws (Rmdir name) b h named = one_rmdir laws name b h
one_act laws (Rename new_dir old_name new_name) b h named = one_rename laws new_dir old_name new_name b h
one_act laws (OpenFile flags open_flags) b h named = one_open laws flags open_flags b h
one_act laws (Read x) b h named = one_read laws x b h
one_act laws (Write fh offset write_flags lock_owner flags payload) b h named = one_write laws fh offset write_flags lock_owner flags payload b h
one_act laws (Release x) b h named = one_release laws x b h
one_act laws (Init x) b h named = one_init laws x b h
one_act laws (OpenDir flags open_flags) b h named = one_open_dir laws flags open_flags b h
one_act laws (ReadDir x) b h named = one_read_dir laws x b h
one_act laws (ReleaseDir x) b h named = one_release_dir laws x b h
one_act laws (Interrupt unique) b h named = one_interrupt laws unique b h
one_act laws Destroy b h named = one_destroy laws b h
one_act laws (BatchForget items) b h named = one_batch_forget laws items b h named
one_act laws (Rename2 new_dir flags old_name new_name) b h named = one_rename2 laws new_dir flags old_name new_name b h
one_act laws (Further opcode body) b h named = one_further laws opcode body b h named
