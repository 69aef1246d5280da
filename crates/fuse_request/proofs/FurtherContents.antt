-- The bytes of a further body say one thing, and have no fault.
use Rattle.std.proofs.Common.{◌≡◌, ℕ, true, false, subst, List, [], ◌∷◌, length, drop, Option, Some, None, Result, Ok, Err, refl, sym, ap, ◌∙◌}
use Rattle.std.specs.Prelude.{IfOk, IfSome, IsOkAnd, IsSomeAnd, is_some}
use Rattle.std.specs.Option.{option_map}
use Rattle.std.specs.Result.{result_err}
use Rattle.std.proofs.lemmas.Bool.{eq-eqb}
use Rattle.fuse_wire.specs.Bytes.{number_of, after_nul, IsBytes}
use Rattle.fuse_wire.specs.Layout.{Lays, Placed, text, bytes}
use Rattle.fuse_wire.specs.Laws.{NamesEnd}
use Rattle.fuse_request.specs.declared.decoding.Malformed.{Malformed}
use Rattle.fuse_request.specs.declared.request.ReadIn.{ReadIn}
use Rattle.fuse_request.specs.declared.further.Body.{Body}
use Rattle.fuse_request.specs.Bodies.{name_body_fault}
use Rattle.fuse_request.specs.Places.{before_nul}
use Rattle.fuse_request.specs.FurtherBodies.{FurtherContent, Readlink, Symlink, Link, Statfs, Fsync, Setxattr, Getxattr, Listxattr, Removexattr, Flush, FsyncDir, Access}
use Rattle.fuse_request.specs.FurtherBodies.{Create, Fallocate, ReadDirPlus, Lseek, CopyFileRange, further_content, further_opcode, further_parts, copy_file_range_parts, SpellsBody}
use Rattle.fuse_request.specs.FurtherBodies.{value_fault, copy_file_range_at, further_fault, further_content_at, is_further, further_opcodes, find_further, FurtherOpcode}
use Rattle.fuse_request.specs.FurtherBodies.{fault_in}
use Rattle.fuse_request.specs.inner.FurtherReaders.{ReadsAny}
use Rattle.fuse_request.proofs.Laid.{all_bytes}
use Rattle.fuse_request.proofs.BodyFaults.{fixed_none, at_least_after, one_name, both_names, before_nul-text}
use Rattle.fuse_request.proofs.Acts.{Laws, read_placed}

pub copy_file_range_placed : (b : List ℕ) → length b ≡ 56 → Placed 0 (copy_file_range_parts (copy_file_range_at b)) b
copy_file_range_placed b len = (refl, (refl, (refl, (refl, (refl, (refl, (refl, len)))))))

-- one content, and no fault
abbrev IsOne : FurtherContent → List ℕ → Type 0
IsOne x b = (further_content_at (further_opcode x) b ≡ Some x) × (further_fault (further_opcode x) b ≡ None)

-- a name and the value after it
named_value : NamesEnd → (t value b : List ℕ) → Lays (text t ∷ bytes value ∷ []) b
    → (before_nul b ≡ t) × (after_nul b ≡ Some value)
named_value ends t value b h =
    let rest : h.0 ≡ value = all_bytes value h.0 h.3 in
    let after : after_nul b ≡ Some h.0 = ap after_nul h.2 ∙ ends.text t h.0 h.1 in
    (ap before_nul h.2 ∙ before_nul-text t h.0 h.1, after ∙ ap (λ (x : List ℕ). Some x) rest)

one_content : Laws → (x : FurtherContent) (b : List ℕ) → Lays (further_parts x) b → IsOne x b
one_content laws Readlink b h = (refl, fixed_none 0 b (ap length h))
one_content laws (Symlink name target) b h =
    let n = both_names laws.1 name target b h in
    (rw (n.0, n.1) refl, n.2)
one_content laws (Link oldnodeid name) b h =
    let p = laws.0.stands (further_parts (Link oldnodeid name)) b h in
    let q = p.1 in
    let n = one_name laws.1 name (drop 8 b) q.1 in
    (rw (p.0, n.0) refl, at_least_after 8 name_body_fault b q.0 ∙ n.1)
one_content laws Statfs b h = (refl, fixed_none 0 b (ap length h))
one_content laws (Fsync fh fsync_flags) b h =
    let p = laws.0.stands (further_parts (Fsync fh fsync_flags)) b h in
    (rw (p.0, p.1.0) refl, fixed_none 16 b p.1.1)
one_content laws (Setxattr flags name value) b h =
    let p = laws.0.stands (further_parts (Setxattr flags name value)) b h in
    let q = p.1.1 in
    let n = named_value laws.1 name value (drop 8 b) q.1 in (
      rw (p.1.0, n.0, n.1) refl,
      at_least_after 8 (λ rest. value_fault (number_of 4 b) (after_nul rest)) b q.0
          ∙ ap (λ (o : Option (List ℕ)). value_fault (number_of 4 b) o) n.1
          ∙ rw (eq-eqb (length value) (number_of 4 b) p.0) refl,
    )
one_content laws (Getxattr size name) b h =
    let p = laws.0.stands (further_parts (Getxattr size name)) b h in
    let q = p.1 in
    let n = one_name laws.1 name (drop 8 b) q.1 in
    (rw (p.0, n.0) refl, at_least_after 8 name_body_fault b q.0 ∙ n.1)
one_content laws (Listxattr size) b h =
    let p = laws.0.stands (further_parts (Listxattr size)) b h in
    (rw p.0 refl, fixed_none 8 b p.1)
one_content laws (Removexattr name) b h = let n = one_name laws.1 name b h in (rw n.0 refl, n.1)
one_content laws (Flush fh lock_owner) b h =
    let p = laws.0.stands (further_parts (Flush fh lock_owner)) b h in
    (rw (p.0, p.1.0) refl, fixed_none 24 b p.1.1)
one_content laws (FsyncDir fh fsync_flags) b h =
    let p = laws.0.stands (further_parts (FsyncDir fh fsync_flags)) b h in
    (rw (p.0, p.1.0) refl, fixed_none 16 b p.1.1)
one_content laws (Access mask) b h =
    let p = laws.0.stands (further_parts (Access mask)) b h in
    (rw p.0 refl, fixed_none 8 b p.1)
one_content laws (Create flags mode umask open_flags name) b h =
    let p = laws.0.stands (further_parts (Create flags mode umask open_flags name)) b h in
    let q = p.1.1.1.1 in
    let n = one_name laws.1 name (drop 16 b) q.1 in
    (rw (p.0, p.1.0, p.1.1.0, p.1.1.1.0, n.0) refl, at_least_after 16 name_body_fault b q.0 ∙ n.1)
one_content laws (Fallocate fh offset len mode) b h =
    let p = laws.0.stands (further_parts (Fallocate fh offset len mode)) b h in
    (rw (p.0, p.1.0, p.1.1.0, p.1.1.1.0) refl, fixed_none 32 b p.1.1.1.1)
one_content laws (ReadDirPlus x) b h =
    let p = read_placed laws x b h in
    (ap (λ (v : ReadIn). Some (ReadDirPlus v)) p.0, fixed_none 40 b p.1)
one_content laws (Lseek fh offset whence) b h =
    let p = laws.0.stands (further_parts (Lseek fh offset whence)) b h in
    (rw (p.0, p.1.0, p.1.1.0) refl, fixed_none 24 b p.1.1.1)
one_content laws (CopyFileRange x) b h =
    let p = laws.0.stands (copy_file_range_parts x) b h in
    let q = p.1.1.1 in
    (rw (p.0, p.1.0, p.1.1.0, q.0, q.1.0, q.1.1.0, q.1.1.1.0) refl, fixed_none 56 b q.1.1.1.1)

-- of any opcode, what a body that is spelled says and that it has no fault
spelled_one : Laws → (opcode : ℕ) (x : FurtherContent) (b : List ℕ) → SpellsBody opcode x b → (further_content_at opcode b ≡ Some x) × (further_fault opcode b ≡ None)
spelled_one laws opcode x b s = subst (λ (o : ℕ). (further_content_at o b ≡ Some x) × (further_fault o b ≡ None)) s.opcode_is (one_content laws x b s.parted)

in_table : (x : FurtherContent) → is_further (further_opcode x) ≡ true
in_table Readlink = refl
in_table (Symlink name target) = refl
in_table (Link oldnodeid name) = refl
in_table Statfs = refl
in_table (Fsync fh fsync_flags) = refl
in_table (Setxattr flags name value) = refl
in_table (Getxattr size name) = refl
in_table (Listxattr size) = refl
in_table (Removexattr name) = refl
in_table (Flush fh lock_owner) = refl
in_table (FsyncDir fh fsync_flags) = refl
in_table (Access mask) = refl
in_table (Create flags mode umask open_flags name) = refl
in_table (Fallocate fh offset len mode) = refl
in_table (ReadDirPlus x) = refl
in_table (Lseek fh offset whence) = refl
in_table (CopyFileRange x) = refl

spelled_in : (opcode : ℕ) (x : FurtherContent) (b : List ℕ) → SpellsBody opcode x b → is_further opcode ≡ true
spelled_in opcode x b s = subst (λ (o : ℕ). is_further o ≡ true) s.opcode_is (in_table x)

none_found : (o : Option FurtherOpcode) (b : List ℕ) → is_some o ≡ false → fault_in o b ≡ None
none_found None b none = refl
none_found (Some o) b none = absurd cc

-- outside the table a body has no fault
unread : (opcode : ℕ) (b : List ℕ) → is_further opcode ≡ false → further_fault opcode b ≡ None
unread opcode b none = none_found (find_further opcode further_opcodes) b none

-- what a reader returned
pub body_found : Laws → (opcode : ℕ) (b : List ℕ) (r : Result (Option Body) Malformed) → IsBytes b → ReadsAny opcode b r
    → IfOk r (λ o. IfSome o (λ x. SpellsBody opcode (further_content x) b))
body_found laws opcode b (Ok (Some x)) fits reads = record { opcode_is = reads.0; parted = laws.0.placed (further_parts (further_content x)) b fits reads.1 }
body_found laws opcode b (Ok None) fits reads = tt
body_found laws opcode b (Err m) fits reads = tt

pub body_only : Laws → (opcode : ℕ) (b : List ℕ) (r : Result (Option Body) Malformed) → IsBytes b → ReadsAny opcode b r
    → (v : FurtherContent) → SpellsBody opcode v b → IsOkAnd r (λ o. IsSomeAnd o (λ x. further_content x ≡ v))
body_only laws opcode b (Ok (Some x)) fits reads v s =
    let here = spelled_one laws opcode (further_content x) b (body_found laws opcode b (Ok (Some x)) fits reads) in
    let there = spelled_one laws opcode v b s in
    let same : ◌≡◌ {A = Option FurtherContent} (Some (further_content x)) (Some v) = sym here.0 ∙ there.0 in
    cc
body_only laws opcode b (Ok None) fits reads v s = let there = spelled_in opcode v b s in absurd cc
body_only laws opcode b (Err m) fits reads v s = let there = (spelled_one laws opcode v b s).1 in absurd cc

-- outside the table a body says nothing
nothing_at : (o : Option FurtherOpcode) (b : List ℕ) → is_some o ≡ false → ◌≡◌ {A = Option FurtherContent} None (option_map (λ x. x.says b) o)
nothing_at None b none = refl
nothing_at (Some o) b none = absurd cc

pub body_placed : Laws → (opcode : ℕ) (b : List ℕ) (r : Result (Option Body) Malformed) → IsBytes b → ReadsAny opcode b r
    → IfOk r (λ o. option_map (λ x. further_content x) o ≡ further_content_at opcode b)
body_placed laws opcode b (Ok (Some x)) fits reads = sym (spelled_one laws opcode (further_content x) b (body_found laws opcode b (Ok (Some x)) fits reads)).0
body_placed laws opcode b (Ok None) fits reads = nothing_at (find_further opcode further_opcodes) b reads
body_placed laws opcode b (Err m) fits reads = tt

pub body_fault_read : Laws → (opcode : ℕ) (b : List ℕ) (r : Result (Option Body) Malformed) → IsBytes b → ReadsAny opcode b r
    → result_err r ≡ further_fault opcode b
body_fault_read laws opcode b (Ok (Some x)) fits reads = sym (spelled_one laws opcode (further_content x) b (body_found laws opcode b (Ok (Some x)) fits reads)).1
body_fault_read laws opcode b (Ok None) fits reads = sym (unread opcode b reads)
body_fault_read laws opcode b (Err m) fits reads = sym reads

pub body_read : (opcode : ℕ) (b : List ℕ) (r : Result (Option Body) Malformed) → ReadsAny opcode b r
    → IfOk r (λ o. is_some o ≡ is_further opcode)
body_read opcode b (Ok (Some x)) reads = sym (subst (λ (o : ℕ). is_further o ≡ true) reads.0 (in_table (further_content x)))
body_read opcode b (Ok None) reads = sym reads
body_read opcode b (Err m) reads = tt
