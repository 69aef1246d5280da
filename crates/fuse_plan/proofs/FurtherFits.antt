-- What further opcodes answer fits, and is read.
use Rattle.std.proofs.Common.{◌≡◌, ◌||◌, ℕ, Bool, true, false, not, eqb, if◌then◌else◌, List, [], length, take, drop, Option, Some, None, is_some, refl, subst, sym, ◌⊎◌, inl, inr, arith}
use Rattle.std.specs.Option.{unwrap_or}
use Rattle.std.proofs.lemmas.Bool.{eqb-true}
use Rattle.std.proofs.lemmas.List.{length-take}
use Rattle.fuse_wire.specs.Bytes as wire_bytes
use Rattle.fuse_wire.specs.declared.access_mode.AccessMode.{AccessMode}
use Rattle.fuse_wire.specs.Flags.{access_of}
use Rattle.fuse_request.specs.AskedSize.{further_size}
use Rattle.fuse_request.specs.Places.{before_nul, second_name, read_at}
use Rattle.fuse_request.specs.FurtherBodies.{FurtherContent, Readlink, Statfs, Fsync, FsyncDir, Symlink, Create, ReadDirPlus, further_fault, further_content_at}
use Rattle.fuse_wire.specs.Errnos.{enosys, einval}
use Rattle.fuse_wire.specs.Opcodes.{fuse_readlink, fuse_symlink, fuse_statfs, fuse_fsync, fuse_fsyncdir, fuse_create, fuse_readdirplus}
use Rattle.fuse_init.specs.declared.profile.Profile.{Profile}
use Rattle.fuse_init.specs.declared.profile.Profile.TheVariants.{Plain, Everyday}
use Rattle.fuse_init.specs.Profile.{terms}
use Rattle.fuse_answer.specs.Laws.{ReadBack, RecordSizes}
use Rattle.fuse_answer.specs.declared.further.CreateOut.{CreateOut}
use Rattle.fuse_answer.specs.declared.further.StatfsOut.{StatfsOut}
use Rattle.fuse_answer.specs.Bodies.{entry_bytes}
use Rattle.fuse_answer.specs.FurtherAnswers.{statfs_bytes, create_bytes}
use Rattle.fuse_answer.specs.Replies.{Kind, AnEntry, ACreate, AStatfs, Data, Nothing, kind_of, most_of}
use Rattle.fuse_rows.specs.Bounds.{target_limit}
use Rattle.fuse_rows.specs.declared.origin.Origin.{Origin}
use Rattle.fuse_tree.specs.declared.new_node.NewNode.{NewNode}
use Rattle.fuse_tree.specs.State.{State, Node, Shape, profile_of, terms_of, is_link}
use Rattle.fuse_tree.specs.Keeping.{agreement_of, valid_of}
use Rattle.fuse_tree.specs.Done.{Done, refuse, answer, attr_of, entry_out_of}
use Rattle.fuse_tree.specs.Making.{asked_node, begun_in, new_node, mkdir_checks}
use Rattle.fuse_tree.specs.Opening.{open_tests, open_fault}
use Rattle.fuse_tree.specs.Symlinking.{link_mode, with_target, with_link, symlink_checks, symlink}
use Rattle.fuse_tree.specs.Creating.{created, create_of, create_for, create}
use Rattle.fuse_tree.specs.Handles.{is_open}
use Rattle.fuse_tree.specs.Statfs.{statfs_of, statfs, no_room}
use Rattle.fuse_tree.specs.Syncing.{fsync}
use Rattle.fuse_tree.specs.Space.{room_of}
use Rattle.fuse_tree.specs.Linking.{readlink}
use Rattle.fuse_tree.specs.Further.{do_further, further}
use Rattle.fuse_plan.proofs.Fit.{Fits, refused, answered, chosen, checked, refused_for, Reads, refused_reads, tests_error, refused_for_reads, answered_reads, chosen_reads, checked_reads, no_body, Short, refused_short, chosen_short}
use Rattle.fuse_plan.proofs.PlusFits.{read_dir_plus_fits, read_dir_plus_reads, read_dir_plus_short}

readlink_fits : (s : State) (n : Node) → Fits (readlink s n)
readlink_fits s n = chosen (not (is_link n.mode)) _ _ (refused s _) (answered s _ (omega (arith, length-take 4095 n.content)))

fsync_fits : (s : State) (fh : ℕ) (n : Node) → Fits (fsync s fh n)
fsync_fits s fh n = chosen (not (is_open s.handles fh n.number)) _ _ (refused s _) (answered s [] (omega arith))

statfs_len : (out : StatfsOut) → length (statfs_bytes out) ≡ 80
unfolding statfs_bytes wire_bytes.le
statfs_len out = refl

statfs_fits : (s : State) → Fits (statfs s)
statfs_fits s = answered s _ (omega (arith, statfs_len (statfs_of (terms_of s).node_limit (length s.nodes) (unwrap_or (room_of s) no_room))))

symlink_fits : RecordSizes → (s : State) (from : Origin) (target name : List ℕ) (n : Node) → Fits (symlink s from target name n)
symlink_fits sizes s from target name n =
    let fresh : NewNode = begun_in s n (asked_node from link_mode 0) in
    let made : Node = with_target target (new_node s fresh) in
    checked s (symlink_checks s target name n) _
    (answered (with_link s fresh target n.number name) _
    (omega (arith, sizes.0 (entry_out_of (valid_of (agreement_of s)) (attr_of (with_link s fresh target n.number name) made)))))

-- an entry and then what OPEN answers
create_len : (out : CreateOut) → length (create_bytes out) ≡ 144
unfolding create_bytes wire_bytes.le
create_len out = refl

create_for_fits : (s : State) (fresh : NewNode) (dir : ℕ) (name : List ℕ) (o : Option AccessMode) → Fits (create_for s fresh dir name o)
create_for_fits s fresh dir name None = refused s _
create_for_fits s fresh dir name (Some access) =
    refused_for s (open_fault (length s.handles) s.next_fh) _
    (answered (created s fresh dir name access) _ (omega (arith, create_len (create_of s fresh dir name access))))

create_fits : (s : State) (asked : NewNode) (flags : ℕ) (name : List ℕ) (n : Node) → Fits (create s asked flags name n)
create_fits s asked flags name n = checked s (mkdir_checks s name n) _ (create_for_fits s _ n.number name (access_of flags))

content_fits : RecordSizes → (s : State) (from : Origin) (o : Option FurtherContent) (n : Node) → Fits (do_further s from o n)
content_fits sizes s from (Some Readlink) n = readlink_fits s n
content_fits sizes s from (Some Statfs) n = statfs_fits s
content_fits sizes s from (Some (Fsync fh fsync_flags)) n = fsync_fits s fh n
content_fits sizes s from (Some (FsyncDir fh fsync_flags)) n = fsync_fits s fh n
content_fits sizes s from (Some (Symlink name target)) n = symlink_fits sizes s from target name n
content_fits sizes s from (Some (Create flags mode umask open_flags name)) n = create_fits s (asked_node from mode 0) flags name n
content_fits sizes s from (Some (ReadDirPlus x)) n = read_dir_plus_fits sizes s x n
content_fits sizes s from _ n = refused s _

pub further_fits : RecordSizes → (s : State) (from : Origin) (opcode : ℕ) (body : List ℕ) (n : Node) → Fits (further s from opcode body n)
further_fits sizes s from opcode body n =
    chosen (not ((terms_of s).further opcode)) _ _ (refused s _)
    (chosen (is_some (further_fault opcode body)) _ _ (refused s _) (content_fits sizes s from (further_content_at opcode body) n))

-- ---- it is read

linked_reads : ReadBack → (s : State) (fresh : NewNode) (target : List ℕ) (dir : ℕ) (name : List ℕ)
    → Reads AnEntry (answer (with_link s fresh target dir name) (entry_bytes (entry_out_of (valid_of (agreement_of s))
    (attr_of (with_link s fresh target dir name) (with_target target (new_node s fresh))))))
linked_reads back s fresh target dir name =
    answered_reads (with_link s fresh target dir name) _
    (back.entry (entry_out_of (valid_of (agreement_of s)) (attr_of (with_link s fresh target dir name) (with_target target (new_node s fresh)))))

symlink_reads : ReadBack → (s : State) (from : Origin) (target name : List ℕ) (n : Node) → Reads AnEntry (symlink s from target name n)
symlink_reads back s from target name n =
    checked_reads s (symlink_checks s target name n) _ refl (linked_reads back s (begun_in s n (asked_node from link_mode 0)) target n.number name)

create_for_reads : ReadBack → (s : State) (fresh : NewNode) (dir : ℕ) (name : List ℕ) (o : Option AccessMode) → Reads ACreate (create_for s fresh dir name o)
create_for_reads back s fresh dir name None = refused_reads s _ refl
create_for_reads back s fresh dir name (Some access) =
    refused_for_reads s (open_fault (length s.handles) s.next_fh) _ (tests_error (open_tests (length s.handles) s.next_fh) refl)
    (answered_reads (created s fresh dir name access) _ (back.create (create_of s fresh dir name access)))

create_reads : ReadBack → (s : State) (asked : NewNode) (flags : ℕ) (name : List ℕ) (n : Node) → Reads ACreate (create s asked flags name n)
create_reads back s asked flags name n = checked_reads s (mkdir_checks s name n) _ refl (create_for_reads back s _ n.number name (access_of flags))

readlink_reads : ReadBack → (s : State) (n : Node) → Reads Data (readlink s n)
readlink_reads back s n = chosen_reads (not (is_link n.mode)) _ _ (refused_reads s _ refl) (answered_reads s _ (back.data_bytes (take target_limit n.content)))

statfs_reads : ReadBack → (s : State) → Reads AStatfs (statfs s)
statfs_reads back s = answered_reads s _ (back.statfs (statfs_of (terms_of s).node_limit (length s.nodes) (unwrap_or (room_of s) no_room)))

fsync_reads : (s : State) (fh : ℕ) (n : Node) → Reads Nothing (fsync s fh n)
fsync_reads s fh n = chosen_reads (not (is_open s.handles fh n.number)) _ _ (refused_reads s _ refl) (answered_reads s [] no_body)

one_of : (b c : Bool) → (b || c) ≡ true → (b ≡ true) ⊎ (c ≡ true)
one_of true c e = inl refl
one_of false c e = inr e

-- an opcode that a profile serves beside those of the protocol's is one of these
one_served : (Q : ℕ → Type 0) (p : Profile) (opcode : ℕ) → Q fuse_readlink → Q fuse_symlink → Q fuse_statfs → Q fuse_fsync → Q fuse_fsyncdir
    → Q fuse_create → Q fuse_readdirplus → (terms p).further opcode ≡ true → Q opcode
one_served Q Plain opcode q0 q1 q2 q3 q4 q5 q6 is = absurd cc
one_served Q Everyday opcode q0 q1 q2 q3 q4 q5 q6 is =
    let each : (n : ℕ) → Q n → eqb opcode n ≡ true → Q opcode = λ n q same. subst Q (sym (eqb-true opcode n same)) q in
    elim (one_of _ _ is) [
      | inl one ↦ each fuse_readlink q0 one
      | inr is ↦ elim (one_of _ _ is) [
        | inl one ↦ each fuse_symlink q1 one
        | inr is ↦ elim (one_of _ _ is) [
          | inl one ↦ each fuse_statfs q2 one
          | inr is ↦ elim (one_of _ _ is) [
            | inl one ↦ each fuse_fsync q3 one
            | inr is ↦ elim (one_of _ _ is) [
              | inl one ↦ each fuse_fsyncdir q4 one
              | inr is ↦ elim (one_of _ _ is) [ inl one ↦ each fuse_create q5 one | inr one ↦ each fuse_readdirplus q6 one ]
            ]
          ]
        ]
      ]
    ]

-- what is done with the body of an opcode that is served
abbrev performed : State → Origin → ℕ → List ℕ → Node → Done
performed s from opcode body n = if is_some (further_fault opcode body) then refuse s einval else do_further s from (further_content_at opcode body) n

spelled_reads : {kind : Kind} (s : State) (b : Bool) (d : Done) → Reads kind d → Reads kind (if b then refuse s einval else d)
spelled_reads s b d so = chosen_reads b _ _ (refused_reads s _ refl) so

performed_reads : ReadBack → (s : State) (from : Origin) (opcode : ℕ) (body : List ℕ) (n : Node) → Shape s
    → (terms_of s).further opcode ≡ true → Reads (kind_of opcode (further_size opcode body)) (performed s from opcode body n)
performed_reads back s from opcode body n tree is =
    one_served (λ opcode. Reads (kind_of opcode (further_size opcode body)) (performed s from opcode body n)) (profile_of s) opcode
    (spelled_reads s (is_some (further_fault fuse_readlink body)) _ (readlink_reads back s n))
    (spelled_reads s (is_some (further_fault fuse_symlink body)) _ (symlink_reads back s from (second_name body) (before_nul body) n))
    (spelled_reads s (is_some (further_fault fuse_statfs body)) _ (statfs_reads back s))
    (spelled_reads s (is_some (further_fault fuse_fsync body)) _ (fsync_reads s (wire_bytes.number_of 8 body) n))
    (spelled_reads s (is_some (further_fault fuse_fsyncdir body)) _ (fsync_reads s (wire_bytes.number_of 8 body) n))
    (spelled_reads s (is_some (further_fault fuse_create body)) _
    (create_reads back s (asked_node from (wire_bytes.number_of 4 (drop 4 body)) 0) (wire_bytes.number_of 4 body) (before_nul (drop 16 body)) n))
    (spelled_reads s (is_some (further_fault fuse_readdirplus body)) _ (read_dir_plus_reads back s (read_at body) n tree)) is

served_reads : (kind : Kind) (s : State) (b : Bool) (d : Done) → (b ≡ true → Reads kind d) → Reads kind (if not b then refuse s enosys else d)
served_reads kind s true d so = so refl
served_reads kind s false d so = refused_reads s enosys refl

pub further_reads : ReadBack → (s : State) (from : Origin) (opcode : ℕ) (body : List ℕ) (n : Node) → Shape s
    → Reads (kind_of opcode (further_size opcode body)) (further s from opcode body n)
further_reads back s from opcode body n tree =
    served_reads (kind_of opcode (further_size opcode body)) s ((terms_of s).further opcode) _ (performed_reads back s from opcode body n tree)

-- ---- it isn't longer than was asked for

readlink_short : (s : State) (n : Node) → Short (Some 4095) (readlink s n)
readlink_short s n = chosen_short _ (not (is_link n.mode)) _ _ (refused_short (Some 4095) s _) (record { within = omega (arith, length-take 4095 n.content) })

spelled_short : (s : State) (b : Bool) (size : ℕ) (d : Done) → Short (Some size) d → Short (Some (if b then 0 else size)) (if b then refuse s einval else d)
spelled_short s true size d so = refused_short (Some 0) s einval
spelled_short s false size d so = so

performed_short : RecordSizes → (s : State) (from : Origin) (opcode : ℕ) (body : List ℕ) (n : Node)
    → (terms_of s).further opcode ≡ true → Short (most_of opcode (further_size opcode body)) (performed s from opcode body n)
performed_short sizes s from opcode body n is =
    one_served (λ opcode. Short (most_of opcode (further_size opcode body)) (performed s from opcode body n)) (profile_of s) opcode
    (chosen_short _ (is_some (further_fault fuse_readlink body)) _ _ (refused_short (Some 4095) s einval) (readlink_short s n))
    (record { within = tt }) (record { within = tt }) (record { within = tt }) (record { within = tt }) (record { within = tt })
    (spelled_short s (is_some (further_fault fuse_readdirplus body)) (read_at body).size _ (read_dir_plus_short sizes s (read_at body) n)) is

served_short : (most : Option ℕ) (s : State) (b : Bool) (d : Done) → (b ≡ true → Short most d) → Short most (if not b then refuse s enosys else d)
served_short most s true d so = so refl
served_short most s false d so = refused_short most s enosys

pub further_short : RecordSizes → (s : State) (from : Origin) (opcode : ℕ) (body : List ℕ) (n : Node)
    → Short (most_of opcode (further_size opcode body)) (further s from opcode body n)
further_short sizes s from opcode body n =
    served_short (most_of opcode (further_size opcode body)) s ((terms_of s).further opcode) _ (performed_short sizes s from opcode body n)
