-- Requests that bring bytes leave a state of bytes one.
use Rattle.std.proofs.Common.{◌<◌, ◌≤◌, ◌+◌, ◌-◌, ◌==◌, ◌&&◌, ◌||◌, ℕ, zero, suc, Bool, true, false, cond, eqb, not, List, [], ◌∷◌, ◌++◌, length, map, Option, Some, None, is_some, arith}
use Rattle.std.specs.Prelude.{take, replicate, nat_le, nat_lt}
use Rattle.std.specs.List.{AllByRecursion}
use Rattle.fuse_wire.specs.declared.access_mode.AccessMode.{AccessMode}
use Rattle.fuse_wire.specs.declared.access_mode.AccessMode.TheVariants.{ReadOnly}
use Rattle.fuse_wire.specs.declared.errno.Errno.{Errno}
use Rattle.fuse_wire.specs.declared.moment.Moment.{Moment}
use Rattle.fuse_wire.specs.Bits.{fattr_size}
use Rattle.fuse_wire.specs.Flags.{access_of}
use Rattle.fuse_request.specs.declared.request.InHeader.{InHeader}
use Rattle.fuse_request.specs.declared.request.InitIn.{InitIn}
use Rattle.fuse_request.specs.declared.request.ReadIn.{ReadIn}
use Rattle.fuse_request.specs.declared.request.SetattrIn.{SetattrIn}
use Rattle.fuse_request.specs.Act.{Act, Asked}
use Rattle.fuse_request.specs.Act as acts
use Rattle.fuse_answer.specs.Entries.{DirectoryEntry}
use Rattle.fuse_init.specs.Agree.{agree}
use Rattle.fuse_init.specs.declared.negotiation.Negotiated.{Negotiated}
use Rattle.fuse_init.specs.declared.negotiation.Negotiated.TheVariants.{Agreed, Again, Refused}
use Rattle.fuse_rows.specs.Bounds.{number_end}
use Rattle.fuse_rows.specs.declared.origin.Origin.{Origin}
use Rattle.fuse_tree.specs.declared.new_node.NewNode.{NewNode}
use Rattle.fuse_tree.specs.Checks.{Check, first_error}
use Rattle.fuse_rows.specs.declared.rows.EntryRow.{EntryRow}
use Rattle.fuse_tree.specs.State.{State, terms_of, profile_of, Node, is_dir, is_link, is_named, is_kept, node_at}
use Rattle.fuse_tree.specs.Removal.{swept, tidied}
use Rattle.fuse_rows.specs.Rows.{entry_at, sized, written}
use Rattle.fuse_tree.specs.Handles.{access_at, is_open}
use Rattle.fuse_tree.specs.Done.{Done, refuse, refuse_for, refuse_by, name_checks, answer, touched, touch}
use Rattle.fuse_tree.specs.Changing.{changed_at, with_changed}
use Rattle.fuse_tree.specs.Space.{room_of, has_room, newly_written}
use Rattle.fuse_rows.specs.Blocks.{listed_blocks}
use Rattle.fuse_tree.specs.Setting.{has_valid_bit, set_fault, set_attributes, with_set, setattr}
use Rattle.fuse_tree.specs.Writing.{Writing, wrote, with_bytes, may_write, write, read_checks, read}
use Rattle.fuse_tree.specs.Making.{asker, asked_node, begun_in, new_node, new_entry, with_new_node, make, mkdir_checks, mkdir, mknod_checks, mknod}
use Rattle.fuse_tree.specs.Init.{init}
use Rattle.fuse_answer.specs.PlusEntries.{plus_len}
use Rattle.fuse_tree.specs.PlusListing.{plus_following, read_dir_plus}
use Rattle.fuse_tree.specs.Listing.{first_fits, first_fits_by, list_checks, list_prefix, entries_following, read_dir}
use Rattle.fuse_tree.specs.Opening.{open_fault, open_checks, with_open_node, open_node, open_for, open_file, open_dir, closed, close, not_for_dirs, for_dirs_alone}
use Rattle.fuse_tree.specs.Removing.{marked, mark, without_entry, entry_gone, remove_child, remove_entry, remove, unlink_checks, rmdir_checks}
use Rattle.fuse_tree.specs.Renaming.{Renaming, asking, is_exchange, is_no_replace, holds, is_same, asked_fault, place_fault, placed, replaced, both_touched, renamed, exchanged, rename_with_room, rename_entry, exchange_entry, rename_by, rename_from, rename_between, rename}
use Rattle.fuse_tree.specs.Keeping.{agreement_of, keeps}
use Rattle.fuse_request.specs.FurtherBodies.{FurtherContent, Readlink, Statfs, Fsync, FsyncDir, Symlink, Create, ReadDirPlus, further_fault, further_content_at}
use Rattle.fuse_tree.specs.Further.{do_further, further}
use Rattle.fuse_tree.specs.Symlinking.{link_mode, with_target, with_link, symlink_checks, symlink}
use Rattle.fuse_tree.specs.Creating.{created, create_for, create}
use Rattle.fuse_tree.specs.Do.{lookup_absent, lookup_child, lookup_entry, lookup, do_act, do_at, names_node, done, do_offered, offer_of}
use Rattle.fuse_tree.specs.Bytes.{AreBytes, AreNameBytes, HoldsBytes, BringsBytes, BytesKept}
use Rattle.fuse_plan.proofs.Contents.{all_dropped, BringsNames, names_brought}
use Rattle.fuse_plan.proofs.Lists.{all_more, all_grown, all_mapped, all_kept}

-- ---- lists

all_taken : (P : ℕ → Type 0) (n : ℕ) (bs : List ℕ) → AllByRecursion P bs → AllByRecursion P (take n bs)
all_taken P zero bs all = tt
all_taken P (suc n) [] all = tt
all_taken P (suc n) (b ∷ bs) all = (all.0, all_taken P n bs all.1)

all_joined : (P : ℕ → Type 0) (bs cs : List ℕ) → AllByRecursion P bs → AllByRecursion P cs → AllByRecursion P (bs ++ cs)
all_joined P [] cs all later = later
all_joined P (b ∷ bs) cs all later = (all.0, all_joined P bs cs all.1 later)

zeros : (n : ℕ) → AreBytes (replicate n 0)
zeros zero = tt
zeros (suc n) = (omega arith, zeros n)

sized_bytes : (size : ℕ) (bs : List ℕ) → AreBytes bs → AreBytes (sized size bs)
sized_bytes size bs all = all_joined (λ b. b < 256) (take size bs) _ (all_taken (λ b. b < 256) size bs all) (zeros (size - length bs))

written_bytes : (offset : ℕ) (payload bs : List ℕ) → AreBytes payload → AreBytes bs → AreBytes (written offset payload bs)
written_bytes offset payload bs new all =
    all_joined (λ b. b < 256) (sized offset bs ++ payload) _
    (all_joined (λ b. b < 256) (sized offset bs) payload (sized_bytes offset bs all) new)
    (all_dropped (λ b. b < 256) (offset + length payload) bs all)

-- ---- states

touch_bytes : (dir : ℕ) (now : Moment) (s : State) → HoldsBytes s → HoldsBytes (touch dir now s)
touch_bytes dir now s h = record { contents = all_mapped (λ n. AreBytes n.content) (touched dir now) s.nodes h.contents; names = h.names }

mark_bytes : (number : ℕ) (now : Moment) (s : State) → HoldsBytes s → HoldsBytes (mark number now s)
mark_bytes number now s h = record { contents = all_mapped (λ n. AreBytes n.content) (marked number now) s.nodes h.contents; names = h.names }

without_bytes : (cookie : ℕ) (s : State) → HoldsBytes s → HoldsBytes (without_entry cookie s)
without_bytes cookie s h = record { contents = h.contents; names = all_kept (λ e. AreNameBytes e.name) (λ e. not (e.cookie == cookie)) s.entries h.names }

placed_bytes : (dir : ℕ) (name : List ℕ) (child : ℕ) (s : State) → AreNameBytes name → HoldsBytes s → HoldsBytes (placed dir name child s)
placed_bytes dir name child s new h = record { contents = h.contents; names = all_grown (λ e. AreNameBytes e.name) s.entries _ h.names new }

gone_bytes : (e : EntryRow) (now : Moment) (s : State) → HoldsBytes s → HoldsBytes (entry_gone e now s)
gone_bytes e now s h = mark_bytes e.child now _ (touch_bytes e.dir now _ (without_bytes e.cookie s h))

changed_bytes : (number : ℕ) (change : Node → Node) (s : State) → ((n : Node) → AreBytes n.content → AreBytes (change n).content) → HoldsBytes s
    → HoldsBytes (with_changed number change s)
changed_bytes number change s so h = record {
  contents = all_mapped (λ n. AreBytes n.content) (changed_at number change) s.nodes
      (all_more (λ n. AreBytes n.content) (λ n. AreBytes (changed_at number change n).content) s.nodes (λ n p. one n (eqb n.number number) p) h.contents);
  names = h.names;
}
  where
    one : (n : Node) (b : Bool) → AreBytes n.content → AreBytes (cond b (change n) n).content
    one n true p = so n p
    one n false p = p

link_bytes : (s : State) (fresh : NewNode) (content : List ℕ) (dir : ℕ) (name : List ℕ) → AreBytes content → AreNameBytes name → HoldsBytes s
    → HoldsBytes (with_link s fresh content dir name)
link_bytes s fresh content dir name bytes new h = record {
  contents =
      all_grown (λ n. AreBytes n.content) (map (touched dir fresh.made) s.nodes) (with_target content (new_node s fresh))
      (touch_bytes dir fresh.made s h).contents bytes;
  names = all_grown (λ e. AreNameBytes e.name) s.entries (new_entry s dir name) h.names new;
}

node_bytes : (s : State) (fresh : NewNode) (dir : ℕ) (name : List ℕ) → AreNameBytes name → HoldsBytes s → HoldsBytes (with_new_node s fresh dir name)
node_bytes s fresh dir name new h = record {
  contents =
      all_grown (λ n. AreBytes n.content) (map (touched dir fresh.made) s.nodes) (new_node s fresh) (touch_bytes dir fresh.made s h).contents tt;
  names = all_grown (λ e. AreNameBytes e.name) s.entries (new_entry s dir name) h.names new;
}

-- ---- what is done

-- without the nodes that have neither a name nor an fh
tidied_bytes : (t : State) → HoldsBytes t → HoldsBytes (tidied t)
tidied_bytes t h = step (terms_of t).removes
  where
    step : (b : Bool) → HoldsBytes (cond b (swept t) t)
    step true = record { contents = all_kept (λ n. AreBytes n.content) (λ n. is_kept t n.number) t.nodes h.contents; names = h.names }
    step false = h

record Keeps (d : Done) : Type 0 where
  bytes : HoldsBytes d.state

stays : (s : State) (errno : Errno) → HoldsBytes s → Keeps (refuse s errno)
stays s errno h = record { bytes = h }

leads : (s : State) (body : List ℕ) → HoldsBytes s → Keeps (answer s body)
leads s body h = record { bytes = h }

chosen : (b : Bool) (d e : Done) → Keeps d → Keeps e → Keeps (cond b d e)
chosen true d e one two = one
chosen false d e one two = two

unless : (s : State) (fault : Option Errno) (d : Done) → HoldsBytes s → Keeps d → Keeps (refuse_for s fault d)
unless s (Some errno) d h so = stays s errno h
unless s None d h so = so

-- in a state of bytes
module _ (s : State) (h : HoldsBytes s) where
  checked : (checks : List Check) (d : Done) → Keeps d → Keeps (refuse_by s checks d)
  checked checks d so = unless s (first_error checks) d h so

  lookup_absent_keeps : Keeps (lookup_absent s)
  lookup_absent_keeps = chosen (keeps (agreement_of s)) _ _ (leads s _ h) (stays s _ h)

  lookup_child_keeps : (o : Option Node) → Keeps (lookup_child s o)
  lookup_child_keeps None = lookup_absent_keeps
  lookup_child_keeps (Some child) = leads s _ h

  lookup_entry_keeps : (o : Option EntryRow) → Keeps (lookup_entry s o)
  lookup_entry_keeps None = lookup_absent_keeps
  lookup_entry_keeps (Some e) = lookup_child_keeps (node_at s e.child)

  lookup_keeps : (name : List ℕ) (n : Node) → Keeps (lookup s name n)
  lookup_keeps name n =
      checked (name_checks s name n) _ (lookup_entry_keeps (entry_at s.entries n.number name))

  setattr_keeps : (set : SetattrIn) (now : Moment) (n : Node) → Keeps (setattr s set now n)
  setattr_keeps set now n =
      unless s (set_fault (terms_of s).file_limit set n.mode) _ h
      (leads (with_set s set now n.number) _ (changed_bytes n.number (set_attributes set now) s (λ m p. one m.content (has_valid_bit set fattr_size) p) h))
    where
      one : (bs : List ℕ) (b : Bool) → AreBytes bs → AreBytes (cond b (sized set.size bs) bs)
      one bs true p = sized_bytes set.size bs p
      one bs false p = p

  write_keeps : (fh : ℕ) (w : Writing) (n : Node) → AreBytes w.payload → Keeps (write s fh w n)
  write_keeps fh w n new =
      chosen (not (may_write (access_at s.handles fh n.number))) _ _ (stays s _ h)
      (chosen (length w.payload == 0) _ _ (leads s _ h)
      (chosen (nat_lt (terms_of s).file_limit (w.offset + length w.payload)) _ _ (stays s _ h)
      (chosen (not (has_room (room_of s) (newly_written w.offset (length w.payload) (listed_blocks n.blocks)))) _ _ (stays s _ h)
      (leads (with_bytes s w.offset w.payload w.now n.number) _
      (changed_bytes n.number (wrote w.offset w.payload w.now) s (λ m p. written_bytes w.offset w.payload m.content new p) h)))))

  read_keeps : (asked : ReadIn) (n : Node) → Keeps (read s asked n)
  read_keeps asked n = checked (read_checks s asked n) _ (leads s _ h)

  make_keeps : (fresh : NewNode) (dir : ℕ) (name : List ℕ) → AreNameBytes name → Keeps (make s fresh dir name)
  make_keeps fresh dir name new = leads (with_new_node s fresh dir name) _ (node_bytes s fresh dir name new h)

  mkdir_keeps : (asked : NewNode) (name : List ℕ) (n : Node) → AreNameBytes name → Keeps (mkdir s asked name n)
  mkdir_keeps asked name n new = checked (mkdir_checks s name n) _ (make_keeps _ n.number name new)

  mknod_keeps : (asked : NewNode) (name : List ℕ) (n : Node) → AreNameBytes name → Keeps (mknod s asked name n)
  mknod_keeps asked name n new = checked (mknod_checks s asked.mode name n) _ (make_keeps _ n.number name new)

  remove_child_keeps : (checks : Node → List Check) (e : EntryRow) (now : Moment) (o : Option Node) → Keeps (remove_child s checks e now o)
  remove_child_keeps checks e now None = stays s _ h
  remove_child_keeps checks e now (Some child) =
      checked (checks child) _ (leads (tidied (entry_gone e now s)) [] (tidied_bytes (entry_gone e now s) (gone_bytes e now s h)))

  remove_entry_keeps : (checks : Node → List Check) (now : Moment) (o : Option EntryRow) → Keeps (remove_entry s checks now o)
  remove_entry_keeps checks now None = stays s _ h
  remove_entry_keeps checks now (Some e) = remove_child_keeps checks e now (node_at s e.child)

  remove_keeps : (checks : Node → List Check) (name : List ℕ) (now : Moment) (n : Node) → Keeps (remove s checks name now n)
  remove_keeps checks name now n = checked (name_checks s name n) _ (remove_entry_keeps checks now (entry_at s.entries n.number name))

  open_node_keeps : (flags : ℕ) (access : AccessMode) (n : Node) → Keeps (open_node s flags access n)
  open_node_keeps flags access n =
      unless s (open_fault (length s.handles) s.next_fh) _ h (leads (with_open_node s n.number access) _ (record { contents = h.contents; names = h.names }))

  open_for_keeps : (access : Option AccessMode) (n : Node) → Keeps (open_for s access n)
  open_for_keeps None n = stays s _ h
  open_for_keeps (Some access) n = open_node_keeps (terms_of s).open_flags access n

  open_keeps : (flags : ℕ) (n : Node) → Keeps (open_file s flags n)
  open_keeps flags n =
      checked (open_checks n.mode) _ (open_for_keeps (access_of flags) n)

  open_dir_keeps : (n : Node) → Keeps (open_dir s n)
  open_dir_keeps n = chosen (not (is_dir n.mode)) _ _ (stays s _ h) (open_node_keeps 0 ReadOnly n)

  close_keeps : (fh : ℕ) (kind_fault : Option Errno) (n : Node) → Keeps (close s fh kind_fault n)
  close_keeps fh kind_fault n =
      chosen (not (is_open s.handles fh n.number)) _ _ (stays s _ h)
      (unless s kind_fault _ h (leads (tidied (closed s fh)) [] (tidied_bytes (closed s fh) (record { contents = h.contents; names = h.names }))))

  list_keeps : (es : List DirectoryEntry) (size : ℕ) → Keeps (list_prefix s es size)
  list_keeps es size = chosen (not (first_fits es size)) _ _ (stays s _ h) (leads s _ h)

  read_dir_keeps : (asked : ReadIn) (n : Node) → Keeps (read_dir s asked n)
  read_dir_keeps asked n =
      checked (list_checks s asked n) _ (list_keeps (entries_following s n.number asked.offset) asked.size)

  init_keeps : (negotiated : Negotiated) → Keeps (init s negotiated)
  init_keeps (Agreed out settings) = leads (record s { settings = Some settings }) _ (record { contents = h.contents; names = h.names })
  init_keeps (Again out) = leads s _ h
  init_keeps (Refused errno) = stays s errno h

  -- to a new name of bytes, and back to an old one
  module _ (r : Renaming) (old : AreNameBytes r.old_name) (new : AreNameBytes r.new_name) where
    replaced_bytes : (other : Option EntryRow) → HoldsBytes (replaced r other s)
    replaced_bytes None = h
    replaced_bytes (Some other) = gone_bytes other r.now s h

    both_bytes : (dir : ℕ) (t : State) → HoldsBytes t → HoldsBytes (both_touched r dir t)
    both_bytes dir t g = touch_bytes r.new_dir r.now _ (touch_bytes dir r.now t g)

    renamed_bytes : (dir : ℕ) (e : EntryRow) (other : Option EntryRow) → HoldsBytes (renamed r dir e other s)
    renamed_bytes dir e other =
        both_bytes dir _ (mark_bytes e.child r.now _ (placed_bytes r.new_dir r.new_name e.child _ new (without_bytes e.cookie _ (replaced_bytes other))))

    exchanged_bytes : (dir : ℕ) (e other : EntryRow) → HoldsBytes (exchanged r dir e other s)
    exchanged_bytes dir e other =
        both_bytes dir _ (mark_bytes e.child r.now _ (mark_bytes other.child r.now _
        (placed_bytes r.new_dir r.new_name e.child _ new
        (placed_bytes dir r.old_name other.child _ old (without_bytes other.cookie _ (without_bytes e.cookie s h))))))

    room_keeps : (dir : ℕ) (e : EntryRow) (other : Option EntryRow) → Keeps (rename_with_room s r dir e other)
    room_keeps dir e other = chosen (nat_le number_end s.next_cookie) _ _ (stays s _ h)
        (leads (tidied (renamed r dir e other s)) [] (tidied_bytes (renamed r dir e other s) (renamed_bytes dir e other)))

    entry_keeps : (dir : ℕ) (e : EntryRow) (other : Option EntryRow) → Keeps (rename_entry s r dir e other)
    entry_keeps dir e other =
        chosen (is_same e other) _ _ (leads s [] h)
        (chosen (holds s e.child r.new_dir) _ _ (stays s _ h)
        (unless s (place_fault s e.child other) _ h (room_keeps dir e other)))

    exchange_keeps : (dir : ℕ) (e : EntryRow) (other : Option EntryRow) → Keeps (exchange_entry s r dir e other)
    exchange_keeps dir e None = stays s _ h
    exchange_keeps dir e (Some other) =
        chosen (e.cookie == other.cookie) _ _ (leads s [] h)
        (chosen (holds s e.child r.new_dir || holds s other.child dir) _ _ (stays s _ h)
        (chosen (nat_lt (number_end - 2) s.next_cookie) _ _ (stays s _ h) (leads (exchanged r dir e other s) [] (exchanged_bytes dir e other))))

    by_keeps : (dir : ℕ) (e : EntryRow) (other : Option EntryRow) → Keeps (rename_by s r dir e other)
    by_keeps dir e other =
        chosen (is_exchange r.mode) _ _ (exchange_keeps dir e other)
        (chosen (is_no_replace r.mode && is_some other) _ _ (stays s _ h) (entry_keeps dir e other))

    from_keeps : (dir : ℕ) (o : Option EntryRow) → Keeps (rename_from s r dir o)
    from_keeps dir None = stays s _ h
    from_keeps dir (Some e) = by_keeps dir e (entry_at s.entries r.new_dir r.new_name)

    between_keeps : (n : Node) (o : Option Node) → Keeps (rename_between s r n o)
    between_keeps n None = stays s _ h
    between_keeps n (Some to) =
        unless s (asked_fault r (is_dir n.mode && is_dir to.mode) (is_named s n.number && is_named s to.number)) _ h
        (from_keeps n.number (entry_at s.entries n.number r.old_name))

    rename_keeps : (n : Node) → Keeps (rename s r n)
    rename_keeps n = between_keeps n (node_at s r.new_dir)

  symlink_keeps : (from : Origin) (target name : List ℕ) (n : Node) → AreNameBytes name → AreBytes target → Keeps (symlink s from target name n)
  symlink_keeps from target name n new bytes =
      let fresh : NewNode = begun_in s n (asked_node from link_mode 0) in
      checked (symlink_checks s target name n) _ (leads (with_link s fresh target n.number name) _ (link_bytes s fresh target n.number name bytes new h))

  create_for_keeps : (fresh : NewNode) (dir : ℕ) (name : List ℕ) (o : Option AccessMode) → AreNameBytes name → Keeps (create_for s fresh dir name o)
  create_for_keeps fresh dir name None new = stays s _ h
  create_for_keeps fresh dir name (Some access) new =
      let made = node_bytes s fresh dir name new h in
      unless s (open_fault (length s.handles) s.next_fh) _ h (leads (created s fresh dir name access) _ (record { contents = made.contents; names = made.names }))

  create_keeps : (asked : NewNode) (flags : ℕ) (name : List ℕ) (n : Node) → AreNameBytes name → Keeps (create s asked flags name n)
  create_keeps asked flags name n new = checked (mkdir_checks s name n) _ (create_for_keeps _ n.number name (access_of flags) new)

  read_dir_plus_keeps : (asked : ReadIn) (n : Node) → Keeps (read_dir_plus s asked n)
  read_dir_plus_keeps asked n =
      checked (list_checks s asked n) _
      (chosen (not (first_fits_by plus_len (plus_following s n.number asked.offset) asked.size)) _ _ (stays s _ h) (leads s _ h))

  content_keeps : (from : Origin) (o : Option FurtherContent) (n : Node) → BringsNames o → Keeps (do_further s from o n)
  content_keeps from (Some Readlink) n new = chosen (not (is_link n.mode)) _ _ (stays s _ h) (leads s _ h)
  content_keeps from (Some Statfs) n new = leads s _ h
  content_keeps from (Some (Fsync fh fsync_flags)) n new = chosen (not (is_open s.handles fh n.number)) _ _ (stays s _ h) (leads s _ h)
  content_keeps from (Some (FsyncDir fh fsync_flags)) n new = chosen (not (is_open s.handles fh n.number)) _ _ (stays s _ h) (leads s _ h)
  content_keeps from (Some (Symlink name target)) n new =
      symlink_keeps from target name n new.0 (all_more (λ b. (1 ≤ b) × (b < 256)) (λ b. b < 256) target (λ b is. is.1) new.1)
  content_keeps from (Some (Create flags mode umask open_flags name)) n new = create_keeps (asked_node from mode 0) flags name n new
  content_keeps from (Some (ReadDirPlus x)) n new = read_dir_plus_keeps x n
  content_keeps from _ n new = stays s _ h

  further_keeps : (from : Origin) (opcode : ℕ) (body : List ℕ) (n : Node) → AreBytes body → Keeps (further s from opcode body n)
  further_keeps from opcode body n bytes =
      chosen (not ((terms_of s).further opcode)) _ _ (stays s _ h)
      (chosen (is_some (further_fault opcode body)) _ _ (stays s _ h) (content_keeps from (further_content_at opcode body) n (names_brought opcode body bytes)))

  act_keeps : (header : InHeader) (act : Act) (now : Moment) (n : Node) → BringsBytes act → Keeps (do_act s header act now n)
  act_keeps header (acts.Lookup name) now n new = lookup_keeps name n
  act_keeps header (acts.Getattr flags fh) now n new = leads s _ h
  act_keeps header (acts.Setattr set) now n new = setattr_keeps set now n
  act_keeps header (acts.Mkdir mode umask name) now n new = mkdir_keeps (asked_node (asker header now) mode 0) name n new
  act_keeps header (acts.Mknod mode rdev umask name) now n new = mknod_keeps (asked_node (asker header now) mode rdev) name n new
  act_keeps header (acts.Unlink name) now n new = remove_keeps unlink_checks name now n
  act_keeps header (acts.Rmdir name) now n new = remove_keeps (rmdir_checks s) name now n
  act_keeps header (acts.OpenFile flags open_flags) now n new = open_keeps flags n
  act_keeps header (acts.Read asked) now n new = read_keeps asked n
  act_keeps header (acts.Write fh offset write_flags lock_owner flags payload) now n new = write_keeps fh (record { offset = offset; payload = payload; now = now }) n new
  act_keeps header (acts.OpenDir flags open_flags) now n new = open_dir_keeps n
  act_keeps header (acts.ReadDir x) now n new = read_dir_keeps x n
  act_keeps header (acts.Release x) now n new = close_keeps x.fh (not_for_dirs n.mode) n
  act_keeps header (acts.ReleaseDir x) now n new = close_keeps x.fh (for_dirs_alone n.mode) n
  act_keeps header (acts.Rename new_dir old_name new_name) now n new = rename_keeps (asking new_dir 0 old_name new_name now) new.0 new.1 n
  act_keeps header (acts.Rename2 new_dir flags old_name new_name) now n new = rename_keeps (asking new_dir flags old_name new_name now) new.0 new.1 n
  act_keeps header (acts.Further opcode body) now n new = further_keeps (asker header now) opcode body n new
  act_keeps header _ now n new = stays s _ h

  at_keeps : (request : Asked) (now : Moment) (o : Option Node) → BringsBytes request.act → Keeps (do_at s request now o)
  at_keeps request now None new = stays s _ h
  at_keeps request now (Some n) new = act_keeps request.header request.act now n new

  offered_keeps : (request : Asked) (now : Moment) (o : Option InitIn) → BringsBytes request.act → Keeps (do_offered s request now o)
  offered_keeps request now (Some offer) new = init_keeps (agree (profile_of s) offer)
  offered_keeps request now None new =
      chosen (is_some s.settings) _ _
      (chosen (names_node request.act) _ _ (at_keeps request now (node_at s request.header.nodeid) new) (leads s [] h))
      (stays s _ h)

-- ---- all requests, new stores and mounts

pub bytes_kept : BytesKept
unfolding done
bytes_kept = record {
  new = λ p capacity from. record { contents = (tt, tt); names = tt };
  kept = λ s request now new h. (offered_keeps s h request now (offer_of request.act) new).bytes;
  mounted = λ s h. record { contents = all_kept (λ n. AreBytes n.content) (λ n. is_named s n.number) s.nodes h.contents; names = h.names };
}
