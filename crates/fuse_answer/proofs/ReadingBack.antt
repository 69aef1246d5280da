-- What is written is read: a number by the bytes that it was written in, and so each record.
use Rattle.std.proofs.Common.{◌≡◌, ◌<◌, ◌≤◌, ◌^◌, ℕ, zero, suc, inl, inr, List, [], ◌∷◌, ◌++◌, length, drop, Option, Some, None, refl, sym, ap, ◌∙◌, append_assoc, arith, rules, w32, to_z, of_z}
use Rattle.std.specs.Prelude.{replicate}
use Rattle.std.specs.Int.{byte_at, bytes_low_first, cast_unsigned}
use Rattle.std.specs.List.{AllByRecursion}
use Rattle.std.proofs.lemmas.Int.{of_z-to_z}
use Rattle.std.proofs.lemmas.List.{append-nil, drop_at, length-replicate, length-drop, nil_from_length}
use Rattle.fuse_wire.specs.Bytes.{le, number_of, IsBytes}
use Rattle.fuse_wire.specs.Layout.{Part, number, unused, text, bytes, Lays, form}
use Rattle.fuse_wire.specs.Laws.{NumbersRead, LayoutsStand}
use Rattle.fuse_answer.specs.declared.init_out.InitOut.{InitOut}
use Rattle.fuse_answer.specs.declared.records.Attr.{Attr}
use Rattle.fuse_answer.specs.declared.records.AttrOut.{AttrOut}
use Rattle.fuse_answer.specs.declared.records.EntryOut.{EntryOut}
use Rattle.fuse_answer.specs.declared.records.OpenOut.{OpenOut}
use Rattle.fuse_answer.specs.declared.records.WriteOut.{WriteOut}
use Rattle.fuse_answer.specs.Bodies.{entry_parts, attr_out_parts, open_parts, write_parts, init_parts, entry_bytes, attr_out_bytes, open_bytes, write_bytes}
use Rattle.fuse_answer.specs.Bodies.{init_bytes}
use Rattle.fuse_answer.specs.Entries.{DirectoryEntry, IsNamed, Lists, dirent_parts, entries_bytes}
use Rattle.fuse_answer.specs.declared.further.CreateOut.{CreateOut}
use Rattle.fuse_answer.specs.declared.further.LseekOut.{LseekOut}
use Rattle.fuse_answer.specs.declared.further.StatfsOut.{StatfsOut}
use Rattle.fuse_answer.specs.declared.further.XattrOut.{XattrOut}
use Rattle.fuse_answer.specs.FurtherAnswers.{create_parts, statfs_parts, xattr_parts, lseek_parts, create_bytes, statfs_bytes, xattr_bytes, lseek_bytes}
use Rattle.fuse_answer.specs.PlusEntries.{PlusEntry, PlusLists, out_bytes, plus_form, plus_bytes}
use Rattle.fuse_answer.specs.Replies.{AnEntry, ACreate, Attributes, AnOpen, AWrite, AStatfs, AnXattr, AnLseek, AnInit, Data, Directory, DirectoryPlus, kind_of}
use Rattle.fuse_answer.specs.Replies.{most_of, of_entry, of_create, of_attributes, of_open, of_write, of_statfs, of_xattr, of_lseek, of_init, of_data, of_directory}
use Rattle.fuse_answer.specs.Replies.{of_directory_plus, of_nothing, IsBody, IsRead, IsOfKind, IsAtMost}
use Rattle.fuse_answer.specs.Said.{Said, FitsAnswer}
use Rattle.fuse_answer.proofs.Forms.{len_first, entry_len}

-- ---- a number by its bytes

byte_small : (j n : ℕ) → byte_at j n < 256
byte_small zero n = omega arith
byte_small (suc j) n = omega arith

low_small : (j w n : ℕ) → IsBytes (bytes_low_first j w n)
low_small j zero n i = omega arith
low_small j (suc w) n zero = byte_small j n
low_small j (suc w) n (suc i) = low_small (suc j) w n i

le_small : (w n : ℕ) → IsBytes (le w n)
unfolding le
le_small w n = low_small 0 w n

-- the number that is read where n was written in w bytes
low : ℕ → ℕ → ℕ
low w n = number_of w (le w n)

low_is : NumbersRead → (w n : ℕ) → (low w n < 256 ^ w) × (le w (low w n) ≡ le w n)
unfolding low
low_is laws w n =
    let prefix = laws.prefix w (le w n) (omega (arith, laws.len w n)) (le_small w n) in
    let none : drop w (le w n) ≡ [] = nil_from_length (drop w (le w n)) (omega (arith, length-drop w (le w n), laws.len w n)) in
    (prefix.0, sym (prefix.1 ∙ ap (λ (x : List ℕ). le w (number_of w (le w n)) ++ x) none ∙ append-nil (le w (number_of w (le w n)))))

low_same : NumbersRead → (w n : ℕ) → n < 256 ^ w → low w n ≡ n
unfolding low
low_same laws w n fits = ap (number_of w) (sym (append-nil (le w n))) ∙ laws.read w n [] fits

-- ---- parts as they are read

lowered : List Part → List Part
lowered [] = []
lowered (number w n ∷ ps) = number w (low w n) ∷ lowered ps
lowered (unused w ∷ ps) = unused w ∷ lowered ps
lowered (text t ∷ ps) = text t ∷ lowered ps
lowered (bytes xs ∷ ps) = bytes xs ∷ lowered ps

HasNoText : List Part → Type 0
HasNoText [] = Unit {0}
HasNoText (number w n ∷ ps) = HasNoText ps
HasNoText (unused w ∷ ps) = HasNoText ps
HasNoText (text t ∷ ps) = ⊥
HasNoText (bytes xs ∷ ps) = HasNoText ps

lays : NumbersRead → (ps : List Part) → HasNoText ps → Lays (lowered ps) (form ps)
unfolding lowered HasNoText
lays laws [] h = refl
lays laws (number w n ∷ ps) h = (form ps, (low_is laws w n).0, ap (λ (x : List ℕ). x ++ form ps) (sym (low_is laws w n).1), lays laws ps h)
lays laws (unused w ∷ ps) h = (replicate w 0, form ps, length-replicate w 0, refl, lays laws ps h)
lays laws (text t ∷ ps) h = absurd h
lays laws (bytes xs ∷ ps) h = (form ps, refl, lays laws ps h)

-- ---- the records

low_attr : Attr → Attr
low_attr a = record {
  ino = low 8 a.ino;
  size = low 8 a.size;
  blocks = low 8 a.blocks;
  atime = low 8 a.atime;
  mtime = low 8 a.mtime;
  ctime = low 8 a.ctime;
  atimensec = low 4 a.atimensec;
  mtimensec = low 4 a.mtimensec;
  ctimensec = low 4 a.ctimensec;
  mode = low 4 a.mode;
  nlink = low 4 a.nlink;
  uid = low 4 a.uid;
  gid = low 4 a.gid;
  rdev = low 4 a.rdev;
  blksize = low 4 a.blksize;
  flags = low 4 a.flags;
}

low_entry_out : EntryOut → EntryOut
low_entry_out e = record {
  nodeid = low 8 e.nodeid;
  generation = low 8 e.generation;
  entry_valid = low 8 e.entry_valid;
  attr_valid = low 8 e.attr_valid;
  entry_valid_nsec = low 4 e.entry_valid_nsec;
  attr_valid_nsec = low 4 e.attr_valid_nsec;
  attr = low_attr e.attr;
}

pub entry_body : NumbersRead → (e : EntryOut) → IsBody AnEntry (entry_bytes e)
unfolding entry_bytes lowered HasNoText low_attr low_entry_out
entry_body laws e = (of_entry (low_entry_out e), record { of_kind = refl; laid = lays laws (entry_parts e) tt; proper = tt })

pub attributes_body : NumbersRead → (a : AttrOut) → IsBody Attributes (attr_out_bytes a)
unfolding attr_out_bytes lowered HasNoText low_attr
attributes_body laws a =
    let back : AttrOut = record { attr_valid = low 8 a.attr_valid; attr_valid_nsec = low 4 a.attr_valid_nsec; attr = low_attr a.attr } in
    (of_attributes back, record { of_kind = refl; laid = lays laws (attr_out_parts a) tt; proper = tt })

pub write_body : NumbersRead → (w : WriteOut) → IsBody AWrite (write_bytes w)
unfolding write_bytes lowered HasNoText
write_body laws w = (of_write (record { size = low 4 w.size }), record { of_kind = refl; laid = lays laws (write_parts w) tt; proper = tt })

pub init_body : NumbersRead → (i : InitOut) → IsBody AnInit (init_bytes i)
unfolding init_bytes lowered HasNoText
init_body laws i =
    let back : InitOut = record {
      major = low 4 i.major;
      minor = low 4 i.minor;
      max_readahead = low 4 i.max_readahead;
      flags = low 4 i.flags;
      max_background = low 2 i.max_background;
      congestion_threshold = low 2 i.congestion_threshold;
      max_write = low 4 i.max_write;
      time_gran = low 4 i.time_gran;
      max_pages = low 2 i.max_pages;
      map_alignment = low 2 i.map_alignment;
      flags2 = low 4 i.flags2;
      max_stack_depth = low 4 i.max_stack_depth;
    } in
    (of_init back, record { of_kind = refl; laid = lays laws (init_parts i) tt; proper = tt })

pub open_body : NumbersRead → (o : OpenOut) → IsBody AnOpen (open_bytes o)
unfolding open_bytes lowered HasNoText
open_body laws o =
    let bits : ℕ = low 4 (cast_unsigned w32 o.backing_id) in
    let few = (low_is laws 4 (cast_unsigned w32 o.backing_id)).0 in
    let same : of_z w32 (to_z w32 bits) ≡ bits = of_z-to_z w32 bits (omega (arith, few)) in
    let back : OpenOut = record { fh = low 8 o.fh; open_flags = low 4 o.open_flags; backing_id = to_z w32 bits } in
    (of_open back, record { of_kind = refl; laid = rw same (lays laws (open_parts o) tt); proper = search rules })

pub create_body : NumbersRead → (c : CreateOut) → IsBody ACreate (create_bytes c)
unfolding create_bytes lowered HasNoText low_attr low_entry_out
create_body laws c =
    let bits : ℕ = low 4 (cast_unsigned w32 c.open.backing_id) in
    let few = (low_is laws 4 (cast_unsigned w32 c.open.backing_id)).0 in
    let same : of_z w32 (to_z w32 bits) ≡ bits = of_z-to_z w32 bits (omega (arith, few)) in
    let opened : OpenOut = record { fh = low 8 c.open.fh; open_flags = low 4 c.open.open_flags; backing_id = to_z w32 bits } in (
      of_create (record { entry = low_entry_out c.entry; «open» = opened }),
      record { of_kind = refl; laid = rw same (lays laws (create_parts c) tt); proper = search rules },
    )

pub statfs_body : NumbersRead → (s : StatfsOut) → IsBody AStatfs (statfs_bytes s)
unfolding statfs_bytes lowered HasNoText
statfs_body laws s =
    let back : StatfsOut = record {
      blocks = low 8 s.blocks;
      bfree = low 8 s.bfree;
      bavail = low 8 s.bavail;
      files = low 8 s.files;
      ffree = low 8 s.ffree;
      bsize = low 4 s.bsize;
      namelen = low 4 s.namelen;
      frsize = low 4 s.frsize;
    } in
    (of_statfs back, record { of_kind = refl; laid = lays laws (statfs_parts s) tt; proper = tt })

pub xattr_body : NumbersRead → (x : XattrOut) → IsBody AnXattr (xattr_bytes x)
unfolding xattr_bytes lowered HasNoText
xattr_body laws x = (of_xattr (record { size = low 4 x.size }), record { of_kind = refl; laid = lays laws (xattr_parts x) tt; proper = tt })

pub lseek_body : NumbersRead → (l : LseekOut) → IsBody AnLseek (lseek_bytes l)
unfolding lseek_bytes lowered HasNoText
lseek_body laws l = (of_lseek (record { offset = low 8 l.offset }), record { of_kind = refl; laid = lays laws (lseek_parts l) tt; proper = tt })

pub data_body : (b : List ℕ) → IsBody Data b
data_body b = (of_data b, record { of_kind = refl; laid = ([], sym (append-nil b), refl); proper = tt })

-- ---- the entries of a directory

low_entry : DirectoryEntry → DirectoryEntry
low_entry e = record { ino = low 8 e.ino; off = low 8 e.off; kind = low 4 e.kind; name = e.name }

low_entries : List DirectoryEntry → List DirectoryEntry
low_entries [] = []
low_entries (e ∷ es) = low_entry e ∷ low_entries es

dirent_lays : NumbersRead → (e : DirectoryEntry) → length e.name ≤ 255 → Lays (dirent_parts (low_entry e)) (form (dirent_parts e))
unfolding lowered HasNoText low_entry
dirent_lays laws e few =
    let same : low 4 (length e.name) ≡ length e.name = low_same laws 4 (length e.name) (omega (arith, few)) in
    rw same at (lays laws (dirent_parts e) tt)

lists : NumbersRead → (es : List DirectoryEntry) → AllByRecursion IsNamed es → Lists (low_entries es) (entries_bytes es)
unfolding low_entries low_entry
lists laws [] named = refl
lists laws (e ∷ es) named =
    (entries_bytes es, record { prefix = form (dirent_parts e); whole = refl; named = named.0; laid = dirent_lays laws e named.0.1 }, lists laws es named.1)

pub listing_body : NumbersRead → (es : List DirectoryEntry) → AllByRecursion IsNamed es → IsBody Directory (entries_bytes es)
listing_body laws es named =
    let b : List ℕ = entries_bytes es in
    (of_directory b, record { of_kind = refl; laid = ([], sym (append-nil b), refl); proper = (low_entries es, lists laws es named) })

-- ---- the entries of READDIRPLUS

low_plus : List PlusEntry → List DirectoryEntry
low_plus [] = []
low_plus (e ∷ es) = low_entry e.entry ∷ low_plus es

-- what stands before an entry is passed over
past_out : LayoutsStand → (out : Option EntryOut) (b : List ℕ) → drop 128 (out_bytes out ++ b) ≡ b
past_out laws None b = drop_at {A = ℕ} (replicate 128 0) b 128 (length-replicate {A = ℕ} 128 0)
past_out laws (Some e) b = drop_at (entry_bytes e) b 128 (entry_len laws e)

plus_lists : (NumbersRead × LayoutsStand) → (es : List PlusEntry) → AllByRecursion (λ e. IsNamed e.entry) es → PlusLists (low_plus es) (plus_bytes es)
unfolding low_plus low_entry
plus_lists laws [] named = refl
plus_lists laws (e ∷ es) named =
    let one : List ℕ = form (dirent_parts e.entry) in
    let whole : drop 128 (plus_bytes (e ∷ es)) ≡ one ++ plus_bytes es =
    ap (drop 128) (append_assoc (out_bytes e.out) one (plus_bytes es)) ∙ past_out laws.1 e.out (one ++ plus_bytes es) in (
      plus_bytes es,
      record { prefix = one; whole = whole; named = named.0; laid = dirent_lays laws.0 e.entry named.0.1 },
      plus_lists laws es named.1,
    )

pub plus_body : (NumbersRead × LayoutsStand) → (es : List PlusEntry) → AllByRecursion (λ e. IsNamed e.entry) es → IsBody DirectoryPlus (plus_bytes es)
plus_body laws es named =
    let b : List ℕ = plus_bytes es in
    (of_directory_plus b, record { of_kind = refl; laid = ([], sym (append-nil b), refl); proper = (low_plus es, plus_lists laws es named) })

-- ---- whole answers

pub read : (NumbersRead × LayoutsStand) → (opcode size : ℕ) (a : Said) → FitsAnswer a → IsOfKind (kind_of opcode size) a
    → IsAtMost (most_of opcode size) (length a.body) → IsRead opcode size a
read laws opcode size a fits (inl is) within unique small = (
  is.1.0,
  record {
    body = a.body;
    whole = refl;
    len = (len_first laws a.errno a.body unique fits.short).fits;
    unique = small;
    said = inl (is.0, is.1.1, within);
  },
)
read laws opcode size a fits (inr is) within unique small = (
  of_nothing,
  record {
    body = a.body;
    whole = refl;
    len = (len_first laws a.errno a.body unique fits.short).fits;
    unique = small;
    said = inr (is.0, is.1, refl, is.2);
  },
)
