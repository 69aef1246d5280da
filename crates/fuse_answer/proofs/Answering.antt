-- Bytes answer one thing at most, and then they have no fault.
use Rattle.std.proofs.Common.{◌≡◌, ◌≢◌, ℕ, ◌+◌, ◌≤◌, inl, inr, if◌then◌else◌, List, [], ◌∷◌, ◌++◌, length, drop, Option, Some, None, Result, Ok, Err, refl, sym, ap, subst, ◌∙◌}
use Rattle.std.proofs.Common.{append_assoc, arith, w32, to_z, of_z}
use Rattle.std.specs.Prelude.{◌==◌, IfOk, IfErr, IsOkAnd}
use Rattle.std.proofs.lemmas.Bool.{eq-eqb, ne_eqb}
use Rattle.std.proofs.lemmas.Int.{to_z-of_z}
use Rattle.std.proofs.lemmas.List.{append-nil, drop-drop, length-append, length-drop}
use Rattle.fuse_wire.specs.Bytes.{le, number_of, IsBytes}
use Rattle.fuse_wire.specs.Layout.{Part, number, bytes, Lays, Placed, form, HasForm}
use Rattle.fuse_wire.specs.Laws.{NumbersRead, LayoutsStand}
use Rattle.fuse_answer.specs.declared.records.Attr.{Attr}
use Rattle.fuse_answer.specs.declared.records.EntryOut.{EntryOut}
use Rattle.fuse_answer.specs.declared.reply.Reply.{Reply}
use Rattle.fuse_answer.specs.declared.reply.BadAnswer.{BadAnswer}
use Rattle.fuse_answer.specs.declared.reply.BadAnswer.TheVariants.{Short, LenDiffers, ErrorRange, BodyAfterError, BodyLength, BadDirent}
use Rattle.fuse_answer.specs.Bodies.{entry_parts, attr_out_parts, open_parts, write_parts, init_parts}
use Rattle.fuse_answer.specs.FurtherAnswers.{create_parts, statfs_parts, xattr_parts, lseek_parts}
use Rattle.fuse_answer.specs.Entries.{IsListing}
use Rattle.fuse_answer.specs.PlusEntries.{IsPlusListing}
use Rattle.fuse_answer.specs.Wire.{negated, wire, wire_head}
use Rattle.fuse_answer.specs.Replies.{Kind, AnEntry, ACreate, Attributes, AnOpen, AWrite, AStatfs, AnXattr, AnLseek, AnInit, Data, Directory, DirectoryPlus}
use Rattle.fuse_answer.specs.Replies.{Nothing, Unknown, kind_of, size_of, most_of, ReplyContent, of_entry, of_create, of_attributes, of_open, of_write, of_statfs}
use Rattle.fuse_answer.specs.Replies.{of_xattr, of_lseek, of_init, of_data, of_directory, of_directory_plus, of_nothing, of_unknown, reply_content, kind_is}
use Rattle.fuse_answer.specs.Replies.{reply_parts, IsProper, HoldsBody, Told, told_reply, IsAtMost, IsOfOpcode, Answers, IsOtherThan, IsOver, IsNoListing, BodyFault}
use Rattle.fuse_answer.specs.Replies.{errno_in, IsMeasured, FirstFault}

-- a body of a kind by its places
attr_at : ℕ → List ℕ → Attr
attr_at k b = record {
  ino = number_of 8 (drop (k + 0) b);
  size = number_of 8 (drop (k + 8) b);
  blocks = number_of 8 (drop (k + 16) b);
  atime = number_of 8 (drop (k + 24) b);
  mtime = number_of 8 (drop (k + 32) b);
  ctime = number_of 8 (drop (k + 40) b);
  atimensec = number_of 4 (drop (k + 48) b);
  mtimensec = number_of 4 (drop (k + 52) b);
  ctimensec = number_of 4 (drop (k + 56) b);
  mode = number_of 4 (drop (k + 60) b);
  nlink = number_of 4 (drop (k + 64) b);
  uid = number_of 4 (drop (k + 68) b);
  gid = number_of 4 (drop (k + 72) b);
  rdev = number_of 4 (drop (k + 76) b);
  blksize = number_of 4 (drop (k + 80) b);
  flags = number_of 4 (drop (k + 84) b);
}

entry_at : List ℕ → EntryOut
entry_at b = record {
  nodeid = number_of 8 (drop 0 b);
  generation = number_of 8 (drop 8 b);
  entry_valid = number_of 8 (drop 16 b);
  attr_valid = number_of 8 (drop 24 b);
  entry_valid_nsec = number_of 4 (drop 32 b);
  attr_valid_nsec = number_of 4 (drop 36 b);
  attr = attr_at 40 b;
}

content_at : Kind → List ℕ → ReplyContent
content_at AnEntry b = of_entry (entry_at b)
content_at ACreate b =
    of_create (record {
      entry = entry_at b;
      «open» = record { fh = number_of 8 (drop 128 b); open_flags = number_of 4 (drop 136 b); backing_id = to_z w32 (number_of 4 (drop 140 b)) };
    })
content_at AStatfs b =
    of_statfs (record {
      blocks = number_of 8 (drop 0 b);
      bfree = number_of 8 (drop 8 b);
      bavail = number_of 8 (drop 16 b);
      files = number_of 8 (drop 24 b);
      ffree = number_of 8 (drop 32 b);
      bsize = number_of 4 (drop 40 b);
      namelen = number_of 4 (drop 44 b);
      frsize = number_of 4 (drop 48 b);
    })
content_at AnXattr b = of_xattr (record { size = number_of 4 (drop 0 b) })
content_at AnLseek b = of_lseek (record { offset = number_of 8 (drop 0 b) })
content_at Attributes b = of_attributes (record { attr_valid = number_of 8 (drop 0 b); attr_valid_nsec = number_of 4 (drop 8 b); attr = attr_at 16 b })
content_at AnOpen b = of_open (record { fh = number_of 8 (drop 0 b); open_flags = number_of 4 (drop 8 b); backing_id = to_z w32 (number_of 4 (drop 12 b)) })
content_at AWrite b = of_write (record { size = number_of 4 (drop 0 b) })
content_at AnInit b =
    of_init (record {
      major = number_of 4 (drop 0 b);
      minor = number_of 4 (drop 4 b);
      max_readahead = number_of 4 (drop 8 b);
      flags = number_of 4 (drop 12 b);
      max_background = number_of 2 (drop 16 b);
      congestion_threshold = number_of 2 (drop 18 b);
      max_write = number_of 4 (drop 20 b);
      time_gran = number_of 4 (drop 24 b);
      max_pages = number_of 2 (drop 28 b);
      map_alignment = number_of 2 (drop 30 b);
      flags2 = number_of 4 (drop 32 b);
      max_stack_depth = number_of 4 (drop 36 b);
    })
content_at Data b = of_data b
content_at Directory b = of_directory b
content_at DirectoryPlus b = of_directory_plus b
content_at Nothing b = of_nothing
content_at Unknown b = of_unknown b

all : (xs b : List ℕ) → Lays (bytes xs ∷ []) b → b ≡ xs
all xs b h = h.1 ∙ ap (λ (x : List ℕ). xs ++ x) h.2 ∙ append-nil xs

content_is : LayoutsStand → (c : ReplyContent) (b : List ℕ) → Lays (reply_parts c) b → IsProper c → content_at (kind_is c) b ≡ c
unfolding content_at entry_at attr_at
content_is laws (of_entry e) b h proper =
    let p = laws.stands (entry_parts e) b h in
    let p1 = p.1 in let p2 = p1.1 in let p3 = p2.1 in let p4 = p3.1 in let p5 = p4.1 in let p6 = p5.1 in let p7 = p6.1 in let p8 = p7.1 in let p9 = p8.1 in
    let p10 = p9.1 in let p11 = p10.1 in let p12 = p11.1 in let p13 = p12.1 in let p14 = p13.1 in let p15 = p14.1 in let p16 = p15.1 in let p17 = p16.1 in
    let p18 = p17.1 in let p19 = p18.1 in let p20 = p19.1 in let p21 = p20.1 in
    rw (
      ← p.0,
      ← p1.0,
      ← p2.0,
      ← p3.0,
      ← p4.0,
      ← p5.0,
      ← p6.0,
      ← p7.0,
      ← p8.0,
      ← p9.0,
      ← p10.0,
      ← p11.0,
      ← p12.0,
      ← p13.0,
      ← p14.0,
      ← p15.0,
      ← p16.0,
      ← p17.0,
      ← p18.0,
      ← p19.0,
      ← p20.0,
      ← p21.0,
    ) refl
content_is laws (of_create c) b h proper =
    let p = laws.stands (create_parts c) b h in
    let p1 = p.1 in let p2 = p1.1 in let p3 = p2.1 in let p4 = p3.1 in let p5 = p4.1 in let p6 = p5.1 in let p7 = p6.1 in let p8 = p7.1 in let p9 = p8.1 in
    let p10 = p9.1 in let p11 = p10.1 in let p12 = p11.1 in let p13 = p12.1 in let p14 = p13.1 in let p15 = p14.1 in let p16 = p15.1 in let p17 = p16.1 in let p18 = p17.1 in
    let p19 = p18.1 in let p20 = p19.1 in let p21 = p20.1 in let p22 = p21.1 in let p23 = p22.1 in let p24 = p23.1 in
    let signed : to_z w32 (of_z w32 c.open.backing_id) ≡ c.open.backing_id = to_z-of_z w32 c.open.backing_id proper in
    rw (← p.0, ← p1.0, ← p2.0, ← p3.0, ← p4.0, ← p5.0, ← p6.0, ← p7.0, ← p8.0, ← p9.0, ← p10.0, ← p11.0, ← p12.0, ← p13.0, ← p14.0, ← p15.0, ← p16.0, ← p17.0, ← p18.0, ← p19.0, ← p20.0, ← p21.0, ← p22.0, ← p23.0, ← p24.0, signed) refl
content_is laws (of_statfs s) b h proper =
    let p = laws.stands (statfs_parts s) b h in
    let p1 = p.1 in let p2 = p1.1 in let p3 = p2.1 in let p4 = p3.1 in let p5 = p4.1 in let p6 = p5.1 in let p7 = p6.1 in
    rw (← p.0, ← p1.0, ← p2.0, ← p3.0, ← p4.0, ← p5.0, ← p6.0, ← p7.0) refl
content_is laws (of_xattr x) b h proper =
    let p = laws.stands (xattr_parts x) b h in
    rw (← p.0) refl
content_is laws (of_lseek l) b h proper =
    let p = laws.stands (lseek_parts l) b h in
    rw (← p.0) refl
content_is laws (of_attributes a) b h proper =
    let p = laws.stands (attr_out_parts a) b h in
    let p1 = p.1 in let p2 = p1.1 in let p3 = p2.1 in let p4 = p3.1 in let p5 = p4.1 in let p6 = p5.1 in let p7 = p6.1 in let p8 = p7.1 in let p9 = p8.1 in
    let p10 = p9.1 in let p11 = p10.1 in let p12 = p11.1 in let p13 = p12.1 in let p14 = p13.1 in let p15 = p14.1 in let p16 = p15.1 in let p17 = p16.1 in
    rw (
      ← p.0,
      ← p1.0,
      ← p2.0,
      ← p3.0,
      ← p4.0,
      ← p5.0,
      ← p6.0,
      ← p7.0,
      ← p8.0,
      ← p9.0,
      ← p10.0,
      ← p11.0,
      ← p12.0,
      ← p13.0,
      ← p14.0,
      ← p15.0,
      ← p16.0,
      ← p17.0,
    ) refl
content_is laws (of_open o) b h proper =
    let p = laws.stands (open_parts o) b h in
    let p1 = p.1 in let p2 = p1.1 in
    let signed : to_z w32 (of_z w32 o.backing_id) ≡ o.backing_id = to_z-of_z w32 o.backing_id proper in
    rw (← p.0, ← p1.0, ← p2.0, signed) refl
content_is laws (of_write w) b h proper =
    let p = laws.stands (write_parts w) b h in
    rw (← p.0) refl
content_is laws (of_init i) b h proper =
    let p = laws.stands (init_parts i) b h in
    let p1 = p.1 in let p2 = p1.1 in let p3 = p2.1 in let p4 = p3.1 in let p5 = p4.1 in let p6 = p5.1 in let p7 = p6.1 in let p8 = p7.1 in let p9 = p8.1 in
    let p10 = p9.1 in let p11 = p10.1 in
    rw (← p.0, ← p1.0, ← p2.0, ← p3.0, ← p4.0, ← p5.0, ← p6.0, ← p7.0, ← p8.0, ← p9.0, ← p10.0, ← p11.0) refl
content_is laws (of_data xs) b h proper = ap of_data (all xs b h)
content_is laws (of_directory xs) b h proper = ap of_directory (all xs b h)
content_is laws (of_directory_plus xs) b h proper = ap of_directory_plus (all xs b h)
content_is laws of_nothing b h proper = refl
content_is laws (of_unknown xs) b h proper = ap of_unknown (all xs b h)

-- a body of a fixed size has it
sized : LayoutsStand → (c : ReplyContent) (b : List ℕ) → Lays (reply_parts c) b → IsOtherThan (size_of (kind_is c)) (length b) → ⊥
sized laws (of_entry e) b h other = other (laws.len (entry_parts e) b h)
sized laws (of_create c) b h other = other (laws.len (create_parts c) b h)
sized laws (of_statfs s) b h other = other (laws.len (statfs_parts s) b h)
sized laws (of_xattr x) b h other = other (laws.len (xattr_parts x) b h)
sized laws (of_lseek l) b h other = other (laws.len (lseek_parts l) b h)
sized laws (of_attributes a) b h other = other (laws.len (attr_out_parts a) b h)
sized laws (of_open o) b h other = other (laws.len (open_parts o) b h)
sized laws (of_write w) b h other = other (laws.len (write_parts w) b h)
sized laws (of_init i) b h other = other (laws.len (init_parts i) b h)
sized laws (of_data xs) b h other = other
sized laws (of_directory xs) b h other = other
sized laws (of_directory_plus xs) b h other = other
sized laws of_nothing b h other = other (ap length h)
sized laws (of_unknown xs) b h other = other

listed : (c : ReplyContent) (b : List ℕ) → Lays (reply_parts c) b → IsProper c → IsNoListing (kind_is c) b → ⊥
listed (of_directory xs) b h proper bad = bad (subst IsListing (sym (all xs b h)) proper)
listed (of_directory_plus xs) b h proper bad = bad (subst IsPlusListing (sym (all xs b h)) proper)
listed (of_entry e) b h proper bad = bad
listed (of_create c) b h proper bad = bad
listed (of_attributes a) b h proper bad = bad
listed (of_open o) b h proper bad = bad
listed (of_write w) b h proper bad = bad
listed (of_statfs s) b h proper bad = bad
listed (of_xattr x) b h proper bad = bad
listed (of_lseek l) b h proper bad = bad
listed (of_init i) b h proper bad = bad
listed (of_data xs) b h proper bad = bad
listed of_nothing b h proper bad = bad
listed (of_unknown xs) b h proper bad = bad

-- a length that is not too long is not over
not_over : (most : Option ℕ) (len : ℕ) → IsAtMost most len → IsOver most len → ⊥
not_over None len within over = over
not_over (Some most) len within over = absurd (omega (arith, within, over))

-- what is held has no fault
held : LayoutsStand → (opcode size : ℕ) (c : ReplyContent) (b : List ℕ) (f : BadAnswer) → HoldsBody (kind_of opcode size) c b
    → IsAtMost (most_of opcode size) (length b) → BodyFault opcode size b f → ⊥
held laws opcode size c b BodyLength h within (inl other) =
    sized laws c b h.laid (subst (λ (k : Kind). IsOtherThan (size_of k) (length b)) (sym h.of_kind) other)
held laws opcode size c b BodyLength h within (inr over) = not_over (most_of opcode size) (length b) within over
held laws opcode size c b BadDirent h within fault = listed c b h.laid h.proper (subst (λ (k : Kind). IsNoListing k b) (sym h.of_kind) fault.1)
held laws opcode size c b Short h within fault = fault
held laws opcode size c b LenDiffers h within fault = fault
held laws opcode size c b ErrorRange h within fault = fault
held laws opcode size c b BodyAfterError h within fault = fault

-- what the bytes say at the places of an answer
record HasPlaces (t : Told) (body m : List ℕ) : Type 0 where
  pub long : 16 ≤ length m
  pub len : number_of 4 m ≡ length m
  pub errno : errno_in m ≡ t.errno
  pub unique : number_of 8 (drop 8 m) ≡ t.unique
  pub body_is : drop 16 m ≡ body

few_of : (opcode size : ℕ) (t : Told) (body : List ℕ) → IsOfOpcode opcode size t body → t.errno ≤ 511
few_of opcode size t body (inl h) = omega (arith, h.0)
few_of opcode size t body (inr h) = h.1

has_places : LayoutsStand → (opcode size : ℕ) (t : Told) (m : List ℕ) (a : Answers opcode size t m) → HasPlaces t a.body m
unfolding wire wire_head
has_places laws opcode size t m a =
    let n : ℕ = 16 + length a.body in
    let e : ℕ = negated t.errno in
    let few = few_of opcode size t a.body a.said in
    let ps : List Part = number 4 n ∷ number 4 e ∷ number 8 t.unique ∷ [] in
    let more : List Part = bytes a.body ∷ [] in
    let len : length m ≡ n = omega (arith, ap length a.whole, length-append (form ps) a.body, laws.form_len ps) in
    let has : HasForm ps = (omega (arith, len, a.len), (omega arith, (a.unique, tt))) in
    let laid : Lays (ps ++ more) (form ps ++ a.body) = laws.joined ps more (form ps) a.body (laws.formed ps has) ([], sym (append-nil a.body), refl) in
    let p : Placed 0 (ps ++ more) m = laws.stands (ps ++ more) m (subst (Lays (ps ++ more)) (sym a.whole) laid) in
    record {
      long = omega (arith, len);
      len = sym p.0 ∙ sym len;
      errno = ap negated (sym p.1.0) ∙ omega (arith, few);
      unique = sym p.1.1.0;
      body_is = all a.body (drop 16 m) p.1.1.1.1;
    }

-- the answer by its places
told_at : ℕ → ℕ → List ℕ → Told
told_at opcode size m = record {
  unique = number_of 8 (drop 8 m);
  errno = errno_in m;
  content = if errno_in m == 0 then content_at (kind_of opcode size) (drop 16 m) else of_nothing;
}

content_of : LayoutsStand → (opcode size : ℕ) (t : Told) (body : List ℕ) → IsOfOpcode opcode size t body
    → (if t.errno == 0 then content_at (kind_of opcode size) body else of_nothing) ≡ t.content
content_of laws opcode size t body (inl h) =
    let held = h.1 in
    rw (eq-eqb t.errno 0 h.0, ← held.of_kind) (content_is laws t.content body held.laid held.proper)
content_of laws opcode size t body (inr h) = rw (ne_eqb t.errno 0 h.0) (sym h.2)

is_at : LayoutsStand → (opcode size : ℕ) (t : Told) (m : List ℕ) → Answers opcode size t m → told_at opcode size m ≡ t
unfolding told_at
is_at laws opcode size t m a =
    let p = has_places laws opcode size t m a in
    rw (p.unique, p.errno, p.body_is, content_of laws opcode size t a.body a.said) refl

of_error : (opcode size : ℕ) (t : Told) (body : List ℕ) → IsOfOpcode opcode size t body → t.errno ≢ 0 → body ≡ []
of_error opcode size t body (inl h) some = absurd (some h.0)
of_error opcode size t body (inr h) some = h.3

of_success : LayoutsStand → (opcode size : ℕ) (t : Told) (body : List ℕ) (f : BadAnswer) → IsOfOpcode opcode size t body → t.errno ≡ 0 → BodyFault opcode size body f → ⊥
of_success laws opcode size t body f (inl h) none fault = held laws opcode size t.content body f h.1 h.2 fault
of_success laws opcode size t body f (inr h) none fault = h.0 none

pub no_fault : LayoutsStand → (opcode size : ℕ) (t : Told) (m : List ℕ) (f : BadAnswer) → Answers opcode size t m → FirstFault opcode size m f → ⊥
no_fault laws opcode size t m Short a fault = absurd (omega (arith, (has_places laws opcode size t m a).long, fault))
no_fault laws opcode size t m LenDiffers a fault = fault.1 (has_places laws opcode size t m a).len
no_fault laws opcode size t m ErrorRange a fault = absurd (omega (arith, (has_places laws opcode size t m a).errno, few_of opcode size t a.body a.said, fault.1))
no_fault laws opcode size t m BodyAfterError a fault =
    let p = has_places laws opcode size t m a in
    fault.3 (p.body_is ∙ of_error opcode size t a.body a.said (λ e. fault.1 (p.errno ∙ e)))
no_fault laws opcode size t m BodyLength a fault =
    let p = has_places laws opcode size t m a in
    of_success laws opcode size t a.body BodyLength a.said (sym p.errno ∙ fault.1)
    (subst (λ (x : List ℕ). BodyFault opcode size x BodyLength) p.body_is fault.2)
no_fault laws opcode size t m BadDirent a fault =
    let p = has_places laws opcode size t m a in
    of_success laws opcode size t a.body BadDirent a.said (sym p.errno ∙ fault.1) (subst (λ (x : List ℕ). BodyFault opcode size x BadDirent) p.body_is fault.2)

-- what a reader answers is the one answer, where there is one
pub only_one : LayoutsStand → (opcode size : ℕ) (m : List ℕ) (r : Result Reply BadAnswer) → IfOk r (λ q. Answers opcode size (told_reply q) m)
    → IfErr r (λ f. FirstFault opcode size m f)
    → (t : Told) → Answers opcode size t m → IsOkAnd r (λ q. told_reply q ≡ t)
only_one laws opcode size m (Ok q) found fault t a = sym (is_at laws opcode size (told_reply q) m found) ∙ is_at laws opcode size t m a
only_one laws opcode size m (Err f) found fault t a = absurd (no_fault laws opcode size t m f a fault)

regroup : (a b c d : List ℕ) → (a ++ (b ++ (c ++ []))) ++ d ≡ a ++ (b ++ (c ++ d))
regroup a b c d =
    append_assoc a (b ++ (c ++ [])) d ∙ ap (λ (x : List ℕ). a ++ x) (append_assoc b (c ++ []) d ∙ ap (λ (x : List ℕ). b ++ x) (append_assoc c [] d))

-- what is said at the places is answered
pub answered : NumbersRead → (opcode size : ℕ) (t : Told) (m : List ℕ) → IsBytes m → 16 ≤ length m → number_of 4 m ≡ length m → t.errno ≡ errno_in m
    → t.unique ≡ number_of 8 (drop 8 m) → IsOfOpcode opcode size t (drop 16 m) → Answers opcode size t m
unfolding wire wire_head
answered laws opcode size t m fits long len errno unique said =
    let q0 = laws.prefix 4 m (omega (arith, long)) fits in
    let q1 = laws.prefix 4 (drop 4 m) (omega (arith, long, length-drop 4 m)) (laws.rest_bytes 4 m fits) in
    let q2 = laws.prefix 8 (drop 8 m) (omega (arith, long, length-drop 8 m)) (laws.rest_bytes 8 m fits) in
    let n_is : number_of 4 m ≡ 16 + length (drop 16 m) = omega (arith, len, long, length-drop 16 m) in
    let e_is : number_of 4 (drop 4 m) ≡ negated t.errno = omega (arith, errno, q1.0) in
    let r0 : m ≡ le 4 (16 + length (drop 16 m)) ++ drop 4 m = rw (← n_is) q0.1 in
    let r1 : drop 4 m ≡ le 4 (negated t.errno) ++ drop 8 m = rw (← e_is) (q1.1 ∙ ap (λ (x : List ℕ). le 4 (number_of 4 (drop 4 m)) ++ x) (drop-drop 4 4 m)) in
    let r2 : drop 8 m ≡ le 8 t.unique ++ drop 16 m = rw unique (q2.1 ∙ ap (λ (x : List ℕ). le 8 (number_of 8 (drop 8 m)) ++ x) (drop-drop 8 8 m)) in
    record {
      body = drop 16 m;
      whole = r0 ∙ ap (λ (x : List ℕ). le 4 (16 + length (drop 16 m)) ++ x) (r1 ∙ ap (λ (x : List ℕ). le 4 (negated t.errno) ++ x) r2)
          ∙ sym (regroup (le 4 (16 + length (drop 16 m))) (le 4 (negated t.errno)) (le 8 t.unique) (drop 16 m));
      len = omega (arith, len, q0.0);
      unique = rw unique q2.0;
      said = said;
    }

-- a fault of the body is the first, where the header has none
pub body_fault : (opcode size : ℕ) (m : List ℕ) (f : BadAnswer) → IsMeasured m → errno_in m ≡ 0 → BodyFault opcode size (drop 16 m) f → FirstFault opcode size m f
body_fault opcode size m BodyLength measured e h = (measured, e, h)
body_fault opcode size m BadDirent measured e h = (measured, e, h)
body_fault opcode size m Short measured e h = absurd h
body_fault opcode size m LenDiffers measured e h = absurd h
body_fault opcode size m ErrorRange measured e h = absurd h
body_fault opcode size m BodyAfterError measured e h = absurd h

proper_of : (opcode size : ℕ) (t : Told) (body : List ℕ) → IsOfOpcode opcode size t body → IsProper t.content
proper_of opcode size t body (inl h) = h.1.proper
proper_of opcode size t body (inr h) = subst IsProper (sym h.2) tt

-- the body that was read is proper
pub proper : (opcode size : ℕ) (m : List ℕ) (r : Result Reply BadAnswer) → IfOk r (λ q. Answers opcode size (told_reply q) m) → IfOk r (λ q. IsProper (reply_content q.body))
proper opcode size m (Ok q) found = proper_of opcode size (told_reply q) found.body found.said
proper opcode size m (Err f) found = tt
