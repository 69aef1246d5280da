-- What is answered fits, and is read.
use Rattle.std.proofs.Common.{ℕ, if◌then◌else◌, List, [], Option, Some, None, is_some, refl, arith}
use Rattle.fuse_wire.specs.declared.moment.Moment.{Moment}
use Rattle.fuse_request.specs.declared.request.InHeader.{InHeader}
use Rattle.fuse_request.specs.declared.request.InitIn.{InitIn}
use Rattle.fuse_request.specs.Act.{Act, Asked, opcode_of}
use Rattle.fuse_request.specs.Act as acts
use Rattle.fuse_request.specs.AskedSize.{size_asked}
use Rattle.fuse_answer.specs.Said.{FitsAnswer}
use Rattle.fuse_answer.specs.Laws.{ReadBack, RecordSizes}
use Rattle.fuse_answer.specs.Replies.{AnEntry, Attributes, kind_of, most_of}
use Rattle.fuse_init.specs.Agree.{agree}
use Rattle.fuse_rows.specs.declared.rows.EntryRow.{EntryRow}
use Rattle.fuse_tree.specs.State.{State, profile_of, Node, Shape, node_at}
use Rattle.fuse_rows.specs.Rows.{entry_at}
use Rattle.fuse_tree.specs.Done.{attr_of, entry_out_of, attr_out_of, Done, name_checks, answer}
use Rattle.fuse_tree.specs.Keeping.{agreement_of, keeps, valid_of, absent_entry}
use Rattle.fuse_tree.specs.Do.{lookup_absent, lookup_child, lookup_entry, lookup, getattr, do_act, do_at, names_node, done, do_agreed, do_offered, offer_of}
use Rattle.fuse_tree.specs.Making.{asker, asked_node}
use Rattle.fuse_tree.specs.Renaming.{asking}
use Rattle.fuse_plan.proofs.Fit.{Fits, refused, answered, chosen, checked, Reads, refused_reads, answered_reads, chosen_reads, checked_reads, no_body, Short, refused_short, nothing_short, chosen_short}
use Rattle.fuse_plan.proofs.MakingFits.{mkdir_fits, mknod_fits, mkdir_reads, mknod_reads}
use Rattle.fuse_plan.proofs.SettingFits.{setattr_fits, setattr_reads}
use Rattle.fuse_plan.proofs.WritingFits.{write_fits, read_fits, write_reads, read_reads, read_short}
use Rattle.fuse_plan.proofs.OpeningFits.{open_fits, open_dir_fits, release_fits, release_dir_fits, open_reads, open_dir_reads, release_reads, release_dir_reads}
use Rattle.fuse_plan.proofs.FurtherFits.{further_fits, further_reads, further_short}
use Rattle.fuse_plan.proofs.InitFits.{init_fits, init_reads}
use Rattle.fuse_tree.specs.Laws.{AnswersAreRead}
use Rattle.fuse_plan.proofs.RemovingFits.{unlink_fits, rmdir_fits, unlink_reads, rmdir_reads}
use Rattle.fuse_plan.proofs.ListingFits.{read_dir_fits, read_dir_reads, read_dir_short}
use Rattle.fuse_plan.proofs.RenameFits.{rename_fits, rename_reads}

-- ---- LOOKUP

absent_fits : RecordSizes → (s : State) → Fits (lookup_absent s)
absent_fits sizes s = chosen (keeps (agreement_of s)) _ _ (answered s _ (omega (arith, sizes.0 absent_entry))) (refused s _)

child_fits : RecordSizes → (s : State) (child : Option Node) → Fits (lookup_child s child)
child_fits sizes s None = absent_fits sizes s
child_fits sizes s (Some child) = answered s _ (omega (arith, sizes.0 (entry_out_of (valid_of (agreement_of s)) (attr_of s child))))

entry_fits : RecordSizes → (s : State) (e : Option EntryRow) → Fits (lookup_entry s e)
entry_fits sizes s None = absent_fits sizes s
entry_fits sizes s (Some e) = child_fits sizes s (node_at s e.child)

lookup_fits : RecordSizes → (s : State) (name : List ℕ) (n : Node) → Fits (lookup s name n)
lookup_fits sizes s name n = checked s (name_checks s name n) _ (entry_fits sizes s (entry_at s.entries n.number name))

lookup_absent_reads : ReadBack → (s : State) → Reads AnEntry (lookup_absent s)
lookup_absent_reads back s = chosen_reads (keeps (agreement_of s)) _ _ (answered_reads s _ (back.entry absent_entry)) (refused_reads s _ refl)

lookup_child_reads : ReadBack → (s : State) (child : Option Node) → Reads AnEntry (lookup_child s child)
lookup_child_reads back s None = lookup_absent_reads back s
lookup_child_reads back s (Some child) = answered_reads s _ (back.entry (entry_out_of (valid_of (agreement_of s)) (attr_of s child)))

lookup_entry_reads : ReadBack → (s : State) (e : Option EntryRow) → Reads AnEntry (lookup_entry s e)
lookup_entry_reads back s None = lookup_absent_reads back s
lookup_entry_reads back s (Some e) = lookup_child_reads back s (node_at s e.child)

lookup_reads : ReadBack → (s : State) (name : List ℕ) (n : Node) → Reads AnEntry (lookup s name n)
lookup_reads back s name n = checked_reads s (name_checks s name n) _ refl (lookup_entry_reads back s (entry_at s.entries n.number name))

-- ---- GETATTR

getattr_fits : RecordSizes → (s : State) (n : Node) → Fits (getattr s n)
getattr_fits sizes s n = answered s _ (omega (arith, sizes.1 (attr_out_of (valid_of (agreement_of s)) (attr_of s n))))

getattr_reads : ReadBack → (s : State) (n : Node) → Reads Attributes (getattr s n)
getattr_reads back s n = answered_reads s _ (back.attributes (attr_out_of (valid_of (agreement_of s)) (attr_of s n)))

-- ---- all requests: what is answered fits

act_fits : RecordSizes → (s : State) (header : InHeader) (act : Act) (now : Moment) (n : Node) → Fits (do_act s header act now n)
act_fits sizes s header (acts.Lookup name) now n = lookup_fits sizes s name n
act_fits sizes s header (acts.Getattr flags fh) now n = getattr_fits sizes s n
act_fits sizes s header (acts.Setattr set) now n = setattr_fits sizes s set now n
act_fits sizes s header (acts.Mkdir mode umask name) now n = mkdir_fits sizes s (asked_node (asker header now) mode 0) name n
act_fits sizes s header (acts.Mknod mode rdev umask name) now n = mknod_fits sizes s (asked_node (asker header now) mode rdev) name n
act_fits sizes s header (acts.Unlink name) now n = unlink_fits s name now n
act_fits sizes s header (acts.Rmdir name) now n = rmdir_fits s name now n
act_fits sizes s header (acts.OpenFile flags open_flags) now n = open_fits sizes s flags n
act_fits sizes s header (acts.Read asked) now n = read_fits s asked n
act_fits sizes s header (acts.Write fh offset write_flags lock_owner flags payload) now n = write_fits sizes s fh (record { offset = offset; payload = payload; now = now }) n
act_fits sizes s header (acts.OpenDir flags open_flags) now n = open_dir_fits sizes s n
act_fits sizes s header (acts.ReadDir x) now n = read_dir_fits sizes s x n
act_fits sizes s header (acts.Release x) now n = release_fits s x.fh n
act_fits sizes s header (acts.ReleaseDir x) now n = release_dir_fits s x.fh n
act_fits sizes s header (acts.Rename new_dir old_name new_name) now n = rename_fits s (asking new_dir 0 old_name new_name now) n
act_fits sizes s header (acts.Rename2 new_dir flags old_name new_name) now n = rename_fits s (asking new_dir flags old_name new_name now) n
act_fits sizes s header (acts.Further opcode body) now n = further_fits sizes s (asker header now) opcode body n
act_fits sizes s header _ now n = refused s _

at_fits : RecordSizes → (s : State) (request : Asked) (now : Moment) (n : Option Node) → Fits (do_at s request now n)
at_fits sizes s request now None = refused s _
at_fits sizes s request now (Some n) = act_fits sizes s request.header request.act now n

agreed_fits : RecordSizes → (s : State) (request : Asked) (now : Moment) → Fits (do_agreed s request now)
agreed_fits sizes s request now =
    chosen (names_node request.act) _ _ (at_fits sizes s request now (node_at s request.header.nodeid)) (answered s [] (omega arith))

offered_fits : RecordSizes → (s : State) (request : Asked) (now : Moment) (offer : Option InitIn) → Fits (do_offered s request now offer)
offered_fits sizes s request now (Some offer) = init_fits sizes s (agree (profile_of s) offer)
offered_fits sizes s request now None = chosen (is_some s.settings) _ _ (agreed_fits sizes s request now) (refused s _)

pub fits : RecordSizes → (s : State) (request : Asked) (now : Moment) → FitsAnswer (done s request now).said
unfolding done
fits sizes s request now = offered_fits sizes s request now (offer_of request.act)

-- ---- and it is read

act_reads : ReadBack → (s : State) (header : InHeader) (act : Act) (now : Moment) (n : Node) → Shape s
    → Reads (kind_of (opcode_of act) (size_asked act)) (do_act s header act now n)
act_reads back s header (acts.Lookup name) now n tree = lookup_reads back s name n
act_reads back s header (acts.Getattr flags fh) now n tree = getattr_reads back s n
act_reads back s header (acts.Setattr set) now n tree = setattr_reads back s set now n
act_reads back s header (acts.Mkdir mode umask name) now n tree = mkdir_reads back s (asked_node (asker header now) mode 0) name n
act_reads back s header (acts.Mknod mode rdev umask name) now n tree = mknod_reads back s (asked_node (asker header now) mode rdev) name n
act_reads back s header (acts.Unlink name) now n tree = unlink_reads s name now n
act_reads back s header (acts.Rmdir name) now n tree = rmdir_reads s name now n
act_reads back s header (acts.Read asked) now n tree = read_reads back s asked n
act_reads back s header (acts.Write fh offset write_flags lock_owner flags payload) now n tree = write_reads back s fh (record { offset = offset; payload = payload; now = now }) n
act_reads back s header (acts.OpenFile flags open_flags) now n tree = open_reads back s flags n
act_reads back s header (acts.OpenDir flags open_flags) now n tree = open_dir_reads back s n
act_reads back s header (acts.ReadDir x) now n tree = read_dir_reads back s x n tree
act_reads back s header (acts.Release x) now n tree = release_reads s x.fh n
act_reads back s header (acts.ReleaseDir x) now n tree = release_dir_reads s x.fh n
act_reads back s header (acts.Rename new_dir old_name new_name) now n tree = rename_reads s (asking new_dir 0 old_name new_name now) n
act_reads back s header (acts.Rename2 new_dir flags old_name new_name) now n tree = rename_reads s (asking new_dir flags old_name new_name now) n
act_reads back s header (acts.Further opcode body) now n tree = further_reads back s (asker header now) opcode body n tree
act_reads back s header _ now n tree = refused_reads s _ refl

at_reads : ReadBack → (s : State) (request : Asked) (now : Moment) (n : Option Node) → Shape s → Reads (kind_of (opcode_of request.act) (size_asked request.act)) (do_at s request now n)
at_reads back s request now None tree = refused_reads s _ refl
at_reads back s request now (Some n) tree = act_reads back s request.header request.act now n tree

-- DESTROY alone looks at no node
agreed_reads : (s : State) (a : Act) (d : Done) → Reads (kind_of (opcode_of a) (size_asked a)) d → Reads (kind_of (opcode_of a) (size_asked a)) (if names_node a then d else answer s [])
agreed_reads s acts.Destroy d so = answered_reads s [] no_body
agreed_reads s _ d so = so

offered_reads : ReadBack → (s : State) (request : Asked) (now : Moment) (a : Act) → Reads (kind_of (opcode_of a) (size_asked a)) (do_agreed s request now)
    → Reads (kind_of (opcode_of a) (size_asked a)) (do_offered s request now (offer_of a))
offered_reads back s request now (acts.Init offer) so = init_reads back s (profile_of s) offer
offered_reads back s request now _ so = chosen_reads (is_some s.settings) _ _ so (refused_reads s _ refl)

-- ---- and it isn't longer than was asked for

abbrev most_for : Act → Option ℕ
most_for a = most_of (opcode_of a) (size_asked a)

act_short : RecordSizes → (s : State) (header : InHeader) (act : Act) (now : Moment) (n : Node) → Short (most_for act) (do_act s header act now n)
act_short sizes s header (acts.Read asked) now n = read_short s asked n
act_short sizes s header (acts.ReadDir asked) now n = read_dir_short sizes s asked n
act_short sizes s header (acts.Further opcode body) now n = further_short sizes s (asker header now) opcode body n
act_short sizes s header _ now n = record { within = tt }

at_short : RecordSizes → (s : State) (request : Asked) (now : Moment) (n : Option Node) → Short (most_for request.act) (do_at s request now n)
at_short sizes s request now None = refused_short (most_for request.act) s _
at_short sizes s request now (Some n) = act_short sizes s request.header request.act now n

agreed_short : RecordSizes → (s : State) (request : Asked) (now : Moment) → Short (most_for request.act) (do_agreed s request now)
agreed_short sizes s request now =
    chosen_short (most_for request.act) (names_node request.act) _ _ (at_short sizes s request now (node_at s request.header.nodeid))
    (nothing_short (most_for request.act) s)

offered_short : (s : State) (request : Asked) (now : Moment) (a : Act) → Short (most_for a) (do_agreed s request now)
    → Short (most_for a) (do_offered s request now (offer_of a))
offered_short s request now (acts.Init offer) so = record { within = tt }
offered_short s request now a so = chosen_short (most_for a) (is_some s.settings) _ _ so (refused_short (most_for a) s _)

pub answers_read : ReadBack → RecordSizes → AnswersAreRead
unfolding done
answers_read back sizes s request now tree =
    back.said (opcode_of request.act) (size_asked request.act) _ (fits sizes s request now)
    (offered_reads back s request now request.act (agreed_reads s request.act _ (at_reads back s request now (node_at s request.header.nodeid) tree.shape)))
    (offered_short s request now request.act (agreed_short sizes s request now)).within
