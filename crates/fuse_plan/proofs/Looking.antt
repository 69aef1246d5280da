-- Requests that only look leave the state.
use Rattle.std.proofs.Common.{◌≡◌, ◌||◌, ℕ, Bool, true, false, eqb, not, if◌then◌else◌, List, Option, Some, None, is_some, refl, subst, sym, ◌⊎◌, inl, inr}
use Rattle.std.proofs.lemmas.Bool.{eqb-true}
use Rattle.fuse_wire.specs.declared.errno.Errno.{Errno}
use Rattle.fuse_wire.specs.declared.moment.Moment.{Moment}
use Rattle.fuse_request.specs.declared.request.InHeader.{InHeader}
use Rattle.fuse_request.specs.declared.request.ReadIn.{ReadIn}
use Rattle.fuse_request.specs.Act.{Act, Asked, opcode_of}
use Rattle.fuse_request.specs.Act as acts
use Rattle.fuse_request.specs.FurtherBodies.{FurtherContent, Readlink, Statfs, Fsync, FsyncDir, Symlink, Create, ReadDirPlus, further_fault, further_content_at}
use Rattle.fuse_answer.specs.PlusEntries.{plus_len}
use Rattle.fuse_init.specs.Profile.{only_looks}
use Rattle.fuse_rows.specs.declared.rows.EntryRow.{EntryRow}
use Rattle.fuse_rows.specs.declared.origin.Origin.{Origin}
use Rattle.fuse_rows.specs.Rows.{entry_at}
use Rattle.fuse_tree.specs.Checks.{Check, first_error}
use Rattle.fuse_tree.specs.State.{State, Node, node_at, terms_of, is_link}
use Rattle.fuse_tree.specs.Done.{Done, refuse_for, refuse_by, name_checks}
use Rattle.fuse_tree.specs.Keeping.{agreement_of, keeps}
use Rattle.fuse_tree.specs.Writing.{read, read_checks}
use Rattle.fuse_tree.specs.Listing.{read_dir, list_checks, first_fits, first_fits_by, entries_following}
use Rattle.fuse_tree.specs.PlusListing.{read_dir_plus, plus_following}
use Rattle.fuse_tree.specs.Linking.{readlink}
use Rattle.fuse_tree.specs.Handles.{is_open}
use Rattle.fuse_tree.specs.Syncing.{fsync}
use Rattle.fuse_tree.specs.Further.{do_further, further}
use Rattle.fuse_tree.specs.Making.{asker}
use Rattle.fuse_tree.specs.Do.{lookup_absent, lookup_child, lookup_entry, lookup, do_act, do_at, do_agreed, do_offered, names_node, offer_of, done}
use Rattle.fuse_tree.specs.Laws.{LooksStay}

-- it leaves the state
record Stays (s : State) (d : Done) : Type 0 where
  same : d.state ≡ s

unmoved : (s : State) (d : Done) → d.state ≡ s → Stays s d
unmoved s d is = record { same = is }

chosen : (s : State) (b : Bool) (d e : Done) → Stays s d → Stays s e → Stays s (if b then d else e)
chosen s true d e one two = one
chosen s false d e one two = two

unless : (s : State) (fault : Option Errno) (d : Done) → Stays s d → Stays s (refuse_for s fault d)
unless s (Some errno) d so = unmoved s _ refl
unless s None d so = so

checked : (s : State) (checks : List Check) (d : Done) → Stays s d → Stays s (refuse_by s checks d)
checked s checks d so = unless s (first_error checks) d so

-- ---- LOOKUP

absent_stays : (s : State) → Stays s (lookup_absent s)
absent_stays s = chosen s (keeps (agreement_of s)) _ _ (unmoved s _ refl) (unmoved s _ refl)

child_stays : (s : State) (child : Option Node) → Stays s (lookup_child s child)
child_stays s None = absent_stays s
child_stays s (Some child) = unmoved s _ refl

entry_stays : (s : State) (e : Option EntryRow) → Stays s (lookup_entry s e)
entry_stays s None = absent_stays s
entry_stays s (Some e) = child_stays s (node_at s e.child)

lookup_stays : (s : State) (name : List ℕ) (n : Node) → Stays s (lookup s name n)
lookup_stays s name n = checked s (name_checks s name n) _ (entry_stays s (entry_at s.entries n.number name))

-- ---- READ, READDIR, READDIRPLUS and READLINK

read_stays : (s : State) (asked : ReadIn) (n : Node) → Stays s (read s asked n)
read_stays s asked n = checked s (read_checks s asked n) _ (unmoved s _ refl)

read_dir_stays : (s : State) (asked : ReadIn) (n : Node) → Stays s (read_dir s asked n)
read_dir_stays s asked n =
    checked s (list_checks s asked n) _
    (chosen s (not (first_fits (entries_following s n.number asked.offset) asked.size)) _ _ (unmoved s _ refl) (unmoved s _ refl))

read_dir_plus_stays : (s : State) (asked : ReadIn) (n : Node) → Stays s (read_dir_plus s asked n)
read_dir_plus_stays s asked n =
    checked s (list_checks s asked n) _
    (chosen s (not (first_fits_by plus_len (plus_following s n.number asked.offset) asked.size)) _ _ (unmoved s _ refl) (unmoved s _ refl))

readlink_stays : (s : State) (n : Node) → Stays s (readlink s n)
readlink_stays s n = chosen s (not (is_link n.mode)) _ _ (unmoved s _ refl) (unmoved s _ refl)

fsync_stays : (s : State) (fh : ℕ) (n : Node) → Stays s (fsync s fh n)
fsync_stays s fh n = chosen s (not (is_open s.handles fh n.number)) _ _ (unmoved s _ refl) (unmoved s _ refl)

-- ---- further opcodes

-- a content of one of them is of those that only look
abbrev LooksAlone : Option FurtherContent → Type 0
LooksAlone (Some (Symlink name target)) = ⊥
LooksAlone (Some (Create flags mode umask open_flags name)) = ⊥
LooksAlone _ = Unit {0}

content_stays : (s : State) (from : Origin) (o : Option FurtherContent) (n : Node) → LooksAlone o → Stays s (do_further s from o n)
content_stays s from (Some Readlink) n so = readlink_stays s n
content_stays s from (Some Statfs) n so = unmoved s _ refl
content_stays s from (Some (Fsync fh fsync_flags)) n so = fsync_stays s fh n
content_stays s from (Some (FsyncDir fh fsync_flags)) n so = fsync_stays s fh n
content_stays s from (Some (Symlink name target)) n so = absurd so
content_stays s from (Some (Create flags mode umask open_flags name)) n so = absurd so
content_stays s from (Some (ReadDirPlus x)) n so = read_dir_plus_stays s x n
content_stays s from _ n so = unmoved s _ refl

or_split : (b c : Bool) → (b || c) ≡ true → (b ≡ true) ⊎ (c ≡ true)
or_split true c is = inl refl
or_split false c is = inr is

-- of each of these opcodes
pub looks_alone : (opcode : ℕ) (body : List ℕ) → only_looks opcode ≡ true → LooksAlone (further_content_at opcode body)
looks_alone opcode body is =
    let at = λ (n : ℕ) (e : eqb opcode n ≡ true) (so : LooksAlone (further_content_at n body)).
    subst (λ (x : ℕ). LooksAlone (further_content_at x body)) (sym (eqb-true opcode n e)) so in
    elim (or_split _ _ is) [
      | inl e ↦ at 1 e tt
      | inr is ↦ elim (or_split _ _ is) [
        | inl e ↦ at 3 e tt
        | inr is ↦ elim (or_split _ _ is) [
          | inl e ↦ at 5 e tt
          | inr is ↦ elim (or_split _ _ is) [
            | inl e ↦ at 15 e tt
            | inr is ↦ elim (or_split _ _ is) [
              | inl e ↦ at 17 e tt
              | inr is ↦ elim (or_split _ _ is) [
                | inl e ↦ at 20 e tt
                | inr is ↦ elim (or_split _ _ is) [
                  | inl e ↦ at 28 e tt
                  | inr is ↦ elim (or_split _ _ is) [ inl e ↦ at 30 e tt | inr e ↦ at 44 e tt ]
                ]
              ]
            ]
          ]
        ]
      ]
    ]

further_stays : (s : State) (from : Origin) (opcode : ℕ) (body : List ℕ) (n : Node) → only_looks opcode ≡ true → Stays s (further s from opcode body n)
further_stays s from opcode body n is =
    chosen s (not ((terms_of s).further opcode)) _ _ (unmoved s _ refl)
    (chosen s (is_some (further_fault opcode body)) _ _ (unmoved s _ refl)
    (content_stays s from (further_content_at opcode body) n (looks_alone opcode body is)))

-- ---- all requests

act_stays : (s : State) (header : InHeader) (act : Act) (now : Moment) (n : Node) → only_looks (opcode_of act) ≡ true → Stays s (do_act s header act now n)
act_stays s header (acts.Lookup name) now n is = lookup_stays s name n
act_stays s header (acts.Getattr flags fh) now n is = unmoved s _ refl
act_stays s header (acts.Setattr set) now n is = absurd (cc is)
act_stays s header (acts.Mkdir mode umask name) now n is = absurd (cc is)
act_stays s header (acts.Mknod mode rdev umask name) now n is = absurd (cc is)
act_stays s header (acts.Unlink name) now n is = absurd (cc is)
act_stays s header (acts.Rmdir name) now n is = absurd (cc is)
act_stays s header (acts.OpenFile flags open_flags) now n is = absurd (cc is)
act_stays s header (acts.Read asked) now n is = read_stays s asked n
act_stays s header (acts.Write fh offset write_flags lock_owner flags payload) now n is = absurd (cc is)
act_stays s header (acts.OpenDir flags open_flags) now n is = absurd (cc is)
act_stays s header (acts.ReadDir x) now n is = read_dir_stays s x n
act_stays s header (acts.Release x) now n is = absurd (cc is)
act_stays s header (acts.ReleaseDir x) now n is = absurd (cc is)
act_stays s header (acts.Rename new_dir old_name new_name) now n is = absurd (cc is)
act_stays s header (acts.Rename2 new_dir flags old_name new_name) now n is = absurd (cc is)
act_stays s header (acts.Further opcode body) now n is = further_stays s (asker header now) opcode body n is
act_stays s header _ now n is = unmoved s _ refl

at_stays : (s : State) (request : Asked) (now : Moment) (n : Option Node) → only_looks (opcode_of request.act) ≡ true → Stays s (do_at s request now n)
at_stays s request now None is = unmoved s _ refl
at_stays s request now (Some n) is = act_stays s request.header request.act now n is

agreed_stays : (s : State) (request : Asked) (now : Moment) → only_looks (opcode_of request.act) ≡ true → Stays s (do_agreed s request now)
agreed_stays s request now is =
    chosen s (names_node request.act) _ _ (at_stays s request now (node_at s request.header.nodeid) is) (unmoved s _ refl)

offered_stays : (s : State) (request : Asked) (now : Moment) (a : Act) → only_looks (opcode_of a) ≡ true → Stays s (do_agreed s request now)
    → Stays s (do_offered s request now (offer_of a))
offered_stays s request now (acts.Init offer) is so = absurd (cc is)
offered_stays s request now _ is so = chosen s (is_some s.settings) _ _ so (unmoved s _ refl)

pub looks_stay : LooksStay
unfolding done
looks_stay = λ s request now is. (offered_stays s request now request.act is (agreed_stays s request now is)).same
