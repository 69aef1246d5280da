-- The answers fit.
use Rattle.std.proofs.Common.{◌≡◌, ◌≤◌, ◌==◌, ◌&&◌, ℕ, Bool, true, false, not, if◌then◌else◌, nat_lt, List, [], length, drop, Option, Some, None, refl, arith}
use Rattle.std.proofs.lemmas.Bool.{ltb-false}
use Rattle.std.proofs.lemmas.List.{length-take}
use Rattle.fuse_wire.specs.declared.access_mode.AccessMode.{AccessMode}
use Rattle.fuse_wire.specs.declared.access_mode.AccessMode.TheVariants.{ReadOnly, WriteOnly, ReadWrite}
use Rattle.fuse_wire.specs.declared.errno.Errno.{Errno}
use Rattle.fuse_wire.specs.Bytes as wire_bytes
use Rattle.fuse_wire.specs.Flags.{access_of}
use Rattle.fuse_wire.specs.Opcodes.{fuse_readlink, fuse_statfs}
use Rattle.fuse_request.specs.declared.request.InitIn.{InitIn}
use Rattle.fuse_request.specs.declared.request.ReadIn.{ReadIn}
use Rattle.fuse_request.specs.Act.{Act, Asked, opcode_of}
use Rattle.fuse_request.specs.Opcodes.{is_performed_for}
use Rattle.fuse_request.specs.Act as acts
use Rattle.fuse_answer.specs.Entries.{DirectoryEntry}
use Rattle.fuse_answer.specs.FurtherAnswers.{statfs_bytes}
use Rattle.fuse_answer.specs.Laws.{RecordSizes}
use Rattle.fuse_answer.specs.Said.{Said, FitsAnswer}
use Rattle.fuse_init.specs.declared.profile.Profile.TheVariants as profiles
use Rattle.fuse_init.specs.Agree.{agree}
use Rattle.fuse_init.specs.declared.negotiation.Negotiated.{Negotiated}
use Rattle.fuse_init.specs.declared.negotiation.Negotiated.TheVariants.{Agreed, Again, Refused}
use Rattle.fuse_init.specs.declared.settings.Settings.{Settings}
use Rattle.fuse_keeper.specs.Model.{IsSoundModel}
use Rattle.five_files.specs.declared.node.Node.{Node}
use Rattle.five_files.specs.declared.node.Node.TheVariants.{Directory, Readme, Licence, Hours, Times}
use Rattle.five_files.specs.Nodes.{number_of, node_at, is_dir, is_link, content_of}
use Rattle.five_files.specs.Answers.{refuse, give, refuse_for, entry_out, attr_out, open_out, statfs_out, give_entry, give_attr, give_open}
use Rattle.five_files.specs.Asking.{name_fault, file_named, found, lookup, open_for, open_file, release, release_dir, read, read_link, stat_fs, further, said_at}
use Rattle.five_files.specs.Asking.{only_looks, said_for, names_node, said_init, offer_of, said_offered, said}
use Rattle.five_files.specs.Listing.{entries_following, fitting, first_fits, list, read_dir}
use Rattle.five_files.specs.TheFiles.{the_files}
use Rattle.five_files.proofs.Prefixes.{fitting_fits}
use Rattle.five_files.proofs.Looking.{looks_stay}

refused : (errno : Errno) → FitsAnswer (refuse errno)
refused errno = record { refusal = λ _. refl; short = omega arith }

given : (body : List ℕ) → length body ≤ 1048576 → FitsAnswer (give body)
given body short = record { refusal = λ isnt. absurd (isnt refl); short = short }

chosen : (b : Bool) (one two : Said) → FitsAnswer one → (b ≡ false → FitsAnswer two) → FitsAnswer (if b then one else two)
chosen true one two fits other = fits
chosen false one two fits other = other refl

refused_for : (fault : Option Errno) (said : Said) → FitsAnswer said → FitsAnswer (refuse_for fault said)
refused_for (Some errno) said fits = refused errno
refused_for None said fits = fits

-- ---- one request after the other

entry_fits : RecordSizes → (n : Node) → FitsAnswer (give_entry n)
entry_fits sizes n = given _ (omega (arith, sizes.0 (entry_out n)))

attr_fits : RecordSizes → (n : Node) → FitsAnswer (give_attr n)
attr_fits sizes n = given _ (omega (arith, sizes.1 (attr_out n)))

opened_fits : RecordSizes → (n : Node) → FitsAnswer (give_open n)
opened_fits sizes n = given _ (omega (arith, sizes.2 (open_out n)))

found_fits : RecordSizes → (o : Option Node) → FitsAnswer (found o)
found_fits sizes None = refused _
found_fits sizes (Some n) = entry_fits sizes n

lookup_fits : RecordSizes → (name : List ℕ) (n : Node) → FitsAnswer (lookup name n)
lookup_fits sizes name n =
    chosen (not (is_dir n)) _ _ (refused _) (λ dir. refused_for (name_fault name) _ (found_fits sizes (file_named name)))

open_for_fits : RecordSizes → (o : Option AccessMode) (n : Node) → FitsAnswer (open_for o n)
open_for_fits sizes None n = refused _
open_for_fits sizes (Some ReadOnly) n = opened_fits sizes n
open_for_fits sizes (Some WriteOnly) n = refused _
open_for_fits sizes (Some ReadWrite) n = refused _

open_file_fits : RecordSizes → (flags : ℕ) (n : Node) → FitsAnswer (open_file flags n)
open_file_fits sizes flags n =
    chosen (is_dir n) _ _ (refused _) (λ file. chosen (is_link n) _ _ (refused _) (λ regular. open_for_fits sizes (access_of flags) n))

release_fits : (fh : ℕ) (n : Node) → FitsAnswer (release fh n)
release_fits fh n = chosen (not (fh == number_of n)) _ _ (refused _) (λ here. chosen (is_dir n) _ _ (refused _) (λ file.
    chosen (is_link n) _ _ (refused _) (λ regular. given [] (omega arith))))

release_dir_fits : (fh : ℕ) (n : Node) → FitsAnswer (release_dir fh n)
release_dir_fits fh n = chosen (not (fh == number_of n)) _ _ (refused _) (λ here. chosen (not (is_dir n)) _ _ (refused _) (λ dir. given [] (omega arith)))

read_fits : (asked : ReadIn) (n : Node) → FitsAnswer (read asked n)
read_fits asked n =
    chosen (not (asked.fh == number_of n)) _ _ (refused _) (λ here.
    chosen (is_dir n) _ _ (refused _) (λ file.
    chosen (is_link n) _ _ (refused _) (λ regular.
    chosen (nat_lt 1048576 asked.size) _ _ (refused _) (λ few.
    given _ (omega (arith, ltb-false 1048576 asked.size few, length-take asked.size (drop asked.offset (content_of n))))))))

list_fits : RecordSizes → (es : List DirectoryEntry) (size : ℕ) → size ≤ 1048576 → FitsAnswer (list es size)
list_fits sizes es size few =
    chosen (not (first_fits es size)) _ _ (refused _) (λ first. given _ (omega (arith, few, sizes.5 (fitting es size), fitting_fits es size)))

read_dir_fits : RecordSizes → (asked : ReadIn) (n : Node) → FitsAnswer (read_dir asked n)
read_dir_fits sizes asked n =
    chosen (not (asked.fh == number_of n)) _ _ (refused _) (λ here.
    chosen (not (is_dir n)) _ _ (refused _) (λ dir.
    chosen (nat_lt 1048576 asked.size) _ _ (refused _) (λ few.
    list_fits sizes (entries_following asked.offset) asked.size (ltb-false 1048576 asked.size few))))

target_fits : (n : Node) → length (content_of n) ≤ 1048576
target_fits Directory = omega arith
target_fits Readme = omega arith
target_fits Licence = omega arith
target_fits Hours = omega arith
target_fits Times = omega arith

read_link_fits : (body : List ℕ) (n : Node) → FitsAnswer (read_link body n)
read_link_fits body n =
    chosen (not (length body == 0)) _ _ (refused _) (λ empty. chosen (not (is_link n)) _ _ (refused _) (λ link. given _ (target_fits n)))

space_len : length (statfs_bytes statfs_out) ≡ 80
unfolding statfs_bytes wire_bytes.le
space_len = refl

stat_fs_fits : (body : List ℕ) → FitsAnswer (stat_fs body)
stat_fs_fits body = chosen (not (length body == 0)) _ _ (refused _) (λ empty. given _ (omega (arith, space_len)))

further_fits : (opcode : ℕ) (body : List ℕ) (n : Node) → FitsAnswer (further opcode body n)
further_fits opcode body n =
    chosen (opcode == fuse_readlink) _ _ (read_link_fits body n) (λ other.
    chosen (opcode == fuse_statfs) _ _ (stat_fs_fits body) (λ another. refused _))

-- ---- all requests

at_fits : RecordSizes → (act : Act) (n : Node) → FitsAnswer (said_at act n)
at_fits sizes (acts.Lookup name) n = lookup_fits sizes name n
at_fits sizes (acts.Getattr flags fh) n = attr_fits sizes n
at_fits sizes (acts.OpenFile flags open_flags) n = open_file_fits sizes flags n
at_fits sizes (acts.Read asked) n = read_fits asked n
at_fits sizes (acts.Release x) n = release_fits x.fh n
at_fits sizes (acts.OpenDir flags open_flags) n = chosen (not (is_dir n)) _ _ (refused _) (λ dir. opened_fits sizes n)
at_fits sizes (acts.ReadDir asked) n = read_dir_fits sizes asked n
at_fits sizes (acts.ReleaseDir x) n = release_dir_fits x.fh n
at_fits sizes (acts.Further opcode body) n = further_fits opcode body n
at_fits sizes _ n = refused _

for_fits : RecordSizes → (act : Act) (o : Option Node) → FitsAnswer (said_for act o)
for_fits sizes act None = refused _
for_fits sizes act (Some n) = at_fits sizes act n

agreed_fits : RecordSizes → (asked : Asked) (names : Bool) → FitsAnswer (if names then said_for asked.act (node_at asked.header.nodeid) else give [])
agreed_fits sizes asked true = for_fits sizes asked.act (node_at asked.header.nodeid)
agreed_fits sizes asked false = given [] (omega arith)

init_fits : RecordSizes → (negotiated : Negotiated) → FitsAnswer (said_init negotiated)
init_fits sizes (Agreed out settings) = given _ (omega (arith, sizes.4 out))
init_fits sizes (Again out) = given _ (omega (arith, sizes.4 out))
init_fits sizes (Refused errno) = refused errno

offered_fits : RecordSizes → (agreed : Option Settings) (asked : Asked) (offer : Option InitIn) → FitsAnswer (said_offered agreed asked offer)
offered_fits sizes agreed asked (Some offer) = init_fits sizes (agree profiles.Plain offer)
offered_fits sizes None asked None = refused _
offered_fits sizes (Some settings) asked None = agreed_fits sizes asked (names_node asked.act)

said_fits : RecordSizes → (agreed : Option Settings) (asked : Asked) → FitsAnswer (said agreed asked)
unfolding said
said_fits sizes agreed asked = offered_fits sizes agreed asked (offer_of asked.act)

also : (performed sees : Bool) → (performed && sees) ≡ true → sees ≡ true
also true sees is = is
also false sees is = absurd (cc is)

-- what the file system owes; each state is good
pub files_are_sound : RecordSizes → IsSoundModel the_files
files_are_sound sizes = record {
  fits = λ s asked now. said_fits sizes s asked;
  starts = λ now. tt;
  goes_on = λ s asked now kept good. tt;
  stays = λ s asked now seen.
      looks_stay s asked (also (is_performed_for the_files.service (opcode_of asked.act)) (only_looks (opcode_of asked.act)) seen);
  keeps_init = refl;
  keeps_destroy = refl;
  clears = λ s good. tt;
}
