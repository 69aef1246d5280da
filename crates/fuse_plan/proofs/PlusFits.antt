-- What is answered to READDIRPLUS fits, and is read.
use Rattle.std.proofs.Common.{◌≡◌, ◌≤◌, ℕ, not, List, [], ◌∷◌, length, map, Option, Some, None, refl, sym, ap, ◌∙◌, arith}
use Rattle.std.specs.List.{AllByRecursion, sum_by}
use Rattle.std.proofs.lemmas.Bool.{ltb-false}
use Rattle.std.proofs.lemmas.List.{length-append, length-replicate, append-nil}
use Rattle.std.proofs.lemmas.List.Sums.{sum_by-cons}
use Rattle.fuse_wire.specs.Layout.{form}
use Rattle.fuse_request.specs.declared.request.ReadIn.{ReadIn}
use Rattle.fuse_answer.specs.declared.records.EntryOut.{EntryOut}
use Rattle.fuse_answer.specs.Entries.{DirectoryEntry, IsNamed, packed_len, dirent_parts}
use Rattle.fuse_answer.specs.PlusEntries.{PlusEntry, plus_len, out_bytes, plus_form, plus_bytes}
use Rattle.fuse_answer.specs.Laws.{ReadBack, RecordSizes}
use Rattle.fuse_answer.specs.Replies.{DirectoryPlus}
use Rattle.fuse_rows.specs.Bounds.{read_limit}
use Rattle.fuse_tree.specs.State.{State, Node, Shape}
use Rattle.fuse_tree.specs.Listing.{longest_by, first_fits_by, entries_following, list_checks}
use Rattle.fuse_tree.specs.PlusListing.{plus_entry, plus_following, list_plus, read_dir_plus}
use Rattle.fuse_plan.proofs.Fit.{Fits, Reads, refused, answered, chosen, checked_then, refused_reads, answered_reads, chosen_reads, checked_reads, Short, refused_short, chosen_short, checked_short}
use Rattle.fuse_plan.proofs.Prefixes.{longest}
use Rattle.fuse_plan.proofs.Listing.{all_named}
use Rattle.fuse_plan.proofs.Shown.{all_taken}

-- ---- how many bytes they take

out_len : RecordSizes → (out : Option EntryOut) → length (out_bytes out) ≡ 128
out_len sizes None = length-replicate {A = ℕ} 128 0
out_len sizes (Some out) = sizes.0 out

one_len : RecordSizes → (e : DirectoryEntry) → length (form (dirent_parts e)) ≡ packed_len e
one_len sizes e =
    let cut = sum_by-cons packed_len e [] in
    let whole : sum_by packed_len (e ∷ []) ≡ packed_len e = omega (arith, cut) in
    ap length (sym (append-nil (form (dirent_parts e)))) ∙ sizes.5 (e ∷ []) ∙ whole

plus_len_is : RecordSizes → (es : List PlusEntry) → length (plus_bytes es) ≡ sum_by plus_len es
plus_len_is sizes [] = refl
plus_len_is sizes (e ∷ es) =
    omega (
      arith,
      length-append (plus_form e) (plus_bytes es),
      length-append (out_bytes e.out) (form (dirent_parts e.entry)),
      out_len sizes e.out,
      one_len sizes e.entry,
      plus_len_is sizes es,
      sum_by-cons plus_len e es,
    )

list_plus_fits : RecordSizes → (s : State) (es : List PlusEntry) (size : ℕ) → size ≤ 1048576 → Fits (list_plus s es size)
list_plus_fits sizes s es size few =
    chosen (not (first_fits_by plus_len es size)) _ _ (refused s _)
    (answered s _ (omega (arith, few, plus_len_is sizes (longest_by plus_len es size), (longest plus_len es size).fits)))

pub read_dir_plus_fits : RecordSizes → (s : State) (asked : ReadIn) (n : Node) → Fits (read_dir_plus s asked n)
read_dir_plus_fits sizes s asked n =
    checked_then s (list_checks s asked n) _ (λ _ _ few _.
    list_plus_fits sizes s (plus_following s n.number asked.offset) asked.size (ltb-false read_limit asked.size few))

-- ---- it is read

-- what LOOKUP answers changes no name
plus_named : (s : State) (es : List DirectoryEntry) → AllByRecursion IsNamed es → AllByRecursion (λ e. IsNamed e.entry) (map (plus_entry s) es)
plus_named s [] named = tt
plus_named s (e ∷ es) named = (named.0, plus_named s es named.1)

list_plus_reads : ReadBack → (s : State) (es : List PlusEntry) (size : ℕ) → AllByRecursion (λ e. IsNamed e.entry) es → Reads DirectoryPlus (list_plus s es size)
list_plus_reads back s es size named =
    chosen_reads (not (first_fits_by plus_len es size)) _ _ (refused_reads s _ refl)
    (answered_reads s _ (back.listing_plus (longest_by plus_len es size) (all_taken (λ e. IsNamed e.entry) _ es named)))

pub read_dir_plus_reads : ReadBack → (s : State) (asked : ReadIn) (n : Node) → Shape s → Reads DirectoryPlus (read_dir_plus s asked n)
read_dir_plus_reads back s asked n tree =
    checked_reads s (list_checks s asked n) _ refl
    (list_plus_reads back s (plus_following s n.number asked.offset) asked.size
    (plus_named s (entries_following s n.number asked.offset) (all_named s n.number asked.offset tree)))

list_plus_short : RecordSizes → (s : State) (es : List PlusEntry) (size : ℕ) → Short (Some size) (list_plus s es size)
list_plus_short sizes s es size =
    chosen_short _ (not (first_fits_by plus_len es size)) _ _ (refused_short (Some size) s _)
    (record { within = omega (arith, plus_len_is sizes (longest_by plus_len es size), (longest plus_len es size).fits) })

pub read_dir_plus_short : RecordSizes → (s : State) (asked : ReadIn) (n : Node) → Short (Some asked.size) (read_dir_plus s asked n)
read_dir_plus_short sizes s asked n =
    checked_short (Some asked.size) s (list_checks s asked n) _ (list_plus_short sizes s (plus_following s n.number asked.offset) asked.size)
