-- What is read of a data file as it is opened.
use Rattle.std.proofs.Common.{IsTrue, Bool, true, false, ◌≡◌, ℕ, ◌*◌, ◌/◌, ◌<◌, ◌≤◌, List, length, sym, subst, ◌∙◌, arith}
use Rattle.std.specs.List.{All}
use Rattle.std.proofs.lemmas.List.{ext_get_or}
use Rattle.sqlite_disk.specs.Disk.{Holds, MoreFaults}
use Rattle.fuse_data.specs.declared.extent.Extent.{Extent}
use Rattle.fuse_data.specs.declared.extent.TheConstants.{BLOCK}
use Rattle.fuse_data.specs.declared.fault.DataFault.{DataFault}
use Rattle.fuse_data.specs.declared.fault.DataFault.TheVariants as faults
use Rattle.fuse_data.specs.Extents.{past}
use Rattle.fuse_data.specs.Header.{header_of, HasHeader}
use Rattle.fuse_data.specs.Causes.{FailsToFit, FailsToOpen}
use Rattle.fuse_data.specs.Faults.{CountsFault}
use Rattle.fuse_data.proofs.Keepings.{header_len}

-- a place has only one list of bytes of a length
pub one_bytes : (file a b : List ℕ) (at : ℕ) → length a ≡ length b → Holds file at a → Holds file at b → a ≡ b
one_bytes file a b at same h k =
    ext_get_or 0 a b same (λ i low. sym (h.each i low) ∙ k.each i (omega arith))

pub too_short : (file : List ℕ) (store len n : ℕ) → len ≡ length file → n ≡ length (header_of store) → len < n → HasHeader store file → ⊥
too_short file store len n is size short h = omega (arith, h.within)

pub other_header : (file found header : List ℕ) (store : ℕ) → header ≡ header_of store → length found ≡ 32 → Holds file 0 found → (found ≡ header → IsTrue false) → HasHeader store file → ⊥
other_header file found header store is size h other held =
    let no_way : false ≡ true = other (one_bytes file found (header_of store) 0 (size ∙ sym (header_len store)) h held ∙ sym is) in cc

pub header_read : (file found header : List ℕ) (store : ℕ) → header ≡ header_of store → found ≡ header → Holds file 0 found → HasHeader store file
header_read file found header store is same h = subst (Holds file 0) (same ∙ is) h

-- a read that fails within the file is counted
pub read_counts : (old mid new : ℕ) (P : Type 0) → mid ≡ old → (P → MoreFaults mid new) × (mid ≤ new) → P → MoreFaults old new × (old ≤ new)
read_counts old mid new P is counts p = subst (λ (n : ℕ). MoreFaults n new × (n ≤ new)) is (counts.0 p, counts.1)

pub all_within : (listed : List Extent) (len n : ℕ) → len ≡ n → All (λ p. past p ≤ len / BLOCK) listed → All (λ p. past p * BLOCK ≤ n) listed
all_within listed len n is h k d low = let one = h k d low in omega arith

-- a fault of the list is one of the opening
pub list_counts : (e : DataFault) (listed : List Extent) (blocks old new : ℕ) → FailsToFit listed blocks e → new ≡ old → CountsFault e old new
list_counts (faults.Disk x) listed blocks old new of same = absurd of
list_counts faults.Memory listed blocks old new of same = same
list_counts faults.Unusable listed blocks old new of same = same
list_counts faults.Foreign listed blocks old new of same = same
list_counts faults.Full listed blocks old new of same = same
list_counts faults.NotBlocks listed blocks old new of same = same
list_counts (faults.Overlapping p) listed blocks old new of same = same
list_counts (faults.Beyond p) listed blocks old new of same = same
list_counts (faults.Damaged p) listed blocks old new of same = same
list_counts (faults.NotInUse p) listed blocks old new of same = same

pub list_fails : (e : DataFault) (listed : List Extent) (usable clean : Bool) (file : List ℕ) (store len : ℕ) → FailsToFit listed (len / BLOCK) e → IsTrue usable → (IsTrue clean → len ≡ length file) → FailsToOpen usable clean file store listed e
list_fails (faults.Disk x) listed usable clean file store len of asked size = absurd of
list_fails faults.Memory listed usable clean file store len of asked size = asked
list_fails faults.Unusable listed usable clean file store len of asked size = absurd of
list_fails faults.Foreign listed usable clean file store len of asked size = absurd of
list_fails faults.Full listed usable clean file store len of asked size = absurd of
list_fails faults.NotBlocks listed usable clean file store len of asked size = absurd of
list_fails (faults.Overlapping p) listed usable clean file store len of asked size = (asked, of.0, of.1)
list_fails (faults.Beyond p) listed usable clean file store len of asked size = (asked, of.0, λ is_clean. let n = size is_clean in let far = of.1 in omega arith)
list_fails (faults.Damaged p) listed usable clean file store len of asked size = absurd of
list_fails (faults.NotInUse p) listed usable clean file store len of asked size = absurd of
