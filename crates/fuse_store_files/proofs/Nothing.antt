-- Files that hold no database yet.
use Rattle.std.proofs.Common.{◌<◌, ◌≡◌, ℕ, ◌-◌, ◌*◌, ◌≤◌, List, [], length, take, slice_index, Option, Some, unwrap_or, sym, refl, ◌∙◌, ap, inl, inr, arith, get_or-take, length-take, zero-add}
use Rattle.std.proofs.lemmas.Bool.{cases_lt}
use Rattle.std.proofs.lemmas.List.{get_or_past}
use Rattle.std.proofs.Math.Logic.{∥∥₁_elim}
use Rattle.sqlite_pool.specs.Stored.{stored_size, Adopts}
use Rattle.sqlite_pool.specs.StoredLaws.{trimmed_some}
use Rattle.sqlite_pool.specs.Opening.{IsBlankFile}
use Rattle.sqlite_pool.specs.File.{header_in, IsSoundFile}
use Rattle.sqlite_pool.proofs.ProbeLemmas.{first_byte}
use Rattle.sqlite_pages.specs.PageMap.{PageMap}
use Rattle.sqlite_wal.specs.Format.{part}
use Rattle.sqlite_wal.specs.Recovery.{Image, pages_after}
use Rattle.sqlite_wal.proofs.PartLemmas.{slice_index-part, part_within}
use Rattle.sqlite_wal.proofs.RecoveryLemmas.{replays_once}
use Rattle.sqlite_wal.proofs.AppendLemmas.{some_value, page_from_pages}
use Rattle.sqlite_trees.specs.Tree.{Trees}
use Rattle.sqlite.specs.Files.{IsNothing, IsEmpty, AreFoundIn}

-- what is read at a place after the end is 0
behind : (xs : List ℕ) (n k : ℕ) → n ≤ k → slice_index (take n xs) k ≡ 0
behind xs n k past = get_or_past (take n xs) k 0 (omega (arith, length-take n xs))

module _ (size : ℕ) (image : Image) (pages : PageMap) (found : Adopts size image pages) (sound : IsSoundFile size pages) where
  -- the header is not cut short
  large : 24 ≤ size
  large =
      let (page, is) = some_value (found.stored 1) found.whole.first in
      let used : pages 1 ≡ Some (take size page) = ap (λ (p : PageMap). p 1) (sym found.shows) ∙ trimmed_some size _ 1 page is in
      let head : header_in pages ≡ take 100 (take size page) = ap (λ (o : Option (List ℕ)). take 100 (unwrap_or o [])) used in
      elim (cases_lt size 24) [
        | inl short ↦
            let none : slice_index (header_in pages) 23 ≡ 0 =
            ap (λ (b : List ℕ). slice_index b 23) head ∙ get_or-take 100 (take size page) 23 0 (omega arith) ∙ behind page size 23 (omega (arith, short)) in
            omega (arith, sound.header.1.fractions, none)
        | inr long ↦ long
      ]

  -- with no frame to replay, the first byte is that of the database file
  from_file : found.found.frames ≡ 0 → (stored_size size ≤ length image.db) × (slice_index (header_in pages) 0 ≡ slice_index image.db 0)
  from_file none =
      let whole = stored_size size in
      let raw = found.found in
      let big = large in
      let (page, is) = some_value (found.stored 1) found.whole.first in
      let alone : pages_after whole image.log image.db 0 1 ≡ Some page = ap (λ (p : PageMap). p 1) (ap (pages_after whole image.log image.db) (sym none) ∙ raw.gives) ∙ is in
      let start : (1 - 1) * whole ≡ 0 = omega arith in
      let first : part image.db 0 whole ≡ page = ap (λ (at : ℕ). part image.db at whole) (sym start) ∙ (page_from_pages whole image.log image.db 0 1 page alone).0 in
      let long = part_within image.db 0 whole (omega (arith, big)) (ap length first ∙ found.whole.sized 1 page is) in
      let used : pages 1 ≡ Some (take size page) = ap (λ (p : PageMap). p 1) (sym found.shows) ∙ trimmed_some size _ 1 page is in
      let head : header_in pages ≡ take 100 (take size (part image.db 0 whole)) =
      ap (λ (o : Option (List ℕ)). take 100 (unwrap_or o [])) used ∙ ap (λ (b : List ℕ). take 100 (take size b)) (sym first) in (
        omega (arith, long),
        ap (λ (b : List ℕ). slice_index b 0) head ∙ get_or-take 100 (take size (part image.db 0 whole)) 0 0 (omega arith)
            ∙ get_or-take size (part image.db 0 whole) 0 0 (omega (arith, big)) ∙ slice_index-part image.db 0 whole 0 (omega (arith, big)) ∙ ap (slice_index image.db) (zero-add 0),
      )

  not_blank : (other : ℕ) → 0 < other → IsBlankFile other image → ⊥
  not_blank other some (inl none) = omega (arith, found.found.present)
  not_blank other some (inr blank) =
      let raw = found.found in
      let none : raw.frames ≡ 0 = elim blank.0 [
        | inl ignored ↦ replays_once (stored_size size) image.log raw.frames 0 raw.replays (inl (ignored.0, refl))
        | inr taken ↦ elim raw.replays [
          | inl ignored ↦ ignored.1
          | inr ours ↦ replays_once (stored_size size) image.log raw.frames 0 raw.replays (rw (sym ours.0.head.size ∙ taken.0.head.size) blank.0)
        ]
      ] in
      let (long, byte) = from_file none in
      let big = large in
      let magic : slice_index image.db 0 ≡ 83 =
      sym byte ∙ sym (get_or-take 16 (header_in pages) 0 0 (omega arith)) ∙ ap (λ (b : List ℕ). slice_index b 0) sound.header.0.magic in
      elim blank.1.0 [
        | inl short ↦ omega (arith, big, long, short)
        | inr more ↦ elim more [ inl zero' ↦ omega (arith, zero'.1) | inr rest ↦ rest.1 (magic ∙ sym (first_byte other some)) ]
      ]

-- an open of them finds none
pub found_nothing : (image : Image) (db : Trees) → IsNothing image → AreFoundIn image db → IsEmpty db
found_nothing image db nothing (inr none) = none.1
found_nothing image db nothing (inl (size, pages, wanted, found, ours, same)) =
    absurd (∥∥₁_elim ours (λ x. absurd x) (λ it.
    elim nothing [ inl plain ↦ not_blank size image pages found it.file.sound _ (omega arith) plain | inr summed ↦ not_blank size image pages found it.file.sound _ (omega arith) summed ]))
