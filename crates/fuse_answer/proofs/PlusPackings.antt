-- Entries of READDIRPLUS put one after the other.
use Rattle.std.proofs.Common.{◌≡◌, ℕ, ◌+◌, ◌-◌, ◌<◌, ◌≤◌, List, [], ◌∷◌, ◌++◌, length, take, get_or, Option, Some, None, refl, sym, ap, ◌∙◌, append_assoc, arith}
use Rattle.std.specs.List.{sum_by}
use Rattle.std.proofs.lemmas.List.{append-nil, take_more, length-append, length-replicate}
use Rattle.std.proofs.lemmas.List.Sums.{sum_by_more}
use Rattle.fuse_wire.specs.Layout.{form}
use Rattle.fuse_wire.specs.Laws.{LayoutsStand}
use Rattle.fuse_answer.specs.declared.records.EntryOut.{EntryOut}
use Rattle.fuse_answer.specs.Entries.{dirent_parts, IsLongestBy}
use Rattle.fuse_answer.specs.PlusEntries.{PlusEntry, plus_len, out_bytes, plus_form, plus_bytes}
use Rattle.fuse_answer.proofs.Forms.{entry_len}
use Rattle.fuse_answer.proofs.Packings.{longest_first, longest_whole}

length-out : LayoutsStand → (o : Option EntryOut) → length (out_bytes o) ≡ 128
length-out laws None = length-replicate {A = ℕ} 128 0
length-out laws (Some e) = entry_len laws e

length-form : LayoutsStand → (e : PlusEntry) → length (plus_form e) ≡ plus_len e
length-form laws e =
    omega (arith, length-append (out_bytes e.out) (form (dirent_parts e.entry)), length-out laws e.out, laws.form_len (dirent_parts e.entry))

-- the first n entries are put, and fit
pub record FilledPlus (es : List PlusEntry) (size n : ℕ) (body : List ℕ) : Type 0 where
  pub bytes : body ≡ plus_bytes (take n es)
  pub len : length body ≡ sum_by plus_len (take n es)
  pub fits : length body ≤ size

bytes-append : (es fs : List PlusEntry) → plus_bytes (es ++ fs) ≡ plus_bytes es ++ plus_bytes fs
bytes-append [] fs = refl
bytes-append (e ∷ es) fs =
    ap (λ (x : List ℕ). plus_form e ++ x) (bytes-append es fs) ∙ sym (append_assoc (plus_form e) (plus_bytes es) (plus_bytes fs))

pub plus_none : (es : List PlusEntry) (size : ℕ) (body : List ℕ) → body ≡ [] → FilledPlus es size 0 body
plus_none es size body e = record { bytes = e; len = ap length e; fits = omega (arith, ap length e) }

pub plus_more : LayoutsStand → (es : List PlusEntry) (size n : ℕ) (body new : List ℕ) (e : PlusEntry) → n < length es → get_or es n e ≡ e
    → FilledPlus es size n body → plus_len e ≤ size - length body → new ≡ body ++ plus_form e → FilledPlus es size (n + 1) new
plus_more laws es size n body new e within is f room put =
    let more : take (n + 1) es ≡ take n es ++ e ∷ [] = take_more es n e within ∙ ap (λ (x : PlusEntry). take n es ++ x ∷ []) is in
    let len = length-form laws e in
    let total = sum_by_more plus_len es n e within ∙ ap (λ (x : PlusEntry). sum_by plus_len (take n es) + plus_len x) is in
    record {
      bytes = rw (more, put, f.bytes) (sym (bytes-append (take n es) (e ∷ []) ∙ ap (λ (x : List ℕ). plus_bytes (take n es) ++ x) (append-nil (plus_form e))));
      len = ap length put ∙ length-append body (plus_form e) ∙ omega (arith, f.len, len, total);
      fits = omega (arith, ap length put, length-append body (plus_form e), len, room, f.fits);
    }

-- the next entry doesn't fit, so no more do
pub plus_before : (es : List PlusEntry) (size n : ℕ) (body : List ℕ) (e : PlusEntry) → n < length es → get_or es n e ≡ e → FilledPlus es size n body
    → size - length body < plus_len e → IsLongestBy plus_len es size n
plus_before es size n body e within is f big = longest_first plus_len es size n (length body) e within is f.len f.fits big

-- all fit
pub plus_all : (es : List PlusEntry) (size n : ℕ) (body : List ℕ) → n ≡ length es → FilledPlus es size n body → IsLongestBy plus_len es size n
plus_all es size n body all f = longest_whole plus_len es size n (length body) all f.len f.fits
