-- Entries put one after the other.
use Rattle.std.proofs.Common.{◌≡◌, ℕ, ◌+◌, ◌-◌, ◌<◌, ◌≤◌, inl, inr, List, [], ◌∷◌, ◌++◌, length, take, get_or, refl, sym, ap, subst, ◌∙◌, append_assoc, arith}
use Rattle.std.specs.List.{sum_by}
use Rattle.std.proofs.lemmas.Bool.{cases_lt}
use Rattle.std.proofs.lemmas.List.{append-nil, take_more, take-take, length-append}
use Rattle.std.proofs.lemmas.List.Sums.{sum_by-cons, sum_by_more, sum_by-take-le}
use Rattle.fuse_wire.specs.Layout.{form, HasForm}
use Rattle.fuse_wire.specs.Laws.{LayoutsStand}
use Rattle.fuse_answer.specs.Entries.{DirectoryEntry, IsNamed, dirent_parts, Lists, packed_len, entries_bytes, IsLongest, IsLongestBy}

pub length_entries : LayoutsStand → (es : List DirectoryEntry) → length (entries_bytes es) ≡ sum_by packed_len es
length_entries laws [] = refl
length_entries laws (e ∷ es) =
    omega (arith, length-append (form (dirent_parts e)) (entries_bytes es), laws.form_len (dirent_parts e), sum_by-cons packed_len e es, length_entries laws es)

-- the first n entries are put, and fit
pub record Filled (es : List DirectoryEntry) (size n : ℕ) (body : List ℕ) : Type 0 where
  pub bytes : body ≡ entries_bytes (take n es)
  pub lists : Lists (take n es) body
  pub len : length body ≡ sum_by packed_len (take n es)
  pub fits : length body ≤ size

bytes-append : (es fs : List DirectoryEntry) → entries_bytes (es ++ fs) ≡ entries_bytes es ++ entries_bytes fs
bytes-append [] fs = refl
bytes-append (e ∷ es) fs =
    ap (λ (x : List ℕ). form (dirent_parts e) ++ x) (bytes-append es fs) ∙ sym (append_assoc (form (dirent_parts e)) (entries_bytes es) (entries_bytes fs))

lists-append : (es fs : List DirectoryEntry) (a b : List ℕ) → Lists es a → Lists fs b → Lists (es ++ fs) (a ++ b)
lists-append [] fs a b h g = subst (λ (x : List ℕ). Lists fs (x ++ b)) (sym h) g
lists-append (e ∷ es) fs a b h g =
    let s = h.1 in (
      h.0 ++ b,
      record { prefix = s.prefix; whole = ap (λ (x : List ℕ). x ++ b) s.whole ∙ append_assoc s.prefix h.0 b; named = s.named; laid = s.laid },
      lists-append es fs h.0 b h.2 g,
    )

pub filled_none : (es : List DirectoryEntry) (size : ℕ) (body : List ℕ) → body ≡ [] → Filled es size 0 body
filled_none es size body e = record { bytes = e; lists = e; len = ap length e; fits = omega (arith, ap length e) }

pub filled_more : LayoutsStand → (es : List DirectoryEntry) (size n : ℕ) (body new : List ℕ) (e : DirectoryEntry) → n < length es → get_or es n e ≡ e → Filled es size n body
    → IsNamed e → HasForm (dirent_parts e) → packed_len e ≤ size - length body → new ≡ body ++ form (dirent_parts e) → Filled es size (n + 1) new
filled_more laws es size n body new e within is f named has room put =
    let more : take (n + 1) es ≡ take n es ++ e ∷ [] = take_more es n e within ∙ ap (λ (x : DirectoryEntry). take n es ++ x ∷ []) is in
    let b : List ℕ = form (dirent_parts e) in
    let laid = laws.formed (dirent_parts e) has in
    let len : length b ≡ packed_len e = omega (arith, laws.len (dirent_parts e) b laid) in
    let one : Lists (e ∷ []) b = ([], record { prefix = b; whole = sym (append-nil b); named = named; laid = laid }, refl) in
    let total = sum_by_more packed_len es n e within ∙ ap (λ (x : DirectoryEntry). sum_by packed_len (take n es) + packed_len x) is in
    record {
      bytes = rw (more, put, f.bytes) (sym (bytes-append (take n es) (e ∷ []) ∙ ap (λ (x : List ℕ). entries_bytes (take n es) ++ x) (append-nil b)));
      lists = rw (more, put) (lists-append (take n es) (e ∷ []) body b f.lists one);
      len = ap length put ∙ length-append body b ∙ omega (arith, f.len, len, total);
      fits = omega (arith, ap length put, length-append body b, len, room, f.fits);
    }

-- the first n take so many bytes, and the next one doesn't fit, so no more do
pub longest_first : {A : Type 0} (len : A → ℕ) (es : List A) (size n total : ℕ) (e : A) → n < length es → get_or es n e ≡ e
    → total ≡ sum_by len (take n es) → total ≤ size → size - total < len e → IsLongestBy len es size n
longest_first {A} len es size n total e within is put fit big =
    let more = sum_by_more len es n e within ∙ ap (λ (x : A). sum_by len (take n es) + len x) is in
    record {
      within = omega (arith, within);
      fits = omega (arith, put, fit);
      longest = λ m _ fits. elim (cases_lt n m) [
        | inl lt ↦ (let part : take (n + 1) (take m es) ≡ take (n + 1) es = take-take (n + 1) m es (omega (arith, lt)) in
            let low = sum_by-take-le len (take m es) (n + 1) in
            absurd (omega (arith, ap (sum_by len) part, low, more, fits, put, fit, big)))
        | inr le ↦ le
      ];
    }

-- they all fit
pub longest_whole : {A : Type 0} (len : A → ℕ) (es : List A) (size n total : ℕ) → n ≡ length es
    → total ≡ sum_by len (take n es) → total ≤ size → IsLongestBy len es size n
longest_whole len es size n total all put fit = record { within = omega (arith, all); fits = omega (arith, put, fit); longest = λ m few _. omega (arith, few, all) }

-- the next entry doesn't fit, so no more do
pub longest_before : (es : List DirectoryEntry) (size n : ℕ) (body : List ℕ) (e : DirectoryEntry) → n < length es → get_or es n e ≡ e → Filled es size n body
    → size - length body < packed_len e → IsLongest es size n
longest_before es size n body e within is f big = longest_first packed_len es size n (length body) e within is f.len f.fits big

-- all fit
pub longest_all : (es : List DirectoryEntry) (size n : ℕ) (body : List ℕ) → n ≡ length es → Filled es size n body → IsLongest es size n
longest_all es size n body all f = longest_whole packed_len es size n (length body) all f.len f.fits
