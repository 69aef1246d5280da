-- Contents in chunks: where a place lies, chunks cut there, and chunks in the place of others.
use Rattle.std.proofs.Common.{◌≡◌, ◌<◌, ◌≤◌, ◌+◌, ◌-◌, ℕ, zero, suc, min, get_or, List, [], ◌∷◌, ◌++◌, length, take, drop, refl, sym, ap, subst, ◌∙◌, ◌⊎◌, inl, inr, arith}
use Rattle.std.specs.Prelude.{replicate, None}
use Rattle.std.specs.List.{splice}
use Rattle.std.specs.Iterator.{YieldsThen}
use Rattle.std.specs.Vec.Iter.{into_iter_items, into_iter_len, into_iter_steps}
use Rattle.std.specs.declared.vec.IntoIter.{IntoIter}
use Rattle.std.proofs.lemmas.Iterator.{items_from_drains}
use Rattle.std.proofs.lemmas.Iterator.Adapters.{YieldsList-from_vec}
use Rattle.std.proofs.Math.Seq.{take-append-add, drop-append-add, drop-nil}
use Rattle.std.proofs.lemmas.List.{length-append, length-take, length-drop, length-take-le, take_all, take_at, take-append-le, take-append-drop, take-take, take_more, drop_more, drop-drop, drop_all, append_assoc, append_cancel_left, append-nil, get_or-take, map-id}
use Rattle.std.proofs.lemmas.List.Concat.{flat_map-append}
use Rattle.fuse_rows.specs.declared.chunk.Chunk.{Chunk}
use Rattle.fuse_rows.specs.declared.chunks.Place.{Place}
use Rattle.fuse_rows.specs.declared.chunks.Cut.{Cut}
use Rattle.fuse_rows.specs.Rows.{sized, written}
use Rattle.fuse_rows.specs.inner.ChunkBytes.{bytes_of_chunk, joined_chunks, IsPlace, CutsAt}

-- what a vector's iterator gave
pub vec_gave : {A Z : Type 0} (it : IntoIter A Z) (all xs : List A) → into_iter_items it ≡ all → into_iter_len it ≡ length all
    → ((rest : IntoIter A Z) × YieldsThen into_iter_steps it xs None rest) → xs ≡ all
vec_gave it all xs items len h = sym (map-id xs) ∙ items_from_drains xs (h.1.0, h.1.1, λ _. (h.0, h.1.2)) (YieldsList-from_vec all items len)

-- ---- lists in a row

take_both : (n : ℕ) (xs ys : List ℕ) → take n (xs ++ ys) ≡ take n xs ++ take (n - length xs) ys
take_both zero xs ys = let e : zero - length xs ≡ 0 = omega arith in rw e refl
take_both (suc n) [] ys = ap (λ (k : ℕ). take k ys) (let e : suc n ≡ suc n - 0 = omega arith in e)
take_both (suc n) (x ∷ xs) ys =
    let e : suc n - length (x ∷ xs) ≡ n - length xs = omega arith in rw e (ap (λ (zs : List ℕ). x ∷ zs) (take_both n xs ys))

drop_both : (n : ℕ) (xs ys : List ℕ) → drop n (xs ++ ys) ≡ drop n xs ++ drop (n - length xs) ys
drop_both zero xs ys = let e : zero - length xs ≡ 0 = omega arith in rw e refl
drop_both (suc n) [] ys = ap (λ (k : ℕ). drop k ys) (let e : suc n ≡ suc n - 0 = omega arith in e)
drop_both (suc n) (x ∷ xs) ys = let e : suc n - length (x ∷ xs) ≡ n - length xs = omega arith in rw e (drop_both n xs ys)

-- ---- chunks in a row

joined_both : (cs ds : List Chunk) → joined_chunks (cs ++ ds) ≡ joined_chunks cs ++ joined_chunks ds
joined_both cs ds = flat_map-append bytes_of_chunk cs ds

joined_parts : (i : ℕ) (cs : List Chunk) → joined_chunks cs ≡ joined_chunks (take i cs) ++ joined_chunks (drop i cs)
joined_parts i cs = ap joined_chunks (sym (take-append-drop i cs)) ∙ joined_both (take i cs) (drop i cs)

-- the next chunk, and the others
joined_next : (i : ℕ) (cs : List Chunk) (d : Chunk) → i < length cs → joined_chunks (drop i cs) ≡ bytes_of_chunk (get_or cs i d) ++ joined_chunks (drop (i + 1) cs)
joined_next i cs d less = ap joined_chunks (drop_more cs i d less)

pub length_next : (cs : List Chunk) (i : ℕ) (d : Chunk) → i < length cs
    → length (joined_chunks (take (i + 1) cs)) ≡ length (joined_chunks (take i cs)) + length (bytes_of_chunk (get_or cs i d))
length_next cs i d less =
    ap (λ (ds : List Chunk). length (joined_chunks ds)) (take_more cs i d less) ∙ ap length (joined_both (take i cs) (get_or cs i d ∷ []))
    ∙ length-append (joined_chunks (take i cs)) (bytes_of_chunk (get_or cs i d) ++ [])
    ∙ ap (λ (bytes : List ℕ). length (joined_chunks (take i cs)) + length bytes) (append-nil (bytes_of_chunk (get_or cs i d)))

-- ---- a part of the bytes

pub record IsRead (cs : List Chunk) (offset len i : ℕ) (part : List ℕ) (skipped left : ℕ) : Type 0 where
  pub bytes : part ++ take left (drop skipped (joined_chunks (drop i cs))) ≡ take len (drop offset (joined_chunks cs))
  pub count : length part + left ≡ len

-- where it stands before the first chunk, and after the last one
pub none_read : (cs : List Chunk) (offset len : ℕ) → IsRead cs offset len 0 [] offset len
none_read cs offset len = record { bytes = refl; count = omega arith }

pub all_read : (cs : List Chunk) (offset len i : ℕ) (part : List ℕ) (skipped left : ℕ) → length cs ≤ i → IsRead cs offset len i part skipped left
    → part ≡ take len (drop offset (joined_chunks cs))
all_read cs offset len i part skipped left end is =
    let none : take left (drop skipped (joined_chunks (drop i cs))) ≡ [] =
    ap (λ (ds : List Chunk). take left (drop skipped (joined_chunks ds))) (drop_all i cs end) ∙ ap (take left) (drop-nil skipped) ∙ take_all left [] (omega arith) in
    sym (append-nil part) ∙ ap (λ (bytes : List ℕ). part ++ bytes) (sym none) ∙ is.bytes

-- one chunk more
pub more_read : (cs : List Chunk) (offset len i : ℕ) (part : List ℕ) (skipped left : ℕ) (d : Chunk) → i < length cs → IsRead cs offset len i part skipped left
    → (next : List ℕ) (skipped' left' : ℕ) → next ≡ part ++ take left (drop skipped (bytes_of_chunk (get_or cs i d)))
    → skipped' ≡ skipped - length (bytes_of_chunk (get_or cs i d)) → left' ≡ len - length next
    → IsRead cs offset len (i + 1) next skipped' left'
more_read cs offset len i part skipped left d less is next skipped' left' e at_skipped at_left =
    let mid : List ℕ = drop skipped (bytes_of_chunk (get_or cs i d)) in
    let rest : List ℕ = drop (skipped - length (bytes_of_chunk (get_or cs i d))) (joined_chunks (drop (i + 1) cs)) in
    let counted : length next ≡ length part + min left (length mid) =
    ap length e ∙ length-append part (take left mid) ∙ ap (λ (n : ℕ). length part + n) (length-take left mid) in
    let fewer : left' ≡ left - length mid = omega (arith, counted, is.count, at_left) in
    record {
      bytes = rw (fewer, at_skipped, e) (append_assoc part (take left mid) (take (left - length mid) rest)
          ∙ ap (λ (bytes : List ℕ). part ++ bytes)
          (sym (ap (λ (bytes : List ℕ). take left (drop skipped bytes)) (joined_next i cs d less)
          ∙ ap (take left) (drop_both skipped (bytes_of_chunk (get_or cs i d)) (joined_chunks (drop (i + 1) cs))) ∙ take_both left mid rest)) ∙ is.bytes);
      count = omega (arith, counted, is.count, at_left);
    }

-- ---- a cut

module _ (cs : List Chunk) (limit at : ℕ) (place : Place) (most : limit ≤ length cs) (is : IsPlace (take limit cs) at place) where
  count : length (take limit cs) ≡ limit
  count = length-take-le limit cs most

  same_before : take place.index (take limit cs) ≡ take place.index cs
  same_before = take-take place.index limit cs (omega (arith, is.index, count))

  parts : joined_chunks (take limit cs) ≡ joined_chunks (take place.index (take limit cs)) ++ joined_chunks (drop place.index (take limit cs))
  parts = joined_parts place.index (take limit cs)

  -- chunks end there as they are
  pub cut_kept : (place.index ≡ limit) ⊎ (place.left ≡ 0) → CutsAt cs cs limit at (record { index = place.index; limit = limit; beyond = place.left })
  cut_kept =
      elim [
        | inl whole ↦ let same : joined_chunks (take place.index (take limit cs)) ≡ joined_chunks (take limit cs) = ap joined_chunks (same_before ∙ ap (λ (k : ℕ). take k cs) whole) in
            let length_is : length (joined_chunks (take limit cs)) + place.left ≡ at = ap (λ (bytes : List ℕ). length bytes + place.left) (sym same) ∙ is.behind in
            record {
              index = omega (arith, whole);
              within = most;
              before = ap joined_chunks (ap (λ (k : ℕ). take k cs) whole) ∙ sym (take_all at (joined_chunks (take limit cs)) (omega (arith, length_is)));
              beyond = omega (arith, length_is);
              others = refl;
            }
        | inr none ↦ let sums : length (joined_chunks (take limit cs))
            ≡ length (joined_chunks (take place.index (take limit cs))) + length (joined_chunks (drop place.index (take limit cs))) =
            ap length parts ∙ length-append (joined_chunks (take place.index (take limit cs))) (joined_chunks (drop place.index (take limit cs))) in
            record {
              index = omega (arith, is.index, count);
              within = most;
              before = ap joined_chunks (sym same_before)
                  ∙ sym (ap (take at) parts
                  ∙ take_at (joined_chunks (take place.index (take limit cs))) (joined_chunks (drop place.index (take limit cs))) at (omega (arith, is.behind, none)));
              beyond = omega (arith, is.behind, none, sums);
              others = refl;
            }
      ]

  -- a chunk is parted in two
  module _ (d : Chunk) (halves : List Chunk) (within : place.index < limit) (left : joined_chunks (take 1 halves) ≡ take place.left (bytes_of_chunk (get_or cs place.index d)))
      (whole : joined_chunks halves ≡ bytes_of_chunk (get_or cs place.index d)) (two : length halves ≡ 2) where
    less : place.index < length cs
    less = omega (arith, within, most)

    same_chunk : get_or (take limit cs) place.index d ≡ get_or cs place.index d
    same_chunk = get_or-take limit cs place.index d within

    short : place.left < length (bytes_of_chunk (get_or cs place.index d))
    short = subst (λ (c : Chunk). place.left < length (bytes_of_chunk c)) same_chunk (is.within d (omega (arith, within, count)))

    index_is : length (take place.index cs) ≡ place.index
    index_is = length-take-le place.index cs (omega (arith, less))

    all_is : joined_chunks (take limit cs) ≡ joined_chunks (take place.index (take limit cs)) ++ (bytes_of_chunk (get_or cs place.index d) ++ joined_chunks (drop (place.index + 1) (take limit cs)))
    all_is =
        parts
        ∙ ap (λ (bytes : List ℕ). joined_chunks (take place.index (take limit cs)) ++ bytes)
        (joined_next place.index (take limit cs) d (omega (arith, within, count))
        ∙ ap (λ (c : Chunk). bytes_of_chunk c ++ joined_chunks (drop (place.index + 1) (take limit cs))) same_chunk)

    pub parted_same : joined_chunks (splice cs place.index (place.index + 1) halves) ≡ joined_chunks cs
    parted_same =
        joined_both (take place.index cs) (halves ++ drop (place.index + 1) cs)
        ∙ ap (λ (bytes : List ℕ). joined_chunks (take place.index cs) ++ bytes)
        (joined_both halves (drop (place.index + 1) cs) ∙ ap (λ (bytes : List ℕ). bytes ++ joined_chunks (drop (place.index + 1) cs)) whole
        ∙ sym (joined_next place.index cs d less))
        ∙ sym (joined_parts place.index cs)

    before_new : joined_chunks (take (place.index + 1) (splice cs place.index (place.index + 1) halves))
        ≡ joined_chunks (take place.index cs) ++ take place.left (bytes_of_chunk (get_or cs place.index d))
    before_new =
        ap joined_chunks
        (ap (λ (k : ℕ). take (k + 1) (splice cs place.index (place.index + 1) halves)) (sym index_is)
        ∙ take-append-add (take place.index cs) (halves ++ drop (place.index + 1) cs) 1
        ∙ ap (λ (ds : List Chunk). take place.index cs ++ ds) (take-append-le 1 halves (drop (place.index + 1) cs) (omega (arith, two))))
        ∙ joined_both (take place.index cs) (take 1 halves) ∙ ap (λ (bytes : List ℕ). joined_chunks (take place.index cs) ++ bytes) left

    before_old : take at (joined_chunks (take limit cs)) ≡ joined_chunks (take place.index cs) ++ take place.left (bytes_of_chunk (get_or cs place.index d))
    before_old =
        let start : List ℕ = joined_chunks (take place.index (take limit cs)) in
        let rest : List ℕ = bytes_of_chunk (get_or cs place.index d) ++ joined_chunks (drop (place.index + 1) (take limit cs)) in
        ap (take at) all_is ∙ ap (λ (k : ℕ). take k (start ++ rest)) (sym is.behind) ∙ take-append-add start rest place.left
        ∙ ap (λ (bytes : List ℕ). start ++ bytes)
        (take-append-le place.left (bytes_of_chunk (get_or cs place.index d)) (joined_chunks (drop (place.index + 1) (take limit cs))) (omega (arith, short)))
        ∙ ap (λ (ds : List Chunk). joined_chunks ds ++ take place.left (bytes_of_chunk (get_or cs place.index d))) same_before

    others_same : drop (limit + 1) (splice cs place.index (place.index + 1) halves) ≡ drop limit cs
    others_same =
        let k : ℕ = limit - (place.index + 1) in
        let one : limit + 1 ≡ length (take place.index cs) + (length halves + k) = omega (arith, index_is, two, within) in
        let two : place.index + 1 + k ≡ limit = omega (arith, within) in
        ap (λ (n : ℕ). drop n (splice cs place.index (place.index + 1) halves)) one
        ∙ drop-append-add (take place.index cs) (halves ++ drop (place.index + 1) cs) (length halves + k)
        ∙ drop-append-add halves (drop (place.index + 1) cs) k ∙ drop-drop k (place.index + 1) cs ∙ ap (λ (n : ℕ). drop n cs) two

    pub cut_parted : CutsAt cs (splice cs place.index (place.index + 1) halves) limit at (record { index = place.index + 1; limit = limit + 1; beyond = 0 })
    cut_parted =
        let sizes : length (splice cs place.index (place.index + 1) halves) ≡ place.index + (2 + (length cs - (place.index + 1))) =
        omega (
          arith,
          length-append (take place.index cs) (halves ++ drop (place.index + 1) cs),
          length-append halves (drop (place.index + 1) cs),
          length-drop (place.index + 1) cs,
          index_is,
          two,
        ) in
        let sums : length (joined_chunks (take limit cs))
        ≡ length (joined_chunks (take place.index (take limit cs)))
        + (length (bytes_of_chunk (get_or cs place.index d)) + length (joined_chunks (drop (place.index + 1) (take limit cs)))) =
        ap length all_is
        ∙ length-append (joined_chunks (take place.index (take limit cs))) (bytes_of_chunk (get_or cs place.index d) ++ joined_chunks (drop (place.index + 1) (take limit cs)))
        ∙ ap (λ (n : ℕ). length (joined_chunks (take place.index (take limit cs))) + n)
        (length-append (bytes_of_chunk (get_or cs place.index d)) (joined_chunks (drop (place.index + 1) (take limit cs)))) in
        record {
          index = omega (arith, within);
          within = omega (arith, sizes, less, most);
          before = before_new ∙ sym before_old;
          beyond = omega (arith, sums, is.behind, short);
          others = others_same;
        }

-- ---- a size, and bytes at their place

pub size_joined : (cs ds : List Chunk) (size : ℕ) (end : Cut) (zeros : List Chunk) → CutsAt cs ds (length cs) size end → joined_chunks zeros ≡ replicate end.beyond 0
    → joined_chunks (splice ds end.index (length ds) zeros) ≡ sized size (joined_chunks cs)
size_joined cs ds size end zeros is filled =
    let whole : take (length cs) cs ≡ cs = take_all (length cs) cs (omega arith) in
    joined_both (take end.index ds) (zeros ++ drop (length ds) ds)
    ∙ ap (λ (bytes : List ℕ). joined_chunks (take end.index ds) ++ bytes)
    (joined_both zeros (drop (length ds) ds) ∙ ap (λ (es : List Chunk). joined_chunks zeros ++ joined_chunks es) (drop_all (length ds) ds (omega arith))
    ∙ append-nil (joined_chunks zeros) ∙ filled ∙ ap (λ (k : ℕ). replicate k 0) (is.beyond ∙ ap (λ (es : List Chunk). size - length (joined_chunks es)) whole))
    ∙ ap (λ (bytes : List ℕ). bytes ++ replicate (size - length (joined_chunks cs)) 0) (is.before ∙ ap (λ (es : List Chunk). take size (joined_chunks es)) whole)

module _ (cs ds es : List Chunk) (offset to : ℕ) (bytes : List ℕ) (last first : Cut) (fresh : List Chunk) (last_is : CutsAt cs ds (length cs) to last)
    (same : joined_chunks ds ≡ joined_chunks cs) (first_is : CutsAt ds es last.index offset first) (filled : joined_chunks fresh ≡ replicate first.beyond 0 ++ bytes)
    (end : to ≡ offset + length bytes) where
  upto : joined_chunks (take last.index ds) ≡ take to (joined_chunks cs)
  upto = last_is.before ∙ ap (λ (fs : List Chunk). take to (joined_chunks fs)) (take_all (length cs) cs (omega arith))

  tail : joined_chunks (drop last.index ds) ≡ drop to (joined_chunks cs)
  tail =
      append_cancel_left (take to (joined_chunks cs)) (joined_chunks (drop last.index ds)) (drop to (joined_chunks cs))
      (ap (λ (b : List ℕ). b ++ joined_chunks (drop last.index ds)) (sym upto) ∙ sym (joined_parts last.index ds) ∙ same ∙ sym (take-append-drop to (joined_chunks cs)))

  head : joined_chunks (take first.index es) ≡ take offset (joined_chunks cs)
  head = first_is.before ∙ ap (take offset) upto ∙ take-take offset to (joined_chunks cs) (omega (arith, end))

  beyond : first.beyond ≡ offset - length (joined_chunks cs)
  beyond =
      let count : length (joined_chunks (take last.index ds)) ≡ min to (length (joined_chunks cs)) = ap length upto ∙ length-take to (joined_chunks cs) in
      omega (arith, first_is.beyond, count, end)

  pub write_joined : joined_chunks (splice es first.index first.limit fresh) ≡ written offset bytes (joined_chunks cs)
  write_joined =
      let start : List ℕ = take offset (joined_chunks cs) in
      let zeros : List ℕ = replicate (offset - length (joined_chunks cs)) 0 in
      let rest : List ℕ = drop (offset + length bytes) (joined_chunks cs) in
      joined_both (take first.index es) (fresh ++ drop first.limit es)
      ∙ ap (λ (b : List ℕ). joined_chunks (take first.index es) ++ b)
      (joined_both fresh (drop first.limit es) ∙ ap (λ (b : List ℕ). b ++ joined_chunks (drop first.limit es)) (filled ∙ ap (λ (k : ℕ). replicate k 0 ++ bytes) beyond)
      ∙ ap (λ (b : List ℕ). zeros ++ bytes ++ b) (ap joined_chunks first_is.others ∙ tail ∙ ap (λ (k : ℕ). drop k (joined_chunks cs)) end)
      ∙ append_assoc zeros bytes rest)
      ∙ ap (λ (b : List ℕ). b ++ (zeros ++ (bytes ++ rest))) head ∙ sym (append_assoc start zeros (bytes ++ rest))
      ∙ sym (append_assoc (start ++ zeros) bytes rest)
