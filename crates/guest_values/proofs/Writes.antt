-- Values that are written in one piece, or in two.
use Rattle.std.proofs.Common.{◌≡◌, ◌⊎◌, ℕ, ◌+◌, ◌-◌, ◌*◌, ◌≤◌, ◌<◌, IsTrue, Bool, List, [], ◌∷◌, ◌++◌, length, length-drop, drop, take, refl, sym, subst, ap, ◌∙◌, inl, inr, arith}
use Rattle.std.specs.Prelude.{Some, None}
use Rattle.std.proofs.lemmas.Bool.{cases_lt}
use Rattle.std.proofs.lemmas.List.{append-nil, take_all, take_at, take-append-drop}
use Rattle.std.proofs.lemmas.List.Elements.{All-cons, All-nil}
use Rattle.sqlite_disk.specs.declared.Disk.{Ghosts}
use Rattle.sqlite_disk.specs.Disk.{Follows}
use Rattle.fuse_data.specs.declared.data_file.DataFile.{DataFile}
use Rattle.fuse_data.specs.Leaving.{KeepsInUse}
use Rattle.fuse_data.specs.declared.extent.Extent.{Extent}
use Rattle.fuse_data.specs.declared.extent.TheConstants.{BLOCK, MOST}
use Rattle.fuse_data.specs.declared.gaps.Gap.{Gap}
use Rattle.fuse_data.specs.declared.fault.DataFault.{DataFault}
use Rattle.fuse_data.specs.declared.fault.DataFault.TheVariants as faults
use Rattle.fuse_data.specs.Causes.{FailsToWrite}
use Rattle.fuse_data.specs.Extents.{past, IsBlockOf, AreDisjoint, AreBlocks, IsWhole, bytes_of}
use Rattle.fuse_data.specs.Space.{IsFreeBlock, IsFreeExtent, InUse, TakesOut, PutsIn}
use Rattle.fuse_data.specs.State.{DataState, state_of}
use Rattle.guest_values.specs.Causes.{FailsToPut, IsMemory}
use Rattle.guest_values.specs.Space.{HasSameSpace, TakesAllOut}
use Rattle.guest_values.specs.State.{KeepsUsed, HasWritten}
use Rattle.guest_values.specs.declared.large_value.LargeValue.{LargeValue}
use Rattle.guest_values.specs.Values.{IsLarge, value_blocks, value_in}
use Rattle.guest_values.specs.inner.Writing.{FailsForRest, GivesFirstBack, IsNewValue, IsNewPiece}
use Rattle.guest_values.proofs.Keeping.{kept_then, follows_then}

cases_block : (p : Extent) (b : ℕ) → IsBlockOf p b ⊎ (¬ IsBlockOf p b)
cases_block p b = elim (cases_lt b p.place) [
  | inl before ↦ inr (λ block. omega (arith, block.0))
  | inr from ↦ elim (cases_lt b (past p)) [
    | inl mine ↦ inl (from, mine)
    | inr behind ↦ inr (λ block. omega (arith, block.1))
  ]
]

-- ---- one piece

pub one_written : (bytes : List ℕ) (p : Extent) (s t : DataState) → IsNewPiece bytes p s t → HasWritten (p ∷ []) s t
one_written bytes p s t w = record {
  whole = All-cons (IsWhole t.seen) p [] w.whole (All-nil (IsWhole t.seen));
  free = All-cons (IsFreeExtent s.gaps) p [] w.free (All-nil (IsFreeExtent s.gaps));
  taken = λ b. (
    λ free. let was = (w.taken b).0 free in (was.0, λ e. elim e [ inl mine ↦ was.1 mine | inr none ↦ absurd none ]),
    λ h. (w.taken b).1 (h.0, λ mine. h.1 (inl mine)),
  );
}

-- ---- two pieces

two_taken : (p q : Extent) (g h k : List Gap) → TakesOut p g h → TakesOut q h k → TakesAllOut (p ∷ q ∷ []) g k
two_taken p q g h k one two b = (
  λ free.
      let mid = (two b).0 free in
      let was = (one b).0 mid.0 in
      (was.0, λ e. elim e [ inl mine ↦ was.1 mine | inr (inl mine) ↦ mid.1 mine | inr (inr none) ↦ absurd none ]),
  λ h. (two b).1 ((one b).1 (h.0, λ mine. h.1 (inl mine)), λ mine. h.1 (inr (inl mine))),
)

pub two_written : (front rest : List ℕ) (p q : Extent) (s t u : DataState) → IsNewPiece front p s t → IsNewPiece rest q t u → KeepsUsed t u → HasWritten (p ∷ q ∷ []) s u
two_written front rest p q s t u one two keeps = record {
  whole = All-cons (IsWhole u.seen) p (q ∷ []) (keeps.kept.extents p one.used one.whole).whole (All-cons (IsWhole u.seen) q [] two.whole (All-nil (IsWhole u.seen)));
  free = All-cons (IsFreeExtent s.gaps) p (q ∷ []) one.free (All-cons (IsFreeExtent s.gaps) q [] (λ b block. ((one.taken b).0 (two.free b block)).0) (All-nil (IsFreeExtent s.gaps)));
  taken = two_taken p q s.gaps t.gaps u.gaps one.taken two.taken;
}

pub first_same : (front rest : List ℕ) (p q : Extent) (s t u : DataState) → IsNewPiece front p s t → IsNewPiece rest q t u → KeepsUsed t u → bytes_of u.seen p ≡ front
first_same front rest p q s t u one two keeps = (keeps.kept.extents p one.used one.whole).same ∙ one.same

-- the second one lies in blocks that were free after the first one was written
pub two_apart : (front rest : List ℕ) (p q : Extent) (s t u : DataState) → IsNewPiece front p s t → IsNewPiece rest q t u → AreDisjoint p q
two_apart front rest p q s t u one two =
    let some = one.whole.placed.some in
    let some' = two.whole.placed.some in
    elim (cases_lt p.place q.place) [
      | inl less ↦ elim (cases_lt q.place (past p)) [
        | inl common ↦ absurd (one.used q.place (omega arith, common) (two.free q.place (omega arith, omega arith)))
        | inr out ↦ inl out
      ]
      | inr more ↦ elim (cases_lt p.place (past q)) [
        | inl common ↦ absurd (one.used p.place (omega arith, omega arith) (two.free p.place (more, common)))
        | inr out ↦ inr out
      ]
    ]

-- ---- the value

pub one_put : (len : ℕ) (blocks : List ℕ) (p : Extent) (s t : DataState) → IsLarge len → length blocks ≡ value_blocks len * BLOCK → IsNewPiece blocks p s t
    → IsNewValue len blocks (record { len = len; first = p; second = None }) s t
one_put len blocks p s t large size w = record {
  len_is = refl;
  fit = record { large = large; first = w.whole.placed; second = tt; rest = omega (arith, w.size, size) };
  written = one_written blocks p s t w;
  same = append-nil (bytes_of t.seen p) ∙ w.same;
}

pub two_put : (len : ℕ) (front rest : List ℕ) (p q : Extent) (s t u : DataState) → IsLarge len → length front ≡ MOST * BLOCK → length front + length rest ≡ value_blocks len * BLOCK
    → IsNewPiece front p s t → IsNewPiece rest q t u → KeepsUsed t u → IsNewValue len (front ++ rest) (record { len = len; first = p; second = Some q }) s u
two_put len front rest p q s t u large full size one two keeps = record {
  len_is = refl;
  fit = record {
    large = large;
    first = one.whole.placed;
    second = two.whole.placed;
    rest = (omega (arith, one.size, full), omega (arith, one.size, two.size, size), two_apart front rest p q s t u one two);
  };
  written = two_written front rest p q s t u one two keeps;
  same = ap (λ (b : List ℕ). b ++ (bytes_of u.seen q ++ [])) (first_same front rest p q s t u one two keeps) ∙ ap (λ (b : List ℕ). front ++ b) (append-nil (bytes_of u.seen q) ∙ two.same);
}

pub put_bytes : (len : ℕ) (bytes zeros blocks : List ℕ) (v : LargeValue) (s t : DataState) → length bytes ≡ len → blocks ≡ bytes ++ zeros → IsNewValue len blocks v s t
    → value_in t.seen v ≡ bytes
put_bytes len bytes zeros blocks v s t is padded put =
    ap (take v.len) (put.same ∙ padded) ∙ ap (λ (n : ℕ). take n (bytes ++ zeros)) (put.len_is ∙ sym is) ∙ take_at bytes zeros (length bytes) refl

pub two_joined : (n : ℕ) (xs : List ℕ) → take n xs ++ take (length xs - n) (drop n xs) ≡ xs
two_joined n xs = ap (λ (rest : List ℕ). take n xs ++ rest) (take_all (length xs - n) (drop n xs) (omega (arith, length-drop n xs))) ∙ take-append-drop n xs

-- ---- the first one is given back

pub same_space : (g h : List Gap) → h ≡ g → HasSameSpace g h
same_space g h same b = (λ now. subst (λ (k : List Gap). IsFreeBlock k b) same now, λ was. subst (λ (k : List Gap). IsFreeBlock k b) (sym same) was)

-- the second one wasn't written, and the first one is free
pub went_back : {D : Type 0} (g : Ghosts D) (a b c : DataFile D) (p : Extent) (f : DataFault) → KeepsUsed (state_of g a) (state_of g b) → (state_of g b).gaps ≡ (state_of g a).gaps
    → c.disk ≡ b.disk → PutsIn p (state_of g b).gaps (state_of g c).gaps → GivesFirstBack p (state_of g a) (state_of g c) f
went_back {D = D} g a b c p f keeps same disk given =
    let from_a : PutsIn p (state_of g a).gaps (state_of g c).gaps = subst (λ (k : List Gap). PutsIn p k (state_of g c).gaps) same given in
    record {
      only = λ n free. (from_a n).0 free;
      exact = λ other. from_a;
      kept = subst (λ (d : D). KeepsInUse (state_of g a).gaps (g.seen a.disk) (g.seen d)) (sym disk) keeps.kept;
      crash = subst (λ (d : D). Follows (KeepsInUse (state_of g a).gaps) (g.may_leave a.disk) (g.may_leave d)) (sym disk) keeps.crash;
      clean = ap g.is_clean disk ∙ keeps.clean;
      usable = ap g.is_usable disk ∙ keeps.usable;
    }

-- memory was refused
pub stayed : {D : Type 0} (g : Ghosts D) (a b c : DataFile D) (p : Extent) → KeepsUsed (state_of g a) (state_of g b) → (state_of g b).gaps ≡ (state_of g a).gaps
    → c.disk ≡ b.disk → c.space ≡ b.space → GivesFirstBack p (state_of g a) (state_of g c) faults.Memory
stayed {D = D} g a b c p keeps same disk space = record {
  only = λ n free. inl (subst (λ (k : List Gap). IsFreeBlock k n) (space ∙ same) free);
  exact = λ other. absurd (other tt);
  kept = subst (λ (d : D). KeepsInUse (state_of g a).gaps (g.seen a.disk) (g.seen d)) (sym disk) keeps.kept;
  crash = subst (λ (d : D). Follows (KeepsInUse (state_of g a).gaps) (g.may_leave a.disk) (g.may_leave d)) (sym disk) keeps.crash;
  clean = ap g.is_clean disk ∙ keeps.clean;
  usable = ap g.is_usable disk ∙ keeps.usable;
}

back_same : (p : Extent) (g h k : List Gap) → IsFreeExtent g p → TakesOut p g h → PutsIn p h k → HasSameSpace g k
back_same p g h k free taken given b = (
  λ now. elim ((given b).0 now) [ inl mid ↦ ((taken b).0 mid).0 | inr mine ↦ free b mine ],
  λ was. elim (cases_block p b) [
    | inl mine ↦ (given b).1 (inr mine)
    | inr other ↦ (given b).1 (inl ((taken b).1 (was, other)))
  ],
)

pub back_to_same : (front : List ℕ) (p : Extent) (s t u : DataState) (f : DataFault) → IsNewPiece front p s t → GivesFirstBack p t u f → ¬ IsMemory f → HasSameSpace s.gaps u.gaps
back_to_same front p s t u f one back other = back_same p s.gaps t.gaps u.gaps one.free one.taken (back.exact other)

back_used : (front : List ℕ) (p : Extent) (s t u : DataState) (f : DataFault) → IsNewPiece front p s t → GivesFirstBack p t u f → (q : Extent) → InUse s.gaps q → InUse u.gaps q
back_used front p s t u f one back q used b block free = elim (back.only b free) [
  | inl mid ↦ used b block ((one.taken b).0 mid).0
  | inr mine ↦ used b block (one.free b mine)
]

pub back_keeps : (front : List ℕ) (p : Extent) (s t u : DataState) (f : DataFault) → KeepsUsed s t → IsNewPiece front p s t → GivesFirstBack p t u f → KeepsUsed s u
back_keeps front p s t u f keeps one back = record {
  others = back_used front p s t u f one back;
  kept = kept_then s.gaps t.gaps s.seen t.seen u.seen keeps.others keeps.kept back.kept;
  crash = follows_then s.gaps t.gaps s.may_leave t.may_leave u.may_leave keeps.others keeps.crash back.crash;
  clean = back.clean ∙ keeps.clean;
  usable = back.usable ∙ keeps.usable;
}

-- ---- why it fails

-- a run of more blocks begins with one of fewer
head_free : (gaps : List Gap) (p q : Extent) → q.place ≡ p.place → q.count ≤ p.count → IsFreeExtent gaps p → IsFreeExtent gaps q
head_free gaps p q same few free b block = free b (omega (arith, block.0, same), omega (arith, block.1, same, few))

-- where one run of blocks follows from the other
write_fails : (usable now : Bool) (g h : List Gap) (len blocks : ℕ) (f : DataFault) → AreBlocks len → now ≡ usable
    → (((p : Extent) → p.count * BLOCK ≡ len → ¬ IsFreeExtent h p) → (p : Extent) → p.count ≡ blocks → ¬ IsFreeExtent g p)
    → FailsToWrite now h len f → FailsToPut usable g blocks f
write_fails usable now g h len blocks (faults.Disk e) are same full c = subst IsTrue same c
write_fails usable now g h len blocks faults.Memory are same full c = tt
write_fails usable now g h len blocks faults.Unusable are same full c = sym same ∙ c
write_fails usable now g h len blocks faults.Foreign are same full c = c
write_fails usable now g h len blocks faults.Full are same full c = (subst IsTrue same c.0, full c.2)
write_fails usable now g h len blocks faults.NotBlocks are same full c = c.1 are
write_fails usable now g h len blocks (faults.Overlapping q) are same full c = c
write_fails usable now g h len blocks (faults.Beyond q) are same full c = c
write_fails usable now g h len blocks (faults.Damaged q) are same full c = c
write_fails usable now g h len blocks (faults.NotInUse q) are same full c = c

first_fails : (usable : Bool) (gaps : List Gap) (len more : ℕ) (f : DataFault) → AreBlocks len → len ≡ MOST * BLOCK → FailsToWrite usable gaps len f
    → FailsToPut usable gaps (MOST + more) f
first_fails usable gaps len more f are is c =
    write_fails usable usable gaps gaps len (MOST + more) f are refl
    (λ none p n free. let q : Extent = record { place = p.place; count = MOST; sum = 0 } in none q (sym is) (head_free gaps p q refl (omega (arith, n)) free)) c

pub one_fails : (usable : Bool) (gaps : List Gap) (len blocks : ℕ) (f : DataFault) → AreBlocks len → len ≡ blocks * BLOCK → FailsToWrite usable gaps len f
    → FailsToPut usable gaps blocks f
one_fails usable gaps len blocks f are is c =
    write_fails usable usable gaps gaps len blocks f are refl (λ none p n free. none p (ap (λ (k : ℕ). k * BLOCK) n ∙ sym is) free) c

-- the first piece has the lowest free run of its length, so the rest of a longer one is still free
second_full : (front : List ℕ) (p : Extent) (s t : DataState) (more : ℕ) → IsNewPiece front p s t → length front ≡ MOST * BLOCK
    → ((q : Extent) → q.count ≡ more → ¬ IsFreeExtent t.gaps q) → (q : Extent) → q.count ≡ MOST + more → ¬ IsFreeExtent s.gaps q
second_full front p s t more one len none q n free =
    let count : p.count ≡ MOST = omega (arith, one.size, len) in
    let head : Extent = record { place = q.place; count = MOST; sum = 0 } in
    let low = one.lowest head (sym count) (head_free s.gaps q head refl (omega (arith, n)) free) in
    let rest : Extent = record { place = q.place + MOST; count = more; sum = 0 } in
    none rest refl (λ b block. (one.taken b).1 (free b (omega (arith, block.0), omega (arith, block.1, n)), λ mine. omega (arith, mine.1, block.0, low, count)))

second_fails : (front : List ℕ) (p : Extent) (s t : DataState) (len more : ℕ) (f : DataFault) → IsNewPiece front p s t → length front ≡ MOST * BLOCK → t.is_usable ≡ s.is_usable
    → AreBlocks len → len ≡ more * BLOCK → FailsToWrite t.is_usable t.gaps len f → FailsToPut s.is_usable s.gaps (MOST + more) f
second_fails front p s t len more f one size usable are is c =
    write_fails s.is_usable t.is_usable s.gaps t.gaps len (MOST + more) f are usable
    (λ none. second_full front p s t more one size (λ q n free. none q (ap (λ (k : ℕ). k * BLOCK) n ∙ sym is) free)) c

pub memory_fails : (usable : Bool) (gaps : List Gap) (blocks : ℕ) (f : DataFault) → IsMemory f → FailsToPut usable gaps blocks f
memory_fails usable gaps blocks (faults.Disk e) is = absurd is
memory_fails usable gaps blocks faults.Memory is = tt
memory_fails usable gaps blocks faults.Unusable is = absurd is
memory_fails usable gaps blocks faults.Foreign is = absurd is
memory_fails usable gaps blocks faults.Full is = absurd is
memory_fails usable gaps blocks faults.NotBlocks is = absurd is
memory_fails usable gaps blocks (faults.Overlapping q) is = absurd is
memory_fails usable gaps blocks (faults.Beyond q) is = absurd is
memory_fails usable gaps blocks (faults.Damaged q) is = absurd is
memory_fails usable gaps blocks (faults.NotInUse q) is = absurd is

pub rest_fails : (front : List ℕ) (p : Extent) (s t : DataState) (len blocks : ℕ) (f : DataFault) → IsNewPiece front p s t → length front ≡ MOST * BLOCK → t.is_usable ≡ s.is_usable
    → MOST < blocks → blocks ≤ MOST + MOST → MOST * BLOCK + len ≡ blocks * BLOCK → FailsForRest t len f → FailsToPut s.is_usable s.gaps blocks f
rest_fails front p s t len blocks f one size usable more most is (inl c) =
    let rest : ℕ = blocks - MOST in
    let split : MOST + rest ≡ blocks = omega (arith, more) in
    let len_is : len ≡ rest * BLOCK = omega (arith, is, split) in
    subst (λ (n : ℕ). FailsToPut s.is_usable s.gaps n f) split
    (second_fails front p s t len rest f one size usable (rest, omega (arith, more), omega (arith, most), len_is) len_is c)
rest_fails front p s t len blocks f one size usable more most is (inr c) = memory_fails s.is_usable s.gaps blocks f c

pub front_fails : (usable : Bool) (gaps : List Gap) (len blocks : ℕ) (f : DataFault) → MOST < blocks → len ≡ MOST * BLOCK → FailsToWrite usable gaps len f → FailsToPut usable gaps blocks f
front_fails usable gaps len blocks f more is c =
    let split : MOST + (blocks - MOST) ≡ blocks = omega (arith, more) in
    subst (λ (n : ℕ). FailsToPut usable gaps n f) split (first_fails usable gaps len (blocks - MOST) f (MOST, omega arith, omega arith, is) is c)
