-- Pieces are given back, one after the other.
use Rattle.std.proofs.Common.{◌≡◌, ◌⊎◌, ◌+◌, ◌<◌, ℕ, Bool, true, false, List, [], ◌∷◌, ◌++◌, length, take, refl, sym, subst, ap, ◌∙◌, inl, inr}
use Rattle.std.specs.Prelude.{slice_index_or}
use Rattle.std.proofs.lemmas.List.{take_more}
use Rattle.sqlite_disk.specs.declared.Disk.{Ghosts}
use Rattle.fuse_data.specs.declared.data_file.DataFile.{DataFile}
use Rattle.fuse_data.specs.declared.extent.Extent.{Extent}
use Rattle.fuse_data.specs.declared.gaps.Gap.{Gap}
use Rattle.fuse_data.specs.Space.{IsFreeBlock, IsListed, PutsIn}
use Rattle.fuse_data.specs.State.{DataState, state_of}
use Rattle.guest_values.specs.Space.{FreesSome, PutsAllIn}
use Rattle.guest_values.specs.State.{GivesBack, ChangesSpace}
use Rattle.guest_values.proofs.Results.{no_true}

-- ---- one

same_disk : {D : Type 0} (g : Ghosts D) (a b : DataFile D) → b.disk ≡ a.disk → ChangesSpace (state_of g a) (state_of g b)
same_disk g a b same = record {
  seen = ap g.seen same;
  clean = ap g.is_clean same;
  usable = ap g.is_usable same;
  crash = λ file may. subst (λ d. g.may_leave d file) same may;
}

puts_one : (p : Extent) (g h : List Gap) → PutsIn p g h → PutsAllIn (p ∷ []) g h
puts_one p g h given b = (
  λ free. elim ((given b).0 free) [ inl was ↦ inl was | inr mine ↦ inr (inl mine) ],
  λ e. elim e [ inl was ↦ (given b).1 (inl was) | inr (inl mine) ↦ (given b).1 (inr mine) | inr (inr none) ↦ absurd none ],
)

puts_some : (ps : List Extent) (g h : List Gap) → PutsAllIn ps g h → FreesSome ps g h
puts_some ps g h puts = record { more = λ b free. (puts b).1 (inl free); only = λ b free. (puts b).0 free }

pub gives_one : {D : Type 0} (g : Ghosts D) (a b : DataFile D) (p : Extent) → b.disk ≡ a.disk → PutsIn p (state_of g a).gaps (state_of g b).gaps
    → GivesBack (p ∷ []) true (state_of g a) (state_of g b)
gives_one g a b p same given =
    let puts = puts_one p (state_of g a).gaps (state_of g b).gaps given in
    record { relists = same_disk g a b same; frees = puts_some (p ∷ []) (state_of g a).gaps (state_of g b).gaps puts; exact = λ all. puts }

pub gives_none : {D : Type 0} (g : Ghosts D) (a b : DataFile D) (p : Extent) → b.disk ≡ a.disk → b.space ≡ a.space → GivesBack (p ∷ []) false (state_of g a) (state_of g b)
gives_none g a b p same space = record {
  relists = same_disk g a b same;
  frees = record {
    more = λ n free. subst (λ (k : List Gap). IsFreeBlock k n) (sym space) free;
    only = λ n free. inl (subst (λ (k : List Gap). IsFreeBlock k n) space free);
  };
  exact = λ all. absurd (no_true all);
}

-- ---- several

pub gives_nothing : (s : DataState) → GivesBack [] true s s
gives_nothing s = record {
  relists = record { seen = refl; clean = refl; usable = refl; crash = λ file may. may };
  frees = record { more = λ b free. free; only = λ b free. inl free };
  exact = λ all b. (λ free. inl free, λ e. elim e [ inl was ↦ was | inr none ↦ absurd none ]);
}

listed_left : (xs ys : List Extent) (b : ℕ) → IsListed xs b → IsListed (xs ++ ys) b
listed_left [] ys b h = absurd h
listed_left (x ∷ xs) ys b h = elim h [ inl here ↦ inl here | inr rest ↦ inr (listed_left xs ys b rest) ]

listed_right : (xs ys : List Extent) (b : ℕ) → IsListed ys b → IsListed (xs ++ ys) b
listed_right [] ys b h = h
listed_right (x ∷ xs) ys b h = inr (listed_right xs ys b h)

listed_cases : (xs ys : List Extent) (b : ℕ) → IsListed (xs ++ ys) b → IsListed xs b ⊎ IsListed ys b
listed_cases [] ys b h = inr h
listed_cases (x ∷ xs) ys b h = elim h [
  | inl here ↦ inl (inl here)
  | inr rest ↦ elim (listed_cases xs ys b rest) [ inl old ↦ inl (inr old) | inr mine ↦ inr mine ]
]

relists_then : (s t u : DataState) → ChangesSpace s t → ChangesSpace t u → ChangesSpace s u
relists_then s t u one two = record {
  seen = two.seen ∙ one.seen;
  clean = two.clean ∙ one.clean;
  usable = two.usable ∙ one.usable;
  crash = λ file may. one.crash file (two.crash file may);
}

frees_then : (xs ys : List Extent) (g h k : List Gap) → FreesSome xs g h → FreesSome ys h k → FreesSome (xs ++ ys) g k
frees_then xs ys g h k one two = record {
  more = λ b free. two.more b (one.more b free);
  only = λ b free. elim (two.only b free) [
    | inl mid ↦ elim (one.only b mid) [ inl was ↦ inl was | inr mine ↦ inr (listed_left xs ys b mine) ]
    | inr mine ↦ inr (listed_right xs ys b mine)
  ];
}

puts_then : (xs ys : List Extent) (g h k : List Gap) → PutsAllIn xs g h → PutsAllIn ys h k → PutsAllIn (xs ++ ys) g k
puts_then xs ys g h k one two b = (
  λ free. elim ((two b).0 free) [
    | inl mid ↦ elim ((one b).0 mid) [ inl was ↦ inl was | inr mine ↦ inr (listed_left xs ys b mine) ]
    | inr mine ↦ inr (listed_right xs ys b mine)
  ],
  λ e. elim e [
    | inl was ↦ (two b).1 (inl ((one b).1 (inl was)))
    | inr mine ↦ elim (listed_cases xs ys b mine) [ inl x ↦ (two b).1 (inl ((one b).1 (inr x))) | inr y ↦ (two b).1 (inr y) ]
  ],
)

gives_then : (xs ys : List Extent) (a b c : Bool) (s t u : DataState) → (c ≡ true → (a ≡ true) × (b ≡ true)) → GivesBack xs a s t → GivesBack ys b t u → GivesBack (xs ++ ys) c s u
gives_then xs ys a b c s t u both one two = record {
  relists = relists_then s t u one.relists two.relists;
  frees = frees_then xs ys s.gaps t.gaps u.gaps one.frees two.frees;
  exact = λ all. puts_then xs ys s.gaps t.gaps u.gaps (one.exact (both all).0) (two.exact (both all).1);
}

pub gives_more : (ps : List Extent) (i : ℕ) (d : Extent) (a b c : Bool) (s t u : DataState) → i < length ps → (c ≡ true → (a ≡ true) × (b ≡ true))
    → GivesBack (take i ps) a s t → GivesBack (slice_index_or ps i d ∷ []) b t u → GivesBack (take (i + 1) ps) c s u
gives_more ps i d a b c s t u low both one two =
    subst (λ (xs : List Extent). GivesBack xs c s u) (sym (take_more ps i d low)) (gives_then (take i ps) (slice_index_or ps i d ∷ []) a b c s t u both one two)
