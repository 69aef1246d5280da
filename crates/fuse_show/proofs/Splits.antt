-- The names of a path, taken off one after the other.
use Rattle.std.proofs.Common.{◌≡◌, ◌≢◌, ◌==◌, ℕ, Bool, true, false, cond, not, List, [], ◌∷◌, ◌++◌, length, All, get_or, refl, sym, ap, ◌∙◌, arith}
use Rattle.std.specs.Prelude.{filter}
use Rattle.std.specs.List.{slice_split}
use Rattle.std.proofs.lemmas.List.Splits.{slice_split_at, slice_split_none}
use Rattle.fuse_show.specs.Paths.{names_of}
use Rattle.fuse_show.specs.inner.Finding.{Lacks}

apart : (n : ℕ) → n ≢ 47 → (n == 47) ≡ false
apart n isnt = grind arith

no_slashes : (xs : List ℕ) → Lacks 47 xs → All (λ x. (x == 47) ≡ false) xs
no_slashes xs none k d there = apart (get_or xs k d) (none k d there)

abbrev named : List ℕ → Bool
named name = not (length name == 0)

cut : (path part after : List ℕ) → path ≡ part ++ 47 ∷ after → Lacks 47 part
    → names_of path ≡ cond (not (length part == 0)) (part ∷ names_of after) (names_of after)
unfolding names_of
cut path part after is none =
    ap (λ (x : List ℕ). filter named (slice_split (λ b. b == 47) x)) is
    ∙ ap (filter named) (slice_split_at (λ (b : ℕ). b == 47) part 47 after (no_slashes part none) refl)

last : (path : List ℕ) → Lacks 47 path → names_of path ≡ cond (not (length path == 0)) (path ∷ []) []
unfolding names_of
last path none = ap (filter named) (slice_split_none (λ (b : ℕ). b == 47) path (no_slashes path none))

-- a name was cut off, or an empty part
pub named_cut : (path part after : List ℕ) → path ≡ part ++ 47 ∷ after → Lacks 47 part → (length part == 0) ≡ false
    → names_of path ≡ part ∷ names_of after
named_cut path part after is none some =
    cut path part after is none ∙ ap (λ (b : Bool). cond (not b) (part ∷ names_of after) (names_of after)) some

pub empty_cut : (path part after : List ℕ) → path ≡ part ++ 47 ∷ after → Lacks 47 part → (length part == 0) ≡ true → names_of path ≡ names_of after
empty_cut path part after is none empty =
    cut path part after is none ∙ ap (λ (b : Bool). cond (not b) (part ∷ names_of after) (names_of after)) empty

-- no slash is left
pub named_last : (path : List ℕ) → Lacks 47 path → (length path == 0) ≡ false → names_of path ≡ path ∷ []
named_last path none some = last path none ∙ ap (λ (b : Bool). cond (not b) (path ∷ []) []) some

pub empty_last : (path : List ℕ) → Lacks 47 path → (length path == 0) ≡ true → names_of path ≡ []
empty_last path none empty = last path none ∙ ap (λ (b : Bool). cond (not b) (path ∷ []) []) empty

pub none_named : names_of [] ≡ []
unfolding names_of
none_named = refl

-- nothing follows the last name
pub named_end : (path rest after : List ℕ) → names_of path ≡ names_of rest → names_of rest ≡ rest ∷ [] → after ≡ []
    → names_of path ≡ rest ∷ names_of after
named_end path rest after so is none =
    let nothing : names_of after ≡ [] = ap names_of none ∙ none_named in
    so ∙ is ∙ ap (λ (x : List (List ℕ)). rest ∷ x) (sym nothing)
