-- What the tests of a body say of it.
use Rattle.std.proofs.Common.{◌≡◌, ◌≢◌, ℕ, zero, suc, ◌<◌, ◌≤◌, ◌-◌, ◌*◌, List, [], ◌∷◌, ◌++◌, length, drop, Option, Some, None, refl, ap, ◌∙◌, arith}
use Rattle.std.specs.List.{AllByRecursion}
use Rattle.std.specs.Option.{unwrap_or}
use Rattle.std.proofs.lemmas.Bool.{le-ltb, eq-eqb}
use Rattle.std.proofs.lemmas.List.Elements.{recursion_from_All}
use Rattle.fuse_wire.specs.Bytes.{HasNoNul, number_of, after_nul}
use Rattle.fuse_wire.specs.Layout.{Lays, text}
use Rattle.fuse_wire.specs.Laws.{NamesEnd}
use Rattle.fuse_request.specs.declared.decoding.Malformed.{Malformed}
use Rattle.fuse_request.specs.declared.decoding.Malformed.TheVariants.{NoNul, AfterNul}
use Rattle.fuse_request.specs.Bodies.{fixed, at_least, name_body_fault, last_name_fault, names_fault, second_fault, counted_units}
use Rattle.fuse_request.specs.Places.{before_nul, second_name}

-- ---- bodies without a fault

pub fixed_none : (n : ℕ) (b : List ℕ) → length b ≡ n → fixed n b ≡ None
fixed_none n b len = rw (eq-eqb (length b) n len) refl

pub at_least_after : (n : ℕ) (after : List ℕ → Option Malformed) (b : List ℕ) → n ≤ length b → at_least n after b ≡ after (drop n b)
at_least_after n after b long = rw (le-ltb (length b) n long) refl

pub counted_none : (n k unit : ℕ) (b : List ℕ) → n ≤ length b → unit * number_of 4 (drop k b) ≡ length b - n → counted_units n k unit b ≡ None
counted_none n k unit b long count = rw (le-ltb (length b) n long, eq-eqb (unit * number_of 4 (drop k b)) (length b - n) count) refl

-- ---- names

-- a text that doesn't end, and one that isn't all
pub endless : NamesEnd → (b : List ℕ) → HasNoNul b → name_body_fault b ≡ Some NoNul
endless ends b h = ap last_name_fault (ends.endless b h)

more_after : NamesEnd → (t : List ℕ) (x : ℕ) (rest : List ℕ) → HasNoNul t → name_body_fault (t ++ 0 ∷ x ∷ rest) ≡ Some AfterNul
more_after ends t x rest h = ap last_name_fault (ends.text t (x ∷ rest) h)

ended : NamesEnd → (t : List ℕ) → HasNoNul t → name_body_fault (t ++ 0 ∷ []) ≡ None
ended ends t h = ap last_name_fault (ends.text t [] h)

pub not_all : NamesEnd → (b t rest : List ℕ) → HasNoNul t → b ≡ t ++ 0 ∷ rest → 0 < length rest → name_body_fault b ≡ Some AfterNul
not_all ends b t [] h e more = absurd (omega arith)
not_all ends b t (x ∷ rest) h e more = ap name_body_fault e ∙ more_after ends t x rest h

-- the first of two names doesn't end, or the bytes after it have a fault
pub endless_first : NamesEnd → (b : List ℕ) → HasNoNul b → names_fault b ≡ Some NoNul
endless_first ends b h = ap second_fault (ends.endless b h)

pub after_first : NamesEnd → (b t rest : List ℕ) → HasNoNul t → b ≡ t ++ 0 ∷ rest → names_fault b ≡ name_body_fault rest
after_first ends b t rest h e = ap names_fault e ∙ ap second_fault (ends.text t rest h)

first_text : (t rest : List ℕ) → AllByRecursion (λ x. x ≢ 0) t → before_nul (t ++ 0 ∷ rest) ≡ t
first_text [] rest h = refl
first_text (zero ∷ t) rest h = absurd (h.0 refl)
first_text (suc n ∷ t) rest h = ap (λ (x : List ℕ). suc n ∷ x) (first_text t rest h.1)

pub before_nul-text : (t rest : List ℕ) → HasNoNul t → before_nul (t ++ 0 ∷ rest) ≡ t
before_nul-text t rest h = first_text t rest (recursion_from_All (λ x. x ≢ 0) t h)

-- a name that is laid out is read, and has no fault
pub one_name : NamesEnd → (t b : List ℕ) → Lays (text t ∷ []) b → (before_nul b ≡ t) × (name_body_fault b ≡ None)
one_name ends t b h =
    let e : b ≡ t ++ 0 ∷ [] = h.2 ∙ ap (λ (x : List ℕ). t ++ 0 ∷ x) h.3 in
    (ap before_nul e ∙ before_nul-text t [] h.1, ap name_body_fault e ∙ ended ends t h.1)

-- so are two
pub both_names : NamesEnd → (s t b : List ℕ) → Lays (text s ∷ text t ∷ []) b → (before_nul b ≡ s) × (second_name b ≡ t) × (names_fault b ≡ None)
both_names ends s t b h =
    let after : after_nul b ≡ Some h.0 = ap after_nul h.2 ∙ ends.text s h.0 h.1 in
    let last = one_name ends t h.0 h.3 in (
      ap before_nul h.2 ∙ before_nul-text s h.0 h.1,
      ap (λ (o : Option (List ℕ)). before_nul (unwrap_or o [])) after ∙ last.0,
      ap second_fault after ∙ last.1,
    )
