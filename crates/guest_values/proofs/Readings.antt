-- Values that are read from one piece, or from two.
use Rattle.std.proofs.Common.{◌≡◌, ◌⊎◌, ℕ, ◌*◌, IsTrue, Bool, false, List, [], ◌∷◌, ◌++◌, length, refl, sym, subst, ap, ◌∙◌, inl, inr, arith}
use Rattle.std.specs.Prelude.{Option, Some, None}
use Rattle.std.specs.Option.{option_to_list}
use Rattle.std.specs.List.{All, Contains}
use Rattle.std.proofs.lemmas.List.{append-nil}
use Rattle.std.proofs.lemmas.List.Elements.{All-cons, All-nil}
use Rattle.fuse_data.specs.declared.extent.Extent.{Extent}
use Rattle.fuse_data.specs.declared.extent.TheConstants.{BLOCK}
use Rattle.fuse_data.specs.declared.fault.DataFault.{DataFault}
use Rattle.fuse_data.specs.declared.fault.DataFault.TheVariants as faults
use Rattle.fuse_data.specs.Extents.{IsWhole, bytes_of, sum_of}
use Rattle.fuse_data.specs.State.{DataState}
use Rattle.guest_values.specs.declared.large_value.LargeValue.{LargeValue}
use Rattle.guest_values.specs.Causes.{FailsToGet}
use Rattle.guest_values.specs.State.{OnlyReadsFile}
use Rattle.guest_values.specs.Values.{HaveSums, IsFitValue, IsStoredValue, padded_in, value_pieces}
use Rattle.guest_values.specs.inner.Reading.{FailsToGetPiece}
use Rattle.guest_values.proofs.Results.{no_true}

pub reads_then : (s t u : DataState) → OnlyReadsFile s t → OnlyReadsFile t u → OnlyReadsFile s u
reads_then s t u one two = record {
  seen = two.seen ∙ one.seen;
  clean = λ clean. one.clean (two.clean clean);
  usable = two.usable ∙ one.usable;
  gaps = two.gaps ∙ one.gaps;
  crash = λ file may. one.crash file (two.crash file may);
}

-- ---- two pieces

pub two_tested : (p q : Extent) (a b : List ℕ) → length a ≡ p.count * BLOCK → sum_of a ≡ p.sum → length b ≡ q.count * BLOCK → sum_of b ≡ q.sum → HaveSums (p ∷ q ∷ []) (a ++ b)
two_tested p q a b long sum long' sum' = (a, b, refl, long, sum, (b, [], sym (append-nil b), long', sum', refl))

pub two_read : (p q : Extent) (a b : List ℕ) (s t u : DataState) → OnlyReadsFile s t → OnlyReadsFile t u → (IsTrue t.is_clean → a ≡ bytes_of s.seen p) → (IsTrue u.is_clean → b ≡ bytes_of t.seen q)
    → IsTrue u.is_clean → a ++ b ≡ bytes_of s.seen p ++ bytes_of s.seen q
two_read p q a b s t u one two first second clean =
    ap (λ (x : List ℕ). x ++ b) (first (two.clean clean)) ∙ ap (λ (x : List ℕ). bytes_of s.seen p ++ x) (second clean ∙ ap (λ (f : List ℕ). bytes_of f q) one.seen)

pub two_whole : (p q : Extent) (s t u : DataState) → OnlyReadsFile s t → OnlyReadsFile t u → (IsTrue t.is_clean → IsWhole s.seen p) → (IsTrue u.is_clean → IsWhole t.seen q)
    → IsTrue u.is_clean → IsWhole s.seen p × IsWhole s.seen q
two_whole p q s t u one two first second clean = (first (two.clean clean), subst (λ (f : List ℕ). IsWhole f q) one.seen (second clean))

pub second_fails : (q : Extent) (s t u : DataState) (f : DataFault) → OnlyReadsFile s t → FailsToGetPiece t.is_usable u.is_clean t.seen q f → FailsToGetPiece s.is_usable u.is_clean s.seen q f
second_fails q s t u f one c =
    subst (λ (file : List ℕ). FailsToGetPiece s.is_usable u.is_clean file q f) one.seen (subst (λ (b : Bool). FailsToGetPiece b u.is_clean t.seen q f) one.usable c)

-- ---- a value

pub one_sums : (v : LargeValue) (bytes : List ℕ) → v.second ≡ None → length bytes ≡ v.first.count * BLOCK → sum_of bytes ≡ v.first.sum → HaveSums (value_pieces v) bytes
one_sums v bytes is long sum = subst (λ (o : Option Extent). HaveSums (v.first ∷ option_to_list o) bytes) (sym is) (bytes, [], sym (append-nil bytes), long, sum, refl)

pub two_sums : (v : LargeValue) (q : Extent) (bytes : List ℕ) → v.second ≡ Some q → HaveSums (v.first ∷ q ∷ []) bytes → HaveSums (value_pieces v) bytes
two_sums v q bytes is sums = subst (λ (o : Option Extent). HaveSums (v.first ∷ option_to_list o) bytes) (sym is) sums

pub one_bytes : (v : LargeValue) (file bytes : List ℕ) → v.second ≡ None → bytes ≡ bytes_of file v.first → bytes ≡ padded_in file v
one_bytes v file bytes is same =
    subst (λ (o : Option Extent). bytes ≡ padded_in file (record { len = v.len; first = v.first; second = o })) (sym is) (same ∙ sym (append-nil (bytes_of file v.first)))

pub two_bytes : (v : LargeValue) (q : Extent) (file bytes : List ℕ) → v.second ≡ Some q → bytes ≡ bytes_of file v.first ++ bytes_of file q → bytes ≡ padded_in file v
two_bytes v q file bytes is same =
    subst (λ (o : Option Extent). bytes ≡ padded_in file (record { len = v.len; first = v.first; second = o })) (sym is)
    (same ∙ ap (λ (x : List ℕ). bytes_of file v.first ++ x) (sym (append-nil (bytes_of file q))))

one_all : (P : Extent → Type 0) (v : LargeValue) → v.second ≡ None → P v.first → All P (value_pieces v)
one_all P v is here = subst (λ (o : Option Extent). All P (v.first ∷ option_to_list o)) (sym is) (All-cons P v.first [] here (All-nil P))

two_all : (P : Extent → Type 0) (v : LargeValue) (q : Extent) → v.second ≡ Some q → P v.first → P q → All P (value_pieces v)
two_all P v q is here there =
    subst (λ (o : Option Extent). All P (v.first ∷ option_to_list o)) (sym is) (All-cons P v.first (q ∷ []) here (All-cons P q [] there (All-nil P)))

pub one_stored : (v : LargeValue) (file : List ℕ) → IsFitValue v → v.second ≡ None → IsWhole file v.first → IsStoredValue file v
one_stored v file fit is here = record { fit = fit; whole = one_all (IsWhole file) v is here }

pub two_stored : (v : LargeValue) (q : Extent) (file : List ℕ) → IsFitValue v → v.second ≡ Some q → IsWhole file v.first × IsWhole file q → IsStoredValue file v
two_stored v q file fit is whole = record { fit = fit; whole = two_all (IsWhole file) v q is whole.0 whole.1 }

pub has_first : (v : LargeValue) → Contains (value_pieces v) v.first
has_first v = (0, omega arith, refl)

has_second : (v : LargeValue) (q : Extent) → v.second ≡ Some q → Contains (value_pieces v) q
has_second v q is = subst (λ (o : Option Extent). Contains (v.first ∷ option_to_list o) q) (sym is) (1, omega arith, refl)

-- a piece that isn't whole is one of the value's
piece_fails : (usable clean : Bool) (file : List ℕ) (v : LargeValue) (p : Extent) (f : DataFault) → Contains (value_pieces v) p → (IsStoredValue file v → IsWhole file p)
    → FailsToGetPiece usable clean file p f → FailsToGet usable clean file v f
piece_fails usable clean file v p (faults.Disk e) has whole c = c
piece_fails usable clean file v p faults.Unusable has whole c = c
piece_fails usable clean file v p faults.Memory has whole c = tt
piece_fails usable clean file v p faults.Foreign has whole c = c
piece_fails usable clean file v p faults.Full has whole c = c
piece_fails usable clean file v p faults.NotBlocks has whole c = c
piece_fails usable clean file v p (faults.Overlapping q) has whole c = c
piece_fails usable clean file v p (faults.Beyond q) has whole c = c
piece_fails usable clean file v p (faults.NotInUse q) has whole c = c
piece_fails usable clean file v p (faults.Damaged q) has whole c = (subst (Contains (value_pieces v)) (sym c.0) has, λ is stored. c.1 is (whole stored))

pub first_get_fails : (usable clean : Bool) (file : List ℕ) (v : LargeValue) (f : DataFault) → FailsToGetPiece usable clean file v.first f → FailsToGet usable clean file v f
first_get_fails usable clean file v f c = piece_fails usable clean file v v.first f (has_first v) (λ stored. stored.whole 0 v.first (omega arith)) c

second_whole : (v : LargeValue) (q : Extent) (file : List ℕ) → v.second ≡ Some q → All (IsWhole file) (value_pieces v) → IsWhole file q
second_whole v q file is whole =
    let both : All (IsWhole file) (v.first ∷ q ∷ []) = subst (λ (o : Option Extent). All (IsWhole file) (v.first ∷ option_to_list o)) is whole in
    both 1 q (omega arith)

pub two_get_fails : (usable clean : Bool) (file : List ℕ) (v : LargeValue) (q : Extent) (f : DataFault) → v.second ≡ Some q
    → FailsToGetPiece usable clean file v.first f ⊎ FailsToGetPiece usable clean file q f → FailsToGet usable clean file v f
two_get_fails usable clean file v q f is (inl c) = first_get_fails usable clean file v f c
two_get_fails usable clean file v q f is (inr c) = piece_fails usable clean file v q f (has_second v q is) (λ stored. second_whole v q file is stored.whole) c

pub reads_same : (s : DataState) → OnlyReadsFile s s
reads_same s = record { seen = refl; clean = λ clean. clean; usable = refl; gaps = refl; crash = λ file may. may }

pub unfit_fails : (usable clean : Bool) (file : List ℕ) (v : LargeValue) → (IsFitValue v → IsTrue false) → FailsToGet usable clean file v (faults.Damaged v.first)
unfit_fails usable clean file v unfit = (has_first v, λ is stored. no_true (unfit stored.fit))
