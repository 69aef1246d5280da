-- How the values of a GET are put together, one after the other.
use Rattle.std.proofs.Common.{◌≡◌, ◌≤◌, ◌<◌, ◌+◌, ◌-◌, ◌⊎◌, inl, inr, ℕ, zero, suc, List, [], ◌∷◌, map, Option, Some, Result, Ok, Err, refl, ap, sym, arith}
use Rattle.std.specs.Prelude.{Bool, IfErr, IfOk}
use Rattle.std.proofs.lemmas.Bool.{le-leb, lt-leb}
use Rattle.fuse_keeper.specs.declared.fault.StoreFault.{StoreFault}
use Rattle.fuse_keeper.specs.declared.fault.StoreFault.TheVariants as stores
use Rattle.guest_frames.specs.Limits.{max_reply_len}
use Rattle.guest_frames.specs.Frames.{PairContent, Frame, of_get, of_scan, of_values, of_pairs, ScanContent, frame_kind, HasRightParts}
use Rattle.fuse_guest.specs.Laws.{RepliesFit}
use Rattle.fuse_guest.specs.Pairs.{Pairs, ArePairs, value_for}
use Rattle.fuse_guest.specs.Telling.{told_head, value_size, filling, told_of, scan_told, told_for}
use Rattle.guest_talk.specs.declared.outgoing.Outgoing.{Outgoing}
use Rattle.guest_talk.specs.inner.Writes.{IsWritten, IsNotWritten, IsToldIn, IsStoreFault}

abbrev pub Value : Type 0
Value = Option (List ℕ)

-- what is shown after so many values, with so much room left
abbrev pub rest_told : ℕ → ℕ → List Value → List Value
rest_told zero room xs = told_of value_size xs
rest_told (suc n) room xs = filling value_size xs room

pub one_more : (n room : ℕ) (x : Value) (xs : List Value) → (n ≡ 0 → room ≡ max_reply_len - told_head) → (value_size x ≤ room) ⊎ (n ≡ 0)
    → rest_told n room (x ∷ xs) ≡ x ∷ rest_told (suc n) (room - value_size x) xs
one_more zero room x xs begins fits =
    let same : max_reply_len - (told_head + value_size x) ≡ room - value_size x = omega (arith, begins refl) in
    ap (λ (k : ℕ). x ∷ filling value_size xs k) same
one_more (suc n) room x xs begins (inl fits) = rw (le-leb (value_size x) room fits) refl
one_more (suc n) room x xs begins (inr none) = absurd (omega (arith, none))

-- where the next value doesn't fit, and there is one already
pub no_more : (n room : ℕ) (x : Value) (xs : List Value) → 0 < n → room < value_size x → rest_told n room (x ∷ xs) ≡ []
no_more zero room x xs some large = absurd (omega (arith, some))
no_more (suc n) room x xs some large = rw (lt-leb (value_size x) room large) refl

pub none_left : (n room : ℕ) → rest_told n room [] ≡ []
none_left zero room = refl
none_left (suc n) room = refl

-- ---- frames

pub told_values : (ps : Pairs) (f : Frame) (keys : List (List ℕ)) (values : List Value) → of_get keys ≡ f
    → values ≡ told_of value_size (map (value_for ps) keys) → told_for ps f ≡ Some (of_values values)
told_values ps f keys values is told = rw (← is) (ap (λ (vs : List Value). Some (of_values vs)) (sym told))

pub told_page : (ps : Pairs) (f : Frame) (s : ScanContent) (page : Frame) → of_scan s ≡ f → page ≡ scan_told ps s → told_for ps f ≡ Some page
told_page ps f s page is told = rw (← is) (ap (λ (x : Frame). Some x) (sym told))

-- what right pairs give can be written down
pub not_written : RepliesFit → (shown : Pairs → Type 0) (may_answer : StoreFault → Type 0) (query told : Frame) (fault : StoreFault) → HasRightParts query
    → ((ps : Pairs) → shown ps → ArePairs ps × (told_for ps query ≡ Some told)) → IsNotWritten told fault → IsStoreFault shown may_answer fault
not_written fit shown may_answer query told stores.Memory right tells wrong = λ ps are. inl refl
not_written fit shown may_answer query told stores.Damaged right tells wrong =
    λ ps are. let t = tells ps are in absurd (wrong (fit ps query told t.0 right t.1).limited)
not_written fit shown may_answer query told (stores.Sql e) right tells wrong = absurd wrong
not_written fit shown may_answer query told stores.NotAStore right tells wrong = absurd wrong
not_written fit shown may_answer query told stores.Guest right tells wrong = absurd wrong
not_written fit shown may_answer query told (stores.Version n) right tells wrong = absurd wrong

pub result_not_written : {A : Type 0} → RepliesFit → (shown : Pairs → Type 0) (may_answer : StoreFault → Type 0) (query told : Frame) (r : Result A StoreFault)
    → HasRightParts query → ((ps : Pairs) → shown ps → ArePairs ps × (told_for ps query ≡ Some told)) → IfErr r (IsNotWritten told)
    → IfErr r (IsStoreFault shown may_answer)
result_not_written fit shown may_answer query told (Ok x) right tells wrong = tt
result_not_written fit shown may_answer query told (Err e) right tells wrong = not_written fit shown may_answer query told e right tells wrong

-- ---- what a query gets

pub values_kind : (query : Frame) (keys : List (List ℕ)) (values : List Value) → of_get keys ≡ query → frame_kind (of_values values) ≡ frame_kind query + 1
values_kind query keys values is = rw (← is) refl

pub pairs_kind : (query : Frame) (s : ScanContent) (pairs : List PairContent) (more : Bool) → of_scan s ≡ query
    → frame_kind (of_pairs pairs more) ≡ frame_kind query + 1
pairs_kind query s pairs more is = rw (← is) refl

pub result_told : (shown : Pairs → Type 0) (query told : Frame) (r : Result Outgoing StoreFault) → frame_kind told ≡ frame_kind query + 1
    → ((ps : Pairs) → shown ps → told_for ps query ≡ Some told) → IfOk r (IsWritten told) → IfOk r (IsToldIn shown query)
result_told shown query told (Ok out) kind tells written = record {
  told = told;
  is = record { whole = written.whole; kind = kind; shows = tells };
  written = written;
}
result_told shown query told (Err e) kind tells written = tt
