-- The first opcode of a set that may not be seen.
use Rattle.std.proofs.Common.{◌≡◌, ℕ, suc, ◌+◌, ◌-◌, ◌/◌, ◌<◌, ◌≤◌, true, false, Option, Some, None, refl, sym, ◌∙◌, arith}
use Rattle.guest_frames.specs.Seeable.{is_unseeable, unseeable_from}

pub goes_past : (k n set : ℕ) (total : Option ℕ) → k < n → is_unseeable k set ≡ false → unseeable_from k (n - k) set ≡ total
    → unseeable_from (k + 1) (n - (k + 1)) (set / 2) ≡ total
unfolding unseeable_from
goes_past k n set total lt fine so_far =
    let m : n - k ≡ suc (n - (k + 1)) = omega arith in
    let one : unseeable_from k (n - k) set ≡ unseeable_from (k + 1) (n - (k + 1)) (set / 2) = rw (m, fine) refl in
    sym one ∙ so_far

pub stops_at : (k n set : ℕ) (total : Option ℕ) → k < n → is_unseeable k set ≡ true → unseeable_from k (n - k) set ≡ total → Some k ≡ total
unfolding unseeable_from
stops_at k n set total lt wrong so_far =
    let m : n - k ≡ suc (n - (k + 1)) = omega arith in
    let one : unseeable_from k (n - k) set ≡ Some k = rw (m, wrong) refl in
    sym one ∙ so_far

pub ends_with_none : (k n set : ℕ) (total : Option ℕ) → n ≤ k → unseeable_from k (n - k) set ≡ total → None ≡ total
unfolding unseeable_from
ends_with_none k n set total done so_far =
    let m : n - k ≡ 0 = omega arith in
    let one : unseeable_from k (n - k) set ≡ None = rw m refl in
    sym one ∙ so_far
