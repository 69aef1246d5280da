-- The allocation of a lot, as a step (defined by this project).
use Rattle.std.specs.Prelude.{◌≡◌, ◌<◌, ◌^◌, ℕ, [], Option}
use Rattle.fuse_guest.specs.Talk.{Guest}
use Rattle.guest_store.specs.Group.{HasLotLeft, lot_for, with_lot_for, with_new_lot}
use Rattle.guest_store.specs.inner.Stepping.{Effect}

-- the next lot number is taken
abbrev pub lotting_next : (G : Guest) → Effect G ℕ
lotting_next G = record { made = λ y. with_new_lot y; told = λ y n. n ≡ y.next_lot; safe = λ y. y.next_lot < 2 ^ 62; asks = λ y. [] }

-- where this opening has none
abbrev pub lotting : (G : Guest) → Option ℕ → Effect G ℕ
lotting G lot = record { made = λ y. with_lot_for lot y; told = λ y n. n ≡ lot_for lot y; safe = λ y. HasLotLeft lot y; asks = λ y. [] }
