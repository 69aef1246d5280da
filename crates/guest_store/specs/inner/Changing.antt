-- A change of the pairs, as a step (defined by this project).
use Rattle.std.specs.Prelude.{⊤}
use Rattle.fuse_guest.specs.Pairs.{Pairs}
use Rattle.fuse_guest.specs.Talk.{Guest}
use Rattle.guest_store.specs.StoreState.{HeldOf}
use Rattle.guest_store.specs.inner.Stepping.{Effect, making}

-- other pairs, and all else as it was
abbrev pub with_pairs : (G : Guest) → (Pairs → Pairs) → HeldOf G → HeldOf G
with_pairs G f y = record y { state = record y.state { pairs = f y.state.pairs } }

abbrev pub changing : (G : Guest) → (Pairs → Pairs) → Effect G (Unit {0})
changing G f = making G (with_pairs G f) (λ y r. ⊤)
