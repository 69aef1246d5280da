-- The moments that a clock gives (defined by this project).
use Rattle.std.specs.Prelude.{◌≡◌, List, [], ◌∷◌, ◌++◌}
use Rattle.std.specs.List.{AllByRecursion}
use Rattle.fuse_wire.specs.declared.moment.Moment.{Moment}
use Rattle.fuse_session.specs.declared.clock.Fixed.{Fixed}
use Rattle.fuse_session.specs.declared.clock.System.{System}

-- `gave a b ts`: a gave these moments, in order, and b is what became of it
pub record IsLog {C : Type 0} (gave : C → C → List Moment → Type 0) : Type 0 where
  pub none : (c : C) → gave c c []
  pub onward : (a b c : C) (xs ys : List Moment) → gave a b xs → gave b c ys → gave a c (xs ++ ys)

-- a clock that stands gives its moment alone
pub record GaveFixed (a b : Fixed) (ts : List Moment) : Type 0 where
  pub still : b ≡ a
  pub each : AllByRecursion (λ t. t ≡ a.0) ts

-- the last of these moments, or the one of before
abbrev pub last_of : Moment → List Moment → Moment
last_of before [] = before
last_of before (t ∷ ts) = last_of t ts

-- the machine's clock keeps the last moment that it gave, and asks the same runtime
pub record GaveSystem {T : Type 0} (a b : System T) (ts : List Moment) : Type 0 where
  pub last : b.last ≡ last_of a.last ts
  pub runtime : b.rt ≡ a.rt
