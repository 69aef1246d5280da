-- What became of a port by calls, one after the other (defined by this project).
use Rattle.std.specs.Prelude.{◌≡◌, List, [], ◌∷◌}
use Rattle.fuse_session.specs.Port.{PortState}
use Rattle.fuse_session.specs.Transcript.{PortEvent, Steps}

-- a port of which nothing more is known than its states
abbrev pub Stepped : {P : Type 0} → (P → PortState) → P → P → List PortEvent → Type 0
Stepped told a b events = Steps (told a) (told b) events

-- a port of which it is known what each call did
abbrev pub Chain : {P : Type 0} → (P → P → PortEvent → Type 0) → P → P → List PortEvent → Type 0
Chain step a b [] = b ≡ a
Chain step a b (e ∷ es) = (mid : _) × step a mid e × Chain step mid b es
