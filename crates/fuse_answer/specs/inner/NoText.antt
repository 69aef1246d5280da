-- Which records are written whole (own choice).
use Rattle.std.specs.Prelude.{List, [], ◌∷◌}
use Rattle.fuse_wire.specs.Layout.{Part, number, unused, text, bytes}

-- no name is among the parts
abbrev pub HasNoText : List Part → Type 0
HasNoText [] = Unit {0}
HasNoText (number w n ∷ ps) = HasNoText ps
HasNoText (unused w ∷ ps) = HasNoText ps
HasNoText (text t ∷ ps) = ⊥
HasNoText (bytes xs ∷ ps) = HasNoText ps
