-- The bytes that the writers of messages append: parts as fuse.h lays them out, unused bytes as zeros (own choice).
use Rattle.std.specs.Prelude.{◌≡◌, ◌<◌, ◌^◌, ℕ, List, [], ◌∷◌, ◌++◌, Result, OnOk, OnErr}
use Rattle.fuse_wire.specs.declared.field.Field.{Field}
use Rattle.fuse_wire.specs.declared.field.Field.TheVariants as fields
use Rattle.fuse_wire.specs.Layout.{Part, number, unused, text, bytes, form}

-- the parts that fields are
abbrev pub part_of : Field → Part
part_of (fields.U16 n) = number 2 n
part_of (fields.U32 n) = number 4 n
part_of (fields.U64 n) = number 8 n
part_of (fields.Unused n) = unused n
part_of (fields.Name name) = text name.now
part_of (fields.Bytes payload) = bytes payload.now

abbrev pub laid : List Field → List Part
laid [] = []
laid (f ∷ fs) = part_of f ∷ laid fs

-- each number fits its width
abbrev pub AllFit : List Part → Type 0
AllFit [] = Unit {0}
AllFit (number w n ∷ ps) = (n < 256 ^ w) × AllFit ps
AllFit (unused w ∷ ps) = AllFit ps
AllFit (text t ∷ ps) = AllFit ps
AllFit (bytes xs ∷ ps) = AllFit ps

-- the parts are appended, and their numbers fit; with an error nothing changes
pub record Puts {T E : Type 0} (ps : List Part) (old new : List ℕ) (result : Result T E) : Type 0 where
  pub ok : OnOk result (new ≡ old ++ form ps)
  pub fits : OnOk result (AllFit ps)
  pub err : OnErr result (new ≡ old)
