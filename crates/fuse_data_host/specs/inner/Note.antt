-- A call as it is noted: in numbers and bytes (after the kit's sqlite_std_file).
use Rattle.std.specs.Prelude.{ℕ, List, ◌∷◌, slice_index, ◌==◌, if◌then◌else◌}
use Rattle.sqlite_disk.specs.Events.{Event}

-- The numbers are those of an event, with 1 for success. A tested read has its key and its digest before the bytes.
abbrev pub event_of : List ℕ → List ℕ → Event
event_of numbers bytes = (
  slice_index numbers 0,
  slice_index numbers 1,
  slice_index numbers 2,
  slice_index numbers 3 == 1,
  if slice_index numbers 0 == 6 then slice_index numbers 4 ∷ slice_index numbers 5 ∷ bytes else bytes,
)
