-- The records of a list over others (defined by this project).
use Rattle.std.specs.Prelude.{ℕ, ◌==◌, if◌then◌else◌, List, [], ◌∷◌, map, Option, Some, None}
use Rattle.fuse_answer.specs.Said.{Said}
use Rattle.fuse_keeper.specs.declared.group.Record.{Record}
use Rattle.fuse_keeper.specs.Stands.{Records}

-- the first record of this id in a list
abbrev pub listed : List Record → Records
listed [] i = None
listed (r ∷ rs) i = if r.id == i then Some r.answer else listed rs i

abbrev pub first_of : Option Said → Option Said → Option Said
first_of (Some a) o = Some a
first_of None o = o

-- the records of a list, and of the other ids these
abbrev pub over : List Record → Records → Records
over added records i = first_of (listed added i) (records i)

abbrev pub record_ids : List Record → List ℕ
record_ids records = map (λ r. r.id) records
