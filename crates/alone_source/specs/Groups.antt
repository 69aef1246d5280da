-- The groups of a session whose port reads from such a source (defined by this project).
use Rattle.std.specs.Prelude.{◌≡◌, ◌⊎◌, ◌==◌, ℕ, Bool, true, false, List, [], ◌∷◌, Option, Some, None, Result}
use Rattle.std.specs.List.{AllByRecursion}
use Rattle.std.specs.declared.io.Error.{Error}
use Rattle.fuse_wire.specs.Ids.{id_of}
use Rattle.fuse_wire.specs.declared.id.Id.{Id}
use Rattle.fuse_request.specs.Act.{Asked}
use Rattle.fuse_request.specs.Opcodes.{Service}
use Rattle.fuse_session.specs.declared.device.DevicePort.{DevicePort}
use Rattle.fuse_session.specs.declared.stream.StreamPort.{StreamPort}
use Rattle.fuse_session.specs.Deeds.{Deeds}
use Rattle.fuse_session.specs.DeviceSteps.{DeviceSteps}
use Rattle.fuse_session.specs.StreamSteps.{Sides, StreamSteps}
use Rattle.fuse_session.specs.Grouping.{turns_of, groups_asked, AsksGroups}
use Rattle.alone_source.specs.declared.source.AloneSource.{AloneSource}
use Rattle.alone_source.specs.Holding.{nothing_held}
use Rattle.alone_source.specs.Reads.{remaining_of, ReadsAlone}
use Rattle.alone_source.specs.Turns.{IsApart}

-- the request has this id
abbrev pub has_id : Option Id → Asked → Bool
has_id None asked = false
has_id (Some id) asked = id_of asked.header.unique == id.0

-- a group: none of its requests has this id, or one has and it is the only one
abbrev pub IsAloneIn : Option Id → List Asked → Type 0
IsAloneIn id group = AllByRecursion (λ a. has_id id a ≡ false) group ⊎ ((a : Asked) × (group ≡ a ∷ []) × (has_id id a ≡ true))

-- of the messages that are whole after each receive none has the id, or one has and it is the only one; so it is in each group that the
-- keeper is asked to perform
pub record GroupsAlone (id : Option Id) (deeds : Deeds) : Type 0 where
  pub turns : AllByRecursion (IsApart id) (turns_of [] deeds.events)
  pub groups : (V : Service) → AsksGroups V deeds → AllByRecursion (IsAloneIn id) (groups_asked deeds.asked)

-- of a port over a device that reads from such a source, from its first read on
abbrev pub AlwaysAlone : {S W : Type 0} → (S → S → Result ℕ Error → List ℕ → Type 0) → (W → W → Result ℕ Error → List ℕ → Type 0) → Type 0
AlwaysAlone {S} {W} was_read was_written = (id : Option Id) (p q : DevicePort (AloneSource S) W) (deeds : Deeds)
    → p.reader.hold ≡ nothing_held id → DeviceSteps (ReadsAlone was_read) was_written p q deeds.events → GroupsAlone id deeds

-- a reader that is cut so, and a writer
abbrev pub alone_sides : {S W : Type 0} → Sides S W → Sides (AloneSource S) W
alone_sides s = record {
  remaining = remaining_of s.remaining;
  contents = s.contents;
  was_read = ReadsAlone s.was_read;
  was_written = s.was_written;
  was_flushed = s.was_flushed;
}

-- so it is of a port over a stream
abbrev pub AlwaysAloneStream : {S W : Type 0} → Sides S W → Type 0
AlwaysAloneStream {S} {W} s = (id : Option Id) (p q : StreamPort (AloneSource S) W) (deeds : Deeds)
    → p.reader.hold ≡ nothing_held id → StreamSteps (alone_sides s) p q deeds.events → GroupsAlone id deeds
