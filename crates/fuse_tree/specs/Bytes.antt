-- States of bytes (defined by this project): contents are bytes, and names are bytes other than NUL. The definitions have numbers without
-- bounds, and `done` refuses no name for its NUL; so this holds of the states that requests of bytes lead to, not of every tree.
use Rattle.std.specs.Prelude.{◌<◌, ◌≤◌, ℕ, List}
use Rattle.std.specs.List.{AllByRecursion}
use Rattle.fuse_wire.specs.declared.moment.Moment.{Moment}
use Rattle.fuse_init.specs.declared.profile.Profile.{Profile}
use Rattle.fuse_request.specs.Act.{Act, Asked}
use Rattle.fuse_request.specs.Act as acts
use Rattle.fuse_tree.specs.State.{State, new_store}
use Rattle.fuse_rows.specs.declared.origin.Origin.{Origin}
use Rattle.fuse_tree.specs.Clearing.{cleared_tree}
use Rattle.fuse_tree.specs.Do.{done}

abbrev pub AreBytes : List ℕ → Type 0
AreBytes = AllByRecursion (λ b. b < 256)

-- bytes of a name, which ends before its first NUL
abbrev pub AreNameBytes : List ℕ → Type 0
AreNameBytes = AllByRecursion (λ b. (1 ≤ b) × (b < 256))

pub record HoldsBytes (s : State) : Type 0 where
  pub contents : AllByRecursion (λ n. AreBytes n.content) s.nodes
  pub names : AllByRecursion (λ e. AreNameBytes e.name) s.entries

-- the request gives bytes to a node or an entry
abbrev pub BringsBytes : Act → Type 0
BringsBytes (acts.Mknod mode rdev umask name) = AreNameBytes name
BringsBytes (acts.Mkdir mode umask name) = AreNameBytes name
BringsBytes (acts.Rename new_dir old_name new_name) = AreNameBytes old_name × AreNameBytes new_name
BringsBytes (acts.Rename2 new_dir flags old_name new_name) = AreNameBytes old_name × AreNameBytes new_name
BringsBytes (acts.Write fh offset write_flags lock_owner flags payload) = AreBytes payload
BringsBytes (acts.Further opcode body) = AreBytes body
BringsBytes _ = Unit {0}

-- a new store holds bytes, and requests that bring bytes and mounts leave it so
pub record BytesKept : Type 0 where
  pub new : (p : Profile) (capacity : ℕ) (from : Origin) → HoldsBytes (new_store p capacity from)
  pub kept : (s : State) (request : Asked) (now : Moment) → BringsBytes request.act → HoldsBytes s → HoldsBytes (done s request now).state
  pub mounted : (s : State) → HoldsBytes s → HoldsBytes (cleared_tree s)
