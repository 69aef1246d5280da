-- What a store of a file system holds (defined by this project).
use Rattle.std.specs.Prelude.{◌<◌, ℕ, List, Option, option_map}
use Rattle.std.specs.List.{AllByRecursion}
use Rattle.fuse_keeper.specs.Lots.{Lots}
use Rattle.fuse_keeper.specs.Model.{Model}
use Rattle.fuse_keeper.specs.Stands.{Records, KeeperContent}
use Rattle.fuse_store_tables.specs.Content.{Kept, kept_key, at_by}

-- a state, the records in rising order of their ids, the lots in rising order, and the number of the next lot
pub record Holding (M : Model) : Type 0 where
  pub state : M.State
  pub kept : List Kept
  pub lots : List ℕ
  pub next_lot : ℕ

-- the record of each id
abbrev pub records_of : List Kept → Records
records_of kept id = option_map (λ k. k.said) (at_by kept_key id kept)

-- its rows and records, as a keeper holds them
abbrev pub content_of : (M : Model) → Holding M → KeeperContent M
content_of M y = record { rows = M.held_for y.state; records = records_of y.kept }

-- the lots are below the next lot number
abbrev pub AreBelow : ℕ → List ℕ → Type 0
AreBelow next lots = AllByRecursion (λ n. n < next) lots

-- these lots and the one of this opening, and the lot of each of these records
abbrev pub lots_as : Option ℕ → List ℕ → List Kept → Lots
lots_as current lots kept = record { numbers = lots; current = current; under = λ i. option_map (λ k. k.lot) (at_by kept_key i kept) }

-- the lots of a holding, and the one of this opening
abbrev pub lots_of : {M : Model} → Option ℕ → Holding M → Lots
lots_of {M} current y = lots_as current y.lots y.kept
