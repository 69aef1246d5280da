-- The log of a keeper over another one (defined by this project).
use Rattle.std.specs.Prelude.{◌≡◌, ℕ, true, List, ◌++◌, map}
use Rattle.fuse_keeper.specs.History.{ids_in}
use Rattle.fuse_keeper.specs.Performance.{Performance}
use Rattle.counting_keeper.specs.declared.log.Call.{Call}
use Rattle.counting_keeper.specs.declared.log.Log.{Log}

-- the ids of a group, and the settled ones
abbrev pub CallIds : Type 0
CallIds = List ℕ × List ℕ

-- what a keeper was asked, by its ids
abbrev pub asked_ids : Performance → CallIds
asked_ids p = (ids_in p.group, p.settled)

-- the ids of a call that was noted
abbrev pub noted_ids : Call → CallIds
noted_ids c = (c.group.items, c.settled.items)

-- the calls of a log, by their ids
abbrev pub calls_of : Log → List CallIds
calls_of log = map noted_ids log.calls.items

-- where the later log is whole it is the earlier one, which is whole, and these
abbrev pub Logged : Log → Log → List Performance → Type 0
Logged a b list = b.is_whole ≡ true → (a.is_whole ≡ true) × (calls_of b ≡ calls_of a ++ map asked_ids list)
