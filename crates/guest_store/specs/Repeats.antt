-- Requests that were answered from their records (defined by this project).
use Rattle.std.specs.Prelude.{◌≡◌, true, List}
use Rattle.std.specs.List.{AllByRecursion}
use Rattle.fuse_keeper.specs.declared.keeper.Done.{Done}

-- each of them was
abbrev pub AllAgain : List Done → Type 0
AllAgain dones = AllByRecursion (λ d. d.repeated ≡ true) dones
