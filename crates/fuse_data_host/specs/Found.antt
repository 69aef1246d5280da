-- What is known of a file that was opened (defined by this project).
use Rattle.std.specs.Prelude.{◌≡◌, ℕ, List, IsTrue}
use Rattle.sqlite_disk.specs.declared.Disk.{Ghosts}
use Rattle.sqlite_disk.specs.Disk.{Only}

-- It reads as it was found, and a crash leaves it so. Nothing has failed, and it has given no wrong answer.
pub record IsFound {D : Type 0} (g : Ghosts D) (held : List ℕ) (d : D) : Type 0 where
  pub seen : g.seen d ≡ held
  pub alone : Only held (g.may_leave d)
  pub usable : IsTrue (g.is_usable d)
  pub clean : IsTrue (g.is_clean d)
  pub faults : g.faults d ≡ 0
  pub caught : (g.tally_of d).caught ≡ 0
  pub refused : (g.tally_of d).refused ≡ 0
