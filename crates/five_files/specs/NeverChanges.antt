-- The files never change (defined by this project).
use Rattle.std.specs.Prelude.{◌≡◌, true, Option, is_some}
use Rattle.fuse_init.specs.declared.settings.Settings.{Settings}
use Rattle.fuse_keeper.specs.History.{Entry, History, after, answer_to}
use Rattle.five_files.specs.TheFiles.{the_files}

-- once INIT is agreed on, each request is answered the same after any history
abbrev pub NeverChanges : Type 0
NeverChanges = (s : Option Settings) (h : History) (e : Entry) → is_some s ≡ true → answer_to the_files (after the_files s h) e ≡ answer_to the_files s e
