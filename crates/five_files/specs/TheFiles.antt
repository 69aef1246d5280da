-- The file system of five files (defined by this project).
use Rattle.std.specs.Prelude.{Option, None}
use Rattle.fuse_init.specs.declared.settings.Settings.{Settings}
use Rattle.fuse_keeper.specs.Model.{Model}
use Rattle.five_files.specs.Asking.{said, agreed_after, serves_further, only_looks}

-- names and contents stay, so that a state is no more than what INIT agreed on, and each one is good
abbrev pub the_files : Model
the_files = record {
  State = Option Settings;
  Rows = Option Settings;
  service = record { serves = serves_further; sees = only_looks };
  start = λ now. None;
  next = λ s a now. agreed_after s a;
  answer = λ s a now. said s a;
  IsGood = λ s. Unit {0};
  held_for = λ s. s;
  cleared = λ s. None;
  settings = λ rows. rows;
  nodes = λ rows. 5;
  handles = λ rows. 0;
}
