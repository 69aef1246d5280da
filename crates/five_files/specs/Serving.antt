-- That the files stay where they are served (defined by this project).
use Rattle.std.specs.Prelude.{◌≡◌, ◌≤◌, ℕ, true, [], length, take, Option, is_some}
use Rattle.fuse_init.specs.declared.settings.Settings.{Settings}
use Rattle.fuse_keeper.specs.History.{Entry, after, grown, answer_to}
use Rattle.fuse_keeper.specs.KeeperState.{KeeperState}
use Rattle.fuse_keeper.specs.PlainKeeper.{plain_told}
use Rattle.fuse_keeper.specs.declared.plain.PlainKeeper.{PlainKeeper}
use Rattle.fuse_keeper.specs.Stands.{Records, Standing}
use Rattle.fuse_session.specs.declared.ended.Ended.{Ended}
use Rattle.fuse_session.specs.Passage.{Passage}
use Rattle.fuse_session.specs.Processed.{kept_in}
use Rattle.fuse_session.specs.Exchange.{Exchange, IfNoneComesAgain}
use Rattle.fuse_session.specs.Serving.{Run, nothing_waits, exchange}
use Rattle.five_files.specs.TheFiles.{the_files}
use Rattle.five_files.specs.declared.files.FiveFiles.{FiveFiles}

-- the state of a keeper of the files in memory
abbrev pub files_told : PlainKeeper FiveFiles → KeeperState the_files
files_told = plain_told the_files (λ files. files.agreed)

-- the rows that are held answer each request as this state does
pub record AnswersAs (k : KeeperState the_files) (s : Option Settings) : Type 0 where
  pub rows : Option Settings
  pub records : Records
  pub held : k.holds rows records
  pub same : (e : Entry) → answer_to the_files rows e ≡ answer_to the_files s e

-- the state after the first n messages
abbrev pub after_first : ℕ → Standing the_files → Exchange → Option Settings
after_first n at x = after the_files at.state (grown at.history (kept_in the_files.service (take n x.timed)))

-- where INIT is agreed on, before these messages or by one of the first n of them, all of which were answered: each request is
-- answered in the end as it was after those n
abbrev pub StayAsAgreed : KeeperState the_files → Standing the_files → Exchange → Type 0
StayAsAgreed k at x = (n : ℕ) → n ≤ length x.marks → is_some (after_first n at x) ≡ true → AnswersAs k (after_first n at x)

-- a session in which the files stay as they were from INIT on, where no message came again whose answer was settled
pub record FilesStay (p : Passage the_files) (ended : Ended) : Type 0 where
  pub run : Run p nothing_waits ended
  pub stay : IfNoneComesAgain p.keeper [] (exchange run.broken.work) (λ at. StayAsAgreed p.keeper' at (exchange run.broken.work))
