-- What is verified of the store in files that were read (defined by this project).
use Rattle.std.specs.Prelude.{◌≡◌, ◌⊎◌, ⊤, ℕ, List, []}
use Rattle.fuse_rows.specs.Rows.{Rows}
use Rattle.fuse_tree.specs.Rowed.{rowed}
use Rattle.fuse_store.specs.Opening.{Stored}
use Rattle.fuse_store.specs.Starting.{begun_for}
use Rattle.fuse_store_files.specs.Files.{StoreImage, FilesHold}
use Rattle.fuse_show.specs.declared.tally.Tally.{Tally}
use Rattle.fuse_show.specs.Sinks.{IsPartOf, Way, Flushed, Failed, Left}
use Rattle.fuse_show.specs.Verdict.{Counts, tally_text}
use Rattle.fuse_show.specs.Walked.{IsFinding, IsUnread}
use Rattle.fuse_commands.specs.declared.ending.Ending.{Ending}
use Rattle.fuse_commands.specs.declared.ending.Ending.TheVariants as ending
use Rattle.fuse_files.specs.StoreShown.{SaysNothing}

-- its rows, once a mount begins of it
abbrev pub rows_begun : Stored → Rows
rows_begun z = rowed (begun_for z).tree

-- the ending of a fault of a store
abbrev pub IsStoreEnding : Ending → Type 0
IsStoreEnding ending.Memory = ⊤
IsStoreEnding (ending.Sql _) = ⊤
IsStoreEnding ending.NotAStore = ⊤
IsStoreEnding (ending.Version n) = ⊤
IsStoreEnding ending.Damaged = ⊤
IsStoreEnding ending.Guest = ⊤
IsStoreEnding _ = ⊥

-- the line of a sound tree, of which this was counted
abbrev pub IsTally : (Tally → Type 0) → List ℕ → Type 0
IsTally Counted line = (t : Tally) × Counted t × (line ≡ tally_text t)

-- the line that goes with an ending: what was counted, what is wrong, or that rows can't be read, with an ending of which this is so
abbrev pub IsLineOf : (Ending → Type 0) → (Tally → Type 0) → Ending → List ℕ → Type 0
IsLineOf Unsaid Counted e line =
    ((e ≡ ending.Done) × IsTally Counted line) ⊎ (((e ≡ ending.Damaged) × IsFinding line) ⊎ (Unsaid e × IsUnread line))

-- the whole line, a part of one before output failed, or nothing
abbrev pub Verdicts : (Ending → Type 0) → (Tally → Type 0) → Ending → Way → List ℕ → Type 0
Verdicts Unsaid Counted e Flushed bytes = IsLineOf Unsaid Counted e bytes
Verdicts Unsaid Counted e Failed bytes =
    (e ≡ ending.PortFailed) × (meant : Ending) × (line : List ℕ) × IsLineOf Unsaid Counted meant line × IsPartOf bytes line
Verdicts Unsaid Counted e Left bytes = Unsaid e × (bytes ≡ [])

-- an ending without a verdict says nothing of a store that the files hold
abbrev pub IsUnsaid : StoreImage → Ending → Type 0
IsUnsaid it e = IsStoreEnding e × ((z : Stored) → FilesHold it z → SaysNothing e)

-- as many nodes and blocks as the store that the files hold has, once a mount begins of it
abbrev pub IsCounted : StoreImage → Tally → Type 0
IsCounted it t = (z : Stored) → FilesHold it z → Counts (rows_begun z).counters t

abbrev pub Verifies : StoreImage → Ending → Way → List ℕ → Type 0
Verifies it e = Verdicts (IsUnsaid it) (IsCounted it) e
