-- Taking one request after another (defined by this project).
use Rattle.std.specs.Prelude.{◌≡◌, ℕ, Bool, true, false, ◌==◌, if◌then◌else◌, List, [], ◌∷◌, ◌++◌, map, All, Option, Some, None}
use Rattle.fuse_answer.specs.Said.{Said}
use Rattle.fuse_keeper.specs.Model.{Model}
use Rattle.fuse_keeper.specs.declared.keeper.Done.{Done}
use Rattle.fuse_keeper.specs.History.{Entry, entry_id, History, IsUnsettled, is_seen, kept_one, kept_of, answers_over, next_state, answer_to}
use Rattle.fuse_keeper.specs.Stands.{KeeperContent, Standing, StandsAt, AreThese, without, PerformedBy}

-- an entry acted: on the rows of a tree the answer and the new rows are those of the tree
pub record ActedOn (M : Model) (s : M.State) (e : Entry) (rows' : M.Rows) (answer : Said) : Type 0 where
  pub answer_is : answer ≡ answer_to M s e
  pub rows_are : rows' ≡ M.held_for (next_state M s e)
  pub tree : M.IsGood (next_state M s e)

abbrev pub Acts : (M : Model) → M.Rows → Entry → M.Rows → Said → Type 0
Acts M rows e rows' answer = (s : M.State) → M.IsGood s → rows ≡ M.held_for s → ActedOn M s e rows' answer

-- the rows that are left are those of the state that a mount begins with
abbrev pub Clears : (M : Model) → M.Rows → M.Rows → Type 0
Clears M rows rows' = (s : M.State) → M.IsGood s → rows ≡ M.held_for s → M.IsGood (M.cleared s) × (rows' ≡ M.held_for (M.cleared s))

-- an id with this record is a repeat: it changes nothing and gets the recorded answer; one without acts and
-- is recorded
abbrev pub TookBy : (M : Model) → Option Said → KeeperContent M → Entry → KeeperContent M → Done → Type 0
TookBy M (Some known) before e after done =
    (after.rows ≡ before.rows) × ((i : ℕ) → after.records i ≡ before.records i) × (done.answer ≡ known) × (done.repeated ≡ true)
TookBy M None before e after done =
    Acts M before.rows e after.rows done.answer
    × ((i : ℕ) → after.records i ≡ (if entry_id e == i then Some done.answer else before.records i))
    × (done.repeated ≡ false)

-- the answer is that of the state, whichever it is
abbrev pub IsAnswerOver : (M : Model) → M.Rows → Entry → Said → Type 0
IsAnswerOver M rows e answer = (s : M.State) → M.IsGood s → rows ≡ M.held_for s → answer ≡ answer_to M s e

-- a seen entry looks for no record, leaves all as it was, and gets the answer of the state
abbrev pub Saw : (M : Model) → KeeperContent M → Entry → KeeperContent M → Done → Type 0
Saw M before e after done =
    AreThese M before.rows before.records after.rows after.records × IsAnswerOver M before.rows e done.answer × (done.repeated ≡ false)

abbrev pub TookIf : (M : Model) → Bool → KeeperContent M → Entry → KeeperContent M → Done → Type 0
TookIf M true before e after done = Saw M before e after done
TookIf M false before e after done = TookBy M (before.records (entry_id e)) before e after done

abbrev pub Took : (M : Model) → KeeperContent M → Entry → KeeperContent M → Done → Type 0
Took M before e after done = TookIf M (is_seen M.service e) before e after done

-- the entries of a group were taken one after the other, and done so
abbrev pub TakesAll : (M : Model) → KeeperContent M → List Entry → KeeperContent M → List Done → Type 0
TakesAll M before [] after [] = AreThese M before.rows before.records after.rows after.records
TakesAll M before [] after (done ∷ dones) = ⊥
TakesAll M before (e ∷ es) after [] = ⊥
TakesAll M before (e ∷ es) after (done ∷ dones) = (mid : KeeperContent M) × Took M before e mid done × TakesAll M mid es after dones

-- the answers to the first entries are those that they get at their places, after this history
pub record FirstSaid (M : Model) (s : M.State) (h : History) (first : List Entry) (dones : List Done) : Type 0 where
  pub some : List Done
  pub others : List Done
  pub parts : dones ≡ some ++ others
  pub says : map (λ (d : Done). Some d.answer) some ≡ answers_over M s h first

-- a group of no entries was performed; and where a group was performed and one more entry was taken, a group of one more was
-- performed. So it is of entries that are taken in a row; and where they are taken over rows and records that stand, the group
-- was performed. Where the settled records go before, the first entries are answered so up to the first one with a settled id
pub record GroupsGrow (M : Model) : Type 0 where
  pub none_yet : (held : KeeperContent M) (at : Standing M) → StandsAt M held at → PerformedBy M (AreThese M held.rows held.records) at [] []
  pub one_more : (before : KeeperContent M) (e : Entry) (after : KeeperContent M) (done : Done) (at : Standing M) (es : List Entry) (dones : List Done)
      → All (IsUnsettled at.settled) (kept_one M.service e) → Took M before e after done → PerformedBy M (AreThese M before.rows before.records) at es dones
      → PerformedBy M (AreThese M after.rows after.records) at (es ++ e ∷ []) (dones ++ done ∷ [])
  pub none_taken : (held : KeeperContent M) → TakesAll M held [] held []
  pub one_more_taken : (before : KeeperContent M) (es : List Entry) (mid : KeeperContent M) (dones : List Done) (e : Entry) (after : KeeperContent M) (done : Done)
      → TakesAll M before es mid dones → Took M mid e after done → TakesAll M before (es ++ e ∷ []) after (dones ++ done ∷ [])
  pub same_taken : (before before' : KeeperContent M) (es : List Entry) (after : KeeperContent M) (dones : List Done)
      → AreThese M before.rows before.records before'.rows before'.records → TakesAll M before es after dones → TakesAll M before' es after dones
  pub taken_is_performed : (before : KeeperContent M) (es : List Entry) (after : KeeperContent M) (dones : List Done) (at : Standing M)
      → StandsAt M before at → All (IsUnsettled at.settled) (kept_of M.service es) → TakesAll M before es after dones
      → PerformedBy M (AreThese M after.rows after.records) at es dones
  pub first_said : (before : KeeperContent M) (settled : List ℕ) (es first later : List Entry) (after : KeeperContent M) (dones : List Done) (at : Standing M)
      → TakesAll M (record before { records = without settled before.records }) es after dones → es ≡ first ++ later → StandsAt M before at
      → All (IsUnsettled (at.settled ++ settled)) (kept_of M.service first) → FirstSaid M at.state at.history first dones
