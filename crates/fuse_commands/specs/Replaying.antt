-- The messages, the answers and the state after a replay (defined by this project).
use Rattle.std.specs.Prelude.{◌≡◌, ◌⊎◌, ℕ, Bool, List, [], ◌++◌, length, Option, Some}
use Rattle.std.specs.List.{AllByRecursion, flat_map}
use Rattle.std.specs.Io.KnownBytes.{Appends}
use Rattle.fuse_wire.specs.declared.moment.Moment.{Moment}
use Rattle.fuse_request.specs.declared.framer.FrameFault.{FrameFault}
use Rattle.fuse_request.specs.declared.framer.FrameFault.TheVariants as frame
use Rattle.fuse_request.specs.Opcodes.{Service}
use Rattle.fuse_request.specs.Stream.{cut, joined}
use Rattle.fuse_request.specs.Framing.{end_fault}
use Rattle.fuse_keeper.specs.declared.fault.StoreFault.{StoreFault}
use Rattle.fuse_keeper.specs.Model.{Model}
use Rattle.fuse_keeper.specs.History.{History, grown}
use Rattle.fuse_keeper.specs.Performance.{Performance}
use Rattle.fuse_keeper.specs.Stands.{Standing, StandsAt}
use Rattle.fuse_keeper.specs.KeeperState.{KeeperState, StandsFor, Leaves, IsFirm}
use Rattle.fuse_session.specs.declared.counts.SessionCounts.{SessionCounts}
use Rattle.fuse_session.specs.Processed.{Timed, bytes_of, kept_in, performed_of, own_answers, GoesOn, Works, EndsLast, StartsZero, moments_in}
use Rattle.fuse_session.specs.Settling.{MayCome}
use Rattle.fuse_session.specs.Exchange.{HoldsAt}
use Rattle.fuse_session.specs.Counting.{counted}
use Rattle.fuse_commands.specs.declared.ending.Ending.{Ending}
use Rattle.fuse_commands.specs.declared.ending.Ending.TheVariants.{Done, Short, TooLong, Cut, ZeroUnique}
use Rattle.fuse_commands.specs.Endings.{store_ending}
use Rattle.fuse_commands.specs.Output.{line, answer_lines, count_line}

-- a stream: a prefix of its messages with their moments, the other messages, and the bytes after the last one
pub record Parts : Type 0 where
  pub timed : List Timed
  pub others : List (List ℕ)
  pub rest : List ℕ

-- they are the parts of this input, and each kept or seen message of the prefix has this moment
pub record ArePartsOf (input : List ℕ) (V : Service) (moment : Moment) (parts : Parts) : Type 0 where
  pub messages : (cut input).0 ≡ bytes_of parts.timed ++ parts.others
  pub rest : (cut input).1 ≡ parts.rest
  pub moments : AllByRecursion (λ t. t ≡ moment) (moments_in V parts.timed)

-- the offset of the other messages
abbrev pub offset_in : Parts → ℕ
offset_in parts = length (joined (bytes_of parts.timed))

-- all messages were processed, and the rest has this fault
abbrev pub EndsFaulty : {M : Model} → Standing M → Parts → FrameFault → Type 0
EndsFaulty {M} standing parts fault =
    GoesOn M standing.state standing.history parts.timed × (parts.others ≡ []) × (end_fault (offset_in parts) parts.rest ≡ Some fault)

-- why no more messages were processed than the prefix
abbrev pub EndsAt : {M : Model} → Standing M → Parts → Ending → Type 0
EndsAt {M} standing parts Done =
    EndsLast M standing.state standing.history parts.timed
    ⊎ (GoesOn M standing.state standing.history parts.timed × (parts.others ≡ []) × (parts.rest ≡ []))
EndsAt standing parts (Short at len) = EndsFaulty standing parts (frame.Short at len)
EndsAt standing parts (TooLong at len) = EndsFaulty standing parts (frame.TooLong at len)
EndsAt standing parts (Cut at have need) = EndsFaulty standing parts (frame.Cut at have need)
EndsAt {M} standing parts (ZeroUnique at) =
    GoesOn M standing.state standing.history parts.timed × StartsZero parts.others × (at ≡ offset_in parts)
EndsAt standing parts _ = ⊥

-- the history with these messages added, none of which settles an id
abbrev pub added : {M : Model} → Standing M → List Timed → Standing M
added {M} standing timed = record standing { history = grown standing.history (kept_in M.service timed) }

-- these messages were processed; Stood holds of the history then, and Gave of their answers
pub record Processed {M : Model} (standing : Standing M) (timed : List Timed) (Stood : Standing M → Type 0) (Gave : List (List ℕ) → Type 0)
    : Type 0 where
  pub works : Works M standing.state standing.history timed
  pub stood : Stood (added standing timed)
  pub gave : Gave (own_answers M standing.state standing.history timed)

-- a prefix of these messages was processed
pub record ProcessedPrefix {M : Model} (standing : Standing M) (timed : List Timed) (Stood : Standing M → Type 0) (Gave : List (List ℕ) → Type 0)
    : Type 0 where
  pub prefix : List Timed
  pub unprocessed : List Timed
  pub parts : timed ≡ prefix ++ unprocessed
  pub processed : Processed standing prefix Stood Gave

-- P holds whatever the keeper stood for, where none of the messages has a settled id
abbrev pub WhateverStood : {M : Model} → KeeperState M → List Timed → (Standing M → Type 0) → Type 0
WhateverStood {M} k timed P = (s : M.State) (h : History) (t : List ℕ) → StandsFor k s h t → AllByRecursion (MayCome M.service t) (bytes_of timed)
    → P (record { state = s; history = h; settled = t })

-- a prefix of the messages of the input was processed at this moment, up to the end, the first fault or a message that stops the session;
-- Gave holds of the answers and the counts
pub record Replayed {M : Model} (k k' : KeeperState M) (moment : Moment) (input : List ℕ) (ending : Ending)
    (Gave : List (List ℕ) → SessionCounts → Type 0) : Type 0 where
  pub parts : Parts
  pub are : ArePartsOf input M.service moment parts
  pub processed : k'.is_honest → WhateverStood k parts.timed (λ standing. Processed standing parts.timed (HoldsAt k')
      (λ answers. Gave answers (counted M.service standing.history parts.timed)))
  pub ends : k'.is_honest → WhateverStood k parts.timed (λ standing. EndsAt standing parts ending)

-- the store returned a fault that the keeper may return, after a prefix of the messages of the input was processed at this moment
pub record Faulted {M : Model} (k k' : KeeperState M) (moment : Moment) (input : List ℕ) (ending : Ending) (Gave : List (List ℕ) → Type 0) : Type 0 where
  pub fault : StoreFault
  pub ending_is : ending ≡ store_ending fault
  pub parts : Parts
  pub are : ArePartsOf input M.service moment parts
  pub processed : k'.is_clean → WhateverStood k parts.timed (λ standing. ProcessedPrefix standing parts.timed (HoldsAt k') Gave)
  pub may : k'.is_clean → WhateverStood k parts.timed (λ standing. k.may_answer fault)

-- a keeper was asked to perform the kept and seen messages of these in groups, each once and in order, and no id was settled
pub record AsksForGroups (V : Service) (timed : List Timed) (asked : List Performance) : Type 0 where
  pub groups : flat_map (λ p. p.group) asked ≡ performed_of V timed
  pub unsettled : AllByRecursion (λ p. p.settled ≡ []) asked

-- however it ended: the keeper was asked to perform a prefix of the messages of the input at this moment, and nothing else. If its store
-- is clean it stands for a prefix of these; and so does whatever a crash now leaves, if it was firm
pub record StandsForPrefix {M : Model} (k k' : KeeperState M) (performed : List Performance → Type 0) (moment : Moment) (input : List ℕ) : Type 0 where
  pub parts : Parts
  pub are : ArePartsOf input M.service moment parts
  pub asked : List Performance
  pub was_asked : performed asked
  pub asks : AsksForGroups M.service parts.timed asked
  pub stands : k'.is_clean → WhateverStood k parts.timed (λ standing. ProcessedPrefix standing parts.timed (HoldsAt k') (λ _. Unit {0}))
  pub crash : k'.is_honest → IsFirm k → WhateverStood k parts.timed (λ standing. Leaves k'
      (λ x r. ProcessedPrefix standing parts.timed (StandsAt M (record { rows = x; records = r })) (λ _. Unit {0})))

-- a line for each answer was written, and then the line of counts, with the number of seen messages or without it
abbrev pub Prints : Bool → Option (List ℕ) → Option (List ℕ) → List (List ℕ) → SessionCounts → Type 0
Prints shows written written' answers counts = Appends written written' (answer_lines answers ++ line (count_line shows counts))

-- a line for each answer was written
abbrev pub PrintsAnswers : Option (List ℕ) → Option (List ℕ) → List (List ℕ) → Type 0
PrintsAnswers written written' answers = Appends written written' (answer_lines answers)
