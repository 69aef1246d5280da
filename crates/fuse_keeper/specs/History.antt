-- Histories: the kept requests that were performed, each once (defined by this project).
use Rattle.std.specs.Prelude.{◌≡◌, ℕ, Bool, true, false, ◌==◌, ◌&&◌, not, if◌then◌else◌, List, [], ◌∷◌, ◌++◌, map, Option, Some, None}
use Rattle.std.specs.List.{fold, flat_map, list_any}
use Rattle.fuse_wire.specs.Ids.{id_of}
use Rattle.fuse_wire.specs.declared.moment.Moment.{Moment}
use Rattle.fuse_request.specs.Act.{Asked, opcode_of}
use Rattle.fuse_request.specs.Opcodes.{Service}
use Rattle.fuse_answer.specs.Said.{Said, FitsAnswer}
use Rattle.fuse_keeper.specs.Model.{Model}

-- a request and its moment
pub record Entry : Type 0 where
  pub asked : Asked
  pub moment : Moment

abbrev pub entry_id : Entry → ℕ
entry_id e = id_of e.asked.header.unique

-- it changes nothing and leaves no record
abbrev pub is_seen : Service → Entry → Bool
is_seen V e = V.sees (opcode_of e.asked.act)

-- the kept requests that were performed, in order
abbrev pub History : Type 0
History = List Entry

-- the state after an entry, and its answer
abbrev pub next_state : (M : Model) → M.State → Entry → M.State
next_state M s e = M.next s e.asked e.moment

abbrev pub answer_to : (M : Model) → M.State → Entry → Said
answer_to M s e = M.answer s e.asked e.moment

-- an entry of the history has this id
unfoldable pub has : History → ℕ → Bool
has [] i = false
has (e ∷ h) i = if entry_id e == i then true else has h i

-- the state after a history
unfoldable pub after : (M : Model) → M.State → History → M.State
after M s [] = s
after M s (e ∷ h) = after M (next_state M s e) h

-- the answer to the entry of this id at its place
unfoldable pub said : (M : Model) → M.State → History → ℕ → Option Said
said M s [] i = None
said M s (e ∷ h) i = if entry_id e == i then Some (answer_to M s e) else said M (next_state M s e) h i

-- no id stands twice
unfoldable pub Distinct : History → Type 0
Distinct [] = Unit {0}
Distinct (e ∷ h) = (has h (entry_id e) ≡ false) × Distinct h

-- one more at the end, unless its id is there
unfoldable pub add : History → Entry → History
add h e = if has h (entry_id e) then h else h ++ e ∷ []

-- kept entries are added in order
abbrev pub grown : History → List Entry → History
grown h es = fold add h es

-- the entry, if it isn't seen
abbrev pub unless_seen : Bool → Entry → List Entry
unless_seen true e = []
unless_seen false e = e ∷ []

abbrev pub kept_one : Service → Entry → List Entry
kept_one V e = unless_seen (is_seen V e) e

-- the kept ones of a group
abbrev pub kept_of : Service → List Entry → List Entry
kept_of V es = flat_map (kept_one V) es

-- the answer to an entry that comes after this history: to a seen one that of the state, to a kept one the one said of its id
abbrev pub answer_if : (M : Model) → Bool → M.State → History → Entry → Option Said
answer_if M true s h e = Some (answer_to M (after M s h) e)
answer_if M false s h e = said M s (add h e) (entry_id e)

abbrev pub answer_after : (M : Model) → M.State → History → Entry → Option Said
answer_after M s h e = answer_if M (is_seen M.service e) s h e

-- the answers to a group, each after the kept entries before it
abbrev pub answers_over : (M : Model) → M.State → History → List Entry → List (Option Said)
answers_over M s h [] = []
answers_over M s h (e ∷ es) = answer_after M s h e ∷ answers_over M s (grown h (kept_one M.service e)) es

-- an entry that is added is there, and when the history grows the answer to an id that is there stays, and no id stands twice. One entry
-- more of a group is answered after the kept ones before it
pub record HistoriesGrow (M : Model) : Type 0 where
  pub added : (h : History) (e : Entry) → has (add h e) (entry_id e) ≡ true
  pub stays : (s : M.State) (h : History) (more : List Entry) (i : ℕ) → has h i ≡ true → said M s (grown h more) i ≡ said M s h i
  pub distinct : (h : History) (more : List Entry) → Distinct h → Distinct (grown h more)
  pub one_more : (s : M.State) (h : History) (es : List Entry) (e : Entry)
      → answers_over M s h (es ++ e ∷ []) ≡ answers_over M s h es ++ answer_after M s (grown h (kept_of M.service es)) e ∷ []

-- whether an id is one of these
abbrev pub is_in : List ℕ → ℕ → Bool
is_in xs i = list_any (λ x. x == i) xs

-- each of the second ids is one of the first
abbrev pub Includes : List ℕ → List ℕ → Type 0
Includes all some = (i : ℕ) → is_in some i ≡ true → is_in all i ≡ true

-- the id is none of the settled ones
abbrev pub IsUnsettled : List ℕ → Entry → Type 0
IsUnsettled settled e = is_in settled (entry_id e) ≡ false

-- the ids of entries
abbrev pub ids_in : List Entry → List ℕ
ids_in group = map entry_id group

-- a kept entry repeats an id that is there
abbrev pub repeats_one : Service → History → Entry → Bool
repeats_one V h e = not (is_seen V e) && has h (entry_id e)

-- which entries of a group repeat an id that was there before
abbrev pub repeats : Service → History → List Entry → List Bool
repeats V h [] = []
repeats V h (e ∷ es) = repeats_one V h e ∷ repeats V (grown h (kept_one V e)) es

-- the answer to an id has no body beside an error, and none that is too long
abbrev pub SaidFits : (M : Model) → Type 0
SaidFits M = (s : M.State) (h : History) (i : ℕ) (a : Said) → said M s h i ≡ Some a → FitsAnswer a
