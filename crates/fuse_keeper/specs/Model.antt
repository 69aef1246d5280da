-- A file system: its states, the effect and the answer of each request, and how a state is held (defined by this project).
use Rattle.std.specs.Prelude.{◌≡◌, ℕ, false, Option}
use Rattle.fuse_wire.specs.declared.moment.Moment.{Moment}
use Rattle.fuse_wire.specs.Opcodes.{fuse_init, fuse_destroy}
use Rattle.fuse_request.specs.Act.{Asked}
use Rattle.fuse_request.specs.Act as act
use Rattle.fuse_request.specs.Opcodes.{Service}
use Rattle.fuse_answer.specs.Said.{Said, FitsAnswer}
use Rattle.fuse_init.specs.declared.settings.Settings.{Settings}

pub record Model : Type 1 where
  pub State : Type 0
  -- the rows that a keeper holds for a state, which may be the state itself
  pub Rows : Type 0
  -- the opcodes that it serves beside those of the profile, and those whose requests are seen
  pub service : Service
  -- a new store, made at a moment
  pub start : Moment → State
  -- the state after a request at a moment, and its answer
  pub next : State → Asked → Moment → State
  pub answer : State → Asked → Moment → Said
  -- true of each state that is reached
  pub IsGood : State → Type 0
  pub held_for : State → Rows
  -- the state that a mount begins with
  pub cleared : State → State
  -- the settings of INIT, and how much there is, are read off the rows
  pub settings : Rows → Option Settings
  pub nodes : Rows → ℕ
  pub handles : Rows → ℕ

-- its answers fit, a new store and each later state are good, and a seen request changes nothing. INIT, which agrees on settings, and
-- DESTROY, which ends a session, aren't seen
pub record IsSoundModel (M : Model) : Type 0 where
  pub fits : (s : M.State) (asked : Asked) (now : Moment) → FitsAnswer (M.answer s asked now)
  pub starts : (now : Moment) → M.IsGood (M.start now)
  pub goes_on : (s : M.State) (asked : Asked) (now : Moment) → act.IsKeptFor M.service asked.act → M.IsGood s → M.IsGood (M.next s asked now)
  pub stays : (s : M.State) (asked : Asked) (now : Moment) → act.IsSeenFor M.service asked.act → M.next s asked now ≡ s
  pub keeps_init : M.service.sees fuse_init ≡ false
  pub keeps_destroy : M.service.sees fuse_destroy ≡ false
  pub clears : (s : M.State) → M.IsGood s → M.IsGood (M.cleared s)

-- the same file system, of another service
abbrev pub serving : Service → Model → Model
serving V M = record M { service = V }

-- the rows are those of a good state
unfoldable pub IsOfGoodState : (M : Model) → M.Rows → Type 0
IsOfGoodState M rows = (s : M.State) × M.IsGood s × (rows ≡ M.held_for s)
