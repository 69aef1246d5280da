-- What the steps of a keeper keep of a guest's tables, and what they make of what the tables hold (defined by this project).
use Rattle.std.specs.Prelude.{◌≡◌, ◌<◌, ◌^◌, ◌+◌, ℕ, [], Some}
use Rattle.fuse_init.specs.declared.settings.Settings.{Settings}
use Rattle.fuse_guest.specs.GuestModel.{new_guest_store, cleared_guest}
use Rattle.fuse_store_tables.specs.Content.{Kept, kept_key, put_by, without_by}
use Rattle.guest_tables.specs.Content.{GuestContent, put_kept, without_kept, without_four, with_next_lot}
use Rattle.guest_tables.specs.Clearing.{cleared}
use Rattle.guest_tables.specs.Holding.{GuestHolding, holding_in, pairs_in}
use Rattle.guest_tables.specs.Making.{new_content}
use Rattle.guest_tables.specs.Opening.{IsFitContent, IsRecord}
use Rattle.guest_tables.specs.Settling.{with_settings}

-- the numbers are those of their types
pub record FitsSettings (s : Settings) (opcodes : ℕ) : Type 0 where
  pub minor : s.minor < 2 ^ 32
  pub readahead : s.max_readahead < 2 ^ 32
  pub flags : s.flags.0 < 2 ^ 64
  pub pledged : opcodes < 2 ^ 64

-- rows in order stay so
pub record StepsFit : Type 0 where
  pub made : (number : ℕ) → number < 2 ^ 63 → IsFitContent (new_content number)
  pub put : (k : Kept) (c : GuestContent) → IsRecord k → IsFitContent c → IsFitContent (put_kept k c)
  pub gone : (id : ℕ) (c : GuestContent) → IsFitContent c → IsFitContent (without_kept id c)
  pub four : (first second third last : ℕ) (c : GuestContent) → IsFitContent c → IsFitContent (without_four first second third last c)
  pub next : (c : GuestContent) → (holding_in c).next_lot < 2 ^ 62 → IsFitContent c → IsFitContent (with_next_lot c)
  pub settled : (s : Settings) (pledged : ℕ) (c : GuestContent) → FitsSettings s pledged → IsFitContent c → IsFitContent (with_settings s pledged c)
  pub cleared : (c : GuestContent) → IsFitContent c → IsFitContent (cleared c)

abbrev pub new_holding : ℕ → GuestHolding
new_holding number = record { state = new_guest_store; kept = []; lots = []; next_lot = 1; number = number }

-- the pairs and the next lot stay
abbrev pub cleared_holding : GuestHolding → GuestHolding
cleared_holding y = record y { state = cleared_guest y.state; kept = []; lots = [] }

abbrev pub settled_holding : Settings → ℕ → GuestHolding → GuestHolding
settled_holding s pledged y = record y { state = record { pairs = y.state.pairs; settings = Some s; pledged = pledged } }

abbrev pub next_holding : GuestHolding → GuestHolding
next_holding y = record y { lots = put_by (λ n. n) y.next_lot y.lots; next_lot = y.next_lot + 1 }

-- each step, by what is held
pub record StepsHold : Type 0 where
  pub made : (number : ℕ) → holding_in (new_content number) ≡ new_holding number
  pub put : (k : Kept) (c : GuestContent) → holding_in (put_kept k c) ≡ record (holding_in c) { kept = put_by kept_key k c.kept }
  pub gone : (id : ℕ) (c : GuestContent) → holding_in (without_kept id c) ≡ record (holding_in c) { kept = without_by kept_key id c.kept }
  pub next : (c : GuestContent) → IsFitContent c → holding_in (with_next_lot c) ≡ next_holding (holding_in c)
  pub settled : (s : Settings) (pledged : ℕ) (c : GuestContent) → IsFitContent c → holding_in (with_settings s pledged c) ≡ settled_holding s pledged (holding_in c)
  pub cleared : (c : GuestContent) → IsFitContent c → holding_in (cleared c) ≡ cleared_holding (holding_in c)
