-- What the tables of a guest's store hold (defined by this project): the state of the guest's mount, and the records in their lots.
use Rattle.std.specs.Prelude.{◌≡◌, ◌==◌, ℕ, List, if◌then◌else◌, Option, Some, None, option_map}
use Rattle.sqlite.specs.Effect.{Database}
use Rattle.fuse_init.specs.declared.settings.Settings.{Settings}
use Rattle.fuse_keeper.specs.Stands.{Records}
use Rattle.fuse_keeper.specs.Lots.{Lots}
use Rattle.fuse_store_tables.specs.Content.{Kept, kept_key, at_by}
use Rattle.fuse_guest.specs.Pairs.{Pairs}
use Rattle.fuse_guest.specs.GuestModel.{GuestState}
use Rattle.guest_tables.specs.Rows.{pairs_of}
use Rattle.guest_tables.specs.Content.{GuestContent, Holds, value_at, agreed_key, minor_key, readahead_key, flags_key, next_lot_key, number_key, pledged_key}
use Rattle.guest_tables.specs.Opening.{IsFitContent}

-- the state, the records in rising order of their ids, the lots in rising order, the number of the next lot, and the store's own number
pub record GuestHolding : Type 0 where
  pub state : GuestState
  pub kept : List Kept
  pub lots : List ℕ
  pub next_lot : ℕ
  pub number : ℕ

abbrev pub pairs_in : GuestContent → Pairs
pairs_in c = pairs_of c.pairs

-- what INIT agreed on
abbrev pub settings_in : GuestContent → Option Settings
settings_in c =
    if value_at agreed_key c == 0 then None
    else Some (record { minor = value_at minor_key c; max_readahead = value_at readahead_key c; flags = record { 0 = value_at flags_key c } })

abbrev pub state_in : GuestContent → GuestState
state_in c = record { pairs = pairs_in c; settings = settings_in c; pledged = value_at pledged_key c }

abbrev pub holding_in : GuestContent → GuestHolding
holding_in c = record {
  state = state_in c;
  kept = c.kept;
  lots = c.lots;
  next_lot = value_at next_lot_key c;
  number = value_at number_key c;
}

-- the record of each id
abbrev pub records_of : List Kept → Records
records_of kept id = option_map (λ k. k.said) (at_by kept_key id kept)

abbrev pub records_in : GuestHolding → Records
records_in y = records_of y.kept

-- the lots of a holding and the one of this opening, and the lot of each record
abbrev pub lots_in : Option ℕ → GuestHolding → Lots
lots_in current y = record { numbers = y.lots; current = current; under = λ i. option_map (λ k. k.lot) (at_by kept_key i y.kept) }

-- a database of the tables, all of whose rows are right, that holds this
abbrev pub HeldFor : GuestHolding → Database → Type 0
HeldFor y d = (c : GuestContent) × Holds c d × IsFitContent c × (holding_in c ≡ y)
