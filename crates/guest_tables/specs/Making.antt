-- The content of a guest's new store (defined by this project).
use Rattle.std.specs.Prelude.{ℕ, List, [], ◌∷◌, ⊤}
use Rattle.sqlite.specs.Effect.{Database}
use Rattle.fuse_store_tables.specs.Content.{Counter}
use Rattle.fuse_store_tables.specs.Making.{counter}
use Rattle.guest_tables.specs.Layout.{guest_version}
use Rattle.guest_tables.specs.Content.{GuestContent, agreed_key, minor_key, readahead_key, flags_key, next_lot_key, number_key, version_key, pledged_key}
use Rattle.guest_tables.specs.Opening.{IsStored}

-- the rows of `meta`, with the number of the store
abbrev pub first_counters : ℕ → List Counter
first_counters number =
    counter agreed_key 0 ∷ counter minor_key 0 ∷ counter readahead_key 0 ∷ counter flags_key 0 ∷ counter next_lot_key 1 ∷ counter number_key number
    ∷ counter version_key guest_version
    ∷ counter pledged_key 0 ∷ []

abbrev pub new_content : ℕ → GuestContent
new_content number = record { counters = first_counters number; pairs = []; lots = []; kept = [] }

abbrev pub IsNew : ℕ → ⊤ → Database → Type 0
IsNew number _ = IsStored (new_content number)
