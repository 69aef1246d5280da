-- The content of the tables between the steps of a new store and of the begin of a mount (defined by this project).
use Rattle.std.specs.Prelude.{ℕ, []}
use Rattle.guest_tables.specs.Content.{GuestContent, set_counter, agreed_key, minor_key, readahead_key, flags_key, pledged_key}

abbrev pub agreement_set : ℕ → ℕ → ℕ → GuestContent → GuestContent
agreement_set agreed minor readahead c = set_counter readahead_key readahead (set_counter minor_key minor (set_counter agreed_key agreed c))

abbrev pub settings_set : ℕ → ℕ → ℕ → ℕ → ℕ → GuestContent → GuestContent
settings_set agreed minor readahead flags pledged c = set_counter pledged_key pledged (set_counter flags_key flags (agreement_set agreed minor readahead c))

abbrev pub without_lots : GuestContent → GuestContent
without_lots c = record c { lots = [] }

abbrev pub without_all_kept : GuestContent → GuestContent
without_all_kept c = record c { kept = [] }

abbrev pub without_records : GuestContent → GuestContent
without_records c = without_lots (without_all_kept c)
