-- The content of the tables after the begin of a mount (defined by this project).
use Rattle.std.specs.Prelude.{[]}
use Rattle.guest_tables.specs.Content.{GuestContent, set_counter, agreed_key, minor_key, readahead_key, flags_key, pledged_key}

abbrev pub without_settings : GuestContent → GuestContent
without_settings c = set_counter pledged_key 0 (set_counter flags_key 0 (set_counter readahead_key 0 (set_counter minor_key 0 (set_counter agreed_key 0 c))))

-- without records, lots, settings, and what was pledged; the pairs stay
abbrev pub cleared : GuestContent → GuestContent
cleared c = record (without_settings c) { lots = []; kept = [] }
