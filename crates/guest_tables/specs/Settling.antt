-- The settings in the rows of `meta` (defined by this project).
use Rattle.fuse_init.specs.declared.settings.Settings.{Settings}
use Rattle.std.specs.Prelude.{ℕ}
use Rattle.guest_tables.specs.Content.{GuestContent, set_counter, agreed_key, minor_key, readahead_key, flags_key, pledged_key}

-- INIT agreed on these, and this was served then
abbrev pub with_settings : Settings → ℕ → GuestContent → GuestContent
with_settings s pledged c =
    set_counter pledged_key pledged (set_counter flags_key s.flags.0 (set_counter readahead_key s.max_readahead (set_counter minor_key s.minor
    (set_counter agreed_key 1 c))))
