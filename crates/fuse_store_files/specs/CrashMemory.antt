-- A file in memory, of which a crash leaves what was synced last (defined by this project).
use Rattle.std.specs.Prelude.{ℕ, List, option_map, unwrap_or}
use Rattle.fuse_store_files.specs.declared.crash_memory.CrashMemory.{CrashMemory}

-- what a read returns
abbrev pub bytes_in : CrashMemory → List ℕ
bytes_in m = m.bytes.items

-- what was synced last
abbrev pub synced_in : CrashMemory → List ℕ
synced_in m = unwrap_or (option_map (λ v. v.items) m.synced) m.bytes.items
