-- An input, read piece by piece (defined by this project).
use Rattle.std.specs.Prelude.{◌+◌, ◌-◌, ◌^◌, ℕ, List, min, Option}
use Rattle.fuse_commands.specs.declared.progress.ProgressLine.{ProgressLine}
use Rattle.fuse_commands.specs.declared.progress.ProgressReader.{ProgressReader}

-- the inner reader
abbrev pub reader_in : {R : Type 0} → {T : Type 0} → ProgressReader R T → R
reader_in p = p.reader

-- the unread bytes of the inner reader, if known
abbrev pub remaining_in : {R : Type 0} → {T : Type 0} → (R → Option (List ℕ)) → ProgressReader R T → Option (List ℕ)
remaining_in remaining p = remaining p.reader

-- its progress line
abbrev pub progress_line_of : {R : Type 0} → {T : Type 0} → ProgressReader R T → ProgressLine
progress_line_of p = p.line

-- the line after n more bytes, at most 2^64 - 1
abbrev pub read_more : ProgressLine → ℕ → ProgressLine
read_more line n = record line { read = min (line.read + n) (2 ^ 64 - 1) }
