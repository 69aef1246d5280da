-- The statements that take rows out.
use Rattle.std.proofs.Common.{ℕ, List, [], ◌∷◌}
use Rattle.sqlite.specs.Term.{Term, col}
use Rattle.sqlite_schema.specs.declared.program.Program.{Program}
use Rattle.guest_tables.proofs.any_schema.Reading.{plain_query}

-- the rows that pass the terms are asked for by their rowids
abbrev pub picking : ℕ → List Term → Program
picking tree terms = record { lets = []; body = plain_query tree terms (col 1 0 ∷ []) }
