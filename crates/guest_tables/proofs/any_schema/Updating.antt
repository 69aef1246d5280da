-- An UPDATE of the row with a key.
use Rattle.std.proofs.Common.{◌≡◌, ℕ, List, [], ◌∷◌, map, length, nat_lt, Some, None, Option, refl}
use Rattle.std.specs.Option.{option_to_list, is_some}
use Rattle.sqlite.specs.Order.{Row}
use Rattle.sqlite.specs.Term.{Term, col}
use Rattle.sqlite_schema.specs.declared.program.Program.{Program}
use Rattle.guest_tables.proofs.any_schema.Reading.{plain_query}

-- the rows that pass, their rowids first
abbrev pub changing : ℕ → List Term → List Term → Program
changing tree terms shown = record { lets = []; body = plain_query tree terms (col 1 0 ∷ shown) }

-- whether a row was changed
pub some_changed : {X : Type 0} (o : Option X) (show : X → Row) (n : ℕ) → n ≡ length (map show (option_to_list o)) → nat_lt 0 n ≡ is_some o
some_changed None show n is = rw is refl
some_changed (Some x) show n is = rw is refl
