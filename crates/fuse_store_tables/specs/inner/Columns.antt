-- The values of columns, as they are read and written (defined by this project).
use Rattle.std.specs.Prelude.{ℕ, pos, [], ◌∷◌, if◌then◌else◌}
use Rattle.sqlite.specs.declared.types.Value.TheVariants.{Int}
use Rattle.sqlite.specs.Order.{Row, column}
use Rattle.fuse_rows.specs.declared.rows.NodeRow.{NodeRow}
use Rattle.fuse_store_tables.specs.declared.version.Layout.{Layout}
use Rattle.fuse_store_tables.specs.Content.{Counter, node_columns}
use Rattle.sqlite.specs.declared.error.Error.{Error}
use Rattle.fuse_keeper.specs.declared.fault.StoreFault.{StoreFault}
use Rattle.fuse_keeper.specs.declared.fault.StoreFault.TheVariants.{Memory, Damaged}
use Rattle.fuse_keeper.specs.Faults.{is_memory}
use Rattle.sqlite.specs.declared.types.Value.{Value}

abbrev pub given_node : Layout → NodeRow → Row
given_node layout n = Int (pos n.node) ∷ node_columns layout n

-- the fault of a column that could not be read: damage, unless memory ran out
abbrev pub misread_as : Error → StoreFault
misread_as e = if is_memory e then Memory else Damaged

abbrev pub shown_number : ℕ → Row
shown_number n = Int (pos n) ∷ []

abbrev pub number_in : Value → ℕ
number_in (Int (pos n)) = n
number_in _ = 0

-- the number in the first column
abbrev pub number_of_row : Row → ℕ
number_of_row row = number_in (column row 0)

abbrev pub shown_meta : Counter → Row
shown_meta c = Int (pos c.key) ∷ Int (pos c.value) ∷ []
