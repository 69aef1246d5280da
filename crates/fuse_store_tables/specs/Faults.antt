-- The faults of a store, by what they say of its tables (defined by this project).
use Rattle.std.specs.Prelude.{⊤}
use Rattle.fuse_keeper.specs.declared.fault.StoreFault.{StoreFault}
use Rattle.fuse_keeper.specs.declared.fault.StoreFault.TheVariants.{Memory, Sql, NotAStore, Version, Damaged, Guest}

-- a fault that says nothing of the store: out of memory, or of SQL
abbrev pub IsOutside : StoreFault → Type 0
IsOutside Memory = ⊤
IsOutside (Sql e) = ⊤
IsOutside _ = ⊥

-- a fault other than `NotAStore` and `Version`; and tables have no guest
abbrev pub IsPlain : StoreFault → Type 0
IsPlain NotAStore = ⊥
IsPlain (Version n) = ⊥
IsPlain Guest = ⊥
IsPlain _ = ⊤

-- out of memory, or damage: of a column that has another value than it may
abbrev pub IsMisread : StoreFault → Type 0
IsMisread Memory = ⊤
IsMisread Damaged = ⊤
IsMisread _ = ⊥
