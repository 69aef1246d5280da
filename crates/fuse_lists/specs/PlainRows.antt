-- The rows that lists hold (defined by this project).
use Rattle.std.specs.Prelude.{if◌then◌else◌, Option, Some, None}
use Rattle.fuse_tree.specs.declared.look.LookFault.{LookFault}
use Rattle.fuse_tree.specs.declared.look.LookFault.TheVariants.{Memory}
use Rattle.fuse_lists.specs.declared.plain.PlainRows.{PlainRows}
use Rattle.fuse_rows.specs.Rows.{Rows}

abbrev pub rows_of : PlainRows → Rows
rows_of p = record { nodes = p.nodes; entries = p.entries.items; handles = p.handles.items; counters = p.counters; settings = p.settings }

-- the fault of a look, once there was one: a look in lists fails only where it is out of memory
abbrev pub lists_fault : PlainRows → Option LookFault
lists_fault p = if p.failed then Some Memory else None
