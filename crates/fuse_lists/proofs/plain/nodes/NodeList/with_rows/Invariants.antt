use Rattle.std.specs.Prelude.{◌≡◌, ◌==◌, ◌++◌, find, map}
use Rattle.std.specs.Option.{option_map}
use Rattle.std.specs.Vec.Iter.{into_iter_items}
use Rattle.fuse_rows.specs.declared.rows.Child.{Child}
use Rattle.fuse_rows.specs.declared.rows.EntryRow.{EntryRow}
use Rattle.fuse_lists.proofs.plain.nodes.NodeList.with_rows.Given as goal

abbrev pub invariant-loop-entry : goal.invariant-loop-entry
invariant-loop-entry l =
    let beside : EntryRow → Child = λ e. record { entry = e; row = option_map (λ f. f.row) (find (λ f. f.row.node == e.child) l.self) } in
    l.children.items ++ map beside (into_iter_items l.entry-iterator) ≡ map beside l.fn.entries.items
