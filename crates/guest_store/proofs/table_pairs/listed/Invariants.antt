use Rattle.std.proofs.Common.{◌≡◌, ◌++◌, map}
use Rattle.std.specs.Vec.Iter.{into_iter_items}
use Rattle.guest_talk.specs.Showing.{owned_content}
use Rattle.guest_tables.specs.Scanned.{owned_contents}
use Rattle.guest_store.proofs.table_pairs.listed.Given as goal

abbrev pub invariant-loop-pair : goal.invariant-loop-pair
invariant-loop-pair l = map owned_content l.listed.items ++ owned_contents (into_iter_items l.pair-iterator) ≡ owned_contents l.fn.pairs.items
