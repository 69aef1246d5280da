-- Rows of the tables by their keys, which are numbers from 0 on.
use Rattle.std.proofs.Common.{◌≡◌, ◌<◌, ℕ, pos, List, [], ◌∷◌, map, Bool, true, false, ◌&&◌, Less, Some, refl, sym, arith, ◌∙◌, int_cmp}
use Rattle.std.specs.List.{AllByRecursion}
use Rattle.std.specs.Ordering.{nat_cmp}
use Rattle.std.proofs.lemmas.Bool.Decides.{nat_tests}
use Rattle.sqlite.specs.declared.types.Value.TheVariants.{Int}
use Rattle.sqlite_sql.specs.Ops.{is_true, from_truth}
use Rattle.sqlite_trees.specs.Tree.{IsTable, rowid}
use Rattle.sqlite_value.specs.Order.{value_cmp}
use Rattle.sqlite_value.proofs.OrderLemmas.{value_cmp-Int}
use Rattle.fuse_store_tables.specs.Blocks.{Block, block_row}
use Rattle.fuse_store_tree.proofs.Described.{Rises}

same_order : (m n : ℕ) → int_cmp (pos m) (pos n) ≡ nat_cmp m n
same_order m n = grind (arith, nat_tests)

pub number_order : (m n : ℕ) → value_cmp (Int (pos m)) (Int (pos n)) ≡ nat_cmp m n
number_order m n = value_cmp-Int (pos m) (pos n) ∙ same_order m n

pub truth_is : (b : Bool) → (is_true (from_truth (Some b)) && true) ≡ b
truth_is true = refl
truth_is false = refl

below : (a b : ℕ) → nat_cmp a b ≡ Less → a < b
below a b is = grind (arith, nat_tests)

all_above : (x : Block) (ys : List Block) → AllByRecursion (λ r. value_cmp (rowid (block_row x)) (rowid r) ≡ Less) (map block_row ys)
    → AllByRecursion (λ (y : Block). x.slot < y.slot) ys
all_above x [] above = tt
all_above x (y ∷ ys) above = (below x.slot y.slot (sym (number_order x.slot y.slot) ∙ above.0), all_above x ys above.1)

pub slots_rise : (xs : List Block) → IsTable (map block_row xs) → Rises (λ (b : Block). b.slot) xs
slots_rise [] rise = tt
slots_rise (x ∷ xs) rise = (all_above x xs rise.0, slots_rise xs rise.1)
