-- What is read off the rows of a database is what it holds.
use Rattle.std.proofs.Common.{◌≡◌, ℕ, List, map, Option, refl, ap, ◌∙◌}
use Rattle.sqlite.specs.Effect.{Database}
use Rattle.fuse_keeper.specs.Lots.{SameLots}
use Rattle.fuse_store_tree.specs.Holding.{Holding, HeldFor, lots_as, lots_of}
use Rattle.fuse_store_tree.specs.Lots.{lot_in, record_in_row, lots_read, kept_read, lots_in}
use Rattle.fuse_store_tree.proofs.Decoding.{lots_back, kept_back}
use Rattle.fuse_store_tree.proofs.Tabled.{lots_stored, kept_stored}

module _ (current : Option ℕ) (file : List ℕ) (y : Holding) (d : Database) (at : HeldFor file y d) where
  numbers_are : lots_read d ≡ y.lots
  numbers_are = ap (map lot_in) (lots_stored at.held.0 d at.held.1) ∙ lots_back at.held.0.lots ∙ at.held.2.lots

  kept_is : kept_read d ≡ y.kept
  kept_is = ap (map record_in_row) (kept_stored at.held.0 d at.held.1) ∙ kept_back at.held.0.kept ∙ at.held.2.kept

  pub lots_are_read : lots_in current d ≡ lots_of current y
  lots_are_read = ap (λ l. lots_as current l (kept_read d)) numbers_are ∙ ap (λ ks. lots_as current y.lots ks) kept_is

  pub lots_are_same : SameLots (lots_of current y) (lots_in current d)
  lots_are_same = record {
    numbers = ap (λ l. l.numbers) lots_are_read;
    current = refl;
    under = λ i. ap (λ l. l.under i) lots_are_read;
  }
