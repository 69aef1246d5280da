-- The tables of version 2, and a look whether its blocks are to be counted (defined by this project).
use Rattle.std.specs.Prelude.{◌≡◌, ◌⊎◌, false}
use Rattle.sqlite.specs.Schema.{Schema}
use Rattle.sqlite.specs.Tree.{Trees}
use Rattle.sqlite.specs.Effect.{Database}
use Rattle.sqlite.specs.State.{State, HasCleanDisk}
use Rattle.sqlite_trees.specs.Tree.{IsAscending}
use Rattle.fuse_store_tables.specs.declared.version.Layout.TheVariants.{Second}
use Rattle.fuse_store_tables.specs.Blocks.{is_at}
use Rattle.fuse_store_tables.specs.Layout.{with_kept, store_schema}
use Rattle.fuse_store_tables.specs.Content.{Content, HoldsIn}
use Rattle.fuse_store_tables.specs.Opening.{HoldsUnindexed}

-- with the index or without it
abbrev pub IsOfSecond : Schema → Type 0
IsOfSecond s = (s ≡ store_schema) ⊎ (s ≡ with_kept)

abbrev pub HoldsOfSecond : Content → Database → Type 0
HoldsOfSecond c d = HoldsIn Second c d ⊎ HoldsUnindexed c d

-- no two rows of `blocks` have the same block of a node
abbrev pub BlocksAreApart : Type 0
BlocksAreApart = (c : Content) (d : Database) → HoldsOfSecond c d → IsAscending (λ a b. is_at a.node a.block b ≡ false) c.blocks

-- the connection sees what it saw, and a crash leaves what it left
pub record SeesTheSame (old new : State) : Type 0 where
  pub now : HasCleanDisk new → new.now ≡ old.now
  pub committed : HasCleanDisk new → new.committed ≡ old.committed
  pub mode : HasCleanDisk new → new.in_transaction ≡ old.in_transaction
  pub leaves : HasCleanDisk new → (db : Trees) → old.may_leave db → new.may_leave db
