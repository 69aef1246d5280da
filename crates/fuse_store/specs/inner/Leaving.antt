-- What an open finds of what a crash left (defined by this project). The proofs are here because the crates above cite them.
use Rattle.std.proofs.Common.{◌≡◌, IsTrue, List, ℕ, inl, inr, sym, subst}
use Rattle.std.specs.List.{AllByRecursion}
use Rattle.sqlite.specs.Tree.{Trees}
use Rattle.sqlite.specs.Schema.{Schema}
use Rattle.sqlite.specs.Effect.{Database, IsDatabase}
use Rattle.sqlite.specs.State.{State, IsLive}
use Rattle.sqlite_trees.specs.Objects.{catalog_tree}
use Rattle.sqlite_catalog.specs.Listing.{Lists}
use Rattle.sqlite_catalog.proofs.ReadLemmas.{lists_once}
use Rattle.fuse_store_tables.specs.Layout.{with_answers, with_kept, schema_for}
use Rattle.fuse_store_tables.specs.Content.{Content, HoldsAs, HasRows, LeftAs, stored}
use Rattle.fuse_store_tables.specs.Moves.{RestsAs}
use Rattle.fuse_store_tables.specs.Opening.{HoldsUnindexed}
use Rattle.fuse_store_tables.specs.ToCount.{HoldsOfSecond}
use Rattle.fuse_store.specs.Opening.{Stored, First, Second, Unindexed, SecondEveryday, StoredFor, WasOver}

-- trees list one schema alone
schema_is : (layout : Schema) (held : Trees) (d e : Database) → IsDatabase d → HoldsAs layout held e → e.trees ≡ d.trees → d.schema ≡ layout
schema_is layout held d e sound left same =
    lists_once (d.trees catalog_tree) d.schema layout sound.lists
    (subst (λ (t : Trees). Lists (t catalog_tree) layout) same (subst (λ (s : Schema). Lists (e.trees catalog_tree) s) left.schema left.sound.lists))

holds_left : (layout : Schema) (held : Trees) (d e : Database) → IsDatabase d → HoldsAs layout held e → e.trees ≡ d.trees → HoldsAs layout held d
holds_left layout held d e sound left same = record {
  schema = schema_is layout held d e sound left same;
  sound = sound;
  rows = subst (λ (t : Trees). AllByRecursion (HasRows held t) layout.tables) same left.rows;
}

unindexed_left : (c : Content) (d e : Database) → IsDatabase d → HoldsUnindexed c e → e.trees ≡ d.trees → HoldsUnindexed c d
unindexed_left c d e sound at same = (holds_left with_kept (stored c) d e sound at.0 same, at.1)

pub stored_left : (file : List ℕ) (z : Stored) (d : Database) → IsDatabase d → LeftAs (StoredFor file z) d.trees → StoredFor file z d
stored_left file (First tree answers) d sound (e, at, same) =
    record { tree = at.tree; plain = at.plain; held = (at.held.0, holds_left with_answers (stored at.held.0) d e sound at.held.1 same, at.held.2) }
stored_left file (Second y) d sound (e, at, same) = record {
  tree = at.tree;
  below = at.below;
  next = at.next;
  held = (at.held.0, holds_left (schema_for at.held.0.layout) (stored at.held.0) d e sound at.held.1 same, at.held.2);
}
stored_left file (Unindexed y) d sound (e, at, same) = record {
  tree = at.tree;
  below = at.below;
  next = at.next;
  held = (at.held.0, unindexed_left at.held.0 d e sound at.held.1 same, at.held.2);
}
stored_left file (SecondEveryday y) d sound (e, at, same) = record {
  tree = at.tree;
  everyday = at.everyday;
  below = at.below;
  next = at.next;
  held = (at.held.0, left at.held.1, at.held.2);
}
  where
    left : HoldsOfSecond at.held.0 e → HoldsOfSecond at.held.0 d
    left (inl h) = inl (holds_left (schema_for at.held.0.layout) (stored at.held.0) d e sound h.0 same, h.1)
    left (inr h) = inr (unindexed_left at.held.0 d e sound h same)

-- a store that was left so rests so
pub rests_was : (file : List ℕ) (z : Stored) (s : State) → IsLive s → (IsTrue s.is_open → s.now ≡ s.committed) → WasOver file z s → RestsAs (StoredFor file z) s
rests_was file z s live settled was = record {
  is_open = was.0;
  autocommit = was.1;
  holds = subst (StoredFor file z) (sym (settled was.0)) (stored_left file z s.committed (live was.0).1 was.2);
  committed = sym (settled was.0);
}
