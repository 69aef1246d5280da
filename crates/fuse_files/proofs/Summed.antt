-- What a summary says of a store.
use Rattle.std.proofs.Common.{◌≡◌, ◌∙◌, Bool, true, false, not, IsTrue, Option, ℕ, List, codes, inl, inr, refl, sym, ap}
use Rattle.std.specs.Option.{is_some}
use Rattle.sqlite_tied.specs.Compute.{everything}
use Rattle.sqlite_schema.specs.Names.{table_named}
use Rattle.sqlite.specs.Schema.{Schema}
use Rattle.sqlite.specs.Effect.{Database}
use Rattle.fuse_keeper.specs.Model.{IsOfGoodState}
use Rattle.fuse_keeper.specs.Stands.{Records}
use Rattle.fuse_keeper.specs.declared.fault.StoreFault.{StoreFault}
use Rattle.fuse_init.specs.declared.profile.Profile.{Profile}
use Rattle.fuse_tree.specs.TheTree.{tree_of}
use Rattle.fuse_tree.specs.State.{profile_of}
use Rattle.fuse_store_tables.specs.Faults.{IsOutside, IsPlain}
use Rattle.fuse_store_tables.specs.Saying.{IsTabled}
use Rattle.sqlite_trees.specs.declared.store.Store.{Ghosts}
use Rattle.sqlite_disk.specs.declared.Disk.{Ghosts as DiskGhosts}
use Rattle.fuse_init.specs.declared.profile.Profile.TheVariants as profiles
use Rattle.fuse_tree.specs.Rowed.{rowed}
use Rattle.fuse_tree.specs.Laws.{RowsTellState}
use Rattle.fuse_store_tables.specs.declared.version.Layout.{Layout}
use Rattle.fuse_store_tables.specs.declared.version.Layout.TheVariants as layouts
use Rattle.fuse_store_tables.specs.Layout.{schema_for, with_kept, with_answers, version_of}
use Rattle.fuse_store_tables.specs.Content.{Content}
use Rattle.fuse_store_tables.specs.Opening.{IsLaid}
use Rattle.fuse_store_tree.specs.Holding.{Holding, HeldFor}
use Rattle.fuse_store_tree.specs.StoreState.{StoreState, IsAtRest}
use Rattle.fuse_store_tables.specs.Moves.{RestsAs}
use Rattle.fuse_store.specs.SecondVersion.{SecondEverydayFor}
use Rattle.fuse_store.specs.StoreKeeper.{own_profile, store_told}
use Rattle.fuse_store.specs.declared.store_keeper.StoreKeeper.{StoreKeeper}
use Rattle.fuse_store.specs.declared.store_keeper.StoreKeeper.TheVariants.{Plain, Everyday}
use Rattle.fuse_store.specs.Opening.{Stored, StoredFor, WasFor, version_for, opened_for}
use Rattle.fuse_store.specs.Opening.Stored.{First, Second, SecondEveryday, Unindexed}
use Rattle.fuse_store_tree.specs.declared.meta.Meta.{Meta}
use Rattle.fuse_store.specs.TableState.{HoldsIn}
use Rattle.fuse_commands.specs.declared.ending.Ending.{Ending}
use Rattle.fuse_commands.specs.Endings.{store_ending}
use Rattle.fuse_commands.specs.declared.ending.Ending.TheVariants as ending
use Rattle.fuse_files.specs.StoreShown.{SaysNothing, Sums}
use Rattle.fuse_files.specs.inner.Showing.{ShowsOver}
use Rattle.fuse_files.proofs.Ends.{says_nothing, plain_so}

abbrev lots_in : Schema → Bool
lots_in s = is_some (table_named s (codes "lots"))

there : (layout : Layout) → lots_in (schema_for layout) ≡ true
unfolding everything
there layouts.Second = refl
there layouts.Third = refl

kept_there : lots_in with_kept ≡ true
unfolding everything
kept_there = refl

not_there : lots_in with_answers ≡ false
unfolding everything
not_there = refl

-- only one of version 1 has no table of lots
later_has : (file : List ℕ) (y : Holding) (d : Database) → HeldFor file y d → lots_in d.schema ≡ true
later_has file y d held = ap lots_in held.held.1.schema ∙ there held.held.0.layout

every_has : (y : Holding) (d : Database) → SecondEverydayFor y d → lots_in d.schema ≡ true
every_has y d held = elim held.held.1 [
  | inl holds ↦ ap lots_in holds.0.schema ∙ there held.held.0.layout
  | inr unindexed ↦ ap lots_in unindexed.0.schema ∙ kept_there
]

pub is_first : (file : List ℕ) (z : Stored) (d : Database) → StoredFor file z d → lots_in d.schema ≡ false → 1 ≡ version_for z
is_first file (First s records) d held is = refl
is_first file (Second y) d held is = let e : true ≡ false = sym (later_has file y d held) ∙ is in absurd (cc)
is_first file (SecondEveryday y) d held is = let e : true ≡ false = sym (every_has y d held) ∙ is in absurd (cc)
is_first file (Unindexed y) d held is = let e : true ≡ false = sym (ap lots_in held.held.1.0.schema ∙ kept_there) ∙ is in absurd (cc)

-- a later one is of the version of its layout
pub is_later : (file : List ℕ) (z : Stored) (d : Database) (layout : Layout) → StoredFor file z d → lots_in d.schema ≡ true
    → ((c : Content) → IsLaid c d → layout ≡ c.layout) → version_of layout ≡ version_for z
is_later file (First s records) d layout held is laid =
    let e : false ≡ true = sym (ap lots_in held.held.1.schema ∙ not_there) ∙ is in absurd (cc)
is_later file (Second y) d layout held is laid =
    let (c, holds, described) = held.held in ap version_of (laid c (inl (inr holds)) ∙ described.layout)
is_later file (SecondEveryday y) d layout held is laid = elim held.held.1 [
  | inl holds ↦ ap version_of (laid held.held.0 (inl (inr holds.0)) ∙ held.held.2.layout)
  | inr unindexed ↦ ap version_of (laid held.held.0 (inr unindexed) ∙ held.held.2.layout)
]
is_later file (Unindexed y) d layout held is laid = ap version_of (laid held.held.0 (inr held.held.1) ∙ held.held.1.1)

pub has_lots : (x shown : Schema) (found : Option ℕ) (b : Bool) → found ≡ table_named shown (codes "lots") → shown ≡ x → is_some found ≡ b
    → is_some (table_named x (codes "lots")) ≡ b
has_lots x shown found b named same is = ap is_some (ap (λ (y : Schema). table_named y (codes "lots")) (sym same) ∙ sym named) ∙ is

pub rests_now : (b t : Bool) → b ≡ not t → t ≡ false → IsTrue b
rests_now b t same is = rw (same, is) refl

-- what holds the rows of a store holds a good state
pub of_good_state : {m : Option Meta} → (p : Profile) (s : StoreState) (rows : _) (records : Records) → (held : HoldsIn p m s rows records) → profile_of held.holding.tree ≡ p → IsOfGoodState (tree_of p) rows
unfolding IsOfGoodState
of_good_state p s rows records held is = (held.holding.tree, record { tree = held.rests.rests.holds.0.tree; profile = is }, held.is_of.rows_are)

-- the rows of a store that a keeper holds are those of a good state
pub good_held : {S D : Type 0} (g : Ghosts S) (h : DiskGhosts D) → RowsTellState → (k : StoreKeeper S D) (z : Stored) (records : Records)
    → (store_told g h k).holds (rowed (opened_for z).tree) records → profile_of (opened_for z).tree ≡ own_profile k → IsOfGoodState (tree_of (own_profile k)) (rowed (opened_for z).tree)
good_held g h told (Plain k) z records held is =
    of_good_state profiles.Plain _ _ _ held (ap profile_of (sym (told _ _ held.is_of.rows_are)) ∙ is)
good_held g h told (Everyday k) z records held is =
    of_good_state profiles.Everyday _ _ _ held (ap profile_of (sym (told _ _ held.is_of.rows_are)) ∙ is)

-- its tables rest so
pub rests_for : (m : Option Meta) (y : Holding) (s : StoreState) → IsAtRest m y s → RestsAs (HeldFor s.contents.seen y) s.tables
rests_for m y s at = record { is_open = at.rests.is_open; autocommit = at.rests.autocommit; holds = at.rests.holds.0; committed = at.rests.committed }

-- ---- its ending

pub nothing_summed : (z : Stored) (now : Option (List ℕ)) (e : Ending) → SaysNothing e → Sums z now now e
nothing_summed z now ending.Memory so = (tt, refl)
nothing_summed z now (ending.Sql _) so = (tt, refl)
nothing_summed z now _ so = absurd so

pub not_summed : (s : StoreState) (now : Option (List ℕ)) (f : StoreFault) (e : Ending) → e ≡ store_ending f → IsTabled s.tables.now → IsPlain f
    → ((z : Stored) → WasFor z s → IsOutside f) → ShowsOver (λ z. Sums z now now e) s e
not_summed s now f e same tabled plain outside =
    rw same (record {
      shown = λ z was. nothing_summed z now (store_ending f) (says_nothing f (outside z was));
      says = plain_so s.tables.now tabled f plain;
    })
