-- A store that is opened over any database.
use Rattle.std.proofs.Common.{ℕ, ◌≡◌, false, true, Bool, nat_lt, length, IsTrue, [], None, Result, Ok, Err, IfOk, codes, refl, inl, inr, sym, ap, ◌∙◌}
use Rattle.sqlite_tied.specs.Compute.{everything}
use Rattle.std.specs.Option.{is_some}
use Rattle.sqlite_schema.specs.Names.{table_named}
use Rattle.sqlite.specs.Schema.{Schema}
use Rattle.sqlite.specs.Effect.{Database}
use Rattle.sqlite_trees.specs.declared.store.Store.{Ghosts}
use Rattle.sqlite_disk.specs.declared.Disk as disk
use Rattle.sqlite.specs.State.{State, HasCleanDisk}
use Rattle.sqlite.specs.Held.{state}
use Rattle.fuse_store.specs.declared.store_keeper.StoreKeeper.{StoreKeeper}
use Rattle.fuse_store.specs.declared.store_keeper.StoreKeeper.TheVariants.{Plain, Everyday}
use Rattle.fuse_store.specs.StoreKeeper.{own_conn, store_told}
use Rattle.fuse_init.specs.declared.profile.Profile.{Profile}
use Rattle.fuse_tree.specs.Rowed.{rowed}
use Rattle.fuse_keeper.specs.KeeperState.{KeeperState, StandsFor}
use Rattle.fuse_keeper.specs.Lots.{SameLots}
use Rattle.fuse_store_tables.specs.Content.{Content}
use Rattle.fuse_store_tables.specs.declared.version.Layout.{Layout}
use Rattle.fuse_store_tables.specs.declared.version.Layout.TheVariants.{Second, Third}
use Rattle.fuse_store_tables.specs.Layout.{no_schema, schema_for}
use Rattle.fuse_store_tables.specs.Moves.{RestsAs}
use Rattle.fuse_store_tables.specs.Opening.{IsStored}
use Rattle.fuse_store_tables.specs.Saying.{IsTabled}
use Rattle.fuse_store_tree.specs.Store.{records_of}
use Rattle.fuse_store_tree.specs.StoreState.{StoreState}
use Rattle.fuse_store_tree.specs.Holding.{lots_of}
use Rattle.fuse_tree.specs.TheTree.{tree_of}
use Rattle.fuse_tree.specs.State.{profile_of}
use Rattle.fuse_store.specs.declared.new_store.NewStore.{NewStore}
use Rattle.fuse_store.specs.Creating.{IsBlank}
use Rattle.fuse_store.specs.Opening.{Stored, WasFor, opened_for}
use Rattle.fuse_store.specs.Starting.{BeginsAfter, begun_for, holding_for}
use Rattle.fuse_store_files.specs.declared.files.Opening.TheVariants.{Existing, Any, Fresh}
use Rattle.fuse_store_files.specs.inner.Opened.{OpensOver}

abbrev has_any : Schema → Bool
has_any s = nat_lt 0 (length s.tables)

not_none : (s : Schema) → has_any s ≡ true → s ≡ no_schema → ⊥
unfolding everything
not_none s has none = let e : false ≡ true = ap has_any (sym none) ∙ has in absurd (cc)

-- a database with tables isn't blank
pub tabled_is_not_blank : (d : Database) → d.schema ≡ no_schema → IsTabled d → ⊥
unfolding everything
tabled_is_not_blank d none (inl it) = not_none d.schema (ap has_any it.1) none
tabled_is_not_blank d none (inr it) = elim it [
  | inl second ↦ elim second.1 [
    | inl is ↦ not_none d.schema (ap has_any is) none
    | inr is ↦ not_none d.schema (ap has_any is) none
  ]
  | inr third ↦ not_none d.schema (ap has_any third.1) none
]

abbrev pub has_meta : Schema → Bool
has_meta s = is_some (table_named s (codes "meta"))

pub meta_is_there : (layout : Layout) → has_meta (schema_for layout) ≡ true
unfolding everything
meta_is_there Second = refl
meta_is_there Third = refl

pub not_blank : (s : Schema) → has_meta s ≡ true → s ≡ no_schema → ⊥
unfolding everything
not_blank s has none = let e : false ≡ true = ap has_meta (sym none) ∙ has in absurd (cc)

-- a store isn't blank
pub stored_is_not_blank : (s : State) (c : Content) → RestsAs (IsStored c) s → IsBlank s → ⊥
unfolding everything
stored_is_not_blank s c at blank = elim at.holds [
  | inl whole ↦ elim whole [
    | inl first ↦ not_blank s.now.schema (ap has_meta first.holds.0.schema) blank.1
    | inr second ↦ not_blank s.now.schema (ap has_meta second.holds.schema ∙ meta_is_there c.layout) blank.1
  ]
  | inr unindexed ↦ not_blank s.now.schema (ap has_meta unindexed.holds.0.schema) blank.1
]

module _ (s : StoreState) (p : Profile) (k : KeeperState (tree_of p)) (profile : (z : Stored) → WasFor z s → profile_of (opened_for z).tree ≡ p) where
  pub over_existing : (n : ℕ) → ((z : Stored) → WasFor z s → k.holds (rowed (opened_for z).tree) (records_of (opened_for z).kept))
      → ((z : Stored) → WasFor z s → SameLots (lots_of None (opened_for z)) k.lots) → IsTabled s.tables.now → OpensOver p (Existing n) s k
  over_existing n holds lots tabled = record {
    profile = profile;
    keeps = λ z was. record { held = holds z was; lots = lots z was };
    begins = λ z was. tt;
    makes = λ blank is_open. tabled_is_not_blank s.tables.now blank.1 tabled;
  }

  pub over_any : (new : NewStore) → ((z : Stored) → WasFor z s → k.holds (rowed (opened_for z).tree) (records_of (opened_for z).kept))
      → ((z : Stored) → WasFor z s → SameLots (lots_of None (opened_for z)) k.lots) → (IsBlank s.tables → IsTrue s.tables.is_open → StandsFor k (holding_for new).tree [] [])
      → (IsBlank s.tables → IsTrue s.tables.is_open → SameLots (lots_of None (holding_for new)) k.lots) → (IsBlank s.tables → p ≡ new.kind.profile) → OpensOver p (Any new) s k
  over_any new holds lots stands new_lots made = record {
    profile = profile;
    keeps = λ z was. record { held = holds z was; lots = lots z was };
    begins = λ z was. tt;
    makes = λ blank is_open. record { profile = made blank; stands = stands blank is_open; lots = new_lots blank is_open };
  }

  pub over_fresh : (new : NewStore) → ((z : Stored) → WasFor z s → k.holds (rowed (begun_for z).tree) (records_of (begun_for z).kept))
      → ((z : Stored) → WasFor z s → SameLots (lots_of None (begun_for z)) k.lots) → ((z : Stored) → WasFor z s → BeginsAfter p z k)
      → (IsBlank s.tables → IsTrue s.tables.is_open → StandsFor k (holding_for new).tree [] [])
      → (IsBlank s.tables → IsTrue s.tables.is_open → SameLots (lots_of None (holding_for new)) k.lots) → (IsBlank s.tables → p ≡ new.kind.profile) → OpensOver p (Fresh new) s k
  over_fresh new holds lots begins stands new_lots made = record {
    profile = profile;
    keeps = λ z was. record { held = holds z was; lots = lots z was };
    begins = begins;
    makes = λ blank is_open. record { profile = made blank; stands = stands blank is_open; lots = new_lots blank is_open };
  }

-- the disk of an honest keeper's connection has returned what was written
pub honest_conn : {S D : Type 0} (g : Ghosts S) (h : disk.Ghosts D) (k : StoreKeeper S D) → (store_told g h k).is_honest → HasCleanDisk (state g (own_conn k))
honest_conn g h (Plain k) clean = clean.0
honest_conn g h (Everyday k) clean = clean.0

pub clean_kept : {S D E : Type 0} (g : Ghosts S) (h : disk.Ghosts D) (r : Result (StoreKeeper S D) E)
    → IfOk r (λ k. (store_told g h k).is_honest → HasCleanDisk (state g (own_conn k)))
clean_kept g h (Ok k) = honest_conn g h k
clean_kept g h (Err e) = tt

-- ---- several claims of one result

pub ok_of_4 : {X E : Type 0} (r : Result X E) (A B C D Z : X → Type 0) → ((x : X) → A x → B x → C x → D x → Z x) → IfOk r A → IfOk r B → IfOk r C → IfOk r D
    → IfOk r Z
ok_of_4 (Ok x) A B C D Z f a b c d = f x a b c d
ok_of_4 (Err e) A B C D Z f a b c d = tt

pub ok_of_7 : {X E : Type 0} (r : Result X E) (A B C D F G H Z : X → Type 0) → ((x : X) → A x → B x → C x → D x → F x → G x → H x → Z x)
    → IfOk r A → IfOk r B → IfOk r C → IfOk r D → IfOk r F → IfOk r G → IfOk r H → IfOk r Z
ok_of_7 (Ok x) A B C D F G H Z f a b c d e i j = f x a b c d e i j
ok_of_7 (Err e) A B C D F G H Z f a b c d e' i j = tt
