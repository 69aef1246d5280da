-- A start over any database.
use Rattle.std.proofs.Common.{◌≡◌, ℕ, List, false, IsTrue, codes, sym, subst, refl}
use Rattle.std.specs.Option.{is_some}
use Rattle.sqlite.specs.Schema.{Schema}
use Rattle.sqlite.specs.State.{State, IsLive, Survives}
use Rattle.sqlite.proofs.StateLemmas.{survives_weaker}
use Rattle.sqlite_schema.specs.Names.{table_named}
use Rattle.fuse_keeper.specs.declared.fault.StoreFault.{StoreFault}
use Rattle.fuse_keeper.specs.declared.fault.StoreFault.TheVariants.{Memory, Sql, NotAStore, Version, Damaged, Guest}
use Rattle.fuse_store_tree.specs.StoreState.{StoreState}
use Rattle.fuse_store_tables.specs.Faults.{IsOutside}
use Rattle.fuse_store_tables.specs.Saying.{IsRefusal}
use Rattle.fuse_store_tables.specs.Layout.{no_schema}
use Rattle.fuse_store_tables.specs.Making.{IsBare}
use Rattle.fuse_store_tables.specs.Moves.{RestsAs}
use Rattle.fuse_store.specs.declared.new_store.NewStore.{NewStore}
use Rattle.fuse_store.specs.Creating.{IsBlank, LeavesNew, origin_of}
use Rattle.fuse_store.specs.Opening.{Stored, WasFor, WasOver, LeavesOver, opened_for}
use Rattle.fuse_store.specs.Starting.{LeavesStarted, LeavesFresh, begun_for}
use Rattle.fuse_store.proofs.Reopening.{has_meta, no_none}
use Rattle.fuse_store.specs.inner.Leaving.{rests_was}

-- where nothing was made, nothing is stored
pub unstored : (s : State) → IsLive s → (IsTrue s.is_open → s.now ≡ s.committed) → s.now.schema ≡ no_schema → (file : List ℕ) (z : Stored) → WasOver file z s → ⊥
unstored s live settled empty file z was =
    no_none (table_named s.now.schema (codes "meta")) 0 (has_meta file z s.now (rests_was file z s live settled was).holds)
    (subst (λ (t : Schema). is_some (table_named t (codes "meta")) ≡ false) (sym empty) refl)

-- lack of memory and an error of SQL refuse nothing
pub no_refusal : {Y : Type 0} (f : StoreFault) → IsOutside f → IsRefusal f → Y
no_refusal Memory outside refused = absurd refused
no_refusal (Sql e) outside refused = absurd refused
no_refusal NotAStore outside refused = absurd outside
no_refusal (Version n) outside refused = absurd outside
no_refusal Damaged outside refused = absurd outside
no_refusal Guest outside refused = absurd outside

pub bare_is_blank : (s : State) → RestsAs (IsBare no_schema tt) s → IsBlank s
bare_is_blank s bare = (bare.autocommit, bare.holds.schema)

pub left_made : (new : NewStore) (a b : StoreState) → ((z : Stored) → WasFor z a → ⊥)
    → Survives a.tables b.tables (LeavesNew new.kind.profile new.kind.capacity (origin_of new) a b) → Survives a.tables b.tables (LeavesStarted new a b)
left_made new a b none one =
    survives_weaker a.tables b.tables _ (LeavesStarted new a b)
    (λ clean db left. record { made = λ blank is_open. left.1 is_open; opened = λ z was. absurd (none z was) }) one

pub left_opened : (new : NewStore) (a b : StoreState) → (IsBlank a.tables → ⊥)
    → Survives a.tables b.tables (λ db. (z : Stored) → WasFor z a → LeavesOver z b (opened_for z) db) → Survives a.tables b.tables (LeavesStarted new a b)
left_opened new a b stored one =
    survives_weaker a.tables b.tables _ (LeavesStarted new a b) (λ clean db left. record { made = λ blank is_open. absurd (stored blank); opened = left }) one

-- ---- with a mount that begins

pub fresh_made : (new : NewStore) (a b : StoreState) → ((z : Stored) → WasFor z a → ⊥)
    → Survives a.tables b.tables (LeavesNew new.kind.profile new.kind.capacity (origin_of new) a b) → Survives a.tables b.tables (LeavesFresh new a b)
fresh_made new a b none one =
    survives_weaker a.tables b.tables _ (LeavesFresh new a b)
    (λ clean db left. record { made = λ blank is_open. left.1 is_open; begun = λ z was. absurd (none z was) }) one

pub fresh_begun : (new : NewStore) (a b : StoreState) → (IsBlank a.tables → ⊥)
    → Survives a.tables b.tables (λ db. (z : Stored) → WasFor z a → LeavesOver z b (begun_for z) db) → Survives a.tables b.tables (LeavesFresh new a b)
fresh_begun new a b stored one =
    survives_weaker a.tables b.tables _ (LeavesFresh new a b) (λ clean db left. record { made = λ blank is_open. absurd (stored blank); begun = left }) one
