-- What the files of a store hold after a crash.
use Rattle.std.proofs.Common.{◌≡◌, ℕ, true, IsTrue, refl, subst}
use Rattle.std.proofs.Math.Logic.{∥∥₁_elim, ∥∥₁_map, ∥∥₁_map₂, ∥∥₁_prop}
use mathlib.Core.HLevel.{Σ_prop_path}
use Rattle.sqlite_disk.specs.declared.Disk.{Ghosts}
use Rattle.sqlite_wal.specs.Recovery.{Image}
use Rattle.sqlite_pages.specs.PageMap.{PageMap}
use Rattle.sqlite_pool.specs.Stored.{Recovers}
use Rattle.sqlite_pool.specs.StoredLaws.{recovers_once}
use Rattle.sqlite_pool.proofs.PoolLemmas.{pages_from}
use Rattle.sqlite_pool.proofs.StateLemmas.{size_is_allowed}
use Rattle.sqlite_pool.proofs.ResealLemmas.{adopts_of}
use Rattle.sqlite_store.specs.declared.store.FileStore.{FileStore}
use Rattle.sqlite_store.specs.Listing.{IsOurs}
use Rattle.sqlite_store.specs.FileStore.{state, view, schema_in, reading, recovers}
use Rattle.sqlite.specs.Tree.{Trees}
use Rattle.sqlite.specs.Held.{AreDatabases}
use Rattle.sqlite.specs.Files.{HoldsDatabase}
use Rattle.fuse_store_files.specs.Files.{HoldSome}

-- the pages that an image recovers to
abbrev Found : ℕ → Image → Type 0
Found size image = (pages : PageMap) × ∥ Recovers size image pages ∥₁

found_once : (size : ℕ) (image : Image) → IsProp (Found size image)
found_once size image a b =
    Σ_prop_path (λ _. ∥∥₁_prop) (pages_from a.0 b.0 (∥∥₁_map₂ a.1 b.1 (λ x y. let both : Recovers size image a.0 × Recovers size image b.0 = (x, y) in both)) (λ both. recovers_once size image a.0 b.0 both.0 both.1))

module _ {D : Type 0} {g : Ghosts D} (it : FileStore D g) (left : Image) (may : (state it).may_leave left) where
  found_pages : Found (state it).page_size left
  found_pages = ∥∥₁_elim it.safe (found_once _ left) (λ all. let f = all left may in (f.0, ∣ f.1 ∣₁))

  -- each image that a crash may leave holds one of the databases that the store allows
  pub holds_one : IsTrue (view it).is_numbered → ∥ AreDatabases (recovers it) ∥₁ → HoldSome (recovers it) left
  holds_one numbered all_sound =
      let pages = found_pages.0 in
      let db = reading it pages in
      let allowed : recovers it db = (left, pages, may, found_pages.1, refl) in
      record {
        trees = db;
        held = ∥∥₁_elim all_sound ∥∥₁_prop (λ sound. ∥∥₁_elim it.safe ∥∥₁_prop (λ all. let f = all left may in
            let schema = sound db allowed in
            ∥∥₁_elim found_pages.1 ∥∥₁_prop (λ found. ∥∥₁_elim (size_is_allowed it.pool) ∥∥₁_prop (λ size. ∥∥₁_map f.2 (λ ours.
            let same : f.0 ≡ pages = recovers_once _ left f.0 pages f.1 found in
            let whole = subst (λ b. IsOurs (state it).page_size b (schema_in it f.0) f.0) numbered ours in
            let r : HoldsDatabase left db = (
              (state it).page_size,
              size,
              record {
                pages = pages;
                wanted = schema_in it pages;
                schema = schema.0;
                found = adopts_of _ left pages found;
                reads = refl;
                sound = schema.1;
                ours = subst (λ (p : PageMap). IsOurs (state it).page_size true (schema_in it p) p) same whole;
              },
            ) in r)))));
        so = allowed;
      }

  pub holds_some : IsTrue (view it).is_numbered → AreDatabases (recovers it) → HoldSome (recovers it) left
  holds_some numbered sound = holds_one numbered ∣ sound ∣₁

-- more is known of what is held
pub holds_more : (P Q : Trees → Type 0) (image : Image) → ((db : Trees) → P db → Q db) → HoldSome P image → HoldSome Q image
holds_more P Q image more h = record { trees = h.trees; held = h.held; so = more h.trees h.so }
