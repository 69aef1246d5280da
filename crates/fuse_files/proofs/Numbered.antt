-- The data file of a store of version 3 has the number that its tables have.
use Rattle.std.proofs.Common.{◌≡◌, ◌∙◌, ℕ, List, Option, Some, None, IsSome, option_map, true, false, refl, sym, ap, subst}
use Rattle.std.specs.Prelude.{unwrap_or}
use Rattle.sqlite_wal.specs.Recovery.{Image}
use Rattle.sqlite.specs.State.{State, IsLive, Opens}
use Rattle.fuse_init.specs.declared.settings.Settings.{Settings}
use Rattle.fuse_rows.specs.declared.rows.Counters.{Counters as CountersRow}
use Rattle.fuse_tree.specs.Rowed.{rowed}
use Rattle.fuse_store_tables.specs.Content.{Content, at_by, counter_key, value_at}
use Rattle.fuse_store_tables.specs.Moves.{Rests}
use Rattle.fuse_store_tree.specs.Store.{HasNumber, meta_rows_of}
use Rattle.fuse_store.specs.Opening.Stored.{Second}
use Rattle.fuse_store.specs.inner.Leaving.{rests_was}
use Rattle.fuse_store_files.specs.Files.{StoreImage, AreTheirs}
use Rattle.fuse_files.specs.StoreShown.{IsStoreNumber}
use Rattle.fuse_files.proofs.Opened.{found_left}

some_mapped : {A B : Type 0} (f : A → B) (o : Option A) → IsSome o → IsSome (option_map f o)
some_mapped f None some = let e : false ≡ true = some in absurd (cc)
some_mapped f (Some a) some = refl

-- the number among the rows of `meta`
number_in : (k : CountersRow) (s : Option Settings) (lot number : ℕ) (o : _) → o ≡ k.room → IsSome o
    → unwrap_or (option_map (λ x. x.value) (at_by counter_key 15 (meta_rows_of (record k { room = o }) s lot number))) 0 ≡ number
number_in k s lot number None same some = let e : false ≡ true = some in absurd (cc)
number_in k s lot number (Some r) same some = refl

module _ (image : Image) (s : State) (opens : Opens s) (live : IsLive s) (theirs : AreTheirs image s.committed.trees) where
  pub has_number : (n : ℕ) → ((c : Content) → Rests c s → n ≡ value_at 15 c) → IsStoreNumber image n
  unfolding rowed
  has_number n told_by y file some held =
      let it : StoreImage = record { tables = image; contents = file } in
      let at = rests_was file (Second y) s live (λ is. opens.clean) (opens.is_open, opens.autocommit, found_left it (Second y) held s theirs) in
      let (c, holds, told) = at.holds.held in
      let rests : Rests c s = record { is_open = at.is_open; autocommit = at.autocommit; holds = holds; committed = at.committed } in
      let room = some_mapped _ y.tree.capacity some in
      let value : value_at 15 c ≡ told.number =
      ap (λ rows. unwrap_or (option_map (λ x. x.value) (at_by counter_key 15 rows)) 0) told.counters
      ∙ number_in (rowed y.tree).counters (rowed y.tree).settings y.next_lot told.number (rowed y.tree).counters.room refl room in
      subst (λ m. HasNumber m file) (sym (told_by c rests ∙ value)) (told.header room)
