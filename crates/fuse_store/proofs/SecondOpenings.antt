-- An opening of what may be an everyday store of version 2, whose data file is made anew.
use Rattle.std.proofs.Common.{◌≡◌, ◌⊎◌, ℕ, List, [], Bool, true, false, Option, None, Some, inl, inr, refl, sym, ap, subst, ◌∙◌, IsTrue}
use Rattle.sqlite.specs.Tree.{Trees}
use Rattle.sqlite.specs.Effect.{Database}
use Rattle.sqlite.specs.State.{State, HasCleanDisk}
use Rattle.sqlite_disk.specs.Disk.{Only}
use Rattle.fuse_store.specs.inner.Opened.{FollowsAny}
use Rattle.fuse_data.specs.State.{DataState}
use Rattle.fuse_data.specs.declared.gaps.Gap.{Gap}
use Rattle.fuse_init.specs.declared.profile.Profile.{Profile}
use Rattle.fuse_init.specs.declared.profile.Profile.TheVariants.{Plain, Everyday}
use Rattle.fuse_tree.specs.State.{profile_of}
use Rattle.fuse_store_tables.specs.Content.{LeftAs}
use Rattle.fuse_store_tables.specs.Moves.{RestsAs}
use Rattle.fuse_store_tables.specs.ToCount.{IsOfSecond}
use Rattle.fuse_store_tree.specs.Holding.{Holding}
use Rattle.fuse_store_tree.specs.Leaving.{ListsInUse}
use Rattle.sqlite_disk.specs.declared.Disk.{Ghosts as DiskGhosts}
use Rattle.fuse_store.specs.TableKeeper.{disk_in}
use Rattle.fuse_store.specs.TableState.{data_for}
use Rattle.fuse_store.specs.Opening.{Stored, SecondEveryday, StoredFor, HasFileFor, IsReady, KeepsStored, LeavesContents, WasFor, WasOver, data_of, opened_for, seen_of}
use Rattle.fuse_store.proofs.FailedOpenings.{plain_same, plain_seen}
use Rattle.fuse_store.proofs.DoneOpenings.{everyday_was}
use Rattle.fuse_store.proofs.StoresFound.{everyday_profile, few_found, few_of_second}
use Rattle.fuse_store.proofs.TablesAlone.{with_data}

-- what a crash leaves of an everyday store's data file
everyday_leaves : (p : Profile) (new : DataState) → p ≡ Everyday → (file : List ℕ) → (data_for p new).may_leave file → new.may_leave file
everyday_leaves Plain new is file may = absurd cc
everyday_leaves Everyday new is file may = may

module _ (a : State) (rests : (file : List ℕ) (z : Stored) → WasOver file z a → RestsAs (StoredFor file z) a) (second : HasCleanDisk a → IsOfSecond a.now.schema) where
  abbrev Found : Stored → Type 0
  Found z = ((profile_of (opened_for z).tree ≡ Plain) × ((number : Option ℕ) (other : List ℕ) → IsReady number other z)) ⊎ ((y : Holding) × (z ≡ SecondEveryday y))

  found : HasCleanDisk a → (file : List ℕ) (z : Stored) → WasOver file z a → Found z
  found clean file z was = few_found file z a.now (rests file z was).holds (few_of_second a.now.schema (second clean))

  module _ (old : DataState) where
    -- what is seen of the new data file
    pub was_seen : HasCleanDisk a → (b : State) (new : DataState) (z : Stored) → WasFor z (with_data a old) → WasOver (seen_of z (with_data b new)) z a
    was_seen clean b new z was = elim (found clean (seen_of z (with_data a old)) z was) [
      | inl plain ↦ subst (λ f. WasOver f z a) (sym (plain_same (profile_of (opened_for z).tree) old new plain.0)) was
      | inr everyday ↦
          subst (λ (x : Stored). WasFor x (with_data a old) → WasOver (seen_of x (with_data b new)) x a) (sym everyday.1) (λ w. w) was
    ]

    module _ (number : Option ℕ) (b : State) (new : DataState) (header : HasFileFor number new.seen) where
      ready_at : (z : Stored) (y : Holding) → z ≡ SecondEveryday y → (file : List ℕ) → file ≡ new.seen → IsReady number file z
      ready_at z y is file same =
          subst (λ (x : Stored). IsReady number file x) (sym is) (subst (λ f. HasFileFor number f) (sym same) header)

      over_everyday : (z : Stored) (y : Holding) → z ≡ SecondEveryday y → (file other : List ℕ) → WasOver file z a → WasOver other z a
      over_everyday z y is file other was =
          subst (λ (x : Stored). WasOver other x a) (sym is) (subst (λ (x : Stored). WasOver file x a) is was)

      -- it is everyday, so its data file is this one
      of_everyday : (file : List ℕ) (z : Stored) → WasOver file z a → (y : Holding) → z ≡ SecondEveryday y → profile_of (opened_for z).tree ≡ Everyday
      of_everyday file z was y is =
          subst (λ (x : Stored). profile_of (opened_for x).tree ≡ Everyday) (sym is) (everyday_profile y a.now (subst (λ (x : Stored). StoredFor file x a.now) is (rests file z was).holds))

      pub seen_second : HasCleanDisk a → (z : Stored) → WasFor z (with_data a old) → WasOver (seen_of z (with_data b new)) z a × IsReady number (seen_of z (with_data b new)) z
      seen_second clean z was = elim (found clean (seen_of z (with_data a old)) z was) [
        | inl plain ↦ (was_seen clean b new z was, plain.1 number (seen_of z (with_data b new)))
        | inr everyday ↦
            let p = of_everyday (seen_of z (with_data a old)) z was everyday.0 everyday.1 in
            (was_seen clean b new z was, ready_at z everyday.0 everyday.1 (seen_of z (with_data b new)) (everyday_was (profile_of (opened_for z).tree) new p))
      ]

      pub reached_second : HasCleanDisk a → Only new.seen new.may_leave → (z : Stored) → WasFor z (with_data a old) → (file : List ℕ) → (data_of z (with_data b new)).may_leave file
          → WasOver file z a × IsReady number file z
      reached_second clean synced z was file may = elim (found clean (seen_of z (with_data a old)) z was) [
        | inl plain ↦ (
          subst (λ f. WasOver f z a) (sym (plain_seen (profile_of (opened_for z).tree) old new plain.0 file may)) was,
          plain.1 number file,
        )
        | inr everyday ↦
            let p = of_everyday (seen_of z (with_data a old)) z was everyday.0 everyday.1 in (
              over_everyday z everyday.0 everyday.1 (seen_of z (with_data a old)) file was,
              ready_at z everyday.0 everyday.1 file (synced file (everyday_leaves (profile_of (opened_for z).tree) new p file may)),
            )
      ]

      -- an everyday store is one of version 2
      pub everyday_second : HasCleanDisk a → (z : Stored) → WasFor z (with_data a old) → Everyday ≡ profile_of (opened_for z).tree
          → (WasOver new.seen z a × IsReady number new.seen z) × ((y : Holding) × (z ≡ SecondEveryday y))
      everyday_second clean z was is = elim (found clean (seen_of z (with_data a old)) z was) [
        | inl plain ↦ absurd (let e = is ∙ plain.0 in cc)
        | inr everyday ↦ (
          (over_everyday z everyday.0 everyday.1 (seen_of z (with_data a old)) new.seen was, ready_at z everyday.0 everyday.1 new.seen refl),
          everyday,
        )
      ]

    -- a store that the trees had is there, whatever was written to the data file
    pub contents_second : (b : State) (new : DataState) → (HasCleanDisk b → HasCleanDisk a) → (HasCleanDisk a → IsTrue a.is_open × (a.in_transaction ≡ false))
        → ((db : Trees) → IsTrue a.is_open → a.may_leave db → db ≡ a.committed.trees) → FollowsAny old.may_leave new.may_leave
        → LeavesContents (with_data a old) (with_data b new)
    contents_second b new before was settled follows clean z db may = by (profile_of (opened_for z).tree) refl
      where
        keeps : (d c : List ℕ) → profile_of (opened_for z).tree ≡ Everyday → KeepsStored z db d c
        keeps d c is at =
            let now = was (before clean) in
            let same = settled db now.0 may in
            elim (found (before clean) d z (now.0, now.1, subst (LeftAs (StoredFor d z)) same at)) [
              | inl plain ↦ absurd (let e = sym is ∙ plain.0 in cc)
              | inr everyday ↦
                  subst (λ (x : Stored). LeftAs (StoredFor c x) db) (sym everyday.1) (subst (λ (x : Stored). LeftAs (StoredFor d x) db) everyday.1 at)
            ]

        by : (p : Profile) → profile_of (opened_for z).tree ≡ p → (c : List ℕ) → (data_for p new).may_leave c
            → (d : List ℕ) × (data_for p old).may_leave d × KeepsStored z db d c
        by Plain is c left = (c, left, λ at. at)
        by Everyday is c left = let it = follows c left in (it.0, it.1, keeps it.0 c is)

-- what was an everyday store of version 2 lists no piece
pub lists_second : (gaps : List Gap) (a : State) (d : Database) (z : Stored) (file : List ℕ) → WasOver file z a → (y : Holding) → z ≡ SecondEveryday y
    → ((x : Holding) (free : List Gap) → WasOver [] (SecondEveryday x) a → ListsInUse free d) → ListsInUse gaps d
lists_second gaps a d z file was y is none = none y gaps (subst (λ (x : Stored). WasOver file x a) is was)

-- what is seen of a disk may be left of it
pub follows_seen : {D : Type 0} (h : DiskGhosts D) → ((d : D) → h.may_leave d (h.seen d)) → (o : Option D) (P : List ℕ → Type 0) → FollowsAny (disk_in h o).may_leave P
follows_seen h law None P = λ c may. ([], refl, tt)
follows_seen h law (Some d) P = λ c may. (h.seen d, law d, tt)
