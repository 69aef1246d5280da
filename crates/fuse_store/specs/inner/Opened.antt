-- What an opening finds in its parts, and what it makes of them (defined by this project).
use Rattle.std.specs.Prelude.{◌≡◌, ◌==◌, ⊤, ℕ, Bool, false, IsTrue, List, length, Option}
use Rattle.sqlite.specs.Schema.{Schema}
use Rattle.sqlite.specs.State.{State, HasCleanDisk}
use Rattle.sqlite_disk.specs.Disk.{Follows, Only}
use Rattle.fuse_init.specs.declared.profile.Profile.TheVariants.{Plain, Everyday}
use Rattle.fuse_init.specs.declared.profile.Profile.{Profile}
use Rattle.fuse_tree.specs.State.{profile_of}
use Rattle.fuse_store_tables.specs.Content.{Content}
use Rattle.fuse_store_tables.specs.Moves.{RestsAs}
use Rattle.fuse_store_tables.specs.Opening.{IsLaid, profile_in}
use Rattle.fuse_store_tables.specs.ToCount.{HoldsOfSecond}
use Rattle.fuse_store_tables.specs.Saying.{IsTabled}
use Rattle.fuse_store_tree.specs.declared.meta.Meta.{Meta}
use Rattle.fuse_store_tree.specs.Holding.{Holding, HeldFor}
use Rattle.fuse_store_tree.specs.StoreState.{StoreState, IsHonest, IsAtRest}
use Rattle.fuse_store.specs.TableState.{state_for}
use Rattle.fuse_store.specs.Opening.{Stored, WasFor, IsWholeOf, opened_for}

-- a store of this profile was opened, of which this was made, and what is known of it is right
pub record Opens (p : Profile) (made : Stored → Holding) (known : Option Meta) (old new : StoreState) : Type 0 where
  pub held : IsHonest new → (z : Stored) → WasFor z old → IsAtRest known (made z) new
  pub profile : IsHonest new → (z : Stored) → WasFor z old → profile_of (opened_for z).tree ≡ p
  pub was : IsHonest new → IsTrue old.tables.is_open × (old.tables.in_transaction ≡ false)
  pub honest : IsHonest new → IsHonest (state_for p old)
  pub whole : IsHonest new → (c : Content) → IsLaid c old.tables.now → IsWholeOf p c
  pub tabled : IsHonest new → IsTabled old.tables.now

-- whatever is in it, there was a content that it followed
abbrev pub FollowsAny : (List ℕ → Type 0) → (List ℕ → Type 0) → Type 0
FollowsAny = Follows (λ d c. ⊤)

-- ---- which opening it is

-- version 3 has nine tables, and the earlier ones have fewer
abbrev pub has_nine : Schema → Bool
has_nine s = length s.tables == 9

-- outside a transaction, no everyday store of version 2 is there
abbrev pub IsCurrent : State → Type 0
IsCurrent s = HasCleanDisk s → s.in_transaction ≡ false → (c : Content) → HoldsOfSecond c s.now → profile_in c ≡ Plain

-- A store of this profile was opened. Its data file is the one that was there, of which a crash leaves what it left before, and which
-- was synced.
pub record Finds (p : Profile) (old new : StoreState) : Type 0 where
  pub tables : HasCleanDisk new.tables → (z : Stored) → WasFor z old → RestsAs (HeldFor new.contents.seen (opened_for z)) new.tables
  pub profile : HasCleanDisk new.tables → (z : Stored) → WasFor z old → profile_of (opened_for z).tree ≡ p
  pub tabled : HasCleanDisk new.tables → IsTabled old.tables.now
  pub synced : Only new.contents.seen new.contents.may_leave
  pub seen : p ≡ Everyday → new.contents.seen ≡ old.contents.seen
  pub leaves : p ≡ Everyday → (c : List ℕ) → new.contents.may_leave c → old.contents.may_leave c
