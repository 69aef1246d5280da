-- A plain store has no piece, so it is the same over any data file.
use Rattle.std.proofs.Common.{◌≡◌, false, true, ℕ, ◌/◌, ◌%◌, List, [], ◌∷◌, Option, Some, None, IsSome, unwrap_or, refl, sym, ap, subst, ◌∙◌, option_map, arith, inl, inr}
use Rattle.std.specs.Option.{is_some}
use Rattle.std.specs.List.{All}
use Rattle.std.proofs.lemmas.List.Elements.{All-nil}
use Rattle.sqlite_disk.specs.declared.Disk.{Ghosts}
use Rattle.sqlite.specs.Tree.{Trees}
use Rattle.sqlite.specs.Effect.{Database}
use Rattle.sqlite_catalog.specs.Listing.{IsSound}
use Rattle.fuse_data.specs.State.{DataState}
use Rattle.fuse_data.specs.Extents.{IsWhole}
use Rattle.fuse_init.specs.declared.profile.Profile.{Profile}
use Rattle.fuse_init.specs.declared.profile.Profile.TheVariants.{Plain, Everyday}
use Rattle.fuse_rows.specs.Bounds.{block_bytes}
use Rattle.fuse_rows.specs.Rows.{profile_for}
use Rattle.fuse_tree.specs.State.{State as TreeState, profile_of}
use Rattle.fuse_tree.specs.Space.{room_of}
use Rattle.fuse_tree.specs.Rowed.{rowed}
use Rattle.fuse_tree.specs.State.{used_of, capacity_for}
use Rattle.fuse_store_tables.specs.Blocks.{Block, block_at}
use Rattle.fuse_store_tables.specs.Pieces.{Piece}
use Rattle.fuse_store_tables.specs.Content.{Content, LeftAs}
use Rattle.fuse_store_tree.specs.Pieces.{byte_at, block_found, stored_block, piece_at, extents_of, ArePieces}
use Rattle.fuse_store_tree.specs.Store.{Store, Bodies, IsWrittenAs, DescribesAs, bodies_of, layout_for}
use Rattle.fuse_store_tree.specs.Holding.{Holding, HeldFor, store_of}
use Rattle.fuse_store.specs.Opening.{Stored, StoredFor, opened_for}
use Rattle.fuse_store.specs.Opening.Stored.{First, Second, SecondEveryday, Unindexed}
use Rattle.fuse_store.specs.TableState.{data_for}
use Rattle.fuse_store.specs.TableKeeper.{disk_in}
use Rattle.fuse_store_files.specs.Left.{data_left}

-- ---- a profile without a bound

plain_is_none : {A : Type 0} (bound : Option A) → profile_for bound ≡ Plain → bound ≡ None
plain_is_none None plain = refl
plain_is_none (Some a) plain = let e : Everyday ≡ Plain = plain in absurd (cc)

-- the room of a state's rows
pub room_is : (s : TreeState) → (rowed s).counters.room ≡ room_of s
unfolding rowed
room_is s = refl

-- ---- without pieces

at_none : (old new : List ℕ) (block : ℕ) (row : Option Block) → block_found new block row None ≡ block_found old block row None
at_none old new block None = refl
at_none old new block (Some b) = refl

module _ (old new : List ℕ) (c : Content) (nothing : c.pieces ≡ []) where
  same_block : (node block : ℕ) → stored_block new c node block ≡ stored_block old c node block
  same_block node block =
      subst (λ ps. block_found new block (block_at node block c.blocks) (piece_at node block ps) ≡ block_found old block (block_at node block c.blocks) (piece_at node block ps))
      (sym nothing) (at_none old new block (block_at node block c.blocks))

  same_pieces : ArePieces old c.pieces → ArePieces new c.pieces
  same_pieces are = record {
    some = are.some;
    whole = subst (λ ps. All (IsWhole new) (extents_of ps)) (sym nothing) (All-nil (IsWhole new));
    apart = are.apart;
    own = are.own;
  }

  described : (x : Store) (bodies : Bodies) → x.rows.counters.room ≡ None → DescribesAs x bodies old c → DescribesAs x bodies new c
  described x bodies none d = record {
    number = d.number;
    layout = d.layout;
    counters = d.counters;
    nodes = d.nodes;
    entries = d.entries;
    handles = d.handles;
    answers = d.answers;
    lots = d.lots;
    kept = d.kept;
    attributes = d.attributes;
    bytes = λ node i. ap (λ o. byte_at (unwrap_or o []) (i % block_bytes)) (same_block node (i / block_bytes)) ∙ d.bytes node i;
    within = d.within;
    written = λ node block. subst (λ o. IsWrittenAs (is_some o) (bodies.written node) block) (sym (same_block node block)) (d.written node block);
    pieces_within = d.pieces_within;
    pieces = same_pieces d.pieces;
    owned = d.owned;
    header = λ some. let e : false ≡ true = subst IsSome none some in absurd (cc);
    settings = d.settings;
    fits = d.fits;
  }

-- ---- a plain store

module _ (old new : List ℕ) where
  plain_held : (y : Holding) (d : Database) → profile_of y.tree ≡ Plain → HeldFor old y d → HeldFor new y d
  plain_held y d plain held =
      let bound : room_of y.tree ≡ None = ap (λ (k : Option ℕ). room_of (record y.tree { capacity = k })) (plain_is_none y.tree.capacity plain) in
      let none : (rowed y.tree).counters.room ≡ None = room_is y.tree ∙ bound in
      let (c, at, is) = held.held in
      let nothing = is.fits.no_pieces (is.layout ∙ ap layout_for none) in
      record {
        tree = held.tree;
        below = held.below;
        next = held.next;
        held = (c, at, described old new c nothing (store_of y) (bodies_of (store_of y).rows) none is);
      }

  pub plain_stored : (z : Stored) (d : Database) → profile_of (opened_for z).tree ≡ Plain → StoredFor old z d → StoredFor new z d
  plain_stored (First s records) d plain at = at
  plain_stored (Second y) d plain at = plain_held y d plain at
  plain_stored (Unindexed y) d plain at = at
  plain_stored (SecondEveryday y) d plain at = at

  pub plain_left : (z : Stored) (db : Trees) → profile_of (opened_for z).tree ≡ Plain → LeftAs (StoredFor old z) db → LeftAs (StoredFor new z) db
  plain_left z db plain left = (left.0, plain_stored z left.0 plain left.1, left.2)

-- what a store has of a data file is all that it needs of it
pub own_left : (z : Stored) (p : Profile) → profile_of (opened_for z).tree ≡ p → (s : DataState) (db : Trees) → LeftAs (StoredFor s.seen z) db
    → LeftAs (StoredFor (data_for p s).seen z) db
own_left z Plain is s db left = plain_left s.seen [] z db is left
own_left z Everyday is s db left = left

-- ---- an everyday store has a data file

some_mapped : {A B : Type 0} (f : A → B) (bound : Option A) → profile_for bound ≡ Everyday → IsSome (option_map f bound)
some_mapped f None everyday = let e : Plain ≡ Everyday = everyday in absurd (cc)
some_mapped f (Some a) everyday = refl

pub everyday_room : (s : TreeState) → profile_of s ≡ Everyday → IsSome (room_of s)
everyday_room s everyday = some_mapped (λ k. record { capacity = k; used = used_of s }) s.capacity everyday

pub no_everyday : (y : Holding) (d : Database) → profile_of y.tree ≡ Everyday → HeldFor [] y d → ⊥
no_everyday y d everyday held =
    let (c, at, is) = held.held in
    let header = is.header (subst IsSome (sym (room_is y.tree)) (everyday_room y.tree everyday)) in
    let short = header.0.within in
    absurd (omega (arith, short))

-- ---- what a crash leaves of it

pub profile_is : (p : Profile) (capacity : ℕ) → profile_for (capacity_for p capacity) ≡ p
profile_is Plain capacity = refl
profile_is Everyday capacity = refl

plain_over : (old new : List ℕ) (y : Holding) (db : Trees) → profile_of y.tree ≡ Plain → LeftAs (HeldFor old y) db → LeftAs (HeldFor new y) db
plain_over old new y db plain left = (left.0, plain_held old new y left.0 plain left.1, left.2)

module _ {E : Type 0} (h : Ghosts E) (y : Holding) (db : Trees) where
  -- what is held over each content that a crash leaves of the store's own data file is held over each that it leaves of the one beside it
  pub from_own : (p : Profile) → profile_of y.tree ≡ p → (disk : Option E) (found : List ℕ)
      → ((file : List ℕ) → (data_for p (disk_in h disk)).may_leave file → LeftAs (HeldFor file y) db)
      → (file : List ℕ) → data_left h found disk file → LeftAs (HeldFor file y) db
  from_own Plain is disk found over file may = plain_over [] file y db is (over [] refl)
  from_own Everyday is None found over file may = let (d, at, same) = over [] refl in absurd (no_everyday y d is at)
  from_own Everyday is (Some disk) found over file may = over file may

module _ {E : Type 0} (h : Ghosts E) (z : Stored) (db : Trees) where
  -- the same of a store that was found over the data file
  pub stays_over : (p : Profile) → profile_of (opened_for z).tree ≡ p → (disk : Option E) (found : List ℕ)
      → ((file : List ℕ) → (data_for p (disk_in h disk)).may_leave file → LeftAs (StoredFor file z) db) → LeftAs (StoredFor found z) db
      → (file : List ℕ) → data_left h found disk file → LeftAs (StoredFor file z) db
  stays_over Plain is disk found over at file may = plain_left found file z db is at
  stays_over Everyday is None found over at file may = subst (λ f. LeftAs (StoredFor f z) db) (sym may) at
  stays_over Everyday is (Some disk) found over at file may = over file may

-- a store lies in a database
pub stored_is_sound : (file : List ℕ) (z : Stored) (d : Database) → StoredFor file z d → IsSound d.schema d.trees
stored_is_sound file (First s records) d at = at.held.1.sound
stored_is_sound file (Second y) d at = at.held.1.sound
stored_is_sound file (Unindexed y) d at = at.held.1.0.sound
stored_is_sound file (SecondEveryday y) d at = elim at.held.1 [ inl holds ↦ holds.0.sound | inr unindexed ↦ unindexed.0.sound ]
