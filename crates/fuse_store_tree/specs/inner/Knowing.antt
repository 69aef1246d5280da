-- What is known of the table `meta` on the way of a group (defined by this project).
use Rattle.std.specs.Prelude.{◌==◌, if◌then◌else◌, ℕ, IsTrue, List, Option, Some, None, Result, IfErr}
use Rattle.sqlite.specs.Effect.{Database}
use Rattle.sqlite.specs.State.{State, HasCleanDisk}
use Rattle.fuse_rows.specs.Rows.{profile_for}
use Rattle.fuse_tree.specs.declared.agreement.Agreement.{Agreement}
use Rattle.fuse_rows.specs.declared.rows.Counters.{Counters as CountersRow}
use Rattle.fuse_rows.specs.declared.rows.Room.{Room}
use Rattle.fuse_rows.specs.declared.rows.Change.{Change}
use Rattle.fuse_rows.specs.declared.rows.Change.TheVariants as changes
use Rattle.fuse_keeper.specs.declared.fault.StoreFault.{StoreFault}
use Rattle.fuse_store_tables.specs.Content.{Content, Counter, counter_key, set_by, valued, set_counter}
use Rattle.fuse_store_tables.specs.Faults.{IsOutside}
use Rattle.fuse_store_tables.specs.Moves.{InsideAs, Stays, StaysInside, TurnsTo}
use Rattle.fuse_store_tree.specs.declared.meta.Meta.{Meta}
use Rattle.fuse_store_tree.specs.Pieces.{File}
use Rattle.fuse_store_tree.specs.Store.{Store, Held}
use Rattle.fuse_store_tree.specs.Holding.{Holding}
use Rattle.fuse_store_tree.specs.Knowing.{Knows, HeldForKnown}
use Rattle.fuse_store_tree.specs.Group.{HasLotLeft}
use Rattle.fuse_store_tree.specs.inner.Reading.{counted_in, agreed_in}
use Rattle.fuse_store_tree.specs.inner.Writing.{room_over, with_used}

-- what these counters say
abbrev pub meta_in : List Counter → Meta
meta_in cs = record { counters = counted_in cs; settings = agreed_in cs }

abbrev pub agreed_on : Meta → Agreement
agreed_on m = record { profile = profile_for m.counters.room; settings = m.settings }

-- what is known after a change of a plan
abbrev pub meta_after : Meta → Change → Meta
meta_after m (changes.Counters n) = record m { counters = record n { room = room_over m.counters.room n.room } }
meta_after m (changes.Settings v) = record m { settings = Some v }
meta_after m change = m

abbrev pub known_after : Option Meta → Change → Option Meta
known_after None change = None
known_after (Some m) change = Some (meta_after m change)

-- ---- writes

-- a counter that had another value is changed
abbrev pub moved_in : ℕ → ℕ → ℕ → List Counter → List Counter
moved_in key old new cs = if old == new then cs else set_by counter_key key (valued new) cs

abbrev pub moved : ℕ → ℕ → ℕ → Content → Content
moved key old new c = record c { counters = moved_in key old new c.counters }

abbrev pub used_moved_in : Option Room → Option Room → List Counter → List Counter
used_moved_in (Some old) (Some new) cs = moved_in 14 old.used new.used cs
used_moved_in old new cs = cs

abbrev pub used_moved : Option Room → Option Room → Content → Content
used_moved old new c = record c { counters = used_moved_in old new c.counters }

abbrev pub ids_moved : CountersRow → CountersRow → Content → Content
ids_moved old new c = moved 3 old.next_fh new.next_fh (moved 2 old.next_node new.next_node c)

abbrev pub sums_moved : CountersRow → CountersRow → Content → Content
sums_moved old new c = moved 6 old.handles new.handles (moved 5 old.nodes new.nodes c)

abbrev pub numbers_moved : CountersRow → CountersRow → Content → Content
numbers_moved old new c = moved 4 old.next_cookie new.next_cookie (ids_moved old new c)

abbrev pub space_moved : CountersRow → CountersRow → Content → Content
space_moved old new c = used_moved old.room new.room (sums_moved old new c)

abbrev pub counters_moved : CountersRow → CountersRow → Content → Content
counters_moved old new c = space_moved old new (numbers_moved old new c)

-- all counters
abbrev pub counters_set : CountersRow → Content → Content
counters_set n c =
    with_used n.room (set_counter 6 n.handles (set_counter 5 n.nodes (set_counter 4 n.next_cookie (set_counter 3 n.next_fh (set_counter 2 n.next_node c)))))

-- those that aren't known to have these values
abbrev pub counters_written : Option Meta → CountersRow → Content → Content
counters_written None n = counters_set n
counters_written (Some m) n = counters_moved m.counters n

-- ---- steps

-- a database that holds a store, where what is known is right
abbrev pub HeldKnown : List ℕ → Option Meta → Store → Database → Type 0
HeldKnown file known x d = Held file x d × Knows known x.rows

-- what was known was right, and what is known then is right of the store that is made
pub record ChangedKnown (f : File) (was is : Option Meta) (g : Store → Store) (old new : State) : Type 0 where
  pub stays : Stays old new
  pub within : StaysInside old new
  pub turns : IsTrue f.is_clean → TurnsTo (HeldKnown f.bytes was) (λ x. HeldKnown f.bytes is (g x)) old new

-- such a step that reads no piece
pub record ChangedKnownIn (file : List ℕ) (was is : Option Meta) (g : Store → Store) (old new : State) : Type 0 where
  pub stays : Stays old new
  pub within : StaysInside old new
  pub turns : TurnsTo (HeldKnown file was) (λ x. HeldKnown file is (g x)) old new

abbrev pub InsideKnown : List ℕ → Option Meta → Holding → State → Type 0
InsideKnown file known y = InsideAs (HeldForKnown file known y)

pub record TurnedKnown (file : File) (was is : Option Meta) (f : Holding → Holding) (old new : State) : Type 0 where
  pub stays : Stays old new
  pub within : StaysInside old new
  pub turns : IsTrue file.is_clean → TurnsTo (HeldForKnown file.bytes was) (λ y. HeldForKnown file.bytes is (f y)) old new

-- within a transaction: a fault says nothing of the store, unless no lot number is left
abbrev pub IsSureKnown : {X : Type 0} → List ℕ → Option Meta → Option ℕ → State → State → Result X StoreFault → Type 0
IsSureKnown file known lot old new r = HasCleanDisk new → IfErr r (λ f. (y : Holding) → InsideKnown file known y old → HasLotLeft lot y → IsOutside f)
