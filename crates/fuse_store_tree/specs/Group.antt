-- The effect of a group, and its answers (defined by this project).
use Rattle.std.specs.Prelude.{◌≡◌, ◌<◌, ◌^◌, ◌+◌, ℕ, Bool, true, false, if◌then◌else◌, List, [], ◌∷◌, Option, Some, None}
use Rattle.fuse_request.specs.Opcodes.{Service}
use Rattle.fuse_answer.specs.Said.{Said}
use Rattle.fuse_tree.specs.Do.{done}
use Rattle.fuse_keeper.specs.History.{Entry, entry_id, is_seen, kept_of}
use Rattle.fuse_keeper.specs.declared.keeper.Done.{Done}
use Rattle.fuse_store_tables.specs.Content.{kept_key, put_by, without_by}
use Rattle.fuse_store_tree.specs.Store.{records_of}
use Rattle.fuse_store_tree.specs.Holding.{Holding}

-- ---- settled ids

abbrev pub without_record : ℕ → Holding → Holding
without_record id y = record y { kept = without_by kept_key id y.kept }

abbrev pub without_settled : List ℕ → Holding → Holding
without_settled [] y = y
without_settled (id ∷ ids) y = without_settled ids (without_record id y)

-- ---- the lot of this opening

abbrev pub with_new_lot : Holding → Holding
with_new_lot y = record y { lots = put_by (λ n. n) y.next_lot y.lots; next_lot = y.next_lot + 1 }

-- the next lot number is allocated where this opening has none
abbrev pub with_lot_for : Option ℕ → Holding → Holding
with_lot_for None y = with_new_lot y
with_lot_for (Some lot) y = y

abbrev pub lot_for : Option ℕ → Holding → ℕ
lot_for None y = y.next_lot
lot_for (Some lot) y = lot

-- this opening has a lot, or a lot number is left for it
abbrev pub HasLotLeft : Option ℕ → Holding → Type 0
HasLotLeft lot y = lot ≡ None → y.next_lot < 2 ^ 62

-- ---- one request

abbrev pub done_newly : Said → Done
done_newly said = record { answer = said; repeated = false }

abbrev pub done_again : Said → Done
done_again said = record { answer = said; repeated = true }

-- the answer to an entry
abbrev pub said_of : Entry → Holding → Said
said_of e y = (done y.tree e.asked e.moment).said

-- its effect on the tree
abbrev pub with_act : Entry → Holding → Holding
with_act e y = record y { tree = (done y.tree e.asked e.moment).state }

abbrev pub with_record : ℕ → ℕ → Said → Holding → Holding
with_record id lot said y = record y { kept = put_by kept_key (record { id = id; lot = lot; said = said }) y.kept }

-- the entry was executed, and its answer is recorded under this lot
abbrev pub acted_on : ℕ → Entry → Holding → Holding
acted_on lot e y = with_record (entry_id e) lot (said_of e y) (with_act e y)

pub record Taken : Type 0 where
  pub holding : Holding
  pub done : Done

-- an id with a record is a repeat
abbrev pub taken_by : Option Said → ℕ → Entry → Holding → Taken
taken_by (Some known) lot e y = record { holding = y; done = done_again known }
taken_by None lot e y = record { holding = acted_on lot e y; done = done_newly (said_of e y) }

-- a seen entry looks for no record and leaves all as it is
abbrev pub taken_if : Bool → ℕ → Entry → Holding → Taken
taken_if true lot e y = record { holding = y; done = done_newly (said_of e y) }
taken_if false lot e y = taken_by (records_of y.kept (entry_id e)) lot e y

abbrev pub taken : Service → ℕ → Entry → Holding → Taken
taken V lot e y = taken_if (is_seen V e) lot e y

-- ---- a group

abbrev pub with_group : Service → ℕ → List Entry → Holding → Holding
with_group V lot [] y = y
with_group V lot (e ∷ es) y = with_group V lot es (taken V lot e y).holding

abbrev pub dones_of : Service → ℕ → List Entry → Holding → List Done
dones_of V lot [] y = []
dones_of V lot (e ∷ es) y = (taken V lot e y).done ∷ dones_of V lot es (taken V lot e y).holding

-- a transaction: settled records are deleted, a lot number is allocated, the group is replayed, executed or seen
abbrev pub prepared : Option ℕ → List ℕ → Holding → Holding
prepared lot settled y = with_lot_for lot (without_settled settled y)

abbrev pub transacted : Service → Option ℕ → List ℕ → List Entry → Holding → Holding
transacted V lot settled es y = with_group V (lot_for lot y) es (prepared lot settled y)

-- nothing is to be kept: there is no kept entry, and no settled id
abbrev pub keeps_nothing : List Entry → List ℕ → Bool
keeps_nothing [] [] = true
keeps_nothing [] (id ∷ ids) = false
keeps_nothing (e ∷ es) settled = false

-- a whole call: where nothing is to be kept, nothing changes
abbrev pub performed : Service → Option ℕ → List ℕ → List Entry → Holding → Holding
performed V lot settled es y = if keeps_nothing (kept_of V es) settled then y else transacted V lot settled es y

-- the lot of this opening after it
abbrev pub lot_after : Service → Option ℕ → List ℕ → List Entry → Holding → Option ℕ
lot_after V lot settled es y = if keeps_nothing (kept_of V es) settled then lot else Some (lot_for lot y)

abbrev pub all_dones : Service → Option ℕ → List ℕ → List Entry → Holding → List Done
all_dones V lot settled es y = dones_of V (lot_for lot y) es (prepared lot settled y)
