-- The effect of a group on what a store of a file system holds, and its answers (defined by this project).
use Rattle.std.specs.Prelude.{◌≡◌, ◌<◌, ◌^◌, ◌+◌, ℕ, Bool, true, false, if◌then◌else◌, List, [], ◌∷◌, Option, Some, None}
use Rattle.fuse_answer.specs.Said.{Said}
use Rattle.fuse_keeper.specs.Model.{Model}
use Rattle.fuse_keeper.specs.History.{Entry, entry_id, is_seen, kept_of, next_state, answer_to}
use Rattle.fuse_keeper.specs.declared.keeper.Done.{Done}
use Rattle.fuse_store_tables.specs.Content.{kept_key, put_by, without_by}
use Rattle.guest_store.specs.Holding.{Holding, records_of}

-- ---- settled ids

abbrev pub without_record : {M : Model} → ℕ → Holding M → Holding M
without_record {M} id y = record y { kept = without_by kept_key id y.kept }

abbrev pub without_settled : {M : Model} → List ℕ → Holding M → Holding M
without_settled {M} [] y = y
without_settled {M} (id ∷ ids) y = without_settled ids (without_record id y)

-- ---- the lot of this opening

abbrev pub with_new_lot : {M : Model} → Holding M → Holding M
with_new_lot {M} y = record y { lots = put_by (λ n. n) y.next_lot y.lots; next_lot = y.next_lot + 1 }

-- the next lot number is allocated where this opening has none
abbrev pub with_lot_for : {M : Model} → Option ℕ → Holding M → Holding M
with_lot_for {M} None y = with_new_lot y
with_lot_for {M} (Some lot) y = y

abbrev pub lot_for : {M : Model} → Option ℕ → Holding M → ℕ
lot_for {M} None y = y.next_lot
lot_for {M} (Some lot) y = lot

-- this opening has a lot, or a lot number is left for it
abbrev pub HasLotLeft : {M : Model} → Option ℕ → Holding M → Type 0
HasLotLeft {M} lot y = lot ≡ None → y.next_lot < 2 ^ 62

-- ---- one request

abbrev pub done_newly : Said → Done
done_newly said = record { answer = said; repeated = false }

abbrev pub done_again : Said → Done
done_again said = record { answer = said; repeated = true }

-- the answer to an entry
abbrev pub said_of : {M : Model} → Entry → Holding M → Said
said_of {M} e y = answer_to M y.state e

-- its effect on the state
abbrev pub with_act : {M : Model} → Entry → Holding M → Holding M
with_act {M} e y = record y { state = next_state M y.state e }

abbrev pub with_record : {M : Model} → ℕ → ℕ → Said → Holding M → Holding M
with_record {M} id lot said y = record y { kept = put_by kept_key (record { id = id; lot = lot; said = said }) y.kept }

-- the entry was executed, and its answer is recorded under this lot
abbrev pub acted_on : {M : Model} → ℕ → Entry → Holding M → Holding M
acted_on {M} lot e y = with_record (entry_id e) lot (said_of e y) (with_act e y)

pub record Taken (M : Model) : Type 0 where
  pub holding : Holding M
  pub done : Done

-- an id with a record is a repeat
abbrev pub taken_by : {M : Model} → Option Said → ℕ → Entry → Holding M → Taken M
taken_by {M} (Some known) lot e y = record { holding = y; done = done_again known }
taken_by {M} None lot e y = record { holding = acted_on lot e y; done = done_newly (said_of e y) }

-- a seen entry looks for no record and leaves all as it is
abbrev pub taken_if : {M : Model} → Bool → ℕ → Entry → Holding M → Taken M
taken_if {M} true lot e y = record { holding = y; done = done_newly (said_of e y) }
taken_if {M} false lot e y = taken_by (records_of y.kept (entry_id e)) lot e y

abbrev pub taken : {M : Model} → ℕ → Entry → Holding M → Taken M
taken {M} lot e y = taken_if (is_seen M.service e) lot e y

-- ---- a group

abbrev pub with_group : {M : Model} → ℕ → List Entry → Holding M → Holding M
with_group {M} lot [] y = y
with_group {M} lot (e ∷ es) y = with_group lot es (taken lot e y).holding

abbrev pub dones_of : {M : Model} → ℕ → List Entry → Holding M → List Done
dones_of {M} lot [] y = []
dones_of {M} lot (e ∷ es) y = (taken lot e y).done ∷ dones_of lot es (taken lot e y).holding

-- a transaction: settled records are deleted, a lot number is allocated, the group is replayed, executed or seen
abbrev pub prepared : {M : Model} → Option ℕ → List ℕ → Holding M → Holding M
prepared {M} lot settled y = with_lot_for lot (without_settled settled y)

abbrev pub transacted : {M : Model} → Option ℕ → List ℕ → List Entry → Holding M → Holding M
transacted {M} lot settled es y = with_group (lot_for lot y) es (prepared lot settled y)

-- nothing is to be kept: there is no kept entry, and no settled id
abbrev pub keeps_nothing : List Entry → List ℕ → Bool
keeps_nothing [] [] = true
keeps_nothing [] (id ∷ ids) = false
keeps_nothing (e ∷ es) settled = false

-- a whole call: where nothing is to be kept, nothing changes
abbrev pub performed : {M : Model} → Option ℕ → List ℕ → List Entry → Holding M → Holding M
performed {M} lot settled es y = if keeps_nothing (kept_of M.service es) settled then y else transacted lot settled es y

-- the lot of this opening after it
abbrev pub lot_after : {M : Model} → Option ℕ → List ℕ → List Entry → Holding M → Option ℕ
lot_after {M} lot settled es y = if keeps_nothing (kept_of M.service es) settled then lot else Some (lot_for lot y)

abbrev pub all_dones : {M : Model} → Option ℕ → List ℕ → List Entry → Holding M → List Done
all_dones {M} lot settled es y = dones_of (lot_for lot y) es (prepared lot settled y)
