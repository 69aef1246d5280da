-- The changes of SETATTR and WRITE over the rows of a tree fit a table.
use Rattle.std.proofs.Common.{◌≡◌, ◌+◌, ◌-◌, ◌<◌, ◌≤◌, ◌==◌, ◌^◌, ℕ, zero, suc, Bool, true, false, cond, not, List, [], ◌∷◌, length, Option, Some, None, refl, arith}
use Rattle.std.specs.Prelude.{IfSome, nat_lt}
use Rattle.std.specs.Option.{option_map}
use Rattle.std.proofs.lemmas.Bool.{ltb-false, leb-true}
use Rattle.fuse_wire.specs.Errnos.{eisdir, einval, efbig}
use Rattle.fuse_wire.specs.declared.moment.Moment.{Moment}
use Rattle.fuse_wire.specs.Bits.{fattr_size}
use Rattle.fuse_request.specs.declared.request.SetattrIn.{SetattrIn}
use Rattle.fuse_init.specs.declared.profile.Profile.{Profile}
use Rattle.fuse_init.specs.declared.profile.Profile.TheVariants.{Plain, Everyday}
use Rattle.fuse_init.specs.Profile.{terms}
use Rattle.fuse_rows.specs.Bounds.{file_limit, block_limit}
use Rattle.fuse_rows.specs.Blocks.{how_many, touched_end}
use Rattle.fuse_tree.specs.declared.agreement.Agreement.{Agreement}
use Rattle.fuse_rows.specs.declared.rows.Room.{Room}
use Rattle.fuse_rows.specs.declared.rows.Change.TheVariants as changes
use Rattle.fuse_rows.specs.declared.rows.Counters.{Counters as CountersRow}
use Rattle.fuse_rows.specs.declared.rows.NodeRow.{NodeRow}
use Rattle.fuse_tree.specs.State.{is_file}
use Rattle.fuse_rows.specs.Rows.{Rows}
use Rattle.fuse_tree.specs.Handles.{access_at}
use Rattle.fuse_tree.specs.Space.{has_room}
use Rattle.fuse_tree.specs.Setting.{has_valid_bit, size_fault, set_fault}
use Rattle.fuse_tree.specs.Writing.{Writing, may_write}
use Rattle.fuse_rows.specs.Columns.{FitsNode, FitsRoom, FitColumns}
use Rattle.fuse_plan.specs.inner.PlanSpace.{counters_for, room_in, room_with_used, room_changes, newly_in}
use Rattle.fuse_plan.specs.inner.PlanSetting.{set_row, set_gone, plan_setattr}
use Rattle.fuse_plan.specs.inner.PlanWriting.{plan_written, plan_write}
use Rattle.fuse_plan.proofs.Most.{file_most}
use Rattle.fuse_plan.proofs.SmallRows.{SmallCounters, Small, Fit, past, unless}

pub isnt_not : (b : Bool) → not b ≡ false → b ≡ true
isnt_not true e = refl
isnt_not false e = absurd cc

-- ---- the room

pub more_room : (room : Option Room) (more : ℕ) → IfSome room FitsRoom → has_room room more ≡ true
    → IfSome (option_map (room_with_used (λ used. used + more)) room) FitsRoom
more_room None more is enough = tt
more_room (Some room) more is enough = record {
  capacity = is.capacity;
  used = omega (arith, is.capacity, leb-true (room.used + more) room.capacity enough);
}

less_room : (room : Option Room) (gone : ℕ) → IfSome room FitsRoom → IfSome (option_map (room_with_used (λ used. used - gone)) room) FitsRoom
less_room None gone is = tt
less_room (Some room) gone is = record { capacity = is.capacity; used = omega (arith, is.used) }

-- the counters with another room
room_fits : (counters : Option CountersRow) (change : ℕ → ℕ) → IfSome counters SmallCounters
    → IfSome counters (λ c. IfSome (option_map (room_with_used change) c.room) FitsRoom) → FitColumns (room_changes counters change)
room_fits None change few room = tt
room_fits (Some counters) change few room = (
  record {
    next_node = omega (arith, few.next_node);
    next_fh = omega (arith, few.next_fh);
    next_cookie = omega (arith, few.next_cookie);
    nodes = omega (arith, few.nodes);
    handles = omega (arith, few.handles);
    room = room;
  },
  tt,
)

more_fits : (counters : Option CountersRow) (more : ℕ) → IfSome counters SmallCounters → has_room (room_in counters) more ≡ true
    → FitColumns (room_changes counters (λ used. used + more))
more_fits None more few left = tt
more_fits (Some counters) more few left = room_fits (Some counters) (λ used. used + more) few (more_room counters.room more few.room left)

less_fits : (counters : Option CountersRow) (gone : ℕ) → IfSome counters SmallCounters → FitColumns (room_changes counters (λ used. used - gone))
less_fits None gone few = tt
less_fits (Some counters) gone few = room_fits (Some counters) (λ used. used - gone) few (less_room counters.room gone few.room)

-- the counts of a row
count_more : (o : Option ℕ) (more : ℕ) → how_many o ≤ block_limit → more ≤ file_limit + 1 → how_many (option_map (λ w. w + more) o) < 2 ^ 63
count_more None more few low = omega arith
count_more (Some w) more few low = omega (arith, few, low)

count_less : (o : Option ℕ) (gone : ℕ) → how_many o < 2 ^ 63 → how_many (option_map (λ w. w - gone) o) < 2 ^ 63
count_less None gone few = omega arith
count_less (Some w) gone few = omega (arith, few)

counters_small : (p : Profile) (rows : Rows) → Small rows → IfSome (counters_for p rows) SmallCounters
counters_small Plain rows all = tt
counters_small Everyday rows all = all.counters

-- ---- SETATTR

over_size : (dir file over : Bool) → cond dir (Some eisdir) (cond (not file) (Some einval) (cond over (Some efbig) None)) ≡ None → over ≡ false
over_size true file over e = absurd cc
over_size false false over e = absurd cc
over_size false true true e = absurd cc
over_size false true false e = refl

pub setattr_fits : (g : Agreement) (set : SetattrIn) (now : Moment) (row : NodeRow) (rows : Rows) → Small rows → FitsNode row → Fit (plan_setattr g set now row rows)
setattr_fits g set now row rows all fits =
    unless (set_fault (terms g.profile).file_limit set row.mode) _
    (λ none. record { columns = sizes (has_valid_bit set fattr_size) none (set_gone set row rows) })
  where
    size_is : size_fault (terms g.profile).file_limit row.mode set.size ≡ None → set.size ≤ file_limit
    size_is none =
        omega (
          arith,
          file_most g.profile,
          ltb-false (terms g.profile).file_limit set.size
              (over_size _ (is_file row.mode) (nat_lt (terms g.profile).file_limit set.size) none),
        )

    sizes : (b : Bool) → cond b (size_fault (terms g.profile).file_limit row.mode set.size) None ≡ None → (gone : ℕ)
        → FitColumns
        (changes.Node (record (set_row set now gone row) { size = cond b set.size row.size }) ∷ cond b
        (changes.Sized row.node set.size ∷ room_changes (cond b (counters_for g.profile rows) None) (λ used. used - gone)) [])
    sizes true none gone = (
      record { node = fits.node; up = fits.up; size = size_is none; written = count_less row.written gone fits.written },
      ((fits.node, size_is none), less_fits (counters_for g.profile rows) gone (counters_small g.profile rows all)),
    )
    sizes false none gone =
        (record { node = fits.node; up = fits.up; size = fits.size; written = count_less row.written gone fits.written }, tt)

-- ---- WRITE

written_fits : (offset : ℕ) (payload : List ℕ) (more : ℕ) (now : Moment) (row : NodeRow) (counters : Option CountersRow) → FitsNode row
    → how_many row.written ≤ block_limit → IfSome counters SmallCounters → offset + length payload ≤ file_limit → more ≤ file_limit + 1
    → has_room (room_in counters) more ≡ true → Fit (plan_written offset payload more now row counters)
written_fits offset payload more now row counters fits few all low news room =
    let size : row.size ≤ file_limit = fits.size in
    record {
      columns = (
        record { node = fits.node; up = fits.up; size = omega arith; written = count_more row.written more few news },
        ((fits.node, low), more_fits counters more all room),
      );
    }

-- no more blocks become written than there are bytes before their end, and one
touched_few : (offset len : ℕ) → touched_end offset len ≤ offset + len + 1
touched_few offset zero = omega arith
touched_few offset (suc n) = omega arith

pub write_fits : (p : Profile) (fh : ℕ) (w : Writing) (row : NodeRow) (rows : Rows) → Small rows → FitsNode row → how_many row.written ≤ block_limit
    → Fit (plan_write p fh w row rows)
write_fits p fh w row rows all fits few =
    past (not (may_write (access_at rows.handles fh row.node))) _ _ refl
    (λ _. past (length w.payload == 0) _ _ refl
    (λ _. past (nat_lt (terms p).file_limit (w.offset + length w.payload)) _ _ refl
    (λ low. past (not (has_room (room_in (counters_for p rows)) (newly_in rows row w.offset (length w.payload)))) _ _ refl
    (λ room.
    let within : w.offset + length w.payload ≤ file_limit = omega (arith, file_most p, ltb-false (terms p).file_limit (w.offset + length w.payload) low) in
    written_fits w.offset w.payload (newly_in rows row w.offset (length w.payload)) w.now row (counters_for p rows) fits few (counters_small p rows all)
    within (omega (arith, within, touched_few w.offset (length w.payload))) (isnt_not _ room)))))
