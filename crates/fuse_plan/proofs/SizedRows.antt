-- The rows where the blocks in use have changed.
use Rattle.std.proofs.Common.{◌≡◌, ℕ, List, Option, Some, None, refl, sym, ap, ◌∙◌}
use Rattle.std.specs.Option.{option_map}
use Rattle.fuse_rows.specs.declared.rows.Room.{Room}
use Rattle.fuse_rows.specs.declared.rows.Full.{Full}
use Rattle.fuse_rows.specs.Rows.{profile_for, Rows, apply}
use Rattle.fuse_plan.specs.inner.PlanSpace.{counters_for, room_with_used, room_changes}
use Rattle.fuse_plan.proofs.Blocks.{room_with}

-- the blocks in use change, and all else stays as it was counted
pub room_used : (change : ℕ → ℕ) (o : Option ℕ) (used : ℕ) → option_map (room_with_used change) (option_map (room_with used) o) ≡ option_map
    (room_with (change used)) o
room_used change None used = refl
room_used change (Some c) used = refl

pub used_rows : (before : Rows) (ns : List Full) (change : ℕ → ℕ) (o : Option ℕ) (used : ℕ) → before.counters.room ≡ option_map (room_with used) o
    → apply (record before { nodes = ns }) (room_changes (counters_for (profile_for o) before) change) ≡ record before {
      nodes = ns;
      counters = record before.counters { room = option_map (room_with_used change) before.counters.room };
    }
used_rows before ns change None used is =
    ap (λ (r : Option Room). record before { nodes = ns; counters = record before.counters { room = r } })
    (is ∙ sym (ap (option_map (room_with_used change)) is))
used_rows before ns change (Some c) used is = refl
