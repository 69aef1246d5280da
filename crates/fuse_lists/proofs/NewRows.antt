-- The rows of a new store.
use Rattle.std.proofs.Common.{◌≡◌, ℕ, [], None, refl}
use Rattle.std.specs.Option.{option_map}
use Rattle.fuse_init.specs.declared.profile.Profile.{Profile}
use Rattle.fuse_init.specs.declared.profile.Profile.TheVariants.{Plain, Everyday}
use Rattle.fuse_rows.specs.declared.origin.Origin.{Origin}
use Rattle.fuse_rows.specs.Rows.{Rows, put_node}
use Rattle.fuse_tree.specs.State.{new_store, root_node, capacity_for}
use Rattle.fuse_tree.specs.Rowed.{row_of, rows_of_state}

-- those of its lists, in which nothing is in use
abbrev pub lists_of : Profile → ℕ → Origin → Rows
lists_of p capacity from = record {
  nodes = put_node (row_of (new_store p capacity from) (root_node (capacity_for p capacity) from)) [];
  entries = [];
  handles = [];
  counters = record {
    next_node = 2;
    next_fh = 1;
    next_cookie = 3;
    nodes = 1;
    handles = 0;
    room = option_map (λ c. record { capacity = c; used = 0 }) (capacity_for p capacity);
  };
  settings = None;
}

pub lists_are : (p : Profile) (capacity : ℕ) (from : Origin) → lists_of p capacity from ≡ rows_of_state (new_store p capacity from)
lists_are Plain capacity from = refl
lists_are Everyday capacity from = refl
