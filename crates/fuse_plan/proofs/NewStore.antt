-- A new store is a tree.
use Rattle.std.proofs.Common.{◌<◌, ℕ, Option, Some, None, refl, arith}
use Rattle.fuse_rows.specs.declared.origin.Origin.{Origin}
use Rattle.fuse_init.specs.declared.profile.Profile.{Profile}
use Rattle.fuse_init.specs.declared.profile.Profile.TheVariants.{Plain, Everyday}
use Rattle.fuse_init.specs.Profile.{terms}
use Rattle.fuse_rows.specs.Rows.{profile_for}
use Rattle.fuse_rows.specs.Bounds.{capacity_end}
use Rattle.fuse_tree.specs.State.{Shape, Tree, IsNode, new_store, root_node}
use Rattle.fuse_plan.proofs.WrittenBlocks.{none_counts}

root_is : (capacity : Option ℕ) (from : Origin) → IsNode (terms (profile_for capacity)) 2 (root_node capacity from)
root_is capacity from = record {
  from_one = omega arith;
  below = omega arith;
  mode = record { typed = refl; no_more = omega arith; no_device = λ _. refl };
  content = record { others = λ _. refl; target = λ is. absurd cc; links = λ is. absurd cc };
  size = omega arith;
  blocks = none_counts capacity 0o40755 refl;
}

new_shape : (p : Profile) (capacity : ℕ) (from : Origin) → capacity < capacity_end → Shape (new_store p capacity from)
new_shape Plain capacity from low = record {
  root = refl;
  nodes = (root_is None from, tt);
  nodes_rise = (tt, tt);
  entries = tt;
  entries_apart = tt;
  handles = tt;
  handles_rise = tt;
  limits =
      record {
        nodes = omega arith;
        handles = omega arith;
        next_node = omega arith;
        next_fh = omega arith;
        next_cookie = omega arith;
        fh_from_one = omega arith;
        cookie_from_three = omega arith;
      };
  space = tt;
}
new_shape Everyday capacity from low = record {
  root = refl;
  nodes = (root_is (Some capacity) from, tt);
  nodes_rise = (tt, tt);
  entries = tt;
  entries_apart = tt;
  handles = tt;
  handles_rise = tt;
  limits =
      record {
        nodes = omega arith;
        handles = omega arith;
        next_node = omega arith;
        next_fh = omega arith;
        next_cookie = omega arith;
        fh_from_one = omega arith;
        cookie_from_three = omega arith;
      };
  space = record { used = omega arith; bounded = low };
}

pub new_tree : (p : Profile) (capacity : ℕ) (from : Origin) → capacity < capacity_end → Tree (new_store p capacity from)
new_tree p capacity from low = record { shape = new_shape p capacity from low; kept = λ _. (refl, tt) }
