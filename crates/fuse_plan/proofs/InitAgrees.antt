-- The plan of INIT agrees with what is done.
use Rattle.std.proofs.Common.{Option, Some, refl}
use Rattle.fuse_init.specs.declared.negotiation.Negotiated.{Negotiated}
use Rattle.fuse_init.specs.declared.negotiation.Negotiated.TheVariants.{Agreed, Again, Refused}
use Rattle.fuse_init.specs.declared.settings.Settings.{Settings}
use Rattle.fuse_tree.specs.State.{State, Shape, Limits}
use Rattle.fuse_tree.specs.Init.{init}
use Rattle.fuse_plan.specs.inner.PlanInit.{plan_init}
use Rattle.fuse_plan.proofs.Agrees.{Agrees, refused_agrees}
use Rattle.fuse_plan.proofs.Blocks.{space_same}

limits_settled : (s : State) (settings : Option Settings) → Limits s → Limits (record s { settings = settings })
limits_settled s settings l = record {
  nodes = l.nodes;
  handles = l.handles;
  next_node = l.next_node;
  next_fh = l.next_fh;
  next_cookie = l.next_cookie;
  fh_from_one = l.fh_from_one;
  cookie_from_three = l.cookie_from_three;
}

-- no part of a tree looks at settings
tree_settled : (s : State) (settings : Option Settings) → Shape s → Shape (record s { settings = settings })
tree_settled s settings tree = record {
  root = tree.root;
  nodes = tree.nodes;
  nodes_rise = tree.nodes_rise;
  entries = tree.entries;
  entries_apart = tree.entries_apart;
  handles = tree.handles;
  handles_rise = tree.handles_rise;
  limits = limits_settled s settings tree.limits;
  space = space_same s (record s { settings = settings }) s.capacity refl tree.space;
}

pub init_agrees : (s : State) (negotiated : Negotiated) → Shape s → Agrees s (plan_init negotiated) (init s negotiated)
init_agrees s (Agreed out settings) tree = record { answer = refl; rows = refl; tree = tree_settled s (Some settings) tree; same = refl; kept = λ all. all }
init_agrees s (Again out) tree = record { answer = refl; rows = refl; tree = tree; same = refl; kept = λ all. all }
init_agrees s (Refused errno) tree = refused_agrees s tree errno
