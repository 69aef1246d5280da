-- An everyday store of version 2, which an opening brings to version 3 (defined by this project: 'Store, version 3').
use Rattle.std.specs.Prelude.{◌≡◌, ◌≤◌, ◌^◌, ℕ, List, [], ◌∷◌, map, Option, None, IsSome, IfSome}
use Rattle.sqlite.specs.Effect.{Database}
use Rattle.fuse_init.specs.declared.settings.Settings.{Settings}
use Rattle.fuse_rows.specs.declared.rows.Counters.{Counters as CountersRow}
use Rattle.fuse_rows.specs.declared.rows.NodeRow.{NodeRow}
use Rattle.fuse_tree.specs.State.{Tree}
use Rattle.fuse_tree.specs.Rowed.{rowed}
use Rattle.fuse_store_tables.specs.declared.version.Layout.TheVariants as layouts
use Rattle.fuse_store_tables.specs.Content.{Content, Counter, node_key, cookie_of, fh_of}
use Rattle.fuse_store_tables.specs.ToCount.{HoldsOfSecond}
use Rattle.fuse_store_tree.specs.Fits.{Fits}
use Rattle.fuse_store_tree.specs.Pieces.{byte_in, is_written_in}
use Rattle.fuse_store_tree.specs.Store.{FitsSettings, in_order, counter, is_there, minor_of, readahead_of, flags_of}
use Rattle.fuse_store_tree.specs.Store.{Store, Bodies, AreWithin, IsWrittenAs, bodies_of}
use Rattle.fuse_store_tree.specs.Holding.{Holding, AreBelow, store_of}

-- the fourteen of its `meta`, in which this is the number of blocks in use: those of each size, rounded up
abbrev pub second_meta_rows : CountersRow → Option Settings → ℕ → ℕ → ℕ → List Counter
second_meta_rows c s lot capacity used =
    counter 1 2 ∷ counter 2 c.next_node ∷ counter 3 c.next_fh ∷ counter 4 c.next_cookie ∷ counter 5 c.nodes ∷ counter 6 c.handles ∷ counter 7 (is_there s)
    ∷ counter 8 (minor_of s) ∷ counter 9 (readahead_of s)
    ∷ counter 10 (flags_of s) ∷ counter 11 lot ∷ counter 12 2 ∷ counter 13 capacity ∷ counter 14 used ∷ []

-- a row of a node, which doesn't count written blocks
abbrev pub uncounted : NodeRow → NodeRow
uncounted n = record n { written = None }

-- its tables describe these rows, but for what they say of written blocks. There is a row for each block that bytes were written to.
pub record DescribesSecond (x : Store) (bodies : Bodies) (c : Content) : Type 0 where
  pub layout : c.layout ≡ layouts.Second
  pub used : ℕ
  pub counters : IfSome x.rows.counters.room (λ r. (c.counters ≡ second_meta_rows x.rows.counters x.rows.settings x.next_lot r.capacity used) × (used ≤ r.capacity))
  pub nodes : c.nodes ≡ in_order node_key (map (λ f. uncounted f.row) x.rows.nodes)
  pub entries : c.entries ≡ in_order cookie_of x.rows.entries
  pub handles : c.handles ≡ in_order fh_of x.rows.handles
  pub answers : c.answers ≡ []
  pub lots : c.lots ≡ x.lots
  pub kept : c.kept ≡ x.kept
  pub attributes : c.attributes ≡ []
  pub bytes : (node i : ℕ) → byte_in [] c node i ≡ bodies.byte node i
  pub written : (node block : ℕ) → IsWrittenAs (is_written_in [] c node block) (bodies.written node) block
  pub within : AreWithin bodies.ends c.blocks
  pub settings : FitsSettings x.rows.settings
  pub fits : Fits c

-- a database of version 2, with the index or without it, that holds this, which is everyday
pub record SecondEverydayFor (y : Holding) (d : Database) : Type 0 where
  pub tree : Tree y.tree
  pub everyday : IsSome y.tree.capacity
  pub below : AreBelow y.next_lot y.lots
  pub next : y.next_lot ≤ 2 ^ 62
  pub held : (c : Content) × HoldsOfSecond c d × DescribesSecond (store_of y) (bodies_of (rowed y.tree)) c
