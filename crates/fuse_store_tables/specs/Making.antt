-- The content of a new store (defined by this project).
use Rattle.std.specs.Prelude.{◌<◌, ◌^◌, ℕ, List, [], ◌∷◌, ◌++◌, Option, Some, None, ⊤}
use Rattle.sqlite_trees.specs.Tree.{no_trees}
use Rattle.sqlite.specs.Effect.{Database}
use Rattle.sqlite.specs.Schema.{Schema}
use Rattle.fuse_rows.specs.declared.origin.Origin.{Origin}
use Rattle.fuse_rows.specs.declared.rows.NodeRow.{NodeRow}
use Rattle.fuse_store_tables.specs.declared.version.Layout.{Layout}
use Rattle.fuse_store_tables.specs.declared.version.Layout.TheVariants.{Second, Third}
use Rattle.fuse_store_tables.specs.declared.version.Volume.{Volume}
use Rattle.fuse_store_tables.specs.Layout.{version_of}
use Rattle.fuse_store_tables.specs.Content.{Content, Counter, HoldsAs, with_node}
use Rattle.fuse_store_tables.specs.Opening.{IsSecond}

-- the tables of this schema, all empty
abbrev pub IsBare : Schema → ⊤ → Database → Type 0
IsBare s _ = HoldsAs s no_trees

abbrev pub counter : ℕ → ℕ → Counter
counter key value = record { key = key; value = value }

abbrev pub first_counters : Layout → List Counter
first_counters layout =
    counter 1 (version_of layout) ∷ counter 2 2 ∷ counter 3 1 ∷ counter 4 3 ∷ counter 5 1 ∷ counter 6 0 ∷ counter 7 0 ∷ counter 8 0 ∷ counter 9 0 ∷ counter 10 0
    ∷ counter 11 1 ∷ []

abbrev pub counters_alone : Layout → Content
counters_alone layout = record {
  layout = layout;
  counters = first_counters layout;
  nodes = [];
  entries = [];
  blocks = [];
  handles = [];
  answers = [];
  lots = [];
  kept = [];
  pieces = [];
  attributes = [];
}

-- its capacity is below 2^51 blocks, and its number is of 63 bits
pub record IsVolume (volume : Volume) : Type 0 where
  pub capacity : volume.capacity < 2 ^ 51
  pub number : volume.number < 2 ^ 63

-- version 3 is that of the everyday profile
abbrev pub layout_for : Option Volume → Layout
layout_for None = Second
layout_for (Some volume) = Third

abbrev pub none_written : Layout → Option ℕ
none_written Second = None
none_written Third = Some 0

-- the first node, a directory of its owner, with all its times at the moment at which it is made
abbrev pub root : Layout → Origin → NodeRow
root layout from = record {
  node = 1;
  mode = 16877;
  uid = from.owner.uid;
  gid = from.owner.gid;
  rdev = 0;
  size = 0;
  atime = from.made;
  mtime = from.made;
  ctime = from.made;
  up = 0;
  subdirs = 0;
  written = none_written layout;
}

-- what an everyday store has more: the number of its profile, its capacity, what is in use of it, in blocks, and its own number
abbrev pub volume_counters : Volume → List Counter
volume_counters volume = counter 12 2 ∷ counter 13 volume.capacity ∷ counter 14 0 ∷ counter 15 volume.number ∷ []

abbrev pub first_volume : Option Volume → List Counter
first_volume None = []
first_volume (Some volume) = volume_counters volume

abbrev pub new_content : Option Volume → Origin → Content
new_content volume from =
    let layout = layout_for volume in
    with_node (root layout from) (record (counters_alone layout) { counters = first_counters layout ++ first_volume volume })

abbrev pub IsNew : Option Volume → Origin → ⊤ → Database → Type 0
IsNew volume from _ = IsSecond (new_content volume from)
