-- The verdict on a tree (defined by this project).
use Rattle.std.specs.Prelude.{◌≡◌, ℕ, List, [], ◌∷◌, ◌++◌, codes, IfSome}
use Rattle.fuse_rows.specs.declared.rows.Counters.{Counters as CountersRow}
use Rattle.fuse_show.specs.Fields.{fields_text}
use Rattle.fuse_show.specs.declared.tally.Tally.{Tally}

-- as many nodes as these counters say, and as many blocks as are in use of a store that counts them
pub record Counts (c : CountersRow) (t : Tally) : Type 0 where
  pub nodes : t.nodes ≡ c.nodes
  pub blocks : IfSome c.room (λ room. t.blocks ≡ room.used)

-- the line of a sound tree
abbrev pub tally_text : Tally → List ℕ
tally_text t =
    fields_text ((codes "ok nodes=", t.nodes) ∷ (codes " directories=", t.directories) ∷ (codes " files=", t.files)
    ∷ (codes " links=", t.links) ∷ (codes " others=", t.others) ∷ (codes " bytes=", t.bytes) ∷ [])
    ++ codes "\n"
