use Rattle.fuse_data.proofs.Parts.{part_placed, part_in_use, part_disjoint, part_bytes, part_whole}
use Rattle.fuse_data.proofs.laws.parts_hold.Goals as goal

pub returns : goal.returns
returns c = record { placed = part_placed; in_use = part_in_use; disjoint = part_disjoint; bytes = part_bytes; whole = part_whole }
