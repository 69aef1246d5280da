use Rattle.fuse_rows.proofs.Ranges.{covers}
use Rattle.fuse_rows.proofs.pieces.Pieces.new.Goals as goal

pub returns : goal.returns
returns c = covers c.args.offset c.args.len
