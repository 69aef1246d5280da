use Rattle.fuse_answer.proofs.Forms.{len_first}
use Rattle.fuse_answer.proofs.laws.len_stands_first.Goals as goal

pub returns : goal.returns
returns c = len_first (c.numbers_read.ensures, c.layouts_stand.ensures)
