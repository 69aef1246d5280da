use Rattle.std.proofs.Common.{rules}
use Rattle.fuse_answer.proofs.Forms.{laid_header}
use Rattle.fuse_answer.proofs.records.OutHeader.body_of.Goals as goal

pub returns-clause-laid : goal.returns-clause-laid
returns-clause-laid c = laid_header c.layouts_stand.ensures c.args.self.now c.in_ok-from_slice.field-0.items (search rules) c.bytes.ensures.fits
