use Rattle.std.proofs.Common.{arith}
use Rattle.fuse_request.specs.Act.{act}
use Rattle.fuse_request.specs.Spelling.{parts}
use Rattle.fuse_request.proofs.encoding.message_len.Goals as goal

pub returns-clause-len : goal.returns-clause-len
returns-clause-len c = omega (arith, c.body_len.ensures.len, c.long.ensures.len, c.layouts_stand.ensures.form_len (parts (act c.args.request.now.op)))
