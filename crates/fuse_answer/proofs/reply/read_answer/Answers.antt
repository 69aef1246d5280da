use Rattle.fuse_answer.proofs.Answering.{only_one, proper}
use Rattle.fuse_answer.proofs.reply.read_answer.Goals as goal

pub returns-clause-only : goal.returns-clause-only
returns-clause-only c = only_one c.layouts_stand.ensures c.args.opcode c.args.size c.args.bytes.now c.read.result c.read.ensures.found c.read.ensures.fault

pub returns-clause-proper : goal.returns-clause-proper
returns-clause-proper c = proper c.args.opcode c.args.size c.args.bytes.now c.read.result c.read.ensures.found
