use Rattle.fuse_request.proofs.Heads.{fault_read, only_one, read_at}
use Rattle.fuse_request.proofs.Classes.{kept_read, seen_read}
use Rattle.fuse_request.proofs.decoding.decode.Goals as goal

pub returns-clause-only : goal.returns-clause-only
returns-clause-only c = only_one (c.layouts_stand.ensures, c.names_end.ensures) c.args.message.now c.read.result c.read.ensures.found c.read.ensures.fault

pub returns-clause-placed : goal.returns-clause-placed
returns-clause-placed c = read_at (c.layouts_stand.ensures, c.names_end.ensures) c.args.message.now c.read.result c.read.ensures.found

pub returns-clause-kept : goal.returns-clause-kept
returns-clause-kept c = kept_read (c.layouts_stand.ensures, c.names_end.ensures) c.args.message.now c.read.result c.read.ensures.found c.read.ensures.fault

pub returns-clause-fault : goal.returns-clause-fault
returns-clause-fault c = fault_read (c.layouts_stand.ensures, c.names_end.ensures) c.args.message.now c.read.result c.read.ensures.found c.read.ensures.fault

pub returns-clause-seen : goal.returns-clause-seen
returns-clause-seen c = seen_read (c.layouts_stand.ensures, c.names_end.ensures) c.args.message.now c.read.result c.read.ensures.found c.read.ensures.fault
