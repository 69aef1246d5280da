use Rattle.std.proofs.Common.{arith}
use Rattle.fuse_request.proofs.FurtherContents.{body_found, body_only, body_placed, body_fault_read, body_read}
use Rattle.fuse_request.proofs.further.decode_body.Goals as goal

pub returns-clause-found : goal.returns-clause-found
returns-clause-found c = body_found (c.layouts_stand.ensures, c.names_end.ensures) c.args.opcode c.args.body.now c.body_of.result (λ i. omega (arith, c.type_inv.body i)) c.body_of.ensures

pub returns-clause-only : goal.returns-clause-only
returns-clause-only c = body_only (c.layouts_stand.ensures, c.names_end.ensures) c.args.opcode c.args.body.now c.body_of.result (λ i. omega (arith, c.type_inv.body i)) c.body_of.ensures

pub returns-clause-placed : goal.returns-clause-placed
returns-clause-placed c = body_placed (c.layouts_stand.ensures, c.names_end.ensures) c.args.opcode c.args.body.now c.body_of.result (λ i. omega (arith, c.type_inv.body i)) c.body_of.ensures

pub returns-clause-fault : goal.returns-clause-fault
returns-clause-fault c = body_fault_read (c.layouts_stand.ensures, c.names_end.ensures) c.args.opcode c.args.body.now c.body_of.result (λ i. omega (arith, c.type_inv.body i)) c.body_of.ensures

pub returns-clause-read : goal.returns-clause-read
returns-clause-read c = body_read c.args.opcode c.args.body.now c.body_of.result c.body_of.ensures
