use Rattle.fuse_data.specs.State.{state_of}
use Rattle.guest_values.proofs.Lasting.{serves_same, rests_same}
use Rattle.guest_values.proofs.value_file.ValueFile.read.Goals as goal

pub returns-clause-serves : goal.returns-clause-serves
returns-clause-serves g c = λ committed now h.
    let reads = c.read_value.ensures.reads in
    serves_same (state_of g.D.Disk c.args.self.now.file) (state_of g.D.Disk c.read_value.new.file) reads.seen reads.gaps reads.crash committed now
    c.args.self.now.put.items c.args.self.now.gone.items h

pub returns-clause-rests : goal.returns-clause-rests
returns-clause-rests g c = λ listed h.
    let reads = c.read_value.ensures.reads in
    rests_same (state_of g.D.Disk c.args.self.now.file) (state_of g.D.Disk c.read_value.new.file) reads.seen reads.gaps reads.crash listed
    c.args.self.now.put.items c.args.self.now.gone.items h
