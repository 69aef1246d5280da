use Rattle.fuse_data.specs.State.{state_of}
use Rattle.guest_values.proofs.Lasting.{put_served, put_unnoted, serves_kept}
use Rattle.guest_values.proofs.value_file.ValueFile.put.Goals as goal

pub returns-in-Ok-add_pieces-clause-ok : goal.returns-in-Ok-add_pieces-clause-ok
returns-in-Ok-add_pieces-clause-ok g c = λ committed now h.
    put_served (state_of g.D.Disk c.args.self.now.file) (state_of g.D.Disk c.write_value.new.file) c.in-Ok.value committed now
    c.args.self.now.put.items c.add_pieces.new.pieces.items c.args.self.now.gone.items c.in-Ok-add_pieces.ensures.ok c.in-Ok.ensures.fit c.write_value.ensures.keeps c.in-Ok.ensures.written h

pub returns-in-Err-add_pieces-clause-err : goal.returns-in-Err-add_pieces-clause-err
returns-in-Err-add_pieces-clause-err g c = λ committed now h.
    put_unnoted (state_of g.D.Disk c.args.self.now.file) (state_of g.D.Disk c.write_value.new.file) committed now
    c.args.self.now.put.items c.add_pieces.new.pieces.items c.args.self.now.gone.items c.in-Err-add_pieces.ensures.err c.write_value.ensures.keeps h

pub returns-in-Err-clause-err : goal.returns-in-Err-clause-err
returns-in-Err-clause-err g c = λ committed now h.
    serves_kept (state_of g.D.Disk c.args.self.now.file) (state_of g.D.Disk c.write_value.new.file) c.write_value.ensures.keeps committed now
    c.args.self.now.put.items c.args.self.now.gone.items h
