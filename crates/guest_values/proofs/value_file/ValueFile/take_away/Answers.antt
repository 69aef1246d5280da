use Rattle.fuse_data.specs.State.{state_of}
use Rattle.guest_values.specs.Values.{value_pieces}
use Rattle.guest_values.proofs.Results.{on_ok, on_err}
use Rattle.guest_values.proofs.Lasting.{taken_served, untaken_served}
use Rattle.guest_values.proofs.value_file.ValueFile.take_away.Goals as goal

pub returns-clause-ok : goal.returns-clause-ok
returns-clause-ok g c = on_ok c.add_pieces.result (λ is committed now h.
    taken_served (state_of g.D.Disk c.args.self.now.file) (value_pieces c.args.value) committed now c.args.self.now.put.items c.args.self.now.gone.items c.add_pieces.new.pieces.items is h)
    c.add_pieces.ensures.ok

pub returns-clause-err : goal.returns-clause-err
returns-clause-err g c = on_err c.add_pieces.result (λ is committed now h.
    untaken_served (state_of g.D.Disk c.args.self.now.file) committed now c.args.self.now.put.items c.args.self.now.gone.items c.add_pieces.new.pieces.items is h)
    c.add_pieces.ensures.err
