use Rattle.std.proofs.Common.{sym, length, ◌∙◌}
use Rattle.std.proofs.lemmas.Bool.{eqb-true}
use Rattle.std.proofs.lemmas.List.{nil_from_length}
use Rattle.fuse_data.specs.State.{state_of}
use Rattle.guest_values.proofs.Results.{on_ok}
use Rattle.guest_values.proofs.Lasting.{safe_unput, safe_synced, serves_same}
use Rattle.guest_values.proofs.value_file.ValueFile.sync.Goals as goal

pub returns-then-is_empty-clause-safe : goal.returns-then-is_empty-clause-safe
returns-then-is_empty-clause-safe g c = λ committed now h.
    safe_unput committed now c.args.self.now.put.items c.args.self.now.gone.items (state_of g.D.Disk c.args.self.now.file)
    (sym c.as_slice.ensures.value ∙ nil_from_length c.as_slice.result.now (eqb-true (length c.as_slice.result.now) 0 (sym c.if-is_empty.ensures))) h

pub returns-clause-safe : goal.returns-clause-safe
returns-clause-safe g c = on_ok c.sync.result (λ only committed now h.
    safe_synced (state_of g.D.Disk c.args.self.now.file) (state_of g.D.Disk c.sync.new.self) now c.sync.ensures.seen only h.current) c.sync.ensures.durable

pub returns-clause-serves : goal.returns-clause-serves
returns-clause-serves g c = λ committed now h.
    serves_same (state_of g.D.Disk c.args.self.now.file) (state_of g.D.Disk c.sync.new.self) c.sync.ensures.seen c.sync.ensures.gaps c.sync.ensures.crash committed now
    c.args.self.now.put.items c.args.self.now.gone.items h
