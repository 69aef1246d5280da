use Rattle.std.proofs.Common.{◌∙◌}
use Rattle.sqlite.specs.Held.{state}
use Rattle.fuse_store_tables.specs.Moves.{InsideAs}
use Rattle.guest_tables.specs.Opening.{IsLaid}
use Rattle.guest_tables.proofs.Versions.{version_value, version_fault}
use Rattle.guest_tables.proofs.meta.find_version.Goals as goal

pub returns-clause-value : goal.returns-clause-value
returns-clause-value g c = λ clean.
    version_value c.as_slice.result.now (λ k. InsideAs (IsLaid k) (state g.S.Store c.args.conn.now))
    (λ k at. (at.holds.bits, c.as_slice.ensures.value ∙ c.in_ok-rows.ensures.shows clean k at)) c.read_version.result c.read_version.ensures.value
    c.read_version.ensures.some

pub returns-clause-fault : goal.returns-clause-fault
returns-clause-fault g c = λ clean.
    version_fault c.as_slice.result.now (λ k. InsideAs (IsLaid k) (state g.S.Store c.args.conn.now))
    (λ k at. (at.holds.bits, c.as_slice.ensures.value ∙ c.in_ok-rows.ensures.shows clean k at)) c.read_version.result c.read_version.ensures.fault
