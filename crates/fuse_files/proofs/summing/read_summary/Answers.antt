use Rattle.fuse_files.proofs.Summed.{rests_for}
use Rattle.fuse_files.proofs.summing.read_summary.Goals as goal

pub returns-in-Err-settings-clause-fault : goal.returns-in-Err-settings-clause-fault
returns-in-Err-settings-clause-fault g c = λ clean rows records held.
    let counts = c.in-Ok.ensures in
    let settings = c.in-Err-settings.ensures in
    let still = counts.looked.same (settings.looked.called.honest clean) rows records held in
    settings.fault clean.0 still.holding (rests_for _ _ _ still.rests)

pub returns-in-Err-content_size-clause-fault : goal.returns-in-Err-content_size-clause-fault
returns-in-Err-content_size-clause-fault g c = λ clean rows records held.
    let counts = c.in-Ok.ensures in
    let settings = c.in-Ok-settings.ensures in
    let size = c.in-Err-content_size.ensures in
    let after = size.looked.called.honest clean in
    let still = settings.looked.same after rows records (counts.looked.same (settings.looked.called.honest after) rows records held) in
    size.fault clean.0 still.holding (rests_for _ _ _ still.rests)

pub returns-in-Ok-room-clause-so : goal.returns-in-Ok-room-clause-so
returns-in-Ok-room-clause-so g c = λ clean rows records held rowed.
    let counts = c.in-Ok.ensures in
    let settings = c.in-Ok-settings.ensures in
    let size = c.in-Ok-content_size.ensures in
    let room = c.in-Ok-room.ensures in
    let last = room.looked.called.honest clean in
    let after = size.looked.called.honest last in
    let mid = settings.looked.called.honest after in
    let still = counts.looked.same mid rows records held in
    let known = settings.looked.same after rows records still in
    record {
      nodes = counts.nodes mid rows records held rowed;
      handles = counts.handles mid rows records held rowed;
      records = counts.records mid rows records held rowed;
      lots = counts.lots mid rows records held rowed;
      bytes = size.ok last rows records known rowed;
      room = room.ok clean rows records (size.looked.same last rows records known) rowed;
      agreed = settings.ok after rows records still rowed;
    }

pub returns-in-Err-room-clause-fault : goal.returns-in-Err-room-clause-fault
returns-in-Err-room-clause-fault g c = λ clean rows records held.
    let counts = c.in-Ok.ensures in
    let settings = c.in-Ok-settings.ensures in
    let size = c.in-Ok-content_size.ensures in
    let room = c.in-Err-room.ensures in
    let last = room.looked.called.honest clean in
    let after = size.looked.called.honest last in
    let still = settings.looked.same after rows records (counts.looked.same (settings.looked.called.honest after) rows records held) in
    let held' = size.looked.same last rows records still in
    room.fault clean.0 held'.holding (rests_for _ _ _ held'.rests)

pub returns-in-Err-clause-fault : goal.returns-in-Err-clause-fault
returns-in-Err-clause-fault g c = λ clean rows records held. c.in-Err.ensures.fault clean.0 held.holding (rests_for _ _ _ held.rests)

pub returns-in-Err-clause-honest : goal.returns-in-Err-clause-honest
returns-in-Err-clause-honest g c = λ clean. c.in-Err.ensures.looked.called.honest clean

pub returns-in-Err-settings-clause-honest : goal.returns-in-Err-settings-clause-honest
returns-in-Err-settings-clause-honest g c = λ clean. c.in-Ok.ensures.looked.called.honest (c.in-Err-settings.ensures.looked.called.honest clean)

pub returns-in-Err-content_size-clause-honest : goal.returns-in-Err-content_size-clause-honest
returns-in-Err-content_size-clause-honest g c = λ clean.
    c.in-Ok.ensures.looked.called.honest (c.in-Ok-settings.ensures.looked.called.honest (c.in-Err-content_size.ensures.looked.called.honest clean))

pub returns-in-Ok-room-clause-honest : goal.returns-in-Ok-room-clause-honest
returns-in-Ok-room-clause-honest g c = λ clean.
    c.in-Ok.ensures.looked.called.honest (c.in-Ok-settings.ensures.looked.called.honest
    (c.in-Ok-content_size.ensures.looked.called.honest (c.in-Ok-room.ensures.looked.called.honest clean)))

pub returns-in-Err-room-clause-honest : goal.returns-in-Err-room-clause-honest
returns-in-Err-room-clause-honest g c = λ clean.
    c.in-Ok.ensures.looked.called.honest (c.in-Ok-settings.ensures.looked.called.honest
    (c.in-Ok-content_size.ensures.looked.called.honest (c.in-Err-room.ensures.looked.called.honest clean)))
