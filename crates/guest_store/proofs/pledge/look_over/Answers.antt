use Rattle.sqlite.specs.Held.{state}
use Rattle.fuse_store_tables.specs.inner.Following.{earlier}
use Rattle.guest_store.proofs.Pledges.{alone_reads, held_looked, held_stored, says_plain, stored_rests}
use Rattle.guest_store.proofs.pledge.look_over.Goals as goal

-- ---- it isn't opened

pub returns-in-Err-clause-fault : goal.returns-in-Err-clause-fault
returns-in-Err-clause-fault g c = λ clean y at.
    c.in-Err.ensures.fault clean at.holds.0 (stored_rests y (state g.S.Store c.args.conn.now) at)

-- ---- the settings aren't read

pub returns-in-Err-find_settings-clause-alone : goal.returns-in-Err-find_settings-clause-alone
returns-in-Err-find_settings-clause-alone g c =
    let a = state g.S.Store c.args.conn.now in
    let b = state g.S.Store c.open_store.new.conn in
    let d = state g.S.Store c.find_settings.new.conn in
    alone_reads a b d _ c.in-Ok.ensures.alone c.in-Err-find_settings.ensures.reads

pub returns-in-Err-find_settings-clause-says : goal.returns-in-Err-find_settings-clause-says
returns-in-Err-find_settings-clause-says g c = λ clean.
    let a = state g.S.Store c.args.conn.now in
    let b = state g.S.Store c.open_store.new.conn in
    let d = state g.S.Store c.find_settings.new.conn in
    says_plain a.now c.in-Err-find_settings.fault (c.in-Ok.ensures.tabled (earlier b d _ c.in-Err-find_settings.ensures.reads.commits.survives clean))
    c.in-Err-find_settings.ensures.plain

pub returns-in-Err-find_settings-clause-fault : goal.returns-in-Err-find_settings-clause-fault
returns-in-Err-find_settings-clause-fault g c = λ clean y at.
    let a = state g.S.Store c.args.conn.now in
    let b = state g.S.Store c.open_store.new.conn in
    let d = state g.S.Store c.find_settings.new.conn in
    let opened = earlier b d _ c.in-Err-find_settings.ensures.reads.commits.survives clean in
    c.in-Err-find_settings.ensures.safe clean y (held_stored a b tt c.in-Ok.ensures.serves opened y at)

-- ---- what was pledged isn't read

pub returns-in-Err-find_pledged-clause-alone : goal.returns-in-Err-find_pledged-clause-alone
returns-in-Err-find_pledged-clause-alone g c =
    let a = state g.S.Store c.args.conn.now in
    let b = state g.S.Store c.open_store.new.conn in
    let d = state g.S.Store c.find_settings.new.conn in
    let e = state g.S.Store c.find_pledged.new.conn in
    alone_reads a d e _ (alone_reads a b d _ c.in-Ok.ensures.alone c.in-Ok-find_settings.ensures.reads) c.in-Err-find_pledged.ensures.reads

pub returns-in-Err-find_pledged-clause-says : goal.returns-in-Err-find_pledged-clause-says
returns-in-Err-find_pledged-clause-says g c = λ clean.
    let a = state g.S.Store c.args.conn.now in
    let b = state g.S.Store c.open_store.new.conn in
    let d = state g.S.Store c.find_settings.new.conn in
    let e = state g.S.Store c.find_pledged.new.conn in
    let looked = earlier d e _ c.in-Err-find_pledged.ensures.reads.commits.survives clean in
    says_plain a.now c.in-Err-find_pledged.fault (c.in-Ok.ensures.tabled (earlier b d _ c.in-Ok-find_settings.ensures.reads.commits.survives looked))
    c.in-Err-find_pledged.ensures.plain

pub returns-in-Err-find_pledged-clause-fault : goal.returns-in-Err-find_pledged-clause-fault
returns-in-Err-find_pledged-clause-fault g c = λ clean y at.
    let a = state g.S.Store c.args.conn.now in
    let b = state g.S.Store c.open_store.new.conn in
    let d = state g.S.Store c.find_settings.new.conn in
    let e = state g.S.Store c.find_pledged.new.conn in
    let looked = earlier d e _ c.in-Err-find_pledged.ensures.reads.commits.survives clean in
    let opened = earlier b d _ c.in-Ok-find_settings.ensures.reads.commits.survives looked in
    c.in-Err-find_pledged.ensures.safe clean y
    (held_looked b d c.in-Ok-find_settings.settings c.in-Ok-find_settings.ensures.rests looked y (held_stored a b tt c.in-Ok.ensures.serves opened y at))

-- ---- all is read

pub returns-in-Ok-find_pledged-clause-alone : goal.returns-in-Ok-find_pledged-clause-alone
returns-in-Ok-find_pledged-clause-alone g c =
    let a = state g.S.Store c.args.conn.now in
    let b = state g.S.Store c.open_store.new.conn in
    let d = state g.S.Store c.find_settings.new.conn in
    let e = state g.S.Store c.find_pledged.new.conn in
    alone_reads a d e _ (alone_reads a b d _ c.in-Ok.ensures.alone c.in-Ok-find_settings.ensures.reads) c.in-Ok-find_pledged.ensures.reads

pub returns-in-Ok-find_pledged-clause-held : goal.returns-in-Ok-find_pledged-clause-held
returns-in-Ok-find_pledged-clause-held g c = λ clean y at.
    let a = state g.S.Store c.args.conn.now in
    let b = state g.S.Store c.open_store.new.conn in
    let d = state g.S.Store c.find_settings.new.conn in
    let e = state g.S.Store c.find_pledged.new.conn in
    let looked = earlier d e _ c.in-Ok-find_pledged.ensures.reads.commits.survives clean in
    let opened = earlier b d _ c.in-Ok-find_settings.ensures.reads.commits.survives looked in
    held_looked d e c.in-Ok-find_pledged.pledged c.in-Ok-find_pledged.ensures.rests clean y
    (held_looked b d c.in-Ok-find_settings.settings c.in-Ok-find_settings.ensures.rests looked y (held_stored a b tt c.in-Ok.ensures.serves opened y at))

pub returns-in-Ok-find_pledged-clause-value : goal.returns-in-Ok-find_pledged-clause-value
returns-in-Ok-find_pledged-clause-value g c = λ clean y at.
    let a = state g.S.Store c.args.conn.now in
    let b = state g.S.Store c.open_store.new.conn in
    let d = state g.S.Store c.find_settings.new.conn in
    let e = state g.S.Store c.find_pledged.new.conn in
    let looked = earlier d e _ c.in-Ok-find_pledged.ensures.reads.commits.survives clean in
    let opened = earlier b d _ c.in-Ok-find_settings.ensures.reads.commits.survives looked in
    let there = held_stored a b tt c.in-Ok.ensures.serves opened y at in (
      c.in-Ok-find_settings.ensures.value_at_rest looked y there,
      c.in-Ok-find_pledged.ensures.value_at_rest clean y
          (held_looked b d c.in-Ok-find_settings.settings c.in-Ok-find_settings.ensures.rests looked y there),
    )

pub returns-in-Ok-find_pledged-clause-whole : goal.returns-in-Ok-find_pledged-clause-whole
returns-in-Ok-find_pledged-clause-whole g c = λ clean.
    let a = state g.S.Store c.args.conn.now in
    let b = state g.S.Store c.open_store.new.conn in
    let d = state g.S.Store c.find_settings.new.conn in
    let e = state g.S.Store c.find_pledged.new.conn in
    let looked = earlier d e _ c.in-Ok-find_pledged.ensures.reads.commits.survives clean in
    c.in-Ok.ensures.whole (earlier b d _ c.in-Ok-find_settings.ensures.reads.commits.survives looked)

pub returns-in-Ok-find_pledged-clause-tabled : goal.returns-in-Ok-find_pledged-clause-tabled
returns-in-Ok-find_pledged-clause-tabled g c = λ clean.
    let a = state g.S.Store c.args.conn.now in
    let b = state g.S.Store c.open_store.new.conn in
    let d = state g.S.Store c.find_settings.new.conn in
    let e = state g.S.Store c.find_pledged.new.conn in
    let looked = earlier d e _ c.in-Ok-find_pledged.ensures.reads.commits.survives clean in
    c.in-Ok.ensures.tabled (earlier b d _ c.in-Ok-find_settings.ensures.reads.commits.survives looked)
