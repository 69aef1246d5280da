use Rattle.std.proofs.Common.{Ok, Err, inl, inr, sym, ap, subst, arith, ◌∙◌}
use Rattle.std.proofs.lemmas.Bool.Decides.{not_from_Decides}
use Rattle.sqlite.specs.Held.{state}
use Rattle.fuse_keeper.specs.declared.fault.StoreFault.{StoreFault}
use Rattle.fuse_store_tables.specs.Opening.{IsStored, IsSound, IsFirst, IsSecond, IsUnindexed, IsOpened}
use Rattle.fuse_init.specs.declared.profile.Profile.{Profile}
use Rattle.fuse_keeper.specs.declared.fault.StoreFault.TheVariants.{Damaged}
use Rattle.fuse_store_tables.specs.Saying.{ShowsMore}
use Rattle.fuse_store_tables.specs.inner.Steps.{IsSecondIn, IsRoomySecond, IsRoomyUnindexed}
use Rattle.fuse_store_tables.proofs.Raising.{in_layout_of, sound_second, sound_unindexed, sure_sound, same_fault, plain_alone, any_if}
use Rattle.fuse_store_tables.specs.Moves.{Takes}
use Rattle.fuse_store_tables.proofs.Joining.{then_as, fails_as, sure_next}
use Rattle.fuse_store_tables.proofs.Either.{narrowed}
use Rattle.fuse_store_tables.proofs.MigrationLemmas.{found_first}
use Rattle.fuse_store_tables.proofs.Indexed.{found_second, found_unindexed}
use Rattle.fuse_store_tables.proofs.Layouts.{one_layout, kept_layout}
use Rattle.fuse_store_tables.specs.declared.version.Layout.TheVariants.{Second, Third}
use Rattle.fuse_store_tables.specs.Layout.{version_of}
use Rattle.fuse_store_tables.proofs.OpenLemmas.{tested_second}
use Rattle.fuse_store_tables.proofs.Tabled.{refused_first, refused_second, refused_third, tabled_first, tabled_second, tabled_third, to_migrate, to_index, to_count}
use Rattle.fuse_store_tables.proofs.Alone.{reads_told, reads_failed, reads_then, reads_never}
use Rattle.sqlite.proofs.StateLemmas.{survives_then}
use Rattle.fuse_store_tables.specs.inner.Following.{earlier}
use Rattle.fuse_store_tables.specs.inner.Versions.{reported_damaged, plain_says}
use Rattle.fuse_store_tables.proofs.Sayings.{says_if}
use Rattle.fuse_store_tables.proofs.Within.{within_then, within_failed, within_told}
use Rattle.fuse_store_tables.proofs.Profiles.{plain_in, told_before}
use Rattle.fuse_store_tables.proofs.setup.work.Goals as goal

pub returns-in-Err-clause-opened : goal.returns-in-Err-clause-opened
returns-in-Err-clause-opened g c =
    let a = state g.S.Store c.args.conn.now in
    let b = state g.S.Store c.find_version.new.conn in
    let v = c.in_ok-version.version in
    let first : Takes {E = StoreFault} IsStored IsFirst a b (Ok v) = narrowed IsStored IsStored IsFirst a b v v c.in_ok-version.ensures.unchanged
    (λ clean k at on. found_first a b v c.if-version-eq1.true (c.in_ok-version.ensures.value clean) k at on) in
    fails_as IsStored (IsOpened c.args.number) (IsOpened c.args.number) a (state g.S.Store c.open_first.new.conn) c.in-Err.fault c.in-Err.fault
    (then_as IsStored IsFirst (IsOpened c.args.number) a b (state g.S.Store c.open_first.new.conn) v (Err c.in-Err.fault) first (c.in-Err.ensures.made c.args.number))

pub returns-in-Ok-clause-opened : goal.returns-in-Ok-clause-opened
returns-in-Ok-clause-opened g c =
    let a = state g.S.Store c.args.conn.now in
    let b = state g.S.Store c.find_version.new.conn in
    let v = c.in_ok-version.version in
    let first : Takes {E = StoreFault} IsStored IsFirst a b (Ok v) = narrowed IsStored IsStored IsFirst a b v v c.in_ok-version.ensures.unchanged
    (λ clean k at on. found_first a b v c.if-version-eq1.true (c.in_ok-version.ensures.value clean) k at on) in
    let all = then_as IsStored IsFirst (IsOpened c.args.number) a b (state g.S.Store c.open_first.new.conn) v (Ok _) first
    (c.in-Ok.ensures.made c.args.number) in
    record { stays = all.stays; within = all.within; turns = all.turns }

pub returns-then-second-clause-opened : goal.returns-then-second-clause-opened
returns-then-second-clause-opened g c =
    let a = state g.S.Store c.args.conn.now in
    let b = state g.S.Store c.find_version.new.conn in
    let v = c.in_ok-version.version in
    let second : Takes {E = StoreFault} IsStored (IsSecondIn Second) a b (Ok v) = narrowed IsStored IsStored (IsSecondIn Second) a b v v
    c.in_ok-version.ensures.unchanged
    (λ clean k at on. in_layout_of Second b k a.now (sym c.schema-schema.ensures.value ∙ c.is_second-second.ensures.0 c.if-second.true)
    (c.in_ok-version.ensures.reads.same clean)
    (found_second a b c.schema-schema.result.now c.schema-schema.ensures.value v (omega (arith, c.if-version-eq2.true)) Second
    (c.is_second-second.ensures.0 c.if-second.true) (c.in_ok-version.ensures.value clean) (c.in_ok-version.ensures.reads.same clean) k at on)) in
    then_as IsStored (IsSecondIn Second) (IsOpened c.args.number) a b (state g.S.Store c.open_second.new.conn) v c.open_second.result second
    c.open_second.ensures.opened

pub returns-then-unindexed-clause-opened : goal.returns-then-unindexed-clause-opened
returns-then-unindexed-clause-opened g c =
    let a = state g.S.Store c.args.conn.now in
    let b = state g.S.Store c.find_version.new.conn in
    let v = c.in_ok-version.version in
    let lacking : Takes {E = StoreFault} IsStored IsUnindexed a b (Ok v) = narrowed IsStored IsStored IsUnindexed a b v v c.in_ok-version.ensures.unchanged
    (λ clean k at on. found_unindexed a b c.schema-schema.result.now c.schema-schema.ensures.value v c.if-version-eq2.true
    (c.is_unindexed-unindexed.ensures.0 c.if-unindexed.true) (c.in_ok-version.ensures.value clean) (c.in_ok-version.ensures.reads.same clean) k at on) in
    then_as IsStored IsUnindexed (IsOpened c.args.number) a b (state g.S.Store c.open_unindexed.new.conn) v c.open_unindexed.result lacking c.open_unindexed.ensures.made

pub returns-then-second-clause-whole : goal.returns-then-second-clause-whole
returns-then-second-clause-whole g c =
    tested_second (state g.S.Store c.args.conn.now) (state g.S.Store c.find_version.new.conn) (state g.S.Store c.open_second.new.conn)
    c.in_ok-version.version c.open_second.result c.in_ok-version.ensures.laid c.in_ok-version.ensures.shows
    (λ k laid. c.if-version-eq2.true ∙ ap version_of (one_layout Second k (state g.S.Store c.args.conn.now).now (sym c.schema-schema.ensures.value
    ∙ c.is_second-second.ensures.0 c.if-second.true) laid))
    c.open_second.ensures.opened.stays.survives c.open_second.ensures.whole

pub returns-then-unindexed-clause-whole : goal.returns-then-unindexed-clause-whole
returns-then-unindexed-clause-whole g c =
    tested_second (state g.S.Store c.args.conn.now) (state g.S.Store c.find_version.new.conn) (state g.S.Store c.open_unindexed.new.conn)
    c.in_ok-version.version c.open_unindexed.result c.in_ok-version.ensures.laid c.in_ok-version.ensures.shows
    (λ k laid. c.if-version-eq2.true ∙ ap version_of (kept_layout k (state g.S.Store c.args.conn.now).now (sym c.schema-schema.ensures.value
    ∙ c.is_unindexed-unindexed.ensures.0 c.if-unindexed.true) laid))
    c.open_unindexed.ensures.made.stays.survives c.open_unindexed.ensures.whole

-- ---- the profile

pub returns-in-Ok-clause-profile : goal.returns-in-Ok-clause-profile
returns-in-Ok-clause-profile g c = λ clean k at.
    let b = state g.S.Store c.find_version.new.conn in
    let d = state g.S.Store c.open_first.new.conn in
    let mid = earlier b d _ (c.in-Ok.ensures.made c.args.number).stays.survives clean in
    sym (plain_in 10 k (omega arith) (c.in-Ok.ensures.whole clean k (c.in_ok-version.ensures.laid.turns mid k at)).0)

pub returns-then-second-clause-profile : goal.returns-then-second-clause-profile
returns-then-second-clause-profile g c = λ clean.
    let b = state g.S.Store c.find_version.new.conn in
    let d = state g.S.Store c.open_second.new.conn in
    let mid = earlier b d _ c.open_second.ensures.opened.stays.survives clean in
    told_before c.open_second.result _ _ (c.in_ok-version.ensures.laid.turns mid) (c.open_second.ensures.profile clean)

pub returns-then-unindexed-clause-profile : goal.returns-then-unindexed-clause-profile
returns-then-unindexed-clause-profile g c = λ clean.
    let b = state g.S.Store c.find_version.new.conn in
    let d = state g.S.Store c.open_unindexed.new.conn in
    let mid = earlier b d _ c.open_unindexed.ensures.made.stays.survives clean in
    told_before c.open_unindexed.result _ _ (c.in_ok-version.ensures.laid.turns mid) (c.open_unindexed.ensures.profile clean)

-- ---- the tables beside `meta`

pub returns-then-not-first-clause-fault : goal.returns-then-not-first-clause-fault
returns-then-not-first-clause-fault g c =
    sure_sound {X = Profile} (state g.S.Store c.args.conn.now) (state g.S.Store c.find_version.new.conn) (Err Damaged)
    (refused_first (state g.S.Store c.args.conn.now) (state g.S.Store c.find_version.new.conn) c.schema-schema.result.now c.schema-schema.ensures.value
    c.in_ok-version.version c.in_ok-version.ensures.value (not_from_Decides c.is_first-first.result c.is_first-first.ensures c.if-not-first.true)
    c.if-version-eq1.true)

pub returns-else-unindexed-clause-fault : goal.returns-else-unindexed-clause-fault
returns-else-unindexed-clause-fault g c =
    sure_sound {X = Profile} (state g.S.Store c.args.conn.now) (state g.S.Store c.find_version.new.conn) (Err Damaged)
    (refused_second (state g.S.Store c.args.conn.now) (state g.S.Store c.find_version.new.conn) c.schema-schema.result.now c.schema-schema.ensures.value
    c.in_ok-version.version c.in_ok-version.ensures.value (not_from_Decides c.is_second-second.result c.is_second-second.ensures c.if-second.false)
    (not_from_Decides c.is_unindexed-unindexed.result c.is_unindexed-unindexed.ensures c.if-unindexed.false) c.if-version-eq2.true)

pub returns-in-Ok-clause-tabled : goal.returns-in-Ok-clause-tabled
returns-in-Ok-clause-tabled g c =
    tabled_first (state g.S.Store c.args.conn.now) (state g.S.Store c.find_version.new.conn) (state g.S.Store c.open_first.new.conn) c.schema-schema.result.now
    c.schema-schema.ensures.value c.in_ok-version.version c.in_ok-version.ensures.reports (c.in-Ok.ensures.made c.args.number).stays.survives c.if-version-eq1.true
    (c.is_first-first.ensures.0 c.if-not-first.false)

pub returns-then-second-clause-tabled : goal.returns-then-second-clause-tabled
returns-then-second-clause-tabled g c =
    tabled_second (state g.S.Store c.args.conn.now) (state g.S.Store c.find_version.new.conn) (state g.S.Store c.open_second.new.conn) c.schema-schema.result.now
    c.schema-schema.ensures.value c.in_ok-version.version c.in_ok-version.ensures.reports c.open_second.ensures.opened.stays.survives c.open_second.result
    c.if-version-eq2.true (inl (c.is_second-second.ensures.0 c.if-second.true))

pub returns-then-unindexed-clause-tabled : goal.returns-then-unindexed-clause-tabled
returns-then-unindexed-clause-tabled g c =
    tabled_second (state g.S.Store c.args.conn.now) (state g.S.Store c.find_version.new.conn) (state g.S.Store c.open_unindexed.new.conn)
    c.schema-schema.result.now c.schema-schema.ensures.value c.in_ok-version.version c.in_ok-version.ensures.reports
    c.open_unindexed.ensures.made.stays.survives c.open_unindexed.result c.if-version-eq2.true
    (inr (c.is_unindexed-unindexed.ensures.0 c.if-unindexed.true))

-- ---- of any database

pub returns-in_err-version-clause-alone : goal.returns-in_err-version-clause-alone
returns-in_err-version-clause-alone g c = λ other. reads_failed _ _ _ _ c.from_residual.ensures.0 c.in_err-version.ensures.reads

pub returns-then-not-first-clause-alone : goal.returns-then-not-first-clause-alone
returns-then-not-first-clause-alone g c = λ other. reads_told _ _ _ _ c.in_ok-version.ensures.reads

pub returns-in-Ok-clause-alone : goal.returns-in-Ok-clause-alone
returns-in-Ok-clause-alone g c = λ other.
    let a = state g.S.Store c.args.conn.now in
    let b = state g.S.Store c.find_version.new.conn in
    let d = state g.S.Store c.open_first.new.conn in
    reads_never a d (Ok _) (λ clean. other clean (to_migrate a b d c.schema-schema.result.now c.schema-schema.ensures.value c.in_ok-version.version
    c.in_ok-version.ensures.reports (c.in-Ok.ensures.made c.args.number).stays.survives c.if-version-eq1.true (c.is_first-first.ensures.0 c.if-not-first.false) clean))
    (survives_then a b d _ _ (λ _. Unit {0}) (λ _ _ _. tt) (λ _ _ _. tt) c.in_ok-version.ensures.reads.commits.survives (c.in-Ok.ensures.made c.args.number).stays.survives)

pub returns-in-Err-clause-alone : goal.returns-in-Err-clause-alone
returns-in-Err-clause-alone g c = λ other.
    let a = state g.S.Store c.args.conn.now in
    let b = state g.S.Store c.find_version.new.conn in
    let d = state g.S.Store c.open_first.new.conn in
    reads_never a d (Err _) (λ clean. other clean (to_migrate a b d c.schema-schema.result.now c.schema-schema.ensures.value c.in_ok-version.version
    c.in_ok-version.ensures.reports (c.in-Err.ensures.made c.args.number).stays.survives c.if-version-eq1.true (c.is_first-first.ensures.0 c.if-not-first.false) clean))
    (survives_then a b d _ _ (λ _. Unit {0}) (λ _ _ _. tt) (λ _ _ _. tt) c.in_ok-version.ensures.reads.commits.survives (c.in-Err.ensures.made c.args.number).stays.survives)

pub returns-else-unindexed-clause-alone : goal.returns-else-unindexed-clause-alone
returns-else-unindexed-clause-alone g c = λ other. reads_told _ _ _ _ c.in_ok-version.ensures.reads

pub returns-then-second-clause-alone : goal.returns-then-second-clause-alone
returns-then-second-clause-alone g c = λ other.
    let a = state g.S.Store c.args.conn.now in
    let b = state g.S.Store c.find_version.new.conn in
    let d = state g.S.Store c.open_second.new.conn in
    reads_then _ _ _ _ _ c.in_ok-version.ensures.reads
    (c.open_second.ensures.alone (λ clean more. other clean (to_count a b d c.schema-schema.result.now c.schema-schema.ensures.value c.in_ok-version.version
    c.in_ok-version.ensures.reports c.open_second.ensures.opened.stays.survives c.if-version-eq2.true (c.is_second-second.ensures.0 c.if-second.true) clean
    (subst ShowsMore (c.in_ok-version.ensures.reads.same (earlier b d _ c.open_second.ensures.opened.stays.survives clean)) more))))

pub returns-then-unindexed-clause-alone : goal.returns-then-unindexed-clause-alone
returns-then-unindexed-clause-alone g c = λ other.
    let a = state g.S.Store c.args.conn.now in
    let b = state g.S.Store c.find_version.new.conn in
    let d = state g.S.Store c.open_unindexed.new.conn in
    reads_never a d c.open_unindexed.result (λ clean. other clean (to_index a b d c.schema-schema.result.now c.schema-schema.ensures.value
    c.in_ok-version.version c.in_ok-version.ensures.reports c.open_unindexed.ensures.made.stays.survives c.if-version-eq2.true
    (c.is_unindexed-unindexed.ensures.0 c.if-unindexed.true) clean))
    (survives_then a b d _ _ (λ _. Unit {0}) (λ _ _ _. tt) (λ _ _ _. tt) c.in_ok-version.ensures.reads.commits.survives
    c.open_unindexed.ensures.made.stays.survives)

pub returns-then-not-first-clause-says : goal.returns-then-not-first-clause-says
returns-then-not-first-clause-says g c = λ clean. reported_damaged _ _ (c.in_ok-version.ensures.reports clean) (inl c.if-version-eq1.true)

pub returns-in-Err-clause-says : goal.returns-in-Err-clause-says
returns-in-Err-clause-says g c = λ clean.
    let b = state g.S.Store c.find_version.new.conn in
    let d = state g.S.Store c.open_first.new.conn in
    plain_says _ c.in-Err.fault (reported_damaged _ _ (c.in_ok-version.ensures.reports (earlier b d _ (c.in-Err.ensures.made c.args.number).stays.survives clean))
    (inl c.if-version-eq1.true)) c.in-Err.ensures.plain

pub returns-else-unindexed-clause-says : goal.returns-else-unindexed-clause-says
returns-else-unindexed-clause-says g c = λ clean. reported_damaged _ _ (c.in_ok-version.ensures.reports clean) (inr (inl c.if-version-eq2.true))

pub returns-then-second-clause-says : goal.returns-then-second-clause-says
returns-then-second-clause-says g c = λ clean.
    let b = state g.S.Store c.find_version.new.conn in
    let d = state g.S.Store c.open_second.new.conn in
    says_if _ c.open_second.result (reported_damaged _ _ (c.in_ok-version.ensures.reports (earlier b d _ c.open_second.ensures.opened.stays.survives clean))
    (inr (inl c.if-version-eq2.true))) c.open_second.ensures.plain

pub returns-then-unindexed-clause-says : goal.returns-then-unindexed-clause-says
returns-then-unindexed-clause-says g c = λ clean.
    let b = state g.S.Store c.find_version.new.conn in
    let d = state g.S.Store c.open_unindexed.new.conn in
    says_if _ c.open_unindexed.result (reported_damaged _ _ (c.in_ok-version.ensures.reports (earlier b d _ c.open_unindexed.ensures.made.stays.survives clean))
    (inr (inl c.if-version-eq2.true))) c.open_unindexed.ensures.plain

-- ---- within a transaction

pub returns-in_err-version-clause-within : goal.returns-in_err-version-clause-within
returns-in_err-version-clause-within g c = within_failed _ _ _ _ c.in_err-version.ensures.within c.from_residual.ensures.0

pub returns-then-not-first-clause-within : goal.returns-then-not-first-clause-within
returns-then-not-first-clause-within g c = within_told _ _ _ _ c.in_ok-version.ensures.within

pub returns-in-Ok-clause-within : goal.returns-in-Ok-clause-within
returns-in-Ok-clause-within g c = within_told _ _ _ _ (within_then _ _ _ _ (Ok _) c.in_ok-version.ensures.within c.in-Ok.ensures.within)

pub returns-in-Err-clause-within : goal.returns-in-Err-clause-within
returns-in-Err-clause-within g c =
    let all = within_then _ _ _ _ (Err _) c.in_ok-version.ensures.within c.in-Err.ensures.within in
    record { survives = all.survives; kept = all.kept; within = tt }

pub returns-else-unindexed-clause-within : goal.returns-else-unindexed-clause-within
returns-else-unindexed-clause-within g c = within_told _ _ _ _ c.in_ok-version.ensures.within

pub returns-then-second-clause-within : goal.returns-then-second-clause-within
returns-then-second-clause-within g c = within_then _ _ _ _ _ c.in_ok-version.ensures.within c.open_second.ensures.within

pub returns-then-unindexed-clause-within : goal.returns-then-unindexed-clause-within
returns-then-unindexed-clause-within g c = within_then _ _ _ _ _ c.in_ok-version.ensures.within c.open_unindexed.ensures.within

pub returns-in-Err-clause-fault : goal.returns-in-Err-clause-fault
returns-in-Err-clause-fault g c =
    let a = state g.S.Store c.args.conn.now in
    let b = state g.S.Store c.find_version.new.conn in
    let v = c.in_ok-version.version in
    let first : Takes {E = StoreFault} IsStored IsFirst a b (Ok v) = narrowed IsStored IsStored IsFirst a b v v c.in_ok-version.ensures.unchanged
    (λ clean k at on. found_first a b v c.if-version-eq1.true (c.in_ok-version.ensures.value clean) k at on) in
    sure_sound {X = Unit {0}} a (state g.S.Store c.open_first.new.conn) (Err c.in-Err.fault) (sure_next {Y = Unit {0}} IsStored IsFirst a b (state g.S.Store c.open_first.new.conn) v (Err c.in-Err.fault) first (c.in-Err.ensures.made c.args.number).stays.survives
    c.in-Err.ensures.fault)

pub returns-then-unindexed-clause-fault : goal.returns-then-unindexed-clause-fault
returns-then-unindexed-clause-fault g c =
    let a = state g.S.Store c.args.conn.now in
    let b = state g.S.Store c.find_version.new.conn in
    let v = c.in_ok-version.version in
    let lacking : Takes {E = StoreFault} IsStored IsUnindexed a b (Ok v) = narrowed IsStored IsStored IsUnindexed a b v v c.in_ok-version.ensures.unchanged
    (λ clean k at on. found_unindexed a b c.schema-schema.result.now c.schema-schema.ensures.value v c.if-version-eq2.true
    (c.is_unindexed-unindexed.ensures.0 c.if-unindexed.true) (c.in_ok-version.ensures.value clean) (c.in_ok-version.ensures.reads.same clean) k at on) in
    sure_next IsSound IsRoomyUnindexed a b (state g.S.Store c.open_unindexed.new.conn) v c.open_unindexed.result (sound_unindexed a b v lacking)
    c.open_unindexed.ensures.made.stays.survives c.open_unindexed.ensures.fault

pub returns-then-second-clause-fault : goal.returns-then-second-clause-fault
returns-then-second-clause-fault g c =
    let a = state g.S.Store c.args.conn.now in
    let b = state g.S.Store c.find_version.new.conn in
    let v = c.in_ok-version.version in
    let second : Takes {E = StoreFault} IsStored (IsSecondIn Second) a b (Ok v) = narrowed IsStored IsStored (IsSecondIn Second) a b v v
    c.in_ok-version.ensures.unchanged
    (λ clean k at on. in_layout_of Second b k a.now (sym c.schema-schema.ensures.value ∙ c.is_second-second.ensures.0 c.if-second.true)
    (c.in_ok-version.ensures.reads.same clean)
    (found_second a b c.schema-schema.result.now c.schema-schema.ensures.value v (omega (arith, c.if-version-eq2.true)) Second
    (c.is_second-second.ensures.0 c.if-second.true) (c.in_ok-version.ensures.value clean) (c.in_ok-version.ensures.reads.same clean) k at on)) in
    sure_next IsSound IsRoomySecond a b (state g.S.Store c.open_second.new.conn) v c.open_second.result (sound_second a b v second)
    c.open_second.ensures.opened.stays.survives c.open_second.ensures.fault

pub returns-then-third-clause-opened : goal.returns-then-third-clause-opened
returns-then-third-clause-opened g c =
    let a = state g.S.Store c.args.conn.now in
    let b = state g.S.Store c.find_version.new.conn in
    let v = c.in_ok-version.version in
    let third : Takes {E = StoreFault} IsStored (IsSecondIn Third) a b (Ok v) = narrowed IsStored IsStored (IsSecondIn Third) a b v v
    c.in_ok-version.ensures.unchanged
    (λ clean k at on. in_layout_of Third b k a.now (sym c.schema-schema.ensures.value ∙ c.is_third-third.ensures.0 c.if-third.true)
    (c.in_ok-version.ensures.reads.same clean)
    (found_second a b c.schema-schema.result.now c.schema-schema.ensures.value v (omega (arith, c.if-version-eq3.true)) Third
    (c.is_third-third.ensures.0 c.if-third.true) (c.in_ok-version.ensures.value clean) (c.in_ok-version.ensures.reads.same clean) k at on)) in
    then_as IsStored (IsSecondIn Third) (IsOpened c.args.number) a b (state g.S.Store c.open_third.new.conn) v c.open_third.result third
    (c.open_third.ensures.opened c.args.number)

pub returns-then-third-clause-whole : goal.returns-then-third-clause-whole
returns-then-third-clause-whole g c =
    tested_second (state g.S.Store c.args.conn.now) (state g.S.Store c.find_version.new.conn) (state g.S.Store c.open_third.new.conn)
    c.in_ok-version.version c.open_third.result c.in_ok-version.ensures.laid c.in_ok-version.ensures.shows
    (λ k laid. c.if-version-eq3.true ∙ ap version_of (one_layout Third k (state g.S.Store c.args.conn.now).now (sym c.schema-schema.ensures.value
    ∙ c.is_third-third.ensures.0 c.if-third.true) laid))
    (c.open_third.ensures.opened c.args.number).stays.survives c.open_third.ensures.whole

pub returns-then-third-clause-profile : goal.returns-then-third-clause-profile
returns-then-third-clause-profile g c = λ clean.
    let b = state g.S.Store c.find_version.new.conn in
    let d = state g.S.Store c.open_third.new.conn in
    let mid = earlier b d _ (c.open_third.ensures.opened c.args.number).stays.survives clean in
    told_before c.open_third.result _ _ (c.in_ok-version.ensures.laid.turns mid) (c.open_third.ensures.profile clean)

pub returns-else-third-clause-fault : goal.returns-else-third-clause-fault
returns-else-third-clause-fault g c =
    sure_sound {X = Profile} (state g.S.Store c.args.conn.now) (state g.S.Store c.find_version.new.conn) (Err Damaged)
    (refused_third (state g.S.Store c.args.conn.now) (state g.S.Store c.find_version.new.conn) c.schema-schema.result.now c.schema-schema.ensures.value
    c.in_ok-version.version c.in_ok-version.ensures.value (not_from_Decides c.is_third-third.result c.is_third-third.ensures c.if-third.false)
    c.if-version-eq3.true)

pub returns-then-third-clause-tabled : goal.returns-then-third-clause-tabled
returns-then-third-clause-tabled g c =
    tabled_third (state g.S.Store c.args.conn.now) (state g.S.Store c.find_version.new.conn) (state g.S.Store c.open_third.new.conn) c.schema-schema.result.now
    c.schema-schema.ensures.value c.in_ok-version.version c.in_ok-version.ensures.reports (c.open_third.ensures.opened c.args.number).stays.survives c.open_third.result
    c.if-version-eq3.true (c.is_third-third.ensures.0 c.if-third.true)

pub returns-else-third-clause-alone : goal.returns-else-third-clause-alone
returns-else-third-clause-alone g c = λ other. reads_told _ _ _ _ c.in_ok-version.ensures.reads

pub returns-then-third-clause-alone : goal.returns-then-third-clause-alone
returns-then-third-clause-alone g c = λ other. reads_then _ _ _ _ _ c.in_ok-version.ensures.reads c.open_third.ensures.reads

pub returns-then-third-clause-fault : goal.returns-then-third-clause-fault
returns-then-third-clause-fault g c =
    let a = state g.S.Store c.args.conn.now in
    let b = state g.S.Store c.find_version.new.conn in
    let v = c.in_ok-version.version in
    let third : Takes {E = StoreFault} IsStored IsSecond a b (Ok v) = narrowed IsStored IsStored IsSecond a b v v c.in_ok-version.ensures.unchanged
    (λ clean k at on. found_second a b c.schema-schema.result.now c.schema-schema.ensures.value v (omega (arith, c.if-version-eq3.true)) Third
    (c.is_third-third.ensures.0 c.if-third.true) (c.in_ok-version.ensures.value clean) (c.in_ok-version.ensures.reads.same clean) k at on) in
    sure_sound a (state g.S.Store c.open_third.new.conn) c.open_third.result (sure_next IsStored IsSecond a b (state g.S.Store c.open_third.new.conn) v c.open_third.result third
    (c.open_third.ensures.opened c.args.number).stays.survives c.open_third.ensures.fault)

pub returns-then-third-clause-says : goal.returns-then-third-clause-says
returns-then-third-clause-says g c = λ clean.
    let b = state g.S.Store c.find_version.new.conn in
    let d = state g.S.Store c.open_third.new.conn in
    says_if _ c.open_third.result (reported_damaged _ _ (c.in_ok-version.ensures.reports (earlier b d _ (c.open_third.ensures.opened c.args.number).stays.survives clean))
    (inr (inr c.if-version-eq3.true))) c.open_third.ensures.plain

pub returns-then-third-clause-within : goal.returns-then-third-clause-within
returns-then-third-clause-within g c = within_then _ _ _ _ _ c.in_ok-version.ensures.within c.open_third.ensures.within

pub returns-else-third-clause-says : goal.returns-else-third-clause-says
returns-else-third-clause-says g c = λ clean. reported_damaged _ _ (c.in_ok-version.ensures.reports clean) (inr (inr c.if-version-eq3.true))

pub returns-else-third-clause-within : goal.returns-else-third-clause-within
returns-else-third-clause-within g c = within_told _ _ _ _ c.in_ok-version.ensures.within

pub returns-in_err-version-clause-fault : goal.returns-in_err-version-clause-fault
returns-in_err-version-clause-fault g c =
    same_fault (state g.S.Store c.args.conn.now) (state g.S.Store c.find_version.new.conn) _ c.from_residual.result c.from_residual.ensures.1
    (sure_sound {X = Profile} (state g.S.Store c.args.conn.now) (state g.S.Store c.find_version.new.conn) (Err _) c.in_err-version.ensures.fault)

-- ---- the number

pub returns-in-Ok-clause-numbered : goal.returns-in-Ok-clause-numbered
returns-in-Ok-clause-numbered g c = λ none everyday. absurd (let clash = everyday in cc)

pub returns-then-second-clause-numbered : goal.returns-then-second-clause-numbered
returns-then-second-clause-numbered g c = plain_alone _ _ c.open_second.result c.open_second.ensures.numbered

pub returns-then-unindexed-clause-numbered : goal.returns-then-unindexed-clause-numbered
returns-then-unindexed-clause-numbered g c = plain_alone _ _ c.open_unindexed.result c.open_unindexed.ensures.numbered

pub returns-then-third-clause-numbered : goal.returns-then-third-clause-numbered
returns-then-third-clause-numbered g c =
    any_if c.open_third.result (λ p none everyday. sym c.schema-schema.ensures.value ∙ c.is_third-third.ensures.0 c.if-third.true)
