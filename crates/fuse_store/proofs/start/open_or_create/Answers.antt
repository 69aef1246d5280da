use Rattle.std.proofs.lemmas.Result.{IfOk-weaker, IfErr-weaker}
use Rattle.fuse_store.specs.Opening.{seen_of}
use Rattle.fuse_store.specs.TableKeeper.{parts_state}
use Rattle.fuse_store.proofs.Blank.{no_refusal, left_made, left_opened}
use Rattle.fuse_store.proofs.start.open_or_create.Goals as goal

-- ---- nothing was made in it

pub returns-then-is_blank-clause-stands : goal.returns-then-is_blank-clause-stands
returns-then-is_blank-clause-stands g c =
    IfOk-weaker c.create.result _ _ (λ k stands clean blank is_open. stands clean is_open) c.create.ensures.stands

pub returns-then-is_blank-clause-holds : goal.returns-then-is_blank-clause-holds
returns-then-is_blank-clause-holds g c =
    IfOk-weaker c.create.result _ _ (λ k going clean z was. absurd (c.is_blank.ensures.none c.if-is_blank.true (seen_of z (parts_state g.S.Store g.D.Disk c.args.parts)) z was)) c.create.ensures.going

pub returns-then-is_blank-clause-lots : goal.returns-then-is_blank-clause-lots
returns-then-is_blank-clause-lots g c =
    IfOk-weaker c.create.result _ _ (λ k going clean z was. absurd (c.is_blank.ensures.none c.if-is_blank.true (seen_of z (parts_state g.S.Store g.D.Disk c.args.parts)) z was)) c.create.ensures.going

pub returns-then-is_blank-clause-new_lots : goal.returns-then-is_blank-clause-new_lots
returns-then-is_blank-clause-new_lots g c =
    IfOk-weaker c.create.result _ _ (λ k lots clean blank is_open. lots clean is_open) c.create.ensures.lots

pub returns-then-is_blank-clause-crash : goal.returns-then-is_blank-clause-crash
returns-then-is_blank-clause-crash g c =
    IfErr-weaker c.create.result _ _
    (λ r left. left_made c.args.new (parts_state g.S.Store g.D.Disk c.args.parts) (parts_state g.S.Store g.D.Disk r.1) (λ z was. c.is_blank.ensures.none c.if-is_blank.true (seen_of z (parts_state g.S.Store g.D.Disk c.args.parts)) z was) left)
    c.create.ensures.crash

pub returns-then-is_blank-clause-kept : goal.returns-then-is_blank-clause-kept
returns-then-is_blank-clause-kept g c =
    IfErr-weaker c.create.result _ _ (λ r left clean is_open z was. absurd (c.is_blank.ensures.none c.if-is_blank.true (seen_of z (parts_state g.S.Store g.D.Disk c.args.parts)) z was)) c.create.ensures.crash

pub returns-then-is_blank-clause-fault : goal.returns-then-is_blank-clause-fault
returns-then-is_blank-clause-fault g c =
    IfErr-weaker c.create.result _ _ (λ r left z clean was. absurd (c.is_blank.ensures.none c.if-is_blank.true (seen_of z (parts_state g.S.Store g.D.Disk c.args.parts)) z was)) c.create.ensures.crash

pub returns-then-is_blank-clause-was : goal.returns-then-is_blank-clause-was
returns-then-is_blank-clause-was g c =
    IfOk-weaker c.create.result _ _ (λ k is_open clean. (is_open clean, (c.is_blank.ensures.blank.0 c.if-is_blank.true).0)) c.create.ensures.was

pub returns-then-is_blank-clause-fault_blank : goal.returns-then-is_blank-clause-fault_blank
returns-then-is_blank-clause-fault_blank g c = IfErr-weaker c.create.result _ _ (λ r outside blank. outside) c.create.ensures.outside

pub returns-then-is_blank-clause-absent : goal.returns-then-is_blank-clause-absent
returns-then-is_blank-clause-absent g c = λ settled stored. absurd (stored (c.is_blank.ensures.blank.0 c.if-is_blank.true))

pub returns-then-is_blank-clause-whole : goal.returns-then-is_blank-clause-whole
returns-then-is_blank-clause-whole g c =
    IfOk-weaker c.create.result _ _ (λ k going clean stored. absurd (stored (c.is_blank.ensures.blank.0 c.if-is_blank.true))) c.create.ensures.going

pub returns-then-is_blank-clause-tabled : goal.returns-then-is_blank-clause-tabled
returns-then-is_blank-clause-tabled g c =
    IfOk-weaker c.create.result _ _ (λ k going clean stored. absurd (stored (c.is_blank.ensures.blank.0 c.if-is_blank.true))) c.create.ensures.going

pub returns-then-is_blank-clause-medium : goal.returns-then-is_blank-clause-medium
returns-then-is_blank-clause-medium g c = c.create.ensures.medium

pub returns-then-is_blank-clause-refused : goal.returns-then-is_blank-clause-refused
returns-then-is_blank-clause-refused g c = IfErr-weaker c.create.result _ _ (λ r outside refused. no_refusal r.0 outside refused) c.create.ensures.outside

pub returns-then-is_blank-clause-alone : goal.returns-then-is_blank-clause-alone
returns-then-is_blank-clause-alone g c =
    IfErr-weaker c.create.result _ _ (λ r refused outside stored. absurd (stored (c.is_blank.ensures.blank.0 c.if-is_blank.true))) c.create.ensures.outside

pub returns-then-is_blank-clause-ended : goal.returns-then-is_blank-clause-ended
returns-then-is_blank-clause-ended g c = c.create.ensures.ended

pub returns-then-is_blank-clause-busy : goal.returns-then-is_blank-clause-busy
returns-then-is_blank-clause-busy g c = λ busy. let outside = (c.is_blank.ensures.blank.0 c.if-is_blank.true).0 in cc

pub returns-then-is_blank-clause-rows : goal.returns-then-is_blank-clause-rows
returns-then-is_blank-clause-rows g c = IfOk-weaker c.create.result _ _ (λ k going stored. absurd (stored (c.is_blank.ensures.blank.0 c.if-is_blank.true))) c.create.ensures.going

-- ---- something was

pub returns-else-is_blank-clause-crash : goal.returns-else-is_blank-clause-crash
returns-else-is_blank-clause-crash g c =
    IfErr-weaker c.open.result _ _
    (λ r refused. left_opened c.args.new (parts_state g.S.Store g.D.Disk c.args.parts) (parts_state g.S.Store g.D.Disk r.1)
    (λ blank. let e = c.is_blank.ensures.blank.1 blank in let n = c.if-is_blank.false in cc) refused.crash)
    c.open.ensures.refused

pub returns-else-is_blank-clause-kept : goal.returns-else-is_blank-clause-kept
returns-else-is_blank-clause-kept g c = IfErr-weaker c.open.result _ _ (λ r refused. refused.kept) c.open.ensures.refused

pub returns-else-is_blank-clause-fault : goal.returns-else-is_blank-clause-fault
returns-else-is_blank-clause-fault g c = IfErr-weaker c.open.result _ _ (λ r refused z clean was. refused.outside z clean was tt) c.open.ensures.refused

pub returns-else-is_blank-clause-says : goal.returns-else-is_blank-clause-says
returns-else-is_blank-clause-says g c = IfErr-weaker c.open.result _ _ (λ r refused clean stored. refused.says clean) c.open.ensures.refused

pub returns-else-is_blank-clause-medium : goal.returns-else-is_blank-clause-medium
returns-else-is_blank-clause-medium g c = c.open.ensures.medium

pub returns-else-is_blank-clause-fault_blank : goal.returns-else-is_blank-clause-fault_blank
returns-else-is_blank-clause-fault_blank g c =
    IfErr-weaker c.open.result _ _
    (λ r refused blank. let e = c.is_blank.ensures.blank.1 blank in let n = c.if-is_blank.false in cc) c.open.ensures.refused

pub returns-else-is_blank-clause-new_lots : goal.returns-else-is_blank-clause-new_lots
returns-else-is_blank-clause-new_lots g c =
    IfOk-weaker c.open.result _ _
    (λ k going clean blank. let e = c.is_blank.ensures.blank.1 blank in let n = c.if-is_blank.false in cc) c.open.ensures.going

pub returns-else-is_blank-clause-absent : goal.returns-else-is_blank-clause-absent
returns-else-is_blank-clause-absent g c = λ settled stored. c.open.ensures.absent settled

pub returns-else-is_blank-clause-whole : goal.returns-else-is_blank-clause-whole
returns-else-is_blank-clause-whole g c = IfOk-weaker c.open.result _ _ (λ k whole clean stored. whole clean) c.open.ensures.whole

pub returns-else-is_blank-clause-tabled : goal.returns-else-is_blank-clause-tabled
returns-else-is_blank-clause-tabled g c = IfOk-weaker c.open.result _ _ (λ k tabled clean stored. tabled clean) c.open.ensures.tabled

pub returns-else-is_blank-clause-refused : goal.returns-else-is_blank-clause-refused
returns-else-is_blank-clause-refused g c = IfErr-weaker c.open.result _ _ (λ r refused. refused.refused) c.open.ensures.refused

pub returns-else-is_blank-clause-alone : goal.returns-else-is_blank-clause-alone
returns-else-is_blank-clause-alone g c = IfErr-weaker c.open.result _ _ (λ r refused outside stored. refused.alone outside) c.open.ensures.refused

pub returns-else-is_blank-clause-ended : goal.returns-else-is_blank-clause-ended
returns-else-is_blank-clause-ended g c = IfErr-weaker c.open.result _ _ (λ r refused. refused.ended) c.open.ensures.refused

pub returns-else-is_blank-clause-busy : goal.returns-else-is_blank-clause-busy
returns-else-is_blank-clause-busy g c = c.open.ensures.busy

pub returns-else-is_blank-clause-rows : goal.returns-else-is_blank-clause-rows
returns-else-is_blank-clause-rows g c = IfOk-weaker c.open.result _ _ (λ k rows stored. rows) c.open.ensures.rows

pub returns-else-is_blank-clause-stands : goal.returns-else-is_blank-clause-stands
returns-else-is_blank-clause-stands g c =
    IfOk-weaker c.open.result _ _
    (λ k going clean blank. let e = c.is_blank.ensures.blank.1 blank in let n = c.if-is_blank.false in cc) c.open.ensures.going

-- ---- the profile

pub returns-then-is_blank-clause-profile : goal.returns-then-is_blank-clause-profile
returns-then-is_blank-clause-profile g c =
    IfOk-weaker c.create.result _ _ (λ k going clean z was. absurd (c.is_blank.ensures.none c.if-is_blank.true (seen_of z (parts_state g.S.Store g.D.Disk c.args.parts)) z was)) c.create.ensures.going

pub returns-then-is_blank-clause-new_profile : goal.returns-then-is_blank-clause-new_profile
returns-then-is_blank-clause-new_profile g c = IfOk-weaker c.create.result _ _ (λ k is blank. is) c.create.ensures.profile

pub returns-else-is_blank-clause-profile : goal.returns-else-is_blank-clause-profile
returns-else-is_blank-clause-profile g c = c.open.ensures.profile

pub returns-else-is_blank-clause-new_profile : goal.returns-else-is_blank-clause-new_profile
returns-else-is_blank-clause-new_profile g c =
    IfOk-weaker c.open.result _ _ (λ k going blank. let e = c.is_blank.ensures.blank.1 blank in let n = c.if-is_blank.false in cc) c.open.ensures.going

-- ---- whatever the database is

pub returns-then-is_blank-clause-undone : goal.returns-then-is_blank-clause-undone
returns-then-is_blank-clause-undone g c =
    IfErr-weaker c.create.result _ _ (λ r outside stored. absurd (stored (c.is_blank.ensures.blank.0 c.if-is_blank.true))) c.create.ensures.outside

pub returns-else-is_blank-clause-undone : goal.returns-else-is_blank-clause-undone
returns-else-is_blank-clause-undone g c = IfErr-weaker c.open.result _ _ (λ r refused stored. refused.undone) c.open.ensures.refused

-- ---- the data file

pub returns-then-is_blank-clause-contents : goal.returns-then-is_blank-clause-contents
returns-then-is_blank-clause-contents g c =
    IfErr-weaker c.create.result _ _ (λ r outside stored. absurd (stored (c.is_blank.ensures.blank.0 c.if-is_blank.true))) c.create.ensures.outside

pub returns-else-is_blank-clause-contents : goal.returns-else-is_blank-clause-contents
returns-else-is_blank-clause-contents g c = IfErr-weaker c.open.result _ _ (λ r refused stored. refused.contents) c.open.ensures.refused

-- ---- its data file

pub returns-then-is_blank-clause-new_number : goal.returns-then-is_blank-clause-new_number
returns-then-is_blank-clause-new_number g c = IfOk-weaker c.create.result _ _ (λ k has blank. has) c.create.ensures.number

pub returns-else-is_blank-clause-new_number : goal.returns-else-is_blank-clause-new_number
returns-else-is_blank-clause-new_number g c =
    IfOk-weaker c.open.result _ _ (λ k going blank. let e = c.is_blank.ensures.blank.1 blank in let n = c.if-is_blank.false in cc) c.open.ensures.going

pub returns-then-is_blank-clause-untouched : goal.returns-then-is_blank-clause-untouched
returns-then-is_blank-clause-untouched g c = IfErr-weaker c.create.result _ _ (λ r outside refused. no_refusal r.0 outside refused) c.create.ensures.outside

pub returns-else-is_blank-clause-untouched : goal.returns-else-is_blank-clause-untouched
returns-else-is_blank-clause-untouched g c = IfErr-weaker c.open.result _ _ (λ r refused. refused.untouched) c.open.ensures.refused
