use Rattle.std.proofs.lemmas.Result.{IfOk-weaker, IfErr-weaker}
use Rattle.fuse_store.specs.Opening.{seen_of}
use Rattle.fuse_store.specs.TableKeeper.{parts_state}
use Rattle.fuse_store.proofs.Blank.{no_refusal, fresh_made, fresh_begun}
use Rattle.fuse_store.proofs.start.open_fresh.Goals as goal

-- ---- nothing was made in it

pub returns-then-blank-clause-stands : goal.returns-then-blank-clause-stands
returns-then-blank-clause-stands g c =
    IfOk-weaker c.create.result _ _ (λ k stands clean blank is_open. stands clean is_open) c.create.ensures.stands

pub returns-then-blank-clause-holds : goal.returns-then-blank-clause-holds
returns-then-blank-clause-holds g c =
    IfOk-weaker c.create.result _ _ (λ k going clean z was. absurd (c.is_blank-blank.ensures.none c.if-blank.true (seen_of z (parts_state g.S.Store g.D.Disk c.args.parts)) z was)) c.create.ensures.going

pub returns-then-blank-clause-begins : goal.returns-then-blank-clause-begins
returns-then-blank-clause-begins g c =
    IfOk-weaker c.create.result _ _ (λ k going clean z was. absurd (c.is_blank-blank.ensures.none c.if-blank.true (seen_of z (parts_state g.S.Store g.D.Disk c.args.parts)) z was)) c.create.ensures.going

pub returns-then-blank-clause-lots : goal.returns-then-blank-clause-lots
returns-then-blank-clause-lots g c =
    IfOk-weaker c.create.result _ _ (λ k going clean z was. absurd (c.is_blank-blank.ensures.none c.if-blank.true (seen_of z (parts_state g.S.Store g.D.Disk c.args.parts)) z was)) c.create.ensures.going

pub returns-then-blank-clause-new_lots : goal.returns-then-blank-clause-new_lots
returns-then-blank-clause-new_lots g c =
    IfOk-weaker c.create.result _ _ (λ k lots clean blank is_open. lots clean is_open) c.create.ensures.lots

pub returns-then-blank-clause-crash : goal.returns-then-blank-clause-crash
returns-then-blank-clause-crash g c =
    IfErr-weaker c.create.result _ _
    (λ r left. fresh_made c.args.new (parts_state g.S.Store g.D.Disk c.args.parts) (parts_state g.S.Store g.D.Disk r.1) (λ z was. c.is_blank-blank.ensures.none c.if-blank.true (seen_of z (parts_state g.S.Store g.D.Disk c.args.parts)) z was) left)
    c.create.ensures.crash

pub returns-then-blank-clause-kept : goal.returns-then-blank-clause-kept
returns-then-blank-clause-kept g c =
    IfErr-weaker c.create.result _ _ (λ r left clean is_open z was. absurd (c.is_blank-blank.ensures.none c.if-blank.true (seen_of z (parts_state g.S.Store g.D.Disk c.args.parts)) z was)) c.create.ensures.crash

pub returns-then-blank-clause-fault : goal.returns-then-blank-clause-fault
returns-then-blank-clause-fault g c =
    IfErr-weaker c.create.result _ _ (λ r left z clean was. absurd (c.is_blank-blank.ensures.none c.if-blank.true (seen_of z (parts_state g.S.Store g.D.Disk c.args.parts)) z was)) c.create.ensures.crash

pub returns-then-blank-clause-was : goal.returns-then-blank-clause-was
returns-then-blank-clause-was g c =
    IfOk-weaker c.create.result _ _ (λ k is_open clean. (is_open clean, (c.is_blank-blank.ensures.blank.0 c.if-blank.true).0)) c.create.ensures.was

pub returns-then-blank-clause-fault_blank : goal.returns-then-blank-clause-fault_blank
returns-then-blank-clause-fault_blank g c = IfErr-weaker c.create.result _ _ (λ r outside blank. outside) c.create.ensures.outside

pub returns-then-blank-clause-absent : goal.returns-then-blank-clause-absent
returns-then-blank-clause-absent g c = λ settled stored. absurd (stored (c.is_blank-blank.ensures.blank.0 c.if-blank.true))

pub returns-then-blank-clause-whole : goal.returns-then-blank-clause-whole
returns-then-blank-clause-whole g c =
    IfOk-weaker c.create.result _ _ (λ k going clean stored. absurd (stored (c.is_blank-blank.ensures.blank.0 c.if-blank.true))) c.create.ensures.going

pub returns-then-blank-clause-tabled : goal.returns-then-blank-clause-tabled
returns-then-blank-clause-tabled g c =
    IfOk-weaker c.create.result _ _ (λ k going clean stored. absurd (stored (c.is_blank-blank.ensures.blank.0 c.if-blank.true))) c.create.ensures.going

pub returns-then-blank-clause-medium : goal.returns-then-blank-clause-medium
returns-then-blank-clause-medium g c = c.create.ensures.medium

pub returns-then-blank-clause-refused : goal.returns-then-blank-clause-refused
returns-then-blank-clause-refused g c = IfErr-weaker c.create.result _ _ (λ r outside refused. no_refusal r.0 outside refused) c.create.ensures.outside

pub returns-then-blank-clause-alone : goal.returns-then-blank-clause-alone
returns-then-blank-clause-alone g c =
    IfErr-weaker c.create.result _ _ (λ r refused outside stored. absurd (stored (c.is_blank-blank.ensures.blank.0 c.if-blank.true))) c.create.ensures.outside

pub returns-then-blank-clause-ended : goal.returns-then-blank-clause-ended
returns-then-blank-clause-ended g c = c.create.ensures.ended

pub returns-then-blank-clause-busy : goal.returns-then-blank-clause-busy
returns-then-blank-clause-busy g c = λ busy. let outside = (c.is_blank-blank.ensures.blank.0 c.if-blank.true).0 in cc

pub returns-then-blank-clause-rows : goal.returns-then-blank-clause-rows
returns-then-blank-clause-rows g c = IfOk-weaker c.create.result _ _ (λ k going stored. absurd (stored (c.is_blank-blank.ensures.blank.0 c.if-blank.true))) c.create.ensures.going

-- ---- something was

pub returns-clause-medium : goal.returns-clause-medium
returns-clause-medium g c = c.open_begun.ensures.medium

pub returns-clause-crash : goal.returns-clause-crash
returns-clause-crash g c =
    IfErr-weaker c.open_begun.result _ _
    (λ r refused. fresh_begun c.args.new (parts_state g.S.Store g.D.Disk c.args.parts) (parts_state g.S.Store g.D.Disk r.1)
    (λ blank. let e = c.is_blank-blank.ensures.blank.1 blank in let n = c.if-blank.false in cc) refused.crash)
    c.open_begun.ensures.refused

pub returns-clause-kept : goal.returns-clause-kept
returns-clause-kept g c = IfErr-weaker c.open_begun.result _ _ (λ r refused. refused.kept) c.open_begun.ensures.refused

pub returns-clause-fault : goal.returns-clause-fault
returns-clause-fault g c = IfErr-weaker c.open_begun.result _ _ (λ r refused z clean was. refused.outside z clean was tt) c.open_begun.ensures.refused

pub returns-clause-says : goal.returns-clause-says
returns-clause-says g c = IfErr-weaker c.open_begun.result _ _ (λ r refused clean stored. refused.says clean) c.open_begun.ensures.refused

pub returns-clause-fault_blank : goal.returns-clause-fault_blank
returns-clause-fault_blank g c =
    IfErr-weaker c.open_begun.result _ _
    (λ r refused blank. let e = c.is_blank-blank.ensures.blank.1 blank in let n = c.if-blank.false in cc) c.open_begun.ensures.refused

pub returns-clause-new_lots : goal.returns-clause-new_lots
returns-clause-new_lots g c =
    IfOk-weaker c.open_begun.result _ _
    (λ k going clean blank. let e = c.is_blank-blank.ensures.blank.1 blank in let n = c.if-blank.false in cc) c.open_begun.ensures.going

pub returns-clause-stands : goal.returns-clause-stands
returns-clause-stands g c =
    IfOk-weaker c.open_begun.result _ _
    (λ k going clean blank. let e = c.is_blank-blank.ensures.blank.1 blank in let n = c.if-blank.false in cc) c.open_begun.ensures.going

pub returns-clause-absent : goal.returns-clause-absent
returns-clause-absent g c = λ settled stored. c.open_begun.ensures.absent settled

pub returns-clause-whole : goal.returns-clause-whole
returns-clause-whole g c = IfOk-weaker c.open_begun.result _ _ (λ k whole clean stored. whole clean) c.open_begun.ensures.whole

pub returns-clause-tabled : goal.returns-clause-tabled
returns-clause-tabled g c = IfOk-weaker c.open_begun.result _ _ (λ k tabled clean stored. tabled clean) c.open_begun.ensures.tabled

pub returns-clause-refused : goal.returns-clause-refused
returns-clause-refused g c = IfErr-weaker c.open_begun.result _ _ (λ r refused. refused.refused) c.open_begun.ensures.refused

pub returns-clause-alone : goal.returns-clause-alone
returns-clause-alone g c = IfErr-weaker c.open_begun.result _ _ (λ r refused outside stored. refused.alone outside) c.open_begun.ensures.refused

pub returns-clause-ended : goal.returns-clause-ended
returns-clause-ended g c = IfErr-weaker c.open_begun.result _ _ (λ r refused. refused.ended) c.open_begun.ensures.refused

pub returns-clause-busy : goal.returns-clause-busy
returns-clause-busy g c = c.open_begun.ensures.busy

pub returns-clause-rows : goal.returns-clause-rows
returns-clause-rows g c = IfOk-weaker c.open_begun.result _ _ (λ k rows stored. rows) c.open_begun.ensures.rows

-- ---- the profile

pub returns-then-blank-clause-profile : goal.returns-then-blank-clause-profile
returns-then-blank-clause-profile g c =
    IfOk-weaker c.create.result _ _ (λ k going clean z was. absurd (c.is_blank-blank.ensures.none c.if-blank.true (seen_of z (parts_state g.S.Store g.D.Disk c.args.parts)) z was)) c.create.ensures.going

pub returns-then-blank-clause-new_profile : goal.returns-then-blank-clause-new_profile
returns-then-blank-clause-new_profile g c = IfOk-weaker c.create.result _ _ (λ k is blank. is) c.create.ensures.profile

pub returns-clause-profile : goal.returns-clause-profile
returns-clause-profile g c = c.open_begun.ensures.profile

pub returns-clause-new_profile : goal.returns-clause-new_profile
returns-clause-new_profile g c =
    IfOk-weaker c.open_begun.result _ _ (λ k going blank. let e = c.is_blank-blank.ensures.blank.1 blank in let n = c.if-blank.false in cc) c.open_begun.ensures.going

-- ---- whatever the database is

pub returns-then-blank-clause-undone : goal.returns-then-blank-clause-undone
returns-then-blank-clause-undone g c =
    IfErr-weaker c.create.result _ _ (λ r outside stored. absurd (stored (c.is_blank-blank.ensures.blank.0 c.if-blank.true))) c.create.ensures.outside

pub returns-clause-undone : goal.returns-clause-undone
returns-clause-undone g c = IfErr-weaker c.open_begun.result _ _ (λ r refused stored. refused.undone) c.open_begun.ensures.refused

-- ---- the data file

pub returns-then-blank-clause-contents : goal.returns-then-blank-clause-contents
returns-then-blank-clause-contents g c =
    IfErr-weaker c.create.result _ _ (λ r outside stored. absurd (stored (c.is_blank-blank.ensures.blank.0 c.if-blank.true))) c.create.ensures.outside

pub returns-clause-contents : goal.returns-clause-contents
returns-clause-contents g c = IfErr-weaker c.open_begun.result _ _ (λ r refused stored. refused.contents) c.open_begun.ensures.refused

-- ---- its data file

pub returns-then-blank-clause-new_number : goal.returns-then-blank-clause-new_number
returns-then-blank-clause-new_number g c = IfOk-weaker c.create.result _ _ (λ k has blank. has) c.create.ensures.number

pub returns-clause-new_number : goal.returns-clause-new_number
returns-clause-new_number g c =
    IfOk-weaker c.open_begun.result _ _ (λ k going blank. let e = c.is_blank-blank.ensures.blank.1 blank in let n = c.if-blank.false in cc) c.open_begun.ensures.going

pub returns-then-blank-clause-untouched : goal.returns-then-blank-clause-untouched
returns-then-blank-clause-untouched g c = IfErr-weaker c.create.result _ _ (λ r outside refused. no_refusal r.0 outside refused) c.create.ensures.outside

pub returns-clause-untouched : goal.returns-clause-untouched
returns-clause-untouched g c = IfErr-weaker c.open_begun.result _ _ (λ r refused. refused.untouched) c.open_begun.ensures.refused
